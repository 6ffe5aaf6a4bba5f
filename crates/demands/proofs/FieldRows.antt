-- R-10's definitions computed: the field unit on the image of "if open then padded", slot by slot, one of them skipped,
-- from a set with all bits to the alarm; on that of false; and 29. Assumes nothing.
use Prim.Native.Nat.{ℕ}
use mathlib.Core.Path.{◌≡◌, refl}
use mathlib.Core.List.{List, [], ◌∷◌, map}
use mathlib.Core.Bool.{true, false}
use lib.ListN.{replicate}
use Rattle.sets.specs.Sets.{any, any_below}
use Rattle.answer.specs.Result.{accepted, refused, fine, lowest}
use Rattle.lasso.specs.Lasso.{letter}
use Rattle.formula.specs.Rule.{left_operand, one_child, right_operand, length_check, node_check, places, place_check}
use Rattle.formula.specs.Rule.{syntax_check, untils, until_check}
use Rattle.formula.specs.Formula.{trees}
use Rattle.normalform.specs.Written.{written_check, written_tree}
use Rattle.normalform.specs.NormalForm.{code, below, member, rank, emit, size, normal_bytes, normal_form}
use Rattle.normalform.specs.NormalForm
use Rattle.automaton.specs.Automaton.{at_rest}
use Rattle.image.specs.Reader.{counts_fit, contents_check, state_check, state_pass, states_check, transitions_from}
use Rattle.image.specs.Reader.{states_from}
use Rattle.image.specs.Reader.{rest_check, rests_check, label_fits, transition_record_check, initial_check}
use Rattle.image.specs.Reader.{records_check}
use Rattle.image.specs.Reader.{numbers_from, automaton_from, read_tables, read_image}
use Rattle.field.specs.Sets.{set_bytes, bits_from, bytes_up_to, begun, moves_to, moved, is_empty}
use Rattle.field.specs.Calls.{Watch, watch, watchable, started, stepped, after_steps}
use Rattle.profile.specs.Profile.{no_untils, profile_checked}

-- one state, which reads what is not open and what is padded
abbrev if_open_padded : List ℕ
if_open_padded = 1 ∷ 0 ∷ 1 ∷ 0 ∷ 18 ∷ 0 ∷ 2 ∷ 0 ∷ 2 ∷ 0 ∷ 22 ∷ 0 ∷ 3 ∷ 0 ∷ 1 ∷ 0 ∷ 30 ∷ 0
    ∷ 2 ∷ 0 ∷ 1 ∷ 0 ∷ 0 ∷ 1 ∷ 0 ∷ 0 ∷ 2 ∷ 0 ∷ 0 ∷ 0 ∷ 0 ∷ 0 ∷ []

-- no state
abbrev never : List ℕ
never = 1 ∷ 0 ∷ 0 ∷ 0 ∷ 18 ∷ 0 ∷ 2 ∷ 0 ∷ 0 ∷ 0 ∷ 18 ∷ 0 ∷ 3 ∷ 0 ∷ 0 ∷ 0 ∷ 18 ∷ 0 ∷ []

abbrev any_set : List ℕ
any_set = replicate set_bytes 255

-- one state in the set, and none
abbrev quiet : Watch
quiet = watch (accepted false) (1 ∷ replicate 11 0)

abbrev raised : Watch
raised = watch (accepted true) (replicate set_bytes 0)

-- closed, open and padded, skipped though open, then open without padding, and padded ever after
abbrev word : ℕ → ℕ
word = letter (0 ∷ 3 ∷ 129 ∷ 1 ∷ []) (2 ∷ [])

-- what start and five steps answer, and the set that each leaves
pub slot_by_slot : map (λ n. after_steps if_open_padded any_set word n) (0 ∷ 1 ∷ 2 ∷ 3 ∷ 4 ∷ 5 ∷ [])
    ≡ quiet ∷ quiet ∷ quiet ∷ quiet ∷ raised ∷ raised ∷ []
unfolding letter any any_below lowest at_rest counts_fit contents_check state_check
    state_pass states_check transitions_from states_from rest_check rests_check label_fits transition_record_check
    initial_check
    records_check numbers_from automaton_from read_tables read_image bits_from bytes_up_to begun moved moves_to is_empty
    watchable
    started stepped after_steps
slot_by_slot = refl

-- with no state start raises the alarm
pub at_once : started never any_set ≡ raised
unfolding any any_below lowest counts_fit contents_check state_check state_pass states_check
    transitions_from states_from rests_check records_check numbers_from automaton_from read_tables read_image bits_from
    bytes_up_to
    begun is_empty watchable started
at_once = refl

-- eventually 0, not always 0, and 0 until (1 until 2): 29 at the until, of two at the lower; always 0 is taken
pub untils_refused : map profile_checked
    ((2 ∷ 0 ∷ 0 ∷ 12 ∷ 0 ∷ 0 ∷ []) ∷ (2 ∷ 0 ∷ 0 ∷ 11 ∷ 0 ∷ 0 ∷ 9 ∷ 1 ∷ 0 ∷ [])
    ∷ (2 ∷ 0 ∷ 0 ∷ 2 ∷ 1 ∷ 0 ∷ 2 ∷ 2 ∷ 0 ∷ 7 ∷ 1 ∷ 2 ∷ 7 ∷ 0 ∷ 3 ∷ []) ∷ (2 ∷ 0 ∷ 0 ∷ 11 ∷ 0 ∷ 0 ∷ []) ∷ [])
    ≡ refused 29 2 ∷ refused 29 2 ∷ refused 29 3 ∷ fine ∷ []
unfolding lowest left_operand one_child right_operand length_check node_check places place_check syntax_check untils
    until_check
    trees written_check written_tree code below NormalForm.entry member rank emit size normal_bytes normal_form
    no_untils
    profile_checked
untils_refused = refl
