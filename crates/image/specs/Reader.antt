-- What a reader says of any bytes: refusals 10 to 13, or the automaton.
use Rattle.std.specs.Prelude.{ℕ, zero, suc, ◌+◌, ◌*◌, List, [], ◌∷◌, Bool, cond, ◌&&◌, get_or, length, drop, eqb, leb}
use Rattle.std.specs.Prelude.{ltb}
use Rattle.std.specs.Int.Bits.{bit_and}
use Rattle.answer.specs.Bytes.{number_at}
use Rattle.answer.specs.Result.{Result, accepted, and_then, Check, require, lowest}
use Rattle.lasso.specs.Lasso.{skipped}
use Rattle.automaton.specs.Automaton.{Transition, State, Automaton, no_state, at_rest}
use Rattle.automaton.specs.Limits.{max_states, max_of_state, max_transitions, max_initial}
use Rattle.automaton.specs.Tables.{Counts}
use Rattle.image.specs.Image.{entry_bytes, contents_bytes, state_count_at, transition_count_at, initial_count_at}
use Rattle.image.specs.Image.{transitions_at, initial_at, image_length, states_body, transitions_body, initial_body}

-- the counts that an image's contents give
abbrev pub counts_at : List ℕ → Counts
counts_at image = record {
  states = number_at image state_count_at;
  transitions = number_at image transition_count_at;
  initial = number_at image initial_count_at;
}

-- whether 10 lets counts pass: those of the states, the transitions and the initial numbers are within their limits
-- (01, Numbers that come from the input, 10)
unfoldable pub counts_fit : Counts → Bool
counts_fit c = leb c.states max_states && (leb c.transitions max_transitions && leb c.initial max_initial)

-- whether the numbers at byte `at` of the three entries are these
abbrev pub entries_have : List ℕ → (at first second third : ℕ) → Bool
entries_have image at first second third =
    eqb (number_at image at) first
    && (eqb (number_at image (entry_bytes + at)) second && eqb (number_at image (2 * entry_bytes + at)) third)

-- whether 10 lets the kinds of the three entries pass
abbrev pub kinds_fit : List ℕ → Bool
kinds_fit image = entries_have image 0 1 2 3

-- and their offsets, where the second and the third body are to begin there
abbrev pub offsets_fit : List ℕ → (transitions initial : ℕ) → Bool
offsets_fit image transitions initial = entries_have image 4 contents_bytes transitions initial

-- and where the bodies begin and end
abbrev pub bodies_fit : List ℕ → Bool
bodies_fit image =
    offsets_fit image (transitions_at (counts_at image)) (initial_at (counts_at image))
    && eqb (length image) (image_length (counts_at image))

-- 10, at place 0: an image too short for its table of contents, one whose contents have other kinds than 1, 2, 3,
-- counts that do not fit or offsets that are not where the bodies begin, or one that does not end with its last body
-- (01, Numbers that come from the input, 10)
unfoldable pub contents_check : List ℕ → Check
contents_check image =
    require (leb contents_bytes (length image) && (kinds_fit image &&
    (counts_fit (counts_at image) && bodies_fit image))) 10 0

-- whether the pass below lets state record i pass: it counts no more transitions than a state may have, and its
-- accepting byte is 0 or 1 (01, Numbers that come from the input, 11)
abbrev pub state_fits : List ℕ → ℕ → Bool
state_fits states i = leb (number_at states (4 * i)) max_of_state && leb (get_or states (4 * i + 2) 0) 1

-- 11, at place i: state record i does not fit
unfoldable pub state_check : List ℕ → ℕ → Check
state_check states i = require (state_fits states i) 11 i

-- one state record more in the pass below: it is refused, or its transition count is added to the sum so far
abbrev pub add_state : List ℕ → (i sum : ℕ) → Result ℕ
add_state states i sum = and_then (state_check states i) (λ _. accepted (sum + number_at states (4 * i)))

-- R-4, one pass over the first n state records: the refusal of the lowest one that is faulty or, where none is, all
-- their transition counts added up
unfoldable pub state_pass : List ℕ → ℕ → Result ℕ
state_pass states zero = accepted 0
state_pass states (suc n) = and_then (state_pass states n) (add_state states n)

-- 11, at the place behind the last state: the pass gives another sum than the count of all transitions (01, Numbers
-- that come from the input, 11)
abbrev pub sum_check : Counts → (sum : ℕ) → Check
sum_check c sum = require (eqb sum c.transitions) 11 c.states

-- 11 of the state records but for their last bytes: the pass, then its sum
unfoldable pub states_check : Counts → List ℕ → Check
states_check c states = and_then (state_pass states c.states) (sum_check c)

-- the first n transition records
unfoldable pub transitions_from : ℕ → List ℕ → List Transition
transitions_from zero bytes = []
transitions_from (suc n) bytes =
    record { must = get_or bytes 0 0; must_not = get_or bytes 1 0; target = number_at bytes 2 }
    ∷ transitions_from n (drop 4 bytes)

-- how many transition records stand before those of state n: the counts of the first n state records, added up
unfoldable pub count_sum : List ℕ → ℕ → ℕ
count_sum states zero = 0
count_sum states (suc n) = count_sum states n + number_at states (4 * n)

-- the first n state records, each with its transitions, which lie behind those of the states before it (01, The
-- image, sentence 6)
unfoldable pub states_from : ℕ → (states transitions : List ℕ) → List State
states_from zero states transitions = []
states_from (suc n) states transitions =
    record { accepting = eqb (get_or states 2 0) 1; transitions = transitions_from (number_at states 0) transitions }
    ∷ states_from n (drop 4 states) (drop (4 * number_at states 0) transitions)

-- whether the last byte of state record i is 1 if the state is at rest and 0 if it is not; `read` has the states as the
-- records tell them
abbrev pub rest_fits : (read : List State) (states : List ℕ) → ℕ → Bool
rest_fits read states i = eqb (get_or states (4 * i + 3) 0) (cond (at_rest i (get_or read i no_state)) 1 0)

-- 11, at place i: the last byte of state record i is wrong
unfoldable pub rest_check : (read : List State) (states : List ℕ) → ℕ → Check
rest_check read states i = require (rest_fits read states i) 11 i

-- 11 of the last bytes, once the sum is right and before 12: by the transition records as they stand (02, R-5)
unfoldable pub rests_check : Counts → (states transitions : List ℕ) → Check
rests_check c states transitions = lowest (rest_check (states_from c.states states transitions) states) c.states

-- whether 12 lets a label pass: no proposition is asked for that is forbidden (01, Numbers that come from the input,
-- 12), and bit 7 is clear in both bytes, since no letter of a word has it (02, R-9)
unfoldable pub label_fits : (must must_not : ℕ) → Bool
label_fits must must_not = eqb (bit_and must must_not) 0 && (ltb must skipped && ltb must_not skipped)

-- whether 12 lets transition record i pass: it leads to a state, and its label fits
abbrev pub transition_fits : (stateCount : ℕ) → List ℕ → ℕ → Bool
transition_fits stateCount transitions i =
    ltb (number_at transitions (4 * i + 2)) stateCount
    && label_fits (get_or transitions (4 * i) 0) (get_or transitions (4 * i + 1) 0)

-- 12, at place i: transition record i does not fit
unfoldable pub transition_record_check : (stateCount : ℕ) → List ℕ → ℕ → Check
transition_record_check stateCount transitions i = require (transition_fits stateCount transitions i) 12 i

-- 13, at place i: initial number i is no state's, or the one before it is as high or higher (01, Numbers that come
-- from the input, 13)
unfoldable pub initial_check : (stateCount : ℕ) → List ℕ → ℕ → Check
initial_check stateCount initial zero = require (ltb (number_at initial 0) stateCount) 13 0
initial_check stateCount initial (suc i) =
    require
    (ltb (number_at initial (2 * suc i)) stateCount && ltb (number_at initial (2 * i)) (number_at initial (2 * suc i)))
    13 (suc i)

-- 11 to 13 of three tables: one number after another, each at the lowest record that it refuses
unfoldable pub records_check : Counts → (states transitions initial : List ℕ) → Check
records_check c states transitions initial =
    and_then (states_check c states)
    (λ _. and_then (rests_check c states transitions)
    (λ _. and_then (lowest (transition_record_check c.states transitions) c.transitions)
    (λ _. lowest (initial_check c.states initial) c.initial)))

unfoldable pub numbers_from : ℕ → List ℕ → List ℕ
numbers_from zero bytes = []
numbers_from (suc n) bytes = number_at bytes 0 ∷ numbers_from n (drop 2 bytes)

unfoldable pub automaton_from : Counts → (states transitions initial : List ℕ) → Automaton
automaton_from c states transitions initial =
    record { states = states_from c.states states transitions; initial = numbers_from c.initial initial }

-- the automaton of three tables, or its refusal by 11 to 13
unfoldable pub read_tables : Counts → (states transitions initial : List ℕ) → Result Automaton
read_tables c states transitions initial =
    and_then (records_check c states transitions initial) (λ _. accepted (automaton_from c states transitions initial))

-- the same of the three bodies of an image with these counts
abbrev pub bodies_check : Counts → List ℕ → Check
bodies_check c image = records_check c (states_body image) (transitions_body c image) (initial_body c image)

abbrev pub read_bodies : Counts → List ℕ → Result Automaton
read_bodies c image = read_tables c (states_body image) (transitions_body c image) (initial_body c image)

-- the automaton of an image, or its refusal by 10 to 13
unfoldable pub read_image : List ℕ → Result Automaton
read_image image = and_then (contents_check image) (λ _. read_bodies (counts_at image) image)
