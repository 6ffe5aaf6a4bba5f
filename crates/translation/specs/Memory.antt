-- How the second walk lies in memory: the first walk's transitions by state, a pair as one number, and what the walk
-- and the records come to over these.
use Rattle.std.specs.Prelude.{ℕ, zero, suc, ◌+◌, ◌-◌, ◌*◌, ◌/◌, ◌%◌, ◌<◌, ◌≤◌, ◌≡◌, List, ◌++◌, map, Bool, true, false}
use Rattle.std.specs.Prelude.{cond, ◌&&◌, length, get_or, take, drop, eqb, ltb}
use Rattle.answer.specs.Result.{Result, accepted, refused, fine, reason_number}
use Rattle.sets.specs.Sets.{In, any}
use Rattle.sets.specs.Bits.{has}
use Rattle.formula.specs.Limits.{max_untils}
use Rattle.formula.specs.Formula.{formula}
use Rattle.term.specs.Term.{cover}
use Rattle.generalized.specs.Limits.{max_generalized_transitions, max_generalized_states}
use Rattle.generalized.specs.Explore.{find, meet, Numbering, meet_all, Walk, walked}
use Rattle.generalized.specs.Generalized.{generalized}
use Rattle.generalized.specs.Memory.{kept, kept_target, kept_untils, kept_must, kept_must_not, all_transitions}
use Rattle.translation.specs.declared.StateNumber.{StateNumber}
use Rattle.std.specs.Prelude.{Option, Some, None}
use Rattle.std.specs.Prelude.{Result as Returned, Ok, Err}
use Rattle.answer.specs.declared.Refusal.{Refusal}
use Rattle.translation.specs.declared.Translated.{Translated}
use Rattle.automaton.specs.Automaton.{Automaton}
use Rattle.automaton.specs.Limits.{max_states, max_of_state}
use Rattle.automaton.specs.Records.{records, state_bytes, transition_bytes}
use Rattle.automaton.specs.Tables.{Counts, outcome, tabled}
use Rattle.translation.specs.Degeneralized.{Pair, pair, translation}
use Rattle.translation.specs.Translate.{stored}
use Rattle.translation.specs.Conflicts.{rule_conflicts, told_counts, told_conflicts}

-- ---- the first walk's transitions

-- what the first walk hands to the second: how many initial states there are, the transitions of all states one after
-- another, and where each state's end
pub record FirstWalk (rule : List ℕ) (initial : ℕ) (transitions ends : List ℕ) : Type 0 where
  pub states : List ℕ
  pub found : generalized rule ≡ accepted states
  pub begun : initial ≡ length (cover (formula rule))
  pub room : length transitions ≡ max_generalized_transitions
  pub ends_room : length ends ≡ max_generalized_states
  pub most : length (all_transitions rule states) ≤ max_generalized_transitions
  pub listed :
      take (length (all_transitions rule states)) transitions ≡ map (kept rule states) (all_transitions rule states)
  pub ending : (s : ℕ) → s < length states → get_or ends s 0 ≡ length (all_transitions rule (take (suc s) states))

-- where the transitions of a state begin: where those of the state before it end
abbrev pub row_start : (ends : List ℕ) → ℕ → ℕ
row_start ends zero = 0
row_start ends (suc s) = get_or ends s 0

-- how many a state has, and these
abbrev pub row_count : (ends : List ℕ) → ℕ → ℕ
row_count ends s = get_or ends s 0 - row_start ends s

abbrev pub row : (ends transitions : List ℕ) → ℕ → List ℕ
row ends transitions s = take (row_count ends s) (drop (row_start ends s) transitions)

-- ---- pairs

-- how many places a state has for its levels, of which there are at most 9: a power of 2
abbrev pub level_places : ℕ
level_places = 16

-- a pair as one number, its code
abbrev pub code_of : (state level : ℕ) → ℕ
code_of state level = state * level_places + level

abbrev pub pair_of : ℕ → Pair
pair_of code = pair (code / level_places) (code % level_places)

-- a place for each code
abbrev pub code_places : ℕ
code_places = max_generalized_states * level_places

-- from level j on, of which left are above: one more for each until in the set, up to the first that is not
unfoldable pub climb_n : (untils left j : ℕ) → ℕ
climb_n untils zero j = j
climb_n untils (suc left) j = elim (has untils j) [ true ↦ climb_n untils left (suc j) | false ↦ j ]

unfoldable pub next_level_n : (untils r j : ℕ) → ℕ
next_level_n untils r j = cond (ltb j r) (climb_n untils (r - j) j) (climb_n untils r 0)

-- the code of the pair that the transition x leads to from a level
abbrev pub target_n : (r level x : ℕ) → ℕ
target_n r level x = code_of (kept_target x) (next_level_n (kept_untils x) r level)

-- codes are numbered as their pairs are
abbrev pub code_numbering : Numbering ℕ
code_numbering = record { same = eqb; limit = max_states; full = 24; each = λ _ _. fine }

-- the transition x is free and leads from the pair that has a code back to it
abbrev pub stays_n : (r code x : ℕ) → Bool
stays_n r code x =
    eqb (kept_must x) 0 && (eqb (kept_must_not x) 0 && eqb (target_n r (code % level_places) x) code)

-- the pair that has a code is at rest, where these are its transitions
abbrev pub rests_n : (r code : ℕ) (row : List ℕ) → Bool
rests_n r code row = eqb (code % level_places) r && any (stays_n r code) row

-- the record of the pair that has a number, and of its transition x from a level when the pairs codes are numbered
abbrev pub pair_bytes : (ends transitions : List ℕ) (r number code : ℕ) → List ℕ
pair_bytes ends transitions r number code =
    state_bytes (row_count ends (code / level_places)) (eqb (code % level_places) r)
    (rests_n r code (row ends transitions (code / level_places)))

abbrev pub transition_n : (codes : List ℕ) (r level x : ℕ) → List ℕ
transition_n codes r level x = transition_bytes (kept_must x) (kept_must_not x) (find eqb (target_n r level x) codes)

-- the first walk's tables, and how many untils there are
module _ (ends transitions : List ℕ) (r : ℕ) where
  abbrev pub targets_n : (code : ℕ) → List ℕ
  targets_n code = map (target_n r (code % level_places)) (row ends transitions (code / level_places))

  abbrev pub code_walk : Walk ℕ
  code_walk = record { numbering = code_numbering; none = 0; targets = targets_n; before = λ _ _. fine }

  -- the records of a pair's transitions
  abbrev pub row_n : (codes : List ℕ) (code : ℕ) → List ℕ
  row_n codes code = records (transition_n codes r (code % level_places)) (row ends transitions (code / level_places))

  -- and of the transitions of all pairs that are done
  abbrev pub rows_n : (done codes : List ℕ) → List ℕ
  rows_n done codes = records (row_n codes) done

-- the states of the pairs codes are among the first n of the first walk
abbrev pub Within : (n : ℕ) (codes : List ℕ) → Type 0
Within n codes = (code : ℕ) → In code codes → code / level_places < n

-- the rows of n states, one after another in a table of transitions
pub record Ends (ends : List ℕ) (n : ℕ) : Type 0 where
  pub size : length ends ≡ max_generalized_states
  pub states : n ≤ max_generalized_states
  pub rising : (s : ℕ) → s < n → row_start ends s ≤ get_or ends s 0
  pub inside : (s : ℕ) → s < n → get_or ends s 0 ≤ max_generalized_transitions
  pub few : (s : ℕ) → s < n → row_count ends s ≤ max_of_state

-- pairs whose rows these are
pub record InRows (ends codes : List ℕ) : Type 0 where
  pub states : ℕ
  pub rows : Ends ends states
  pub within : Within states codes

-- and the transitions in them lead to such pairs
pub record PairRows (ends transitions : List ℕ) (r : ℕ) (codes : List ℕ) : Type 0 where
  pub listed : InRows ends codes
  pub size : length transitions ≡ max_generalized_transitions
  pub levels : r ≤ max_untils
  pub closed :
      (s : ℕ) → s < listed.states → (x : ℕ) → In x (row ends transitions s) → kept_target x < listed.states

-- each transition of a row leads to a state that can have a number
abbrev pub Leads : (row : List ℕ) → Type 0
Leads row = (x : ℕ) → In x row → kept_target x < max_generalized_states

-- n pairs are numbered: their codes stand by number in codes, and index has for each code one more than its pair's
-- number, or 0 where the pair has none
pub record PairsNumbered (codes index : List ℕ) (n : ℕ) : Type 0 where
  pub room : length codes ≡ max_states
  pub size : length index ≡ code_places
  pub few : n ≤ max_states
  pub number :
      (code : ℕ) → code < code_places
      → get_or index code 0 ≡ cond (ltb (find eqb code (take n codes)) n) (suc (find eqb code (take n codes))) 0

-- a pair met when xs are numbered: its number, and the pairs that are numbered then, xs the first of them
pub record NumberedPair (code : ℕ) (xs : List ℕ) (met : Result (List ℕ)) (number : ℕ) (ys : List ℕ) : Type 0 where
  pub are : met ≡ accepted ys
  pub few : length ys ≤ max_states
  pub first : take (length xs) ys ≡ xs
  pub found : number ≡ find eqb code ys
  pub inside : number < length ys

-- or none, where it is a pair too many
abbrev pub MeetsPair : (place code : ℕ) (xs : List ℕ) → Option StateNumber → (ys : List ℕ) → Type 0
MeetsPair place code xs (Some number) ys =
    NumberedPair code xs (meet eqb max_states 24 place code xs) number.0 ys
MeetsPair place code xs None ys = meet eqb max_states 24 place code xs ≡ refused 24 place

-- ---- records in a table

-- records of 4 bytes put after the first k of a table; there are after of them then
pub record AddsRecords (before : List ℕ) (k : ℕ) (bytes table : List ℕ) (after : ℕ) : Type 0 where
  pub count : after * 4 ≡ k * 4 + length bytes
  pub front : take (after * 4) table ≡ take (k * 4) before ++ bytes

-- pairs met, and the records of transitions put after the first k of a table, m of which are there then: those that
-- bytes makes of the pairs and their numbers, whatever pairs take the numbers after theirs
pub record AddedRows (met : Result (List ℕ)) (bytes : (done codes : List ℕ) → List ℕ) (before : List ℕ) (k m : ℕ)
    (pairs table : List ℕ) : Type 0 where
  pub are : met ≡ accepted pairs
  pub inside : m * 4 ≤ length table
  pub written : (more : List ℕ) → AddsRecords before k (bytes pairs (pairs ++ more)) table m

-- or there is a pair too many, and the pair being walked
abbrev pub AddsRows : (met : Result (List ℕ)) (bytes : (done codes : List ℕ) → List ℕ) (before : List ℕ) (k : ℕ)
    → Returned ℕ Refusal → (pairs table : List ℕ) → Type 0
AddsRows met bytes before k (Ok m) pairs table = AddedRows met bytes before k m pairs table
AddsRows met bytes before k (Err r) pairs table = met ≡ refused (reason_number r.reason) r.place

-- a row walked from a level: the targets met and the records put behind the first k, whatever number of transitions
-- the walk has met
abbrev pub MeetsRow : (row : List ℕ) (level r walked k : ℕ) (pairs table : List ℕ)
    → Returned ℕ Refusal → (pairs' table' : List ℕ) → Type 0
MeetsRow row level r walked k pairs table met pairs' table' =
    (count : ℕ)
    → AddsRows (meet_all code_numbering walked (map (target_n r level) row) count pairs)
    (λ _ codes. records (transition_n codes r level) row) table k met pairs' table'

-- all pairs walked from the first ones, and the records of their transitions put from the table's beginning
abbrev pub WalksPairs : (ends transitions : List ℕ) (r : ℕ) (pairs table : List ℕ)
    → Returned ℕ Refusal → (pairs' table' : List ℕ) → Type 0
WalksPairs ends transitions r pairs table met pairs' table' =
    AddsRows (walked (code_walk ends transitions r) pairs) (rows_n ends transitions r) table 0 met pairs' table'

-- ---- the call's tables

-- an automaton in the three tables, with its counts
pub record Filled (made : Result Automaton) (c : Counts) (s t i s' t' i' : List ℕ) : Type 0 where
  pub automaton : Automaton
  pub are : made ≡ accepted automaton
  pub tables : outcome (accepted c) s' t' i' ≡ tabled automaton s t i

-- or its refusal, which leaves the bytes of the tables open
abbrev pub Fills : Result Automaton → Returned Counts Refusal → (s t i s' t' i' : List ℕ) → Type 0
Fills made (Ok c) s t i s' t' i' = Filled made c s t i s' t' i'
Fills made (Err r) s t i s' t' i' = made ≡ refused (reason_number r.reason) r.place

-- the automaton of a rule that 25 and 1 to 7 let pass, with the conflicts that it carries
pub record FilledAll (rule : List ℕ) (done : Translated) (s t i s' t' i' : List ℕ) : Type 0 where
  pub filled : Filled (translation rule) done.counts s t i s' t' i'
  pub conflicts : rule_conflicts rule ≡ accepted done.conflicts

abbrev pub FillsAll : (rule : List ℕ) → Returned Translated Refusal → (s t i s' t' i' : List ℕ) → Type 0
FillsAll rule (Ok done) s t i s' t' i' = FilledAll rule done s t i s' t' i'
FillsAll rule (Err r) s t i s' t' i' = translation rule ≡ refused (reason_number r.reason) r.place

-- its answer, the three tables as the automaton or its refusal by 20 to 24 leaves them, and the conflicts that an
-- acceptance carries
pub record Builds (rule : List ℕ) (r : Returned Translated Refusal) (s t i s' t' i' : List ℕ) : Type 0 where
  pub tables : outcome (told_counts r) s' t' i' ≡ stored (translation rule) s t i
  pub conflicts : told_conflicts r ≡ rule_conflicts rule
