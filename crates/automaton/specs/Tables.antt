-- Three lent tables with an automaton's records: how many of each, and 25.
use Rattle.std.specs.Prelude.{ℕ, ◌+◌, ◌≤◌, List, [], ◌∷◌, Bool, ◌&&◌, length, leb}
use Rattle.answer.specs.Result.{Result, accepted, refused, Check, require}
use Rattle.answer.specs.Bytes.{filled}
use Rattle.automaton.specs.declared.Counts.{Counts as Struct}
use Rattle.automaton.specs.Automaton.{State, Automaton}
use Rattle.automaton.specs.Records.{state_records, transition_records, initial_records}
use Rattle.automaton.specs.Limits.{states_bytes, transitions_bytes, initial_bytes}

-- how many states, transitions and initial states there are, the code's own struct: the answer of an accepted translate
-- or read (01, Numbers that come from the state, last paragraph, sentence 2)
abbrev pub Counts : Type 0
Counts = Struct

unfoldable pub transition_count : List State → ℕ
transition_count [] = 0
transition_count (s ∷ rest) = length s.transitions + transition_count rest

abbrev pub counts : Automaton → Counts
counts a = record {
  states = length a.states;
  transitions = transition_count a.states;
  initial = length a.initial;
}

-- an answer, and the three lent tables afterwards
pub record Outcome : Type 0 where
  pub answer : Result Counts
  pub states : List ℕ
  pub transitions : List ℕ
  pub initial : List ℕ

abbrev pub outcome : Result Counts → (states transitions initial : List ℕ) → Outcome
outcome a s t i = record { answer = a; states = s; transitions = t; initial = i }

-- an automaton's counts, its records in the tables, and zero in all unused bytes (01, Numbers that come from the state,
-- last paragraph, sentences 2 and 3)
abbrev pub tabled : Automaton → (states transitions initial : List ℕ) → Outcome
tabled a s t i =
    outcome (accepted (counts a))
    (filled s (state_records a)) (filled t (transition_records a)) (filled i (initial_records a))

-- whether 25 lets the lengths of three tables pass
abbrev pub lengths_fit : (states transitions initial : ℕ) → Bool
lengths_fit states transitions initial =
    leb states_bytes states && (leb transitions_bytes transitions && leb initial_bytes initial)

-- 25, at place 0: a table has no room for the most states, transitions or initial numbers (01, Numbers that come from
-- the state, 25)
unfoldable pub table_check : (states transitions initial : List ℕ) → Check
table_check states transitions initial =
    require (lengths_fit (length states) (length transitions) (length initial)) 25 0

-- tables that 25 lets pass
pub record TablesRoom (s t i : List ℕ) : Type 0 where
  pub states : states_bytes ≤ length s
  pub transitions : transitions_bytes ≤ length t
  pub initial : initial_bytes ≤ length i
