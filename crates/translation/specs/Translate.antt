-- The call translate: its answer, its place and every lent byte, for every input.
use Rattle.std.specs.Prelude.{ℕ, List}
use Rattle.answer.specs.Bytes.{zeros}
use Rattle.automaton.specs.Tables.{table_check, outcome, Outcome, tabled}
use Rattle.answer.specs.Result.{Result, accepted, refused, and_then, Check}
use Rattle.normalform.specs.NormalForm.{normal_form, written_checked}
use Rattle.automaton.specs.Automaton.{Automaton}
use Rattle.translation.specs.Degeneralized.{translation}

-- the automaton of a written rule, or its refusal by 1 to 7, 26 or 20 to 24: that of its negation normal form (R-3)
unfoldable pub written_translation : List ℕ → Result Automaton
written_translation rule = and_then (normal_form rule) translation

-- the outcome for a rule that the checks before 20 let pass
unfoldable pub stored : Result Automaton → (states transitions initial : List ℕ) → Outcome
stored (accepted a) s t i = tabled a s t i
stored (refused number place) s t i = outcome (refused number place) (zeros s) (zeros t) (zeros i)

-- the checks before 20 leave the tables as they were: 25, 1 to 7 and 26, and for the field unit 29
abbrev pub unless : Check → Outcome → (states transitions initial : List ℕ) → Outcome
unless (accepted u) rest s t i = rest
unless (refused number place) rest s t i = outcome (refused number place) s t i

-- 25, then 1 to 6, 26 and 7 of the written rule, each leaving the tables as they were; then 20 to 24, or acceptance,
-- with the tables as above
unfoldable pub translated : (rule states transitions initial : List ℕ) → Outcome
translated rule s t i =
    unless (and_then (table_check s t i) (λ _. written_checked rule)) (stored (written_translation rule) s t i) s t i
