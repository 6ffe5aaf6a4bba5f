-- The field unit's profile (02, R-10): rules whose normal form has no until, refusal 29, and the call translate for
-- them.
use Rattle.std.specs.Prelude.{ℕ, List, not, eqb}
use Rattle.answer.specs.Result.{Result, and_then, Check, require, lowest}
use Rattle.formula.specs.Rule.{node_count, kind_at, until_check}
use Rattle.normalform.specs.NormalForm.{normal_form}
use Rattle.automaton.specs.Automaton.{Automaton}
use Rattle.automaton.specs.Tables.{table_check, Outcome}
use Rattle.translation.specs.Translate.{written_translation, stored, unless}
use Rattle.translation.specs.Conflicts.{written_conflicts, Carried, carried}

-- 29, at place n: node n is an until
abbrev pub until_at : List ℕ → ℕ → Check
until_at form n = require (not (eqb (kind_at form n) 7)) 29 n

-- 29: a first-edition rule has an until; the place is the lowest (R-10, sentence 5)
unfoldable pub no_untils : List ℕ → Check
no_untils form = lowest (until_at form) (node_count form)

-- 1 to 6 of the written rule, 26, then 7 and 29 of its normal form (R-10, sentence 5)
unfoldable pub profile_checked : List ℕ → Check
profile_checked rule = and_then (normal_form rule) (λ form. and_then (until_check form) (λ _. no_untils form))

-- the automaton of a rule that the profile takes, or its refusal by 1 to 6, 26, 7, 29 or 20 to 24
unfoldable pub profile_translation : List ℕ → Result Automaton
profile_translation rule = and_then (profile_checked rule) (λ _. written_translation rule)

-- 25, then 1 to 6, 26, 7 and 29, each leaving the tables as they were; then 20 to 24, or acceptance, as translate
unfoldable pub profile_translated : (rule states transitions initial : List ℕ) → Outcome
profile_translated rule s t i =
    unless (and_then (table_check s t i) (λ _. profile_checked rule)) (stored (written_translation rule) s t i) s t i

-- the conflicts that an acceptance carries (R-8), or the same refusal
unfoldable pub profile_conflicts : (rule states transitions initial : List ℕ) → Result ℕ
profile_conflicts rule s t i =
    and_then (and_then (table_check s t i) (λ _. profile_checked rule)) (λ _. written_conflicts rule)

-- what the call comes to: its answer, its place and every lent byte, and the conflicts that it carries
abbrev pub profile_translates : (rule states transitions initial : List ℕ) → Carried
profile_translates rule s t i = carried (profile_translated rule s t i) (profile_conflicts rule s t i)
