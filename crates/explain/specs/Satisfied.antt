-- The call satisfies: whether a lasso satisfies a written rule, by the meaning of rules and with no automaton.
use Rattle.std.specs.Prelude.{ℕ, List, Bool, true, false}
use Rattle.answer.specs.Result.{Result, accepted, and_then}
use Rattle.normalform.specs.NormalForm.{normal_form}
use Rattle.explain.specs.declared.Explanation.TheVariants.{Kept, Broken, NeverComes}
use Rattle.explain.specs.Explain.{Explanation}
use Rattle.explain.specs.Call.{explained}

abbrev pub is_kept : Explanation → Bool
is_kept Kept = true
is_kept (Broken clause from) = false
is_kept (NeverComes clause) = false

-- an explanation without what it names
abbrev pub verdict_only : Result Explanation → Result Bool
verdict_only r = and_then r (λ e. accepted (is_kept e))

-- 1 to 6 of the written rule and 26, then what is explained of its normal form, 7, 8, 9 and 28 among it; never 20 to 24
unfoldable pub satisfied : (rule stem cycle : List ℕ) → Result Bool
satisfied rule stem cycle = and_then (normal_form rule) (λ form. verdict_only (explained form stem cycle))
