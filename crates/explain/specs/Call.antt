-- The call explain: its answer and its place, and the part that is handed back, for every input (02, R-11).
use Rattle.std.specs.Prelude.{ℕ, List, []}
use Rattle.answer.specs.Result.{Result, accepted, refused, and_then, Check}
use Rattle.lasso.specs.Lasso.{remaining, lasso_check}
use Rattle.place.specs.Place.{place_of}
use Rattle.formula.specs.Rule.{checked}
use Rattle.explain.specs.declared.Explanation.TheVariants.{Kept, Broken, NeverComes}
use Rattle.explain.specs.Explain.{Explanation, explanation, part_from}

-- the rule's 1 to 7, then the lasso's 8, 9 and 28 (R-11, sentence 2)
unfoldable pub explain_check : (rule stem cycle : List ℕ) → Check
explain_check rule stem cycle = and_then (checked rule) (λ _. lasso_check stem cycle)

-- a position among the letters that remain as an index of stem and cycle as they are lent
abbrev pub as_lent : (stem cycle : List ℕ) → Explanation → Explanation
as_lent stem cycle Kept = Kept
as_lent stem cycle (Broken clause i) = Broken clause (place_of stem cycle i)
as_lent stem cycle (NeverComes clause) = NeverComes clause

-- the letters that remain are looked at, and what is told is told of those as lent
unfoldable pub explained : (rule stem cycle : List ℕ) → Result Explanation
explained rule stem cycle =
    and_then (explain_check rule stem cycle)
    (λ _. accepted (as_lent stem cycle (explanation rule (remaining stem) (remaining cycle))))

-- the part that is handed back: from the index told on; none where no index is told (R-11, sentences 4 to 7 and 9)
abbrev pub part_of : (stem cycle : List ℕ) → Result Explanation → List ℕ
part_of stem cycle (accepted Kept) = []
part_of stem cycle (accepted (Broken clause from)) = part_from stem cycle from
part_of stem cycle (accepted (NeverComes clause)) = []
part_of stem cycle (refused number place) = []

unfoldable pub broken_part : (rule stem cycle : List ℕ) → List ℕ
broken_part rule stem cycle = part_of stem cycle (explained rule stem cycle)
