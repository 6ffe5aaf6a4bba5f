-- Rules with too many terms or cover sets: number 20.
use Rattle.std.specs.Prelude.{ℕ, List, ◌&&◌, length, leb}
use Rattle.answer.specs.Result.{and_then, Check, require, lowest}
use Rattle.formula.specs.Rule.{node_count}
use Rattle.formula.specs.Rule
use Rattle.formula.specs.Formula.{tree}
use Rattle.term.specs.Limits.{max_terms}
use Rattle.term.specs.Term.{cover, terms}

-- 20, at place n: the terms of node n, or the sets of its cover, are more than max_terms (01, Numbers that come from
-- the state, 20)
unfoldable pub size_check : List ℕ → ℕ → Check
size_check rule n =
    require (leb (length (terms (tree rule n))) max_terms && leb (length (cover (tree rule n))) max_terms) 20 n

-- 1 to 7, then 20 at the lowest node that has it; a rule that passes can be walked (01, Numbers that come from the
-- state, 20, and the order in Numbers that come from the input)
unfoldable pub sizes_checked : List ℕ → Check
sizes_checked rule = and_then (Rule.checked rule) (λ _. lowest (size_check rule) (node_count rule))
