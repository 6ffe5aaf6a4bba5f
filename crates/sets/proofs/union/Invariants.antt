-- `sets::union` meets its contract: the loop runs from the last to the first, so it is a right fold (`Folds`).
-- Assumes nothing.
use Rattle.std.proofs.Common.{length}
use Rattle.sets.specs.Sets.{union_n}
use Rattle.sets.proofs.Folds.{Folding}
use Rattle.sets.proofs.union.Given as goal

abbrev pub invariant-loop-x : goal.invariant-loop-x
invariant-loop-x l = Folding union_n l.xs l.initial.items l.count l.items l.n (length l.yielded)
