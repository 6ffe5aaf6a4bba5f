-- `sets::insert_joins` meets its contract: the loop runs from the last to the first, so it is a right fold (`Folds`).
-- Assumes nothing.
use Rattle.std.proofs.Common.{length}
use Rattle.sets.specs.Sets.{insert_joins_n, join_conflicts_n}
use Rattle.sets.proofs.Folds.{Joining}
use Rattle.sets.proofs.insert_joins.Given as goal

abbrev pub invariant-loop-y : goal.invariant-loop-y
invariant-loop-y l =
    Joining (insert_joins_n l.x) (join_conflicts_n l.x) l.ys l.initial.items l.count l.items l.n l.conflicts
    (length l.yielded)
