-- `sets::insert_join` meets its contract: a join with no conflict is inserted, another one dropped.
-- Assumes nothing.
use Rattle.sets.proofs.Folds.{join_kept, join_dropped}
use Rattle.sets.proofs.insert_join.Goals as goal

pub returns-then-conflicts-eq0 : goal.returns-then-conflicts-eq0
returns-then-conflicts-eq0 c =
    join_kept _ _ c.conflict-conflicts.ensures c.if-conflicts-eq0.true c.insert-count.ensures

pub returns-else-conflicts-eq0 : goal.returns-else-conflicts-eq0
returns-else-conflicts-eq0 c = join_dropped _ _ c.conflict-conflicts.ensures _ _ c.if-conflicts-eq0.false
