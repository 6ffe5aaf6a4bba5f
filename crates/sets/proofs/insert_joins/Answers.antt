-- `sets::insert_joins` meets its contract: the loop runs from the last to the first, so it is a right fold (`Folds`).
-- Assumes nothing.
use Rattle.std.proofs.Common.{rules}
use Rattle.std.proofs.lemmas.List.{length_push}
use Rattle.std.proofs.lemmas.Iterator.Adapters.{YieldsList-from_rev_slice}
use Rattle.std.proofs.lemmas.Iterator.Consumers.{YieldsList-turn}
use Rattle.sets.proofs.Folds.{fold_joins, gather_joins, joining_begins, joining_steps, turn}
use Rattle.sets.proofs.insert_joins.Goals as goal

pub loop-y-init : goal.loop-y-init
loop-y-init c = joining_begins (fold_joins _) (gather_joins _) c.args.ys.now _ _

pub loop-y-preserved : goal.loop-y-preserved
loop-y-preserved c =
    let ys = c.args.ys.now in
    let step = YieldsList-turn (YieldsList-from_rev_slice ys cc) c.loop-y.yielded _ c.loop-y.yielded_by _ _
    c.in-Some.y c.in-Some.is c.next.ensures.steps in
    rw (length_push c.loop-y.yielded c.in-Some.y)
    (joining_steps (fold_joins _) (gather_joins _) ys (turn step) c.loop-y.invariant (search rules)
    c.insert_join-joined.ensures)
