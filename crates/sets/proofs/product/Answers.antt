-- `sets::product` meets its contract: the loop runs from the last to the first, so it is a right fold (`Folds`).
-- Assumes nothing.
use Rattle.std.proofs.Common.{rules}
use Rattle.std.proofs.lemmas.List.{length_push}
use Rattle.std.proofs.lemmas.Iterator.Adapters.{YieldsList-from_rev_slice}
use Rattle.std.proofs.lemmas.Iterator.Consumers.{YieldsList-turn}
use Rattle.sets.proofs.Folds.{fold_product, gather_product, joining_begins, joining_steps, turn}
use Rattle.sets.proofs.product.Goals as goal

pub loop-x-init : goal.loop-x-init
loop-x-init c = joining_begins (fold_product _) (gather_product _) c.args.xs.now _ _

pub loop-x-preserved : goal.loop-x-preserved
loop-x-preserved c =
    let xs = c.args.xs.now in
    let step = YieldsList-turn (YieldsList-from_rev_slice xs cc) c.loop-x.yielded _ c.loop-x.yielded_by _ _
    c.in-Some.x c.in-Some.is c.next.ensures.steps in
    rw (length_push c.loop-x.yielded c.in-Some.x)
    (joining_steps (fold_product _) (gather_product _) xs (turn step) c.loop-x.invariant (search rules)
    c.insert_joins-joined.ensures)
