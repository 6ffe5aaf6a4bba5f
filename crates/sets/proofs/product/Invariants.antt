-- `sets::product` meets its contract: the loop runs from the last to the first, so it is a right fold (`Folds`).
-- Assumes nothing.
use Rattle.std.proofs.Common.{length}
use Rattle.sets.specs.Sets.{insert_product_n, product_conflicts_n}
use Rattle.sets.proofs.Folds.{Joining}
use Rattle.sets.proofs.product.Given as goal

abbrev pub invariant-loop-x : goal.invariant-loop-x
invariant-loop-x l =
    Joining (λ ts. insert_product_n ts l.ys) (λ ts. product_conflicts_n ts l.ys) l.xs l.initial.items l.count l.items
    l.n l.conflicts (length l.yielded)
