-- `generalized::state_terms` meets its contract: the product over the obligations below k is there (`Multiplying`).
-- Assumes nothing.
use native.Mathlib.Omega.{arith}
use mathlib.Core.Path.{sym}
use Rattle.generalized.proofs.Passed.{most_nodes, in_range}
use Rattle.generalized.proofs.Products.{factor_of, multiply_begins, multiply_skips}
use Rattle.generalized.proofs.Products.{multiply_steps, multiply_over, multiply_ends}
use Rattle.generalized.proofs.state_terms.Goals as goal
use Rattle.generalized.proofs.state_terms.Goals.{then-has+in_ok-joined, else-has}

pub loop-k-init : goal.loop-k-init
loop-k-init c =
    multiply_begins c.args.product.now _ (omega (arith, most_nodes _ c.requires.0)) c.requires.2

pub times-requires : goal.times-requires
times-requires c =
    let factor = factor_of _ _ c.loop-k.k c.requires.0 c.requires.1 (omega arith) in
    (omega arith, c.loop-k.invariant.fits, factor, c.loop-k.invariant.room)

pub returns-in_err-joined : goal.returns-in_err-joined
returns-in_err-joined c =
    rw c.from_residual.ensures (multiply_over c.loop-k.invariant (omega arith)
    (λ j lt. in_range _ c.requires.0 j (omega arith)) (c.requires.1.rows _ (omega arith)) (sym c.if-has.ensures)
    c.in_err-joined.ensures)

pub loop-k-preserved : goal.loop-k-preserved
loop-k-preserved c =
    elim c.if-has.branch [
      | then-has+in_ok-joined w ↦
          rw (w.product-is, w.next-is, w.count-is, w.conflicts-is) (multiply_steps c.loop-k.invariant (omega arith)
          (λ j lt. in_range _ c.requires.0 j (omega arith)) (c.requires.1.rows _ (omega arith)) (sym w.if-has.ensures)
          w.in_ok-joined.ensures w.times.auto.product w.times.auto.next)
      | else-has w ↦
          rw (w.product-is, w.next-is, w.count-is, w.conflicts-is)
          (multiply_skips c.loop-k.invariant (omega arith) (sym w.if-has.ensures))
    ]

pub returns : goal.returns
returns c = multiply_ends c.loop-k.invariant (omega arith)
