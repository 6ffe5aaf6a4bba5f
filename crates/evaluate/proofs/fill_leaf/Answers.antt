-- `evaluate::fill_leaf` meets its contract: the loop counts down. Assumes nothing.
use Prim.Native.Nat.{◌-◌}
use mathlib.Core.Path.{◌≡◌}
use native.Mathlib.Omega.{arith}
use Rattle.formula.specs.Kind.{kind_number}
use Rattle.evaluate.proofs.Sweeping.{sweep_begins, sweep_steps, leaf_flag}
use Rattle.evaluate.proofs.fill_leaf.Goals as goal

pub loop-i-init : goal.loop-i-init
loop-i-init c = sweep_begins _ _ _ _ _

pub loop-i-preserved : goal.loop-i-preserved
loop-i-preserved c =
    sweep_steps _ _ _ _ _ _ c.loop-i.i (c.loop-i.i - 1) _ (omega arith) (omega arith)
    (leaf_flag (kind_number c.args.kind) c.args.p c.args.lasso.now.stem.now c.args.lasso.now.cycle.now (c.loop-i.i - 1)
    c.leaf_here.result c.letter_at.result c.leaf_here.ensures c.letter_at.ensures) c.loop-i.invariant

pub returns : goal.returns
returns c =
    let e : c.loop-i.i ≡ 0 = omega arith in
    rw e at c.loop-i.invariant
