-- `evaluate::fill_pair` meets its contract: the loop counts down. Assumes nothing.
use Prim.Native.Nat.{◌+◌, ◌-◌}
use mathlib.Core.Path.{◌≡◌, refl}
use mathlib.Core.Bool.{false}
use lib.ListN.{length}
use native.Mathlib.Omega.{arith}
use Rattle.formula.specs.Kind.{kind_number}
use Rattle.lasso.proofs.Letters.{after_small}
use Rattle.evaluate.proofs.Sweeping.{sweep_begins, sweep_steps, pair_flag}
use Rattle.evaluate.proofs.fill_pair.Goals as goal

pub loop-i-init : goal.loop-i-init
loop-i-init c = sweep_begins _ _ _ _ _

pub overflow_add-at-in-loop-i-2 : goal.overflow_add-at-in-loop-i-2
overflow_add-at-in-loop-i-2 c =
    omega (
      arith,
      c.loop-i.invariant.size,
      c.position_after-next.ensures,
      after_small c.args.lasso.now.stem.now c.args.lasso.now.cycle.now c.requires.0 (c.loop-i.i - 1),
    )

pub bounds-table-at-in-loop-i-2 : goal.bounds-table-at-in-loop-i-2
bounds-table-at-in-loop-i-2 c =
    omega (
      arith,
      c.loop-i.invariant.size,
      c.position_after-next.ensures,
      after_small c.args.lasso.now.stem.now c.args.lasso.now.cycle.now c.requires.0 (c.loop-i.i - 1),
    )

pub loop-i-preserved : goal.loop-i-preserved
loop-i-preserved c =
    sweep_steps _ _ _ _ _ _ c.loop-i.i (c.loop-i.i - 1) _ (omega arith) (omega arith)
    (pair_flag (kind_number c.args.kind) c.args.at.left c.args.at.right c.args.at.own
    (length c.args.lasso.now.stem.now + length c.args.lasso.now.cycle.now) false _ c.args.table.now c.loop-i.table
    (omega arith) (omega arith) c.args.lasso.now.stem.now c.args.lasso.now.cycle.now refl c.requires.0
    (c.loop-i.i - 1) c.loop-i.i _ _ false (omega arith) c.loop-i.invariant c.position_after-next.ensures
    c.pair_here.ensures) c.loop-i.invariant

pub returns : goal.returns
returns c =
    let e : c.loop-i.i ≡ 0 = omega arith in
    rw e at c.loop-i.invariant
