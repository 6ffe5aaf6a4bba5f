-- `evaluate::fill_pair` meets its contract: the loop counts down. Assumes nothing.
use Prim.Native.Nat.{◌+◌}
use mathlib.Core.Bool.{false}
use lib.ListN.{length}
use Rattle.formula.specs.Kind.{kind_number}
use Rattle.evaluate.specs.Memory.{pair_step, Swept}
use Rattle.evaluate.proofs.fill_pair.Given as goal

abbrev pub invariant-loop-i : goal.invariant-loop-i
invariant-loop-i l =
    Swept (pair_step (kind_number l.kind) l.initial.table l.at.left l.at.right l.lasso.stem.now l.lasso.cycle.now)
    l.at.own (length l.lasso.stem.now + length l.lasso.cycle.now) false l.initial.table l.table l.i
