-- `evaluate::fill_leaf` meets its contract: the loop counts down. Assumes nothing.
use Prim.Native.Nat.{◌+◌}
use mathlib.Core.Bool.{false}
use lib.ListN.{length}
use Rattle.formula.specs.Kind.{kind_number}
use Rattle.evaluate.specs.Memory.{leaf_step, Swept}
use Rattle.evaluate.proofs.fill_leaf.Given as goal

abbrev pub invariant-loop-i : goal.invariant-loop-i
invariant-loop-i l =
    Swept (leaf_step (kind_number l.kind) l.p l.lasso.stem.now l.lasso.cycle.now) l.at
    (length l.lasso.stem.now + length l.lasso.cycle.now) false l.initial.table l.table l.i
