-- `evaluate::sweep_back` meets its contract: the loop counts down and carries its last flag. Assumes nothing.
use Prim.Native.Nat.{◌-◌}
use mathlib.Core.Path.{◌≡◌}
use native.Mathlib.Omega.{arith}
use Rattle.formula.specs.Kind.{kind_number}
use Rattle.evaluate.proofs.Sweeping.{round_flag, carry_begins, carry_steps}
use Rattle.evaluate.proofs.sweep_back.Goals as goal

pub loop-i-init : goal.loop-i-init
loop-i-init c = carry_begins _ _ _ _ _ _ (omega arith)

pub loop-i-preserved : goal.loop-i-preserved
loop-i-preserved c =
    carry_steps _ _ _ _ _ _ _ c.loop-i.i (c.loop-i.i - 1) c.round_here-next.result c.loop-i.next (omega arith)
    (omega arith) (omega arith)
    (round_flag (kind_number c.args.kind) c.args.at.left c.args.at.right c.args.at.own c.args.total c.args.behind _
    c.args.table.now c.loop-i.table (omega arith) (omega arith) (c.loop-i.i - 1) c.loop-i.i
    c.round_here-next.result c.loop-i.next (omega arith) c.loop-i.invariant.swept c.round_here-next.ensures)
    c.loop-i.invariant

pub returns : goal.returns
returns c =
    let inv = c.loop-i.invariant in
    let above = inv.above in
    let e : c.loop-i.i ≡ c.args.from = omega arith in
    (rw e at inv.flag, rw e at inv.swept)
