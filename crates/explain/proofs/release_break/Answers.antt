-- `explain::release_break` meets its contract: the loop carries whether the left side has held. Assumes nothing.
use native.Mathlib.Omega.{arith}
use Rattle.explain.proofs.Looking.{hold_begins, hold_finds, by_held, by_right, hold_steps, hold_ends}
use Rattle.explain.proofs.release_break.Goals as goal
use Rattle.explain.proofs.release_break.Goals.{else-not-here-via-then-not-here+else-not-held}
use Rattle.explain.proofs.release_break.Goals.{else-not-here-via-else-not-here}

pub loop-i-init : goal.loop-i-init
loop-i-init c = hold_begins _ _

pub returns-then-not-held : goal.returns-then-not-held
returns-then-not-held c =
    hold_finds _ _ c.loop-i.i _ c.loop-i.held c.loop-i-test.true c.if-not-here.true c.if-not-held.true
    c.loop-i.invariant

pub loop-i-preserved : goal.loop-i-preserved
loop-i-preserved c =
    elim c.else-not-here.branch [
      | else-not-here-via-then-not-here+else-not-held w ↦
          hold_steps _ _ c.loop-i.i c.loop-i.held (by_held _ _ w.if-not-held.false) c.loop-i.invariant
      | else-not-here-via-else-not-here w ↦
          hold_steps _ _ c.loop-i.i c.loop-i.held (by_right _ _ w.if-not-here.false) c.loop-i.invariant
    ]

pub returns : goal.returns
returns c = hold_ends _ _ c.loop-i.i _ c.loop-i.held (omega arith) c.loop-i.invariant
