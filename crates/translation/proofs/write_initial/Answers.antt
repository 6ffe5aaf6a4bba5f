-- `translation::write_initial` meets its contract: the first i numbers are written (`Initials`).
-- Assumes nothing.
use native.Mathlib.Omega.{arith}
use Rattle.translation.proofs.Writing.{initials_begin, initials_step}
use Rattle.translation.proofs.write_initial.Goals as goal

pub loop-i-init : goal.loop-i-init
loop-i-init c = initials_begin _

pub loop-i-preserved : goal.loop-i-preserved
loop-i-preserved c =
    initials_step _ _ _ _ c.loop-i.i (omega (arith, c.requires.0, c.requires.1)) c.loop-i-test.true
    c.loop-i.invariant c.put_number.auto.table c.put_number.ensures
