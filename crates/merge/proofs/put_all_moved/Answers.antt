-- `merge::put_all_moved` meets its contract: the nodes before i are stored behind the first up nodes of the buffer.
-- Assumes nothing.
use native.Mathlib.Omega.{arith}
use Rattle.formula.specs.Rule.{release_kind}
use Rattle.formula.proofs.Accepted.{formed_fine}
use Rattle.merge.proofs.Moving.{moving_begins, moving_steps}
use Rattle.merge.proofs.put_all_moved.Goals as goal

pub loop-i-init : goal.loop-i-init
loop-i-init c = moving_begins _ _ _

pub put_moved-requires : goal.put_moved-requires
put_moved-requires c =
    let each = (formed_fine release_kind _ c.requires.0).each in
    (omega arith, each c.loop-i.i (omega arith), omega arith, omega (arith, c.loop-i.auto.merged))

pub loop-i-preserved : goal.loop-i-preserved
loop-i-preserved c =
    moving_steps _ _ _ c.loop-i.merged _ c.loop-i.i c.loop-i.invariant (omega (arith, c.loop-i.auto.merged))
    c.put_moved.ensures
