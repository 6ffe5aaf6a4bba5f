-- `judge::close` meets its contract: runs are closed through the states before m (`Closing`).
-- Assumes nothing.
use native.Mathlib.Omega.{arith}
use Rattle.judge.proofs.Closure.{closing_begins, closing_steps, closing_ends}
use Rattle.judge.proofs.close.Goals as goal

pub loop-m-init : goal.loop-m-init
loop-m-init c = closing_begins _ _ c.requires.1

pub join_through-requires : goal.join_through-requires
join_through-requires c = (omega arith, omega arith, c.loop-m.invariant.covered)

pub loop-m-preserved : goal.loop-m-preserved
loop-m-preserved c =
    closing_steps _ c.loop-m.m (omega arith) (omega arith) c.join_through.ensures c.loop-m.invariant

pub returns : goal.returns
returns c = closing_ends _ c.loop-m.m (omega arith) c.loop-m.invariant
