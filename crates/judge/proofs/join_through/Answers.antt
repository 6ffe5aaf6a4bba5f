-- `judge::join_through` meets its contract: the rows before q are joined (`Gathers`) with the row by which runs go
-- through m. Assumes nothing.
use native.Mathlib.Omega.{arith}
use Rattle.judge.proofs.Gathers.{gather_begins, gather_steps, gather_ends}
use Rattle.judge.proofs.Closure.{turn_covered, turn_through, all_through}
use Rattle.judge.proofs.join_through.Goals as goal

pub loop-q-init : goal.loop-q-init
loop-q-init c = gather_begins _ _ _

pub join_state-requires : goal.join_state-requires
join_state-requires c =
    let covered = c.requires.2 in
    (omega arith, omega arith, turn_covered _ _ c.loop-q.q c.loop-q.invariant (omega arith) covered)

pub loop-q-preserved : goal.loop-q-preserved
loop-q-preserved c =
    gather_steps _ _ _ _ _ c.loop-q.q (omega arith) c.loop-q.invariant
    (turn_through _ _ c.loop-q.q c.loop-q.invariant c.join_state.ensures)

pub returns : goal.returns
returns c =
    all_through _ _ c.runs_to-via.ensures (gather_ends _ _ _ _ c.loop-q.q (omega arith) c.loop-q.invariant)
