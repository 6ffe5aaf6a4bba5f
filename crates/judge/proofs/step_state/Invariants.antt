-- `judge::step_state` meets its contract: each turn adds what one record of the state adds (`Gathers`), and the records
-- are those of the state's transitions. Assumes nothing.
use Rattle.judge.proofs.Gathers.{Gathering}
use Rattle.judge.proofs.Turns.{ByRecords}
use Rattle.judge.proofs.step_state.Given as goal

abbrev pub invariant-loop-i : goal.invariant-loop-i
invariant-loop-i l = Gathering l.initial.next (ByRecords l.image.bytes.now l.row l.letter l.at) l.count l.next l.i
