-- `judge::step_states` meets its contract: each turn adds what one state adds (`Gathers`), and the records of the next
-- state follow. Assumes nothing.
use Rattle.judge.proofs.Turns.{Stepping}
use Rattle.judge.proofs.step_states.Given as goal

abbrev pub invariant-loop-q : goal.invariant-loop-q
invariant-loop-q l =
    Stepping l.image.bytes.now l.rows l.image.counts.states l.letter l.initial.next l.next l.at l.q
