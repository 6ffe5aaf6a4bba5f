-- `translation::write_states` meets its contract: the records of the pairs before p are written (`States`).
-- Assumes nothing.
use Rattle.translation.proofs.Writing.{States}
use Rattle.translation.proofs.write_states.Given as goal

abbrev pub invariant-loop-number : goal.invariant-loop-number
invariant-loop-number l =
    States l.rows.ends.now l.rows.transitions.now l.rows.last l.codes l.initial.table l.table l.number
