-- `translation::write_initial` meets its contract: the first i numbers are written (`Initials`).
-- Assumes nothing.
use Rattle.translation.proofs.Writing.{Initials}
use Rattle.translation.proofs.write_initial.Given as goal

abbrev pub invariant-loop-i : goal.invariant-loop-i
invariant-loop-i l = Initials l.initial.table l.table l.i
