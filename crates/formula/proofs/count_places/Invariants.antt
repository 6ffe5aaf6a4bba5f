-- `formula::count_places` meets its contract: the counts are the places of the nodes passed (`Counting`), and those are
-- too few to overflow. Assumes nothing.
use Rattle.formula.proofs.Places.{Counting}
use Rattle.formula.proofs.count_places.Given as goal

abbrev pub invariant-loop-i : goal.invariant-loop-i
invariant-loop-i l = Counting l.rule l.counts l.i
