-- `place::place_in` meets its contract: the search passes letter by letter. Assumes nothing.
use Rattle.place.proofs.Standing.{Seeking}
use Rattle.place.proofs.place_in.Given as goal

abbrev pub invariant-loop-at : goal.invariant-loop-at
invariant-loop-at l = Seeking l.letters l.i l.left l.at
