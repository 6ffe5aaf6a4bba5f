-- `rest::find_places` meets its contract: each turn stores where the records of one state begin (`Places`).
-- Assumes nothing.
use Rattle.rest.proofs.Places.{Placing}
use Rattle.rest.proofs.find_places.Given as goal

abbrev pub invariant-loop-q : goal.invariant-loop-q
invariant-loop-q l = Placing l.image.bytes.now l.place-items l.at l.q
