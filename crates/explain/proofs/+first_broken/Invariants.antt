-- The measure of `explain::first_broken`: the node's number, since the children of a node have lower ones. Assumes
-- nothing.
use Rattle.explain.proofs.+first_broken.Given as goal

abbrev pub decreases-first_broken : goal.decreases-first_broken
decreases-first_broken l = l.n
