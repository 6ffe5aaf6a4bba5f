-- `term::cover_of` ends: it calls itself at the children of node n only, whose numbers are lower than n.
-- Assumes nothing.
use Rattle.term.proofs.+cover_of.Given as goal

abbrev pub decreases-cover_of : goal.decreases-cover_of
decreases-cover_of l = l.n
