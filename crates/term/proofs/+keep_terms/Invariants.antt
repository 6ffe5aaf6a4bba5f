-- `term::keep_terms` ends: it calls itself at the children of node n only, whose numbers are lower than n.
-- Assumes nothing.
use Rattle.term.proofs.+keep_terms.Given as goal

abbrev pub decreases-keep_terms : goal.decreases-keep_terms
decreases-keep_terms l = l.n
