-- `normalform::code_of` calls itself: the node's number falls at each call. Assumes nothing.
use Rattle.normalform.proofs.+code_of.Given as goal

abbrev pub decreases-code_of : goal.decreases-code_of
decreases-code_of l = l.n
