-- `normalform::walk_plain` and `normalform::walk_negated` call each other: the node's number falls at each call.
-- Assumes nothing.
use Rattle.normalform.proofs.+walk_negated_walk_plain.Given as goal

abbrev pub decreases-walk_plain : goal.decreases-walk_plain
decreases-walk_plain l = l.n

abbrev pub decreases-walk_negated : goal.decreases-walk_negated
decreases-walk_negated l = l.n
