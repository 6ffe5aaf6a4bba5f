-- `explain::release_break` meets its contract: the loop carries whether the left side has held. Assumes nothing.
use Rattle.explain.proofs.Looking.{Holding}
use Rattle.explain.proofs.release_break.Given as goal

abbrev pub invariant-loop-i : goal.invariant-loop-i
invariant-loop-i l = Holding l.left l.right l.i l.held
