-- `generalized::start` meets its contract: the first i sets of the cover are in (`Covering`).
-- Assumes nothing.
use Rattle.formula.specs.Formula.{formula}
use Rattle.term.specs.Term.{cover}
use Rattle.generalized.proofs.Covering.{Covering}
use Rattle.generalized.proofs.start.Given as goal

abbrev pub invariant-loop-i : goal.invariant-loop-i
invariant-loop-i l = Covering (cover (formula l.rule.bytes.now)) l.set-items l.states l.i
