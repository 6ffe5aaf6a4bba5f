-- `generalized::state_terms` meets its contract: the product over the obligations below k is there (`Multiplying`).
-- Assumes nothing.
use Rattle.generalized.proofs.Products.{Multiplying}
use Rattle.generalized.proofs.state_terms.Given as goal

abbrev pub invariant-loop-k : goal.invariant-loop-k
invariant-loop-k l = Multiplying l.rule.bytes.now l.obligations l.product l.next l.count l.conflicts l.k
