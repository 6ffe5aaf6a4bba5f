-- `evaluate::fill` meets its contract: node by node. Assumes nothing.
use Rattle.evaluate.specs.Memory.{Filled}
use Rattle.evaluate.proofs.fill.Given as goal

abbrev pub invariant-loop-k : goal.invariant-loop-k
invariant-loop-k l = Filled l.rule.bytes.now l.lasso.stem.now l.lasso.cycle.now l.table l.k
