-- `normalform::number_codes` meets its contract: the codes before c have their numbers (`Counting`).
-- Assumes nothing.
use Rattle.std.proofs.Common.{arith, rules}
use Rattle.normalform.proofs.Numbering.{count_begins, count_steps}
use Rattle.normalform.proofs.number_codes.Goals as goal

pub loop-c-init : goal.loop-c-init
loop-c-init c = count_begins _ _

pub loop-c-preserved : goal.loop-c-preserved
loop-c-preserved c =
    count_steps _ _ _ _ _ c.loop-c.invariant (omega (arith, c.requires.0)) _ (search rules)
