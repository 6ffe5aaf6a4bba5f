-- `answer::copy` meets its contract: the items before i are copied. Assumes nothing.
use native.Mathlib.Omega.{arith}
use Rattle.answer.proofs.Storing.{copy_steps}
use Rattle.answer.proofs.copy.Goals as goal

pub loop-i-preserved : goal.loop-i-preserved
loop-i-preserved g c =
    copy_steps c.args.target.now c.args.source.now c.loop-i.target c.loop-i.i c.index-source-i.result (omega arith)
    (omega arith) c.index-source-i.is c.loop-i.invariant
