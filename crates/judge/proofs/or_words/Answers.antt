-- `judge::or_words` meets its contract: the loop has joined the first i words (`Oring`).
-- Assumes nothing.
use native.Mathlib.Omega.{arith}
use Rattle.judge.proofs.RunBits.{or_begins, or_steps}
use Rattle.judge.proofs.or_words.Goals as goal

pub loop-i-init : goal.loop-i-init
loop-i-init c = or_begins _ _

pub loop-i-preserved : goal.loop-i-preserved
loop-i-preserved c = or_steps _ _ _ c.loop-i.i (omega arith) c.loop-i.invariant

pub returns : goal.returns
returns c = λ i lt. c.loop-i.invariant.joined i (omega arith)
