-- `judge::or_words` meets its contract: the loop has joined the first i words (`Oring`).
-- Assumes nothing.
use Rattle.judge.proofs.RunBits.{Oring}
use Rattle.judge.proofs.or_words.Given as goal

abbrev pub invariant-loop-i : goal.invariant-loop-i
invariant-loop-i l = Oring l.initial.into l.from l.into l.i
