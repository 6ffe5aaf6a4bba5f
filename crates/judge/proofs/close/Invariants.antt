-- `judge::close` meets its contract: runs are closed through the states before m (`Closing`).
-- Assumes nothing.
use Rattle.judge.proofs.Closure.{Closing}
use Rattle.judge.proofs.close.Given as goal

abbrev pub invariant-loop-m : goal.invariant-loop-m
invariant-loop-m l = Closing l.n l.initial.rows l.rows l.m
