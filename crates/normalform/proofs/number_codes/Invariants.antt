-- `normalform::number_codes` meets its contract: the codes before c have their numbers (`Counting`).
-- Assumes nothing.
use Rattle.normalform.proofs.Numbering.{Counting}
use Rattle.normalform.proofs.number_codes.Given as goal

abbrev pub invariant-loop-c : goal.invariant-loop-c
invariant-loop-c l = Counting l.needed l.initial.numbers l.numbers l.count l.c
