-- `normalform::write_codes` meets its contract: the bytes under the codes before c are written (`Emitting`).
-- Assumes nothing.
use Rattle.normalform.proofs.Writing.{Emitting}
use Rattle.normalform.proofs.write_codes.Given as goal

abbrev pub invariant-loop-c : goal.invariant-loop-c
invariant-loop-c l = Emitting l.rule.bytes.now l.initial.form l.form l.c
