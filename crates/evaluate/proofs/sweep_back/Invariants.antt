-- `evaluate::sweep_back` meets its contract: the loop counts down and carries its last flag. Assumes nothing.
use Rattle.formula.specs.Kind.{kind_number}
use Rattle.evaluate.specs.Memory.{round_step}
use Rattle.evaluate.proofs.Sweeping.{Carrying}
use Rattle.evaluate.proofs.sweep_back.Given as goal

abbrev pub invariant-loop-i : goal.invariant-loop-i
invariant-loop-i l =
    Carrying (round_step (kind_number l.kind) l.initial.table l.at.left l.at.right) l.at.own l.total l.behind
    l.initial.table l.table l.from l.i l.next
