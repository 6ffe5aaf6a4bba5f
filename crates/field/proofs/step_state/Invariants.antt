-- `field::step_state` meets its contract: in each turn joins what one record leads to. Assumes nothing.
use Rattle.field.specs.Memory.{Added}
use Rattle.field.proofs.Adding.{followed}
use Rattle.field.proofs.step_state.Given as goal

abbrev pub invariant-loop-i : goal.invariant-loop-i
invariant-loop-i l = Added l.initial.next l.next (followed l.image.bytes.now l.letter l.at l.i)
