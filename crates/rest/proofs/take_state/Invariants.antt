-- `rest::take_state` meets its contract: each turn follows one record (`Filling`), and the records are those of the
-- state's transitions. Assumes nothing.
use Rattle.rest.specs.Memory.{buffers, Fills}
use Rattle.rest.proofs.Filling.{led_to}
use Rattle.rest.proofs.take_state.Given as goal

abbrev pub invariant-loop-i : goal.invariant-loop-i
invariant-loop-i l =
    Fills l.image.counts.states l.position (buffers l.initial.work l.initial.level) (buffers l.work l.level)
    (led_to l.image.bytes.now l.at l.letter l.position l.i)
