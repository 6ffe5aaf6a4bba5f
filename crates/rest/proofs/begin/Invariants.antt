-- `rest::begin` meets its contract: each turn meets one initial state (`Filling`). Assumes nothing.
use Rattle.rest.specs.Memory.{buffers, Fills}
use Rattle.rest.proofs.Filling.{numbered}
use Rattle.rest.proofs.begin.Given as goal

abbrev pub invariant-loop-i : goal.invariant-loop-i
invariant-loop-i l =
    Fills l.image.counts.states 0 (buffers l.initial.work l.initial.level) (buffers l.work l.level)
    (numbered l.image.bytes.now l.at l.i)
