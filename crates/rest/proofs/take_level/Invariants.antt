-- `rest::take_level` meets its contract: each turn takes one state of the level (`Levels`). Assumes nothing.
use Rattle.image.specs.Lookup.{image_automaton}
use Rattle.rest.specs.Memory.{buffers}
use Rattle.rest.proofs.Levels.{Taking}
use Rattle.rest.proofs.take_level.Given as goal

abbrev pub invariant-loop-i : goal.invariant-loop-i
invariant-loop-i l =
    Taking (image_automaton l.image.bytes.now) l.lasso.stem.now l.lasso.cycle.now l.image.counts.states l.position
    l.taken l.level (buffers l.work l.next) l.i
