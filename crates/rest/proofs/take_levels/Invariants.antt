-- `rest::take_levels` meets its contract: each turn takes a level (`Levels`); the pairs taken grow, and are at most as
-- many as there are bytes. Assumes nothing.
use Prim.Native.Nat.{◌-◌}
use lib.ListN.{length}
use Rattle.image.specs.Lookup.{image_automaton}
use Rattle.rest.specs.Memory.{buffers, Before}
use Rattle.rest.proofs.take_levels.Given as goal

abbrev pub invariant-loop-level : goal.invariant-loop-level
invariant-loop-level l =
    Before (image_automaton l.image.bytes.now) l.lasso.stem.now l.lasso.cycle.now l.image.counts.states l.position
    l.taken (buffers l.work l.level)

abbrev pub decreases-loop-level : goal.decreases-loop-level
decreases-loop-level l = length l.initial.work - l.taken
