-- `judge::run` meets its contract: the bits are those after the first letters (`Running`), two for each turn.
-- Assumes nothing.
use Prim.Native.Nat.{◌*◌}
use Rattle.image.specs.Lookup.{image_automaton}
use Rattle.judge.proofs.Letters.{Running}
use Rattle.judge.proofs.run.Given as goal

abbrev pub invariant-loop-pair : goal.invariant-loop-pair
invariant-loop-pair l =
    Running (image_automaton l.image.bytes.now) l.image.counts.states l.word l.initial.rows l.rows l.next
    (2 * l.pair-index)
