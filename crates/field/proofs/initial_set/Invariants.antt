-- `field::initial_set` meets its contract: in each turn one initial state joins, at first none. Assumes nothing.
use lib.ListN.{replicate}
use Rattle.field.specs.Memory.{Added}
use Rattle.field.specs.Sets.{set_bytes}
use Rattle.field.proofs.Adding.{named}
use Rattle.field.proofs.initial_set.Given as goal

abbrev pub invariant-loop-i : goal.invariant-loop-i
invariant-loop-i l = Added (replicate set_bytes 0) l.set (named l.image.bytes.now l.at l.i)
