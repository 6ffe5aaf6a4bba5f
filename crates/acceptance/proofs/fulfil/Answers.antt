-- `acceptance::fulfil` meets its contract: the bytes of the terms passed are in, and those behind all terms as they were
-- (`Filling`).
-- Assumes nothing.
use Rattle.std.proofs.Common.{arith}
use Rattle.acceptance.proofs.Gathering.{known_nodes}
use Rattle.acceptance.proofs.fulfil.Invariants.{fill_begins, fill_steps, fill_ends}
use Rattle.acceptance.proofs.fulfil.Goals as goal

pub loop-i-init : goal.loop-i-init
loop-i-init c = fill_begins _ _ _

pub fulfilment-requires : goal.fulfilment-requires
fulfilment-requires c = known_nodes c.requires.1

pub loop-i-preserved : goal.loop-i-preserved
loop-i-preserved c =
    fill_steps _ _ _ c.requires.0 _ c.loop-i.i (omega arith) c.loop-i.invariant c.fulfilment.ensures

pub returns : goal.returns
returns c = fill_ends _ _ _ _ c.loop-i.i (omega arith) c.loop-i.invariant
