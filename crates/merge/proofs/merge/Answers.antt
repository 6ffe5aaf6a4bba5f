-- `merge::merge` meets its contract: what the check lets pass is stored, with zeros behind.
-- Assumes nothing.
use native.Mathlib.Omega.{arith}
use mathlib.Core.Path.{sym}
use Rattle.merge.proofs.Merging.{merge_fine, room_enough, merged_stored}
use Rattle.merge.proofs.merge.Goals as goal

pub conjoin-requires : goal.conjoin-requires
conjoin-requires c =
    let may = merge_fine _ _ (sym c.in_ok-check.ensures) in
    (may.passes, may.passes_too, may.few, room_enough _ (sym c.in_ok-require.ensures))

pub zero_behind-requires : goal.zero_behind-requires
zero_behind-requires c =
    let room = room_enough _ (sym c.in_ok-require.ensures) in
    omega (arith, (merge_fine _ _ (sym c.in_ok-check.ensures)).few, c.conjoin.auto.merged)

pub returns : goal.returns
returns c =
    merged_stored _ _ _ (room_enough _ (sym c.in_ok-require.ensures)) _ _ (sym c.in_ok-check.ensures)
    c.conjoin.auto.merged c.conjoin.ensures c.zero_behind.ensures
