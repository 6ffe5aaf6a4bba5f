-- `translation::explore_pairs` meets its contract: the walk from a pair on comes to what the whole walk does, and the
-- rows before it are written (`Pairing`). Assumes nothing.
use mathlib.Core.Path.{◌≡◌}
use Prim.Native.Nat.{◌<◌}
use lib.ListN.{length, get_or}
use Rattle.std.specs.Prelude.{Err}
use Rattle.std.proofs.Common.{rules}
use Rattle.translation.proofs.Pairing.{row_alone, row_leads, row_room}
use Rattle.translation.proofs.Pairing.{pairing_begins, pairing_ends, pairing_stops, pairing_steps}
use Rattle.translation.proofs.explore_pairs.Goals as goal
use Rattle.translation.proofs.explore_pairs.Goals.{In-Some}

-- there is a pair to walk, and its code is read
inside : (c : In-Some) → c.loop-code.pair < length c.loop-code.pairs
inside c = rw c.codes.ensures.codes at c.in-Some.ensures.lookup.3.0

read : (c : In-Some) → c.in-Some.field-0.now ≡ get_or c.loop-code.pairs c.loop-code.pair 0
read c = rw c.codes.ensures.codes at c.in-Some.ensures.lookup.3.1 0

pub loop-code-init : goal.loop-code-init
loop-code-init c = pairing_begins c.requires.0

pub of-row-requires : goal.of-row-requires
of-row-requires c =
    let at = (goal.at.of-row-requires c).In-Some in
    row_alone c.loop-code.invariant c.requires.1 c.codes.ensures.few (inside at) (read at)

pub meet_row-requires : goal.meet_row-requires
meet_row-requires c =
    let at = (goal.at.meet_row-requires c).In-Some in (
      c.requires.0.levels,
      row_leads c.loop-code.invariant c.requires.1 c.codes.ensures.few (inside at) (read at) c.of-row.ensures
          c.level_of-level.ensures,
      row_room c.loop-code.invariant c.requires.1 c.codes.ensures.few (inside at) (read at) c.of-row.ensures
          c.level_of-level.ensures,
    )

pub returns-in_err-written : goal.returns-in_err-written
returns-in_err-written c =
    let at = (goal.at.returns-in_err-written c).In-Some in
    let same : c.from_residual.result ≡ Err c.in_err-written.field-0.0 = search rules in
    rw same
    (pairing_stops c.loop-code.invariant c.requires.1 c.codes.ensures.few (inside at) (read at) c.of-row.ensures
    c.level_of-level.ensures c.in_err-written.ensures)

pub loop-code-preserved : goal.loop-code-preserved
loop-code-preserved c =
    let at = (goal.at.loop-code-preserved c).In-Some in
    pairing_steps c.loop-code.invariant c.requires.1 c.codes.ensures.few (inside at) (read at) c.of-row.ensures
    c.level_of-level.ensures c.in_ok-written.ensures c.meet_row.auto.table

pub returns : goal.returns
returns c =
    pairing_ends c.loop-code.invariant c.requires.1 c.codes.ensures.few
    (rw c.codes.ensures.codes at c.in_default.ensures.lookup.3)
