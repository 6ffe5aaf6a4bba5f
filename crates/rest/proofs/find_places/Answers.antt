-- `rest::find_places` meets its contract: each turn stores where the records of one state begin (`Places`).
-- Assumes nothing.
use native.Mathlib.Omega.{arith}
use Prim.Native.Nat.{◌+◌, ◌*◌, ◌<◌, ◌≤◌}
use mathlib.Core.Path.{sym}
use lib.ListN.{length}
use lib.Seq.{length-take-le}
use Rattle.image.specs.Reader.{counts_at}
use Rattle.image.proofs.Lookup.{records_end}
use Rattle.image.proofs.Known.{known, states_known, few_known, size_known}
use Rattle.rest.proofs.Places.{placing_begins, placing_steps, placing_ends}
use Rattle.rest.proofs.find_places.Goals as goal
use Rattle.rest.proofs.find_places.Goals.{In-loop-q, After-number_at}

state : (c : In-loop-q) → c.loop-q.q < (counts_at c.args.image.now.bytes.now).states
state c = omega (arith, c.loop-q.invariant.size)

-- the records of the state lie within the image
inside : (c : After-number_at) → c.loop-q.at + 4 * c.number_at.result ≤ length c.args.image.now.bytes.now
inside c =
    let end = records_end _ (known c.args.image.now) c.loop-q.q (state (goal.at.After-number_at c).In-loop-q) in
    omega (arith, end, c.loop-q.invariant.here, c.number_at.ensures)

pub slice_bounds-places-end : goal.slice_bounds-places-end
slice_bounds-places-end c = few_known c.args.image.now

pub slice_bounds-place-items-end : goal.slice_bounds-place-items-end
slice_bounds-place-items-end c = sym (length-take-le _ _ (few_known c.args.image.now))

pub loop-q-init : goal.loop-q-init
loop-q-init c = placing_begins _ _ (states_known c.args.image.now) (few_known c.args.image.now)

pub number_at-requires : goal.number_at-requires
number_at-requires c =
    let image = c.args.image.now in
    omega (arith, state (goal.at.number_at-requires c).In-loop-q, states_known image, size_known image)

pub overflow_mul-at-in-loop-q : goal.overflow_mul-at-in-loop-q
overflow_mul-at-in-loop-q c = omega (arith, inside c)

pub overflow_add-at-in-loop-q : goal.overflow_add-at-in-loop-q
overflow_add-at-in-loop-q c = omega (arith, inside c)

pub loop-q-preserved : goal.loop-q-preserved
loop-q-preserved c =
    placing_steps _ c.loop-q.q (state (goal.at.loop-q-preserved c).In-loop-q) c.number_at.ensures c.loop-q.invariant

pub returns : goal.returns
returns c = placing_ends _ _ c.loop-q.q (omega (arith, c.loop-q.invariant.size)) c.loop-q.invariant
