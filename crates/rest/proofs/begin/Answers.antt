-- `rest::begin` meets its contract: each turn meets one initial state (`Filling`). Assumes nothing.
use native.Mathlib.Omega.{arith}
use Prim.Native.Nat.{◌*◌, ◌-◌, ◌<◌}
use lib.ListN.{length}
use Rattle.image.proofs.Lookup.{initial_offset, initial_inside}
use Rattle.image.proofs.Known.{known, states_known, initial_known}
use Rattle.rest.proofs.Filling.{fills_ready, begin_holds, begin_steps, begin_ends}
use Rattle.rest.proofs.begin.Goals as goal
use Rattle.rest.proofs.begin.Goals.{After-number_at}

-- the number that a turn reads is a state
state : (c : After-number_at) → c.number_at.result < c.args.image.now.counts.states
state c =
    let image = c.args.image.now in
    let number = initial_known image in
    let inside = initial_inside _ (known image) c.loop-i.i (omega (arith, number)) in
    rw (c.number_at.ensures, initial_offset _ (known image) _ number, states_known image) inside

pub loop-i-init : goal.loop-i-init
loop-i-init c =
    let image = c.args.image.now in
    begin_holds image.bytes.now (length image.bytes.now - 2 * image.counts.initial)

pub visit-requires : goal.visit-requires
visit-requires c =
    (_, state (goal.at.visit-requires c).After-number_at, fills_ready c.loop-i.invariant c.requires)

pub loop-i-preserved : goal.loop-i-preserved
loop-i-preserved c =
    begin_steps c.args.image.now.bytes.now _ c.loop-i.i c.loop-i.invariant (rw c.number_at.ensures at
    (c.visit.ensures _ (state (goal.at.loop-i-preserved c).After-number_at)))

pub returns : goal.returns
returns c =
    let image = c.args.image.now in
    begin_ends image.bytes.now (initial_offset _ (known image) _ (initial_known image))
    (omega (arith, initial_known image)) c.loop-i.invariant
