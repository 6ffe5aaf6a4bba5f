-- `field::initial_set` meets its contract: in each turn one initial state joins, at first none. Assumes nothing.
use native.Mathlib.Omega.{arith}
use Rattle.image.proofs.Lookup.{initial_offset}
use Rattle.field.specs.Sets.{set_bytes}
use Rattle.image.proofs.Known.{known, initial_known}
use Rattle.field.proofs.Packing.{from_zeros}
use Rattle.field.proofs.Adding.{added_none, added_as, added_next, named, named_none, named_more, named_all}
use Rattle.field.proofs.Adding.{initial_fits}
use Rattle.field.proofs.initial_set.Goals as goal

pub loop-i-init : goal.loop-i-init
loop-i-init c = added_none _ _ (named_none _ _)

-- the number that is read is one of a state
pub add_state-requires : goal.add_state-requires
add_state-requires c =
    let image = c.args.image.now in
    omega (
      arith,
      c.loop-i.invariant.size,
      initial_fits image.bytes.now (known image) _ c.loop-i.i (initial_known image) (omega arith) c.number_at.ensures,
    )

pub loop-i-preserved : goal.loop-i-preserved
loop-i-preserved c =
    added_next (named _ _) c.loop-i.i (named_more _ _ c.loop-i.i _ c.number_at.ensures) c.loop-i.invariant
    c.add_state.ensures

pub returns : goal.returns
returns c =
    let image = c.args.image.now in
    let all = initial_known image in
    from_zeros set_bytes _ _
    (added_as (named_all _ _ _ (initial_offset _ (known image) _ all) (omega (arith, all))) c.loop-i.invariant)
