-- `field::moved_set` meets its contract: in each turn joins what one state leads to, at first nothing. Assumes nothing.
use Prim.Native.Nat.{◌+◌, ◌*◌, ◌≤◌}
use mathlib.Core.Path.{sym, ◌∙◌}
use lib.ListN.{length}
use native.Mathlib.Omega.{arith}
use Rattle.image.specs.Lookup.{image_automaton}
use Rattle.image.proofs.Lookup.{records_begin, records_next, records_end}
use Rattle.field.specs.Sets.{set_bytes, in_set, moves_to}
use Rattle.field.specs.Memory.{Added}
use Rattle.image.proofs.Known.{known, states_known, few_known}
use Rattle.field.proofs.Packing.{from_zeros}
use Rattle.field.proofs.Adding.{added_none, added_as, added_if, added_unless, added_next}
use Rattle.field.proofs.Adding.{reached, reached_none, reached_more, reached_all}
use Rattle.field.proofs.moved_set.Goals as goal
use Rattle.field.proofs.moved_set.Goals.{After-number_at, then-has_state, else-has_state}

-- where the records of the state that is looked at end
ends : (c : After-number_at) → c.loop-p.at + 4 * c.number_at.result ≤ length c.args.image.now.bytes.now
ends c =
    let image = c.args.image.now in
    let end = records_end image.bytes.now (known image) c.loop-p.p (omega (arith, states_known image)) in
    omega (arith, c.loop-p.invariant.here, c.number_at.ensures, end)

-- what a state leads to joins if it is in the set
joins : (c : After-number_at) → Added c.loop-p.next c.if-has_state.next
    (λ q. moves_to (image_automaton c.args.image.now.bytes.now) (in_set c.args.set.now) c.args.letter q c.loop-p.p)
unfolding moves_to
joins c = elim c.if-has_state.branch [
  | then-has_state w ↦
      rw w.next-is (added_if _ _ _ (sym c.has_state.ensures ∙ w.if-has_state.true) w.step_state.ensures)
  | else-has_state w ↦ rw w.next-is (added_unless _ _ (sym c.has_state.ensures ∙ w.if-has_state.false))
]

pub loop-p-init : goal.loop-p-init
loop-p-init c =
    record {
      here = records_begin c.args.image.now.bytes.now _ (states_known c.args.image.now);
      added = added_none _ _ (reached_none c.args.image.now.bytes.now _ _);
    }

pub has_state-requires : goal.has_state-requires
has_state-requires c = omega (arith, few_known c.args.image.now, c.requires)

pub overflow_mul-at-in-loop-p : goal.overflow_mul-at-in-loop-p
overflow_mul-at-in-loop-p c = omega (arith, ends c)

pub overflow_add-at-in-loop-p : goal.overflow_add-at-in-loop-p
overflow_add-at-in-loop-p c = omega (arith, ends c)

pub loop-p-preserved : goal.loop-p-preserved
loop-p-preserved c =
    record {
      here = records_next _ c.loop-p.p c.loop-p.invariant.here c.number_at.ensures;
      added = added_next (reached _ _ _) c.loop-p.p (reached_more _ _ _ c.loop-p.p) c.loop-p.invariant.added (joins c);
    }

pub returns : goal.returns
returns c =
    from_zeros set_bytes _ _
    (added_as (reached_all _ _ _ c.loop-p.p (omega (arith, states_known c.args.image.now))) c.loop-p.invariant.added)
