-- `judge::step_state` meets its contract: an empty row has no run to take along; else each turn adds what one record of
-- the state adds (`Gathers`). The records of the next state follow. Assumes nothing.
use native.Mathlib.Omega.{arith}
use Prim.Native.Nat.{◌+◌, ◌*◌, ◌<◌, ◌≤◌}
use mathlib.Core.Path.{◌≡◌}
use lib.ListN.{length}
use Rattle.image.specs.Reader.{counts_at}
use Rattle.image.specs.Lookup.{records_at}
use Rattle.image.proofs.Lookup.{records_next}
use Rattle.image.proofs.Known.{known, states_known, few_known, records_known}
use Rattle.judge.proofs.Gathers.{adds_none, adds_row, gather_begins, gather_steps, gather_ends}
use Rattle.judge.proofs.Turns.{all_records, target_fits, records_fit}
use Rattle.judge.proofs.step_state.Goals as goal
use Rattle.judge.proofs.step_state.Goals.{After-number_at-count}

-- the state is one of the image's, its records lie within the image, and those of the next state follow
module _ (c : After-number_at-count) where
  state_inside : c.args.q < (counts_at c.args.image.now.bytes.now).states
  state_inside = omega (arith, states_known c.args.image.now, c.requires.0)

  records_inside : c.args.at + 4 * c.number_at-count.result ≤ length c.args.image.now.bytes.now
  records_inside =
      records_fit _ c.args.q c.requires.1 c.number_at-count.ensures state_inside
      (known c.args.image.now)

  next : c.args.at + 4 * c.number_at-count.result ≡ records_at c.args.image.now.bytes.now (c.args.q + 1)
  next = records_next c.args.image.now.bytes.now c.args.q c.requires.1 c.number_at-count.ensures

pub number_at-count-requires : goal.number_at-count-requires
number_at-count-requires c = omega (arith, records_known c.args.image.now)

pub overflow_mul-end : goal.overflow_mul-end
overflow_mul-end c = omega (arith, records_inside c)

pub overflow_add-end : goal.overflow_add-end
overflow_add-end c = omega (arith, records_inside c)

pub row_empty-requires : goal.row_empty-requires
row_empty-requires c = omega (arith, few_known c.args.image.now)

pub row_of-row-requires : goal.row_of-row-requires
row_of-row-requires c = omega (arith, few_known c.args.image.now)

pub returns-then-row_empty : goal.returns-then-row_empty
returns-then-row_empty c =
    let none = c.row_empty.ensures c.if-row_empty.true in
    (next (goal.at.returns-then-row_empty c).After-number_at-count, adds_none (λ t k h. none k h.1))

pub loop-i-init : goal.loop-i-init
loop-i-init c = gather_begins _ _ _

pub overflow_mul-i : goal.overflow_mul-i
overflow_mul-i c = omega (arith, records_inside (goal.at.overflow_mul-i c).After-number_at-count)

pub overflow_add-at : goal.overflow_add-at
overflow_add-at c = omega (arith, records_inside (goal.at.overflow_add-at c).After-number_at-count)

pub take_transition-requires : goal.take_transition-requires
take_transition-requires c =
    let inside = records_inside (goal.at.take_transition-requires c).After-number_at-count in
    let lq = state_inside (goal.at.take_transition-requires c).After-number_at-count in
    let fits = target_fits _ c.args.q c.requires.1 c.number_at-count.ensures lq (known c.args.image.now)
    c.loop-i.i (omega arith) in
    (omega arith, fits)

pub loop-i-preserved : goal.loop-i-preserved
loop-i-preserved c =
    gather_steps _ _ _ _ _ c.loop-i.i (omega arith) c.loop-i.invariant c.take_transition.ensures

pub returns : goal.returns
returns c =
    let lq = state_inside (goal.at.returns c).After-number_at-count in (
      next (goal.at.returns c).After-number_at-count,
      adds_row c.row_of-row.ensures
          (all_records c.args.image.now.bytes.now c.args.q c.requires.1 c.number_at-count.ensures lq c.args.letter
          (gather_ends _ _ _ _ c.loop-i.i (omega arith) c.loop-i.invariant)),
    )
