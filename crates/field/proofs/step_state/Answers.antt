-- `field::step_state` meets its contract: in each turn joins what one record leads to. Assumes nothing.
use Prim.Native.Nat.{◌+◌, ◌*◌, ◌<◌}
use lib.ListN.{length}
use native.Mathlib.Omega.{arith}
use Rattle.answer.specs.Bytes.{number_at}
use Rattle.automaton.specs.Limits.{max_states}
use Rattle.image.specs.Reader.{counts_at}
use Rattle.image.proofs.Known.{known, states_known}
use Rattle.field.proofs.Adding.{added_none, added_as, added_next, followed, followed_none, followed_more, followed_all}
use Rattle.field.proofs.Adding.{record_fits}
use Rattle.field.proofs.step_state.Goals as goal
use Rattle.field.proofs.step_state.Goals.{After-number_at-count, In-loop-i}

state : (c : After-number_at-count) → c.args.p < (counts_at c.args.image.now.bytes.now).states
state c = omega (arith, c.requires.0, states_known c.args.image.now)

-- where the record that is looked at lies, and where it leads
fits : (c : In-loop-i) → let i = c.loop-i.i in
    (c.args.at + 4 * i + 3 < length c.args.image.now.bytes.now) ×
    (number_at c.args.image.now.bytes.now (c.args.at + 4 * i + 2) < max_states)
fits c =
    record_fits _ (known c.args.image.now) c.args.p c.args.at c.number_at-count.result c.loop-i.i
    (state (goal.at.In-loop-i c).After-number_at-count) c.requires.1 c.number_at-count.ensures (omega arith)

pub loop-i-init : goal.loop-i-init
loop-i-init c = added_none _ _ (followed_none _ _ _)

pub overflow_mul-i : goal.overflow_mul-i
overflow_mul-i c = omega (arith, (fits (goal.at.overflow_mul-i c).In-loop-i).0)

pub overflow_add-at : goal.overflow_add-at
overflow_add-at c = omega (arith, (fits (goal.at.overflow_add-at c).In-loop-i).0)

pub follow-requires : goal.follow-requires
follow-requires c =
    let f = fits (goal.at.follow-requires c).In-loop-i in
    (f.0, omega (arith, f.1, c.loop-i.invariant.size))

pub loop-i-preserved : goal.loop-i-preserved
loop-i-preserved c =
    added_next (followed _ _ _) c.loop-i.i (followed_more _ _ _ c.loop-i.i) c.loop-i.invariant c.follow.ensures

pub returns : goal.returns
returns c =
    added_as (followed_all _ _ _ c.args.p _ (state (goal.at.returns c).After-number_at-count) c.requires.1
    (omega (arith, c.number_at-count.ensures))) c.loop-i.invariant
