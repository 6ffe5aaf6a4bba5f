-- `generalized::meet_all` meets its contract: the transitions from i on, met now, come to what all come to (`Meeting`).
-- Assumes nothing.
use native.Mathlib.Omega.{arith}
use mathlib.Core.Path.{◌≡◌, sym}
use Rattle.std.specs.Prelude.{Some, None, Err}
use Rattle.answer.specs.declared.Refusal.{Refusal}
use Rattle.answer.specs.declared.Reason.TheVariants.{TooManyStates}
use Rattle.generalized.proofs.Meeting.{meeting_begins, meeting_late, meeting_full, target_small}
use Rattle.generalized.proofs.Meeting.{meeting_steps, meeting_ends}
use borrow.Author.Rules.{rules}
use Rattle.generalized.proofs.meet_all.Goals as goal

pub loop-i-init : goal.loop-i-init
loop-i-init c = meeting_begins c.requires.1

pub returns-in_err-require : goal.returns-in_err-require
returns-in_err-require c rule told =
    let same : c.from_residual.result ≡ Err c.in_err-require.field-0.0 = search rules in
    rw same (meeting_late c.loop-i.invariant c.loop-i-test.true c.in_err-require.ensures)

pub returns-in_err-met : goal.returns-in_err-met
returns-in_err-met c rule told =
    let refusal : Refusal = record { reason = TooManyStates; place = c.args.state.0 } in
    let same : c.from_residual-in_err-met.result ≡ Err c.in_err-met.field-0.0 = search rules in
    let is : c.in_err-met.field-0.0 ≡ refusal = search rules in
    let none : c.meet_state.result ≡ None = search rules in
    rw (same, is) (meeting_full c.loop-i.invariant c.loop-i-test.true (sym c.in_ok-require.ensures)
    c.meet_state.new.items (rw none at c.meet_state.ensures))

pub keep-requires : goal.keep-requires
keep-requires c =
    let some : c.meet_state.result ≡ Some c.in_ok-met.met = search rules in
    target_small c.loop-i.invariant c.loop-i-test.true (sym c.in_ok-require.ensures) c.meet_state.new.items
    c.in_ok-met.met (rw some at c.meet_state.ensures) c.meet_state.auto.items

pub loop-i-preserved : goal.loop-i-preserved
loop-i-preserved c =
    let some : c.meet_state.result ≡ Some c.in_ok-met.met = search rules in
    meeting_steps c.loop-i.invariant c.loop-i-test.true (sym c.in_ok-require.ensures) c.meet_state.new.items
    c.in_ok-met.met (rw some at c.meet_state.ensures) c.meet_state.auto.items c.keep.ensures

pub returns : goal.returns
returns c rule told = meeting_ends c.loop-i.invariant (omega arith) rule told
