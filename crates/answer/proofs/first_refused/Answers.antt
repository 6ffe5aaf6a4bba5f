-- `answer::first_refused` meets its contract: the refusal found first is the lowest. Assumes nothing.
use Rattle.std.proofs.Common.{◌≡◌, Err, rules}
use Rattle.answer.proofs.Lowest.{turn_fails}
use Rattle.answer.proofs.first_refused.Goals as goal

pub returns-in_err-check : goal.returns-in_err-check
returns-in_err-check g c checks says =
    let same : c.from_residual.result ≡ Err c.in_err-check.field-0.0 = search rules in
    rw same (turn_fails checks _ c.loop-i.i c.loop-i-test.true (c.loop-i.invariant checks says)
    (says _ _ c.loop-i-test.true c.in_err-check.ensures))
