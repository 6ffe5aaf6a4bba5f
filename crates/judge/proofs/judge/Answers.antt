-- `judge::judge` meets its contract: 25, then the answer of `Image::parse`, then that of `Lasso::check`, then what
-- `judge_remaining` finds. Assumes nothing.
use Rattle.std.proofs.Common.{◌≡◌, Err, rules}
use Rattle.judge.proofs.Judgements.{work_refused, image_refused, image_judged, lasso_refused, lasso_judged}
use Rattle.judge.proofs.judge.Goals as goal

pub returns-in_err-require : goal.returns-in_err-require
returns-in_err-require c =
    let same : c.from_residual.result ≡ Err c.in_err-require.field-0.0 = search rules in
    rw same (work_refused _ _ _ _ c.in_err-require.ensures)

pub returns-in_err-image : goal.returns-in_err-image
returns-in_err-image c =
    let same : c.from_residual-in_err-image.result ≡ Err c.in_err-image.field-0.0 = search rules in
    rw same (image_refused _ _ _ _ c.in_ok-require.ensures c.in_err-image.ensures.checked)

pub returns-in_err-check : goal.returns-in_err-check
returns-in_err-check c =
    let same : c.from_residual-in_err-check.result ≡ Err c.in_err-check.field-0.0 = search rules in
    rw same (image_judged _ _ _ _ c.in_ok-require.ensures c.in_ok-image.ensures.checked
    (lasso_refused _ _ _ _ c.in_err-check.ensures))

pub returns : goal.returns
returns c =
    image_judged _ _ _ _ c.in_ok-require.ensures c.in_ok-image.ensures.checked
    (lasso_judged _ _ _ _ c.in_ok-check.ensures (rw c.in_ok-image.ensures.bytes at c.judge_remaining.ensures))
