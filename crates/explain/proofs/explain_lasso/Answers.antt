-- `explain::explain_lasso` meets its contract: 8, 9 and 28, then what `explain_remaining` tells. Assumes nothing.
use mathlib.Core.Path.{◌≡◌, sym}
use Rattle.std.proofs.Common.{rules}
use Rattle.std.specs.Prelude.{Err}
use Rattle.answer.proofs.Lowest.{passes_fine}
use Rattle.explain.proofs.Calling.{lasso_refused}
use Rattle.explain.proofs.explain_lasso.Goals as goal

pub returns-in_err-check : goal.returns-in_err-check
returns-in_err-check c =
    let same : c.from_residual.result ≡ Err c.in_err-check.field-0.0 = search rules in
    rw same (lasso_refused _ _ _ (sym (passes_fine _ c.args.rule.now.accepted)) c.in_err-check.ensures)
