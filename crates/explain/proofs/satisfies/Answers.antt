-- `explain::satisfies` meets its contract: what `check_form` refuses, else what is explained of the form. Assumes
-- nothing.
use mathlib.Core.Path.{◌≡◌}
use Rattle.std.proofs.Common.{rules}
use Rattle.std.specs.Prelude.{Err}
use Rattle.explain.proofs.Calling.{form_refused, form_unexplained, form_told}
use Rattle.explain.proofs.satisfies.Goals as goal

pub returns-in_err-n : goal.returns-in_err-n
returns-in_err-n c =
    let same : c.from_residual.result ≡ Err c.in_err-n.field-0.0 = search rules in
    rw same (form_refused _ _ _ c.in_err-n.ensures)

pub returns-in_err-explain_lasso : goal.returns-in_err-explain_lasso
returns-in_err-explain_lasso c =
    let same : c.from_residual-in_err-explain_lasso.result ≡ Err c.in_err-explain_lasso.field-0.0 = search rules in
    rw same (form_unexplained _ _ _ _ c.in_ok-n.ensures.0
    (rw c.new.ensures at c.in_err-explain_lasso.ensures))

pub returns : goal.returns
returns c = form_told _ _ _ _ c.in_ok-n.ensures.0 _
    (rw c.new.ensures at c.in_ok-explain_lasso.ensures) c.is_kept.ensures
