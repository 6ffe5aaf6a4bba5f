-- `profile::translate` meets its contract: the tests and the calls follow `profile_translated`.
-- Assumes nothing.
use mathlib.Core.Path.{◌≡◌}
use Rattle.std.proofs.Common.{rules}
use Rattle.std.specs.Prelude.{Err}
use Rattle.profile.proofs.Checking.{short_refused, form_refused, form_translated}
use Rattle.profile.proofs.translate.Goals as goal

pub returns-in_err-require : goal.returns-in_err-require
returns-in_err-require c =
    let same : c.from_residual.result ≡ Err c.in_err-require.field-0.0 = search rules in
    rw same (short_refused _ _ _ _ c.tables_fit-fits.ensures _ c.in_err-require.ensures)

pub returns-in_err-n : goal.returns-in_err-n
returns-in_err-n c =
    let same : c.from_residual-in_err-n.result ≡ Err c.in_err-n.field-0.0 = search rules in
    rw same (form_refused _ _ _ _ c.tables_fit-fits.ensures c.in_ok-require.ensures _ c.in_err-n.ensures)

pub returns : goal.returns
returns c =
    form_translated _ _ _ _ c.tables_fit-fits.ensures c.in_ok-require.ensures _ c.in_ok-n.ensures.0 c.in_ok-n.ensures.1
    (rw c.new.ensures at c.translate_form.ensures)
