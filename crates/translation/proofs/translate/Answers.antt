-- `translation::translate` meets its contract: the tests and the calls follow `translated`.
-- Assumes nothing.
use mathlib.Core.Path.{◌≡◌}
use Rattle.std.specs.Prelude.{Err}
use Rattle.std.proofs.Common.{rules}
use Rattle.answer.specs.Result.{fine}
use Rattle.automaton.specs.Tables.{table_check}
use Rattle.translation.proofs.Translating.{tables_fine, short_refused, form_refused, built}
use Rattle.translation.proofs.translate.Goals as goal
use Rattle.translation.proofs.translate.Goals.{In_ok-require}

tables : (c : In_ok-require) → table_check c.args.states.now c.args.transitions.now c.args.initial.now ≡ fine
tables c = tables_fine c.args.rule.now _ _ _ c.tables_fit-fit.ensures c.in_ok-require.ensures

pub returns-in_err-require : goal.returns-in_err-require
returns-in_err-require c =
    let same : c.from_residual.result ≡ Err c.in_err-require.field-0.0 = search rules in
    rw same (short_refused _ _ _ _ c.tables_fit-fit.ensures _ c.in_err-require.ensures)

pub returns-in_err-n : goal.returns-in_err-n
returns-in_err-n c =
    let same : c.from_residual-in_err-n.result ≡ Err c.in_err-n.field-0.0 = search rules in
    rw same (form_refused _ _ _ _ (tables (goal.at.returns-in_err-n c).In_ok-require) _ c.in_err-n.ensures)

pub returns : goal.returns
returns c =
    let form = c.in_ok-n.ensures in
    built _ _ _ _ (tables (goal.at.returns c).In_ok-require) _ form.0 form.1
    (rw c.new.ensures at c.build_tabled.ensures)
