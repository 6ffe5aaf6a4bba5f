-- `explain::explain` meets its contract: 1 to 7, then what `explain_lasso` tells. Assumes nothing.
use mathlib.Core.Path.{◌≡◌}
use Rattle.std.proofs.Common.{rules}
use Rattle.std.specs.Prelude.{Err}
use Rattle.explain.proofs.Calling.{rule_refused}
use Rattle.explain.proofs.explain.Goals as goal

pub returns-in_err-parse : goal.returns-in_err-parse
returns-in_err-parse c =
    let same : c.from_residual.result ≡ Err c.in_err-parse.field-0.0 = search rules in
    rw same (rule_refused _ _ _ c.in_err-parse.ensures.checked)
