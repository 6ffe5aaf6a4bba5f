-- `explain::explain_letters` meets its contract: the larger table has a row for each node of any rule. Assumes nothing.
use native.Mathlib.Omega.{arith}
use Rattle.answer.proofs.Lowest.{passes_fine}
use Rattle.formula.proofs.Accepted.{accepted_fine}
use Rattle.explain.proofs.explain_letters.Goals as goal

pub explain_by-requires-else-count-le-FEW_NODES : goal.explain_by-requires-else-count-le-FEW_NODES
explain_by-requires-else-count-le-FEW_NODES c =
    let most = (accepted_fine _ (passes_fine _ c.args.rule.now.accepted)).most in
    record { some = c.requires.0; few = c.requires.1; places = omega arith }
