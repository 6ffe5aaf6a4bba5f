-- `translation::build_tabled` meets its contract: both tables have a row for each node of the rules that come to them.
-- Assumes nothing.
use native.Mathlib.Omega.{arith}
use Rattle.answer.proofs.Lowest.{passes_fine}
use Rattle.formula.proofs.Accepted.{accepted_fine}
use Rattle.translation.proofs.build_tabled.Goals as goal

pub build-requires-2 : goal.build-requires-2
build-requires-2 c = (omega (arith, (accepted_fine _ (passes_fine _ c.args.rule.now.accepted)).most), c.requires)
