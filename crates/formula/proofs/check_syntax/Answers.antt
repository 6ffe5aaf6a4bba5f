-- `formula::check_syntax` meets its contract: what the nodes' checks let pass has its children below.
-- Assumes nothing.
use native.Mathlib.Omega.{arith}
use mathlib.Core.Path.{refl, sym}
use Rattle.formula.proofs.Checks.{children_below}
use Rattle.formula.proofs.check_syntax.Goals as goal

pub check_places-requires : goal.check_places-requires
check_places-requires c = (
  refl,
  omega (arith, c.in_ok-check_length.ensures.bounded),
  children_below _ _ _ (sym c.in_ok-check_nodes.ensures),
)
