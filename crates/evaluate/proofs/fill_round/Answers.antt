-- `evaluate::fill_round` meets its contract: two passes. Assumes nothing.
use mathlib.Core.Path.{refl}
use native.Mathlib.Omega.{arith}
use Rattle.formula.specs.Kind.{kind_number}
use Rattle.evaluate.proofs.Filling.{rounds_stored}
use Rattle.evaluate.proofs.fill_round.Goals as goal

pub returns : goal.returns
returns c =
    rounds_stored (kind_number c.args.kind) c.args.at.left c.args.at.right c.args.at.own _ c.args.lasso.now.stem.now
    c.args.lasso.now.cycle.now c.args.table.now _ _ _
    c.sweep_back-first.result
    c.opening.ensures refl (omega arith) (omega arith) c.sweep_back-first.ensures.0 c.sweep_back-first.ensures.1
    c.sweep_back.ensures.1
