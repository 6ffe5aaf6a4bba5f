-- `image::check_records` meets its contract: four checks in their order. Assumes nothing.
use native.Mathlib.Omega.{arith}
use mathlib.Core.Path.{sym}
use Rattle.image.proofs.RecordsFit.{states_fit}
use Rattle.image.proofs.check_records.Goals as goal

-- as many transition records as the state records count are there
pub check_rests-requires : goal.check_rests-requires
check_rests-requires c =
    let fit = states_fit c.args.counts c.args.states.now (sym c.in_ok-check_states.ensures) in
    (c.requires.1, omega (arith, c.requires.2, fit.sum))
