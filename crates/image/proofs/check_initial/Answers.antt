-- `image::check_initial` meets its contract: the numbers before i are fine, and the next is to be above the last of
-- them. Assumes nothing.
use Rattle.std.proofs.Common.{arith, rules, ◌≡◌, ◌&&◌, ltb, leb, ◌∙◌, Err}
use Rattle.std.proofs.lemmas.Bool.Decides.{nat_tests}
use Rattle.answer.proofs.Lowest.{turn_fails, turn_passes}
use Rattle.image.proofs.Rising.{initial_tested, least_next}
use Rattle.image.proofs.check_initial.Goals as goal
use Rattle.image.proofs.check_initial.Goals.{After-require, then-number-state_count, else-number-state_count}

-- what the code asks of the number at i
asked : (c : After-require)
    → let x = c.number_at-number.result in
    c.if-number-state_count.fits ≡ (ltb x c.args.state_count && leb c.loop-i.least x)
asked c =
    elim c.if-number-state_count.branch [
      | then-number-state_count w ↦ grind (arith, nat_tests)
      | else-number-state_count w ↦ grind (arith, nat_tests)
    ]

pub returns-in_err-require : goal.returns-in_err-require
returns-in_err-require c =
    let test = asked (goal.at.returns-in_err-require c).After-require in
    let same : c.from_residual.result ≡ Err c.in_err-require.field-0.0 = search rules in
    let known = initial_tested c.args.state_count c.args.initial.now c.loop-i.i c.number_at-number.ensures
    c.loop-i.invariant.1 in
    rw same (turn_fails _ _ c.loop-i.i (omega arith) c.loop-i.invariant.0 (rw test at c.in_err-require.ensures ∙ known))

pub loop-i-preserved : goal.loop-i-preserved
loop-i-preserved c =
    let test = asked (goal.at.loop-i-preserved c).After-require in
    let known = initial_tested c.args.state_count c.args.initial.now c.loop-i.i c.number_at-number.ensures
    c.loop-i.invariant.1 in (
      turn_passes _ c.loop-i.i c.loop-i.invariant.0 (rw test at c.in_ok-require.ensures ∙ known),
      least_next c.args.initial.now c.loop-i.i c.number_at-number.ensures,
    )
