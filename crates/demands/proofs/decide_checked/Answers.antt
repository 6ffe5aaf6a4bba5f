-- `demands::decide_checked` meets its contract: `translate` stores the tables of the rule's automaton, `write` makes
-- its image of them, and `judge` gives the verdict on that image. Assumes nothing.
use Rattle.std.proofs.Common.{Err, rules}
use Rattle.std.specs.Prelude.{Result as Returned}
use mathlib.Core.Path.{◌≡◌, sym, ap}
use Prim.Native.Nat.{ℕ}
use lib.Seq.{length-take-le}
use Rattle.answer.specs.declared.Refusal.{Refusal}
use Rattle.answer.specs.Result.{answer}
use Rattle.translation.specs.Conflicts.{told_counts, Carried}
use Rattle.demands.proofs.TwoCalls.{write_refused, image_inside}
use Rattle.demands.proofs.Deciding.{passed, rule_refused, lasso_judged}
use Rattle.demands.proofs.decide_checked.Goals as goal

-- of what translate comes to, the counts with the tables
tables : {x y : Carried} → x ≡ y → x.tables ≡ y.tables
tables e = ap (λ (c : Carried). c.tables) e

-- what write stored
stored : {x y : Returned ℕ Refusal} → x ≡ y → answer x ≡ answer y
stored e = ap (λ (r : Returned ℕ Refusal). answer r) e

pub returns-in_err-translated : goal.returns-in_err-translated
returns-in_err-translated c =
    let same : c.from_residual.result ≡ Err c.in_err-translated.field-0.0 = search rules in
    rw same
    (rule_refused _ _ _ _ _ _ _ _ c.requires _ _ _ (tables c.translate.ensures)
    (ap told_counts c.in_err-translated.was))

pub returns-in_err-length : goal.returns-in_err-length
returns-in_err-length c =
    let fits = passed _ _ _ _ _ _ _ _ c.requires in
    let same : c.from_residual-in_err-length.result ≡ Err c.in_err-length.field-0.0 = search rules in
    rw same
    (write_refused _ _ _ _ _ fits.room.tables fits.room.buffer fits.bytes _ _ _ (tables c.translate.ensures) _
    (ap told_counts c.in_ok-translated.was) _ c.write.ensures (stored c.in_err-length.was))

pub slice_bounds-judge-end : goal.slice_bounds-judge-end
slice_bounds-judge-end c =
    let fits = passed _ _ _ _ _ _ _ _ c.requires in
    image_inside c.args.rule.now c.args.states.now c.args.transitions.now c.args.initial.now c.args.image.now
    fits.room.tables fits.room.buffer fits.bytes _ _ _ (tables c.translate.ensures) _
    (ap told_counts c.in_ok-translated.was) _ c.write.ensures _ (stored c.in_ok-length.was)

pub slice_bounds-judge-end-2 : goal.slice_bounds-judge-end-2
slice_bounds-judge-end-2 c =
    let fits = passed _ _ _ _ _ _ _ _ c.requires in
    sym
    (length-take-le _ _
    (image_inside c.args.rule.now c.args.states.now c.args.transitions.now c.args.initial.now c.args.image.now
    fits.room.tables fits.room.buffer fits.bytes _ _ _ (tables c.translate.ensures) _
    (ap told_counts c.in_ok-translated.was) _ c.write.ensures _ (stored c.in_ok-length.was)))

pub returns : goal.returns
returns c =
    lasso_judged _ _ _ _ _ _ _ _ c.requires _ _ _ (tables c.translate.ensures) _
    (ap told_counts c.in_ok-translated.was) _ c.write.ensures _ (stored c.in_ok-length.was) c.judge.ensures
