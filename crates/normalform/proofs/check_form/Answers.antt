-- `normalform::check_form` meets its contract: `normalize` makes the form, of which 7 is then checked.
-- Assumes nothing.
use Prim.Native.Nat.{ℕ, ◌/◌, ◌≤◌}
use mathlib.Core.Path.{◌≡◌, refl, sym, ap}
use lib.ListN.{length}
use lib.Seq.{length-take-le}
use Rattle.std.proofs.Common.{rules}
use Rattle.std.specs.Prelude.{Err}
use Rattle.normalform.proofs.Normalizing.{form_refused, form_inside, untils_refused, form_passes}
use Rattle.normalform.proofs.check_form.Goals as goal
use Rattle.normalform.proofs.check_form.Goals.{In_ok-n}

inside : (c : In_ok-n) → c.in_ok-n.n ≤ length c.normalize.new.form
inside c = form_inside _ _ c.requires _ c.in_ok-n.ensures _ refl

pub returns-in_err-n : goal.returns-in_err-n
returns-in_err-n c =
    let same : c.from_residual.result ≡ Err c.in_err-n.field-0.0 = search rules in
    rw same (form_refused _ _ c.requires _ c.in_err-n.ensures refl)

pub slice_bounds-check_untils-end : goal.slice_bounds-check_untils-end
slice_bounds-check_untils-end c = inside c

pub slice_bounds-check_untils-end-2 : goal.slice_bounds-check_untils-end-2
slice_bounds-check_untils-end-2 c =
    sym (length-take-le _ _ (inside (goal.at.slice_bounds-check_untils-end-2 c).In_ok-n))

pub check_untils-requires : goal.check_untils-requires
check_untils-requires c =
    sym (ap (λ (x : ℕ). x / 3) (length-take-le _ _ (inside (goal.at.check_untils-requires c).In_ok-n)))

pub returns-in_err-check_untils : goal.returns-in_err-check_untils
returns-in_err-check_untils c =
    let same : c.from_residual-in_err-check_untils.result ≡ Err c.in_err-check_untils.field-0.0 = search rules in
    rw same (untils_refused _ _ c.requires _ c.in_ok-n.ensures _ refl c.in_err-check_untils.ensures)

pub returns : goal.returns
returns c = form_passes _ _ c.requires _ c.in_ok-n.ensures _ refl c.in_ok-check_untils.ensures
