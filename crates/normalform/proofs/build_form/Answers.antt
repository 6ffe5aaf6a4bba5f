-- `normalform::build_form` meets its contract: the walk from the root, the numbers, and the bytes by rising codes.
-- Assumes nothing.
use native.Mathlib.Omega.{arith}
use mathlib.Core.Path.{◌≡◌, refl, sym}
use lib.Seq.{length-take-le}
use Rattle.std.proofs.Common.{rules}
use Rattle.std.specs.Prelude.{Err}
use Rattle.normalform.proofs.Fitting.{passed_rule}
use Rattle.normalform.proofs.Walking.{few_codes}
use Rattle.normalform.proofs.Normalizing.{too_large, readied, form_stored}
use Rattle.normalform.proofs.build_form.Goals as goal

pub overflow_sub-n : goal.overflow_sub-n
overflow_sub-n c = omega (arith, (passed_rule _ c.args.rule.now.accepted).some)

pub walk_plain-requires : goal.walk_plain-requires
walk_plain-requires c = (omega (arith, (passed_rule _ c.args.rule.now.accepted).some), refl)

pub slice_bounds-flags-end : goal.slice_bounds-flags-end
slice_bounds-flags-end c = omega (arith, few_codes _ c.args.rule.now.accepted, c.walk_plain.ensures.same)

pub slice_bounds-needed-end : goal.slice_bounds-needed-end
slice_bounds-needed-end c =
    sym (length-take-le _ _ (omega (arith, few_codes _ c.args.rule.now.accepted, c.walk_plain.ensures.same)))

pub returns-in_err-require : goal.returns-in_err-require
returns-in_err-require c =
    let same : c.from_residual.result ≡ Err c.in_err-require.field-0.0 = search rules in
    rw same
    (too_large _ c.args.rule.now.accepted c.count-n.ensures c.walk_plain.ensures c.number_codes-count.ensures _
    c.in_err-require.ensures)

pub write_codes-requires : goal.write_codes-requires
write_codes-requires c =
    readied _ c.args.rule.now.accepted c.count-n.ensures c.walk_plain.ensures c.number_codes-count.ensures _
    c.in_ok-require.ensures c.requires c.number_codes-count.auto.numbers

pub returns : goal.returns
returns c =
    form_stored _ c.args.rule.now.accepted c.count-n.ensures c.walk_plain.ensures c.number_codes-count.ensures _
    c.in_ok-require.ensures _ _ c.write_codes.auto.form c.write_codes.ensures c.zero_behind.ensures
