-- `term::check_sizes` meets its contract: the nodes before i are fine and their bounds are there (`Checking`), and the
-- first refusal is the lowest. Assumes nothing.
use native.Mathlib.Omega.{arith}
use mathlib.Core.Path.{◌≡◌, refl, sym}
use lib.ListN.{length-set}
use Rattle.std.specs.Prelude.{Err}
use Rattle.answer.proofs.Lowest.{passes_fine, pass_begins, pass_steps, pass_fails}
use Rattle.formula.proofs.Accepted.{accepted_fine}
use Rattle.term.proofs.Bounds.{bounded_more}
use borrow.Author.Rules.{rules}
use Rattle.term.proofs.check_sizes.Goals as goal

pub loop-i-init : goal.loop-i-init
loop-i-init c =
    record {
      small = omega (arith, c.count-i-end.ensures, (accepted_fine _ (passes_fine _ c.args.rule.now.accepted)).most);
      size = refl;
      passing = pass_begins _ _;
      bounded = λ k lt. absurd (omega arith);
    }

pub returns-in_err-check_size : goal.returns-in_err-check_size
returns-in_err-check_size c =
    let same : c.from_residual.result ≡ Err c.in_err-check_size.field-0.0 = search rules in
    rw same (pass_fails _ _ c.loop-i.i (omega arith) c.loop-i.invariant.passing c.in_err-check_size.ensures)

pub loop-i-preserved : goal.loop-i-preserved
loop-i-preserved c =
    let inv = c.loop-i.invariant in
    record {
      small = inv.small;
      size = simp length-set inv.size;
      passing = pass_steps _ _ c.loop-i.i (omega arith) inv.passing (sym c.in_ok-check_size.ensures);
      bounded = bounded_more _ c.loop-i.bounds c.loop-i.i _ (omega (arith, inv.size)) inv.bounded c.cover_bound.ensures;
    }
