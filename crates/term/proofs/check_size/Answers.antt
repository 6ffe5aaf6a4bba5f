-- `term::check_size` meets its contract: by the count in the row, then by the bound of the cover or by the cover
-- itself. Assumes nothing.
use native.Mathlib.Omega.{arith}
use mathlib.Core.Path.{◌≡◌, sym, ◌∙◌}
use Rattle.std.specs.Prelude.{Err}
use lib.ListN.{length-map}
use borrow.Author.Tests.{leb-true, leb-false, le-leb}
use Rattle.answer.proofs.Results.{require_fine}
use Rattle.formula.specs.Formula.{tree}
use Rattle.term.specs.Term.{cover}
use Rattle.term.specs.Memory.{pack_set}
use Rattle.term.proofs.Sizes.{size_is, size_fails, fine_few}
use Rattle.term.proofs.Bounds.{cover_bounded}
use borrow.Author.Rules.{rules}
use Rattle.term.proofs.check_size.Goals as goal
use Rattle.term.proofs.check_size.Goals.{then-bound-le-MAX_TERMS, else-bound-le-MAX_TERMS}

pub returns-in_err-require : goal.returns-in_err-require
returns-in_err-require c =
    let same : c.from_residual.result ≡ Err c.in_err-require.field-0.0 = search rules in
    rw same
    (size_fails _ _ c.requires.1 _ (λ e. c.requires.3.over (omega (arith, leb-false _ _ e))) c.in_err-require.ensures)

pub returns : goal.returns
returns c =
    let below = c.requires.1 in
    let few = leb-true _ _ (require_fine _ 20 _ (sym c.in_ok-require.ensures)) in
    let row = c.requires.3.within few in
    let f = tree c.args.rule.now.bytes.now c.args.n in
    elim c.if-bound-le-MAX_TERMS.branch [
      | then-bound-le-MAX_TERMS w ↦
          rw (w.few_sets-is, le-leb _ _ w.if-bound-le-MAX_TERMS.true) at c.require-2.ensures
          ∙ fine_few _ _ (record {
            terms = omega (arith, few, row.count);
            cover = omega (arith, c.requires.4, cover_bounded f (omega (arith, c.requires.4)));
          })
      | else-bound-le-MAX_TERMS w ↦
          rw w.few_sets-is at c.require-2.ensures
          ∙ size_is _ _ below _
          (λ e.
          let is = w.cover_of.ensures.within (leb-true _ _ e) in
          record {
            terms = omega (arith, few, row.count);
            cover = omega (arith, leb-true _ _ e, is.count, length-map (cover f) pack_set);
          })
          (λ e. w.cover_of.ensures.over (leb-false _ _ e))
    ]
