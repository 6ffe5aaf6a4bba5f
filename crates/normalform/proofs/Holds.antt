-- R-3: a lasso satisfies the normal form of a written rule exactly when it satisfies the rule. The normal form encodes
-- the formula of the root's tree as it stands, which says the same on words that repeat. Assumes nothing.
use Prim.Native.Nat.{ℕ, ◌<◌, ◌≤◌}
use mathlib.Core.Path.{◌≡◌, sym, ◌∙◌, ap}
use mathlib.Core.Bool.{false}
use mathlib.Core.Logic.{◌↔◌}
use mathlib.Core.List.{List}
use lib.Dec.{leb}
use lib.ListN.{length}
use borrow.Author.Tests.{leb-true}
use Rattle.answer.specs.Result.{accepted, require}
use Rattle.answer.proofs.Results.{then_accepted, require_fine}
use Rattle.lasso.specs.Lasso.{letter}
use Rattle.lasso.proofs.Letters.{letter_round}
use Rattle.formula.specs.Limits.{max_nodes}
use Rattle.formula.specs.Rule.{node_count, root}
use Rattle.formula.specs.Formula.{tree, formula}
use Rattle.formula.specs.Satisfaction.{Satisfies}
use Rattle.normalform.specs.Written.{Written, written_tree, written_check, SatisfiesWritten}
use Rattle.normalform.specs.NormalForm.{size, normal_bytes, normal_form}
use Rattle.normalform.proofs.Meaning.{form, says}
use Rattle.normalform.proofs.Nodes.{at, out, root_within, root_last, tree_form}
use Rattle.normalform.proofs.Fitting.{WellWritten, well_written}

-- what it says of a written rule that it has a normal form
pub record Normal (rule out : List ℕ) : Type 0 where
  pub formed : WellWritten rule
  pub few : size rule ≤ max_nodes
  pub same : normal_bytes rule ≡ out

pub normal : (rule out : List ℕ) → normal_form rule ≡ accepted out → Normal rule out
unfolding normal_form
normal rule out e =
    let (_, passed, rest) = then_accepted (written_check rule) _ e in
    let (_, few, same) = then_accepted (require (leb (size rule) max_nodes) 26 0) _ rest in
    record {
      formed = well_written rule passed;
      few = leb-true (size rule) max_nodes (require_fine _ 26 0 few);
      same = cc;
    }

abbrev root_tree : List ℕ → Written
root_tree rule = written_tree rule (root rule)

module _ (rule : List ℕ) (formed : WellWritten rule) where
  abbrev numbers : ℕ → ℕ
  numbers = at (written_tree rule) (root_tree rule) (node_count rule) formed.fits

  result_formula : formula (normal_bytes rule) ≡ form numbers (root_tree rule) false
  unfolding formula normal_bytes
  result_formula =
      let look = written_tree rule in
      let t = root_tree rule in
      let m = node_count rule in
      let f = formed.fits in
      ap (tree (out look t m f)) (root_last look t m f) ∙ tree_form look t m f t m false f (root_within look t m f)

-- ---- the theorem
-- a lasso satisfies the normal form of a written rule exactly when it satisfies the rule
pub normal_form_holds : (rule out stem cycle : List ℕ) → normal_form rule ≡ accepted out → 0 < length cycle
    → Satisfies out stem cycle ↔ SatisfiesWritten rule stem cycle
unfolding Satisfies SatisfiesWritten
normal_form_holds rule out stem cycle e pos =
    let n = normal rule out e in
    let same = ap formula (sym n.same) ∙ result_formula rule n.formed in
    let round = letter_round stem cycle in
    rw same
    (says (length stem) (length cycle) pos (letter stem cycle) round (numbers rule n.formed) (root_tree rule) false 0)
