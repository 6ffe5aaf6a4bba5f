-- R-3: a rule of kinds 0 to 8 alone means what it meant. Each node's written tree holds where its first-edition tree
-- does, by induction on the nodes; so normalizing, which merges constants, keeps the meaning too. Assumes nothing.
use Prim.Native.Nat.{ℕ, zero, suc, ◌<◌, ◌≤◌}
use mathlib.Core.Path.{◌≡◌}
use mathlib.Core.Bool.{false}
use mathlib.Core.Logic.Iff
use mathlib.Core.Logic.{◌↔◌}
use mathlib.Core.List.{List, [], ◌∷◌}
use native.Mathlib.Omega.{arith}
use native.Mathlib.Decide.{dec_lt}
use lib.ListN.{get_or, length, take, length-take, get_or-eq_default}
use lib.Seq.{get_or-take}
use Rattle.answer.specs.Result.{accepted}
use Rattle.lasso.specs.Lasso.{letter}
use Rattle.formula.specs.Rule.{node_count, kind_at, left_at, right_at, root, release_kind}
use Rattle.formula.specs.Formula.{Formula, bottom, build, trees, tree, formula}
use Rattle.formula.specs.Satisfaction.{Holds, Satisfies}
use Rattle.formula.proofs.Trees.{of_parts}
use Rattle.normalform.specs.Written.{Written, constant, build_written, written_tree, HoldsWritten, SatisfiesWritten}
use Rattle.normalform.specs.NormalForm.{normal_form}
use Rattle.normalform.proofs.Meaning.{either_same, until_same, release_same}
use Rattle.normalform.proofs.Holds.{normal_form_holds}

module _ (w : ℕ → ℕ) where
  -- f and t hold at the same positions
  abbrev Alike : (f : Formula) (t : Written) → Type 0
  Alike f t = (i : ℕ) → Holds w f i ↔ HoldsWritten w t i

  build_alike : (k n l : ℕ) (f g : Formula) (a b : Written) → k ≤ release_kind → Alike f a → Alike g b
      → Alike (build k n l f g) (build_written k n l a b)
  build_alike zero n l f g a b le x y i = Iff.rfl
  build_alike (suc zero) n l f g a b le x y i = Iff.rfl
  build_alike (suc (suc zero)) n l f g a b le x y i = Iff.rfl
  build_alike (suc (suc (suc zero))) n l f g a b le x y i = Iff.rfl
  build_alike (suc (suc (suc (suc zero)))) n l f g a b le x y i = Iff.and (x i) (y i)
  build_alike (suc (suc (suc (suc (suc zero))))) n l f g a b le x y i = either_same (x i) (y i)
  build_alike (suc (suc (suc (suc (suc (suc zero)))))) n l f g a b le x y i = x (suc i)
  build_alike (suc (suc (suc (suc (suc (suc (suc zero))))))) n l f g a b le x y i =
      until_same (HoldsWritten w a) (HoldsWritten w b) (Holds w f) (Holds w g) x y i
  build_alike (suc (suc (suc (suc (suc (suc (suc (suc zero)))))))) n l f g a b le x y i =
      release_same (HoldsWritten w a) (HoldsWritten w b) (Holds w f) (Holds w g) x y i
  build_alike (suc (suc (suc (suc (suc (suc (suc (suc (suc k))))))))) n l f g a b le x y i = absurd (omega arith)

  module _ (rule : List ℕ) (low : (n : ℕ) → n < node_count rule → kind_at rule n ≤ release_kind) where
    abbrev fs : List Formula
    fs = trees bottom build [] rule

    abbrev ts : List Written
    ts = trees (constant false) build_written [] rule

    abbrev AlikeAt : ℕ → Type 0
    AlikeAt n = Alike (get_or fs n bottom) (get_or ts n (constant false))

    -- what node n finds among the trees below it
    below_alike : (n x : ℕ) → ((k : ℕ) → k < n → AlikeAt k)
        → Alike (get_or (take n fs) x bottom) (get_or (take n ts) x (constant false))
    below_alike n x ih = go (dec_lt x n)
      where
        go : Dec (x < n) → Alike (get_or (take n fs) x bottom) (get_or (take n ts) x (constant false))
        go (yes l) = rw (get_or-take n fs x bottom l, get_or-take n ts x (constant false) l) (ih x l)
        go (no l) =
            rw (
              get_or-eq_default (take n fs) bottom {n = x} (omega (arith, length-take n fs)),
              get_or-eq_default (take n ts) (constant false) {n = x} (omega (arith, length-take n ts)),
            ) (λ i. Iff.rfl)

    node_alike : (bound n : ℕ) → n < bound → n < node_count rule → AlikeAt n
    node_alike zero n lt inside = absurd (omega arith)
    node_alike (suc bound) n lt inside =
        let ih : (k : ℕ) → k < n → AlikeAt k = λ k l. node_alike bound k (omega arith) (omega arith) in
        rw (of_parts bottom build rule n inside, of_parts (constant false) build_written rule n inside)
        (build_alike (kind_at rule n) n (left_at rule n) _ _ _ _ (low n inside)
        (below_alike n (left_at rule n) ih) (below_alike n (right_at rule n) ih))

  root_alike : (rule : List ℕ) → ((n : ℕ) → n < node_count rule → kind_at rule n ≤ release_kind)
      → Alike (formula rule) (written_tree rule (root rule))
  unfolding formula tree written_tree trees
  root_alike [] low i = Iff.rfl
  root_alike (k ∷ []) low i = Iff.rfl
  root_alike (k ∷ (l ∷ [])) low i = Iff.rfl
  root_alike (k ∷ (l ∷ (r ∷ rest))) low i =
      node_alike (k ∷ (l ∷ (r ∷ rest))) low (node_count (k ∷ (l ∷ (r ∷ rest)))) _ (omega arith) (omega arith) i

-- ---- the theorems
-- a lasso satisfies a rule of kinds 0 to 8 as a written rule exactly when it satisfies it as a first-edition rule
pub first_edition_same : (rule stem cycle : List ℕ) → ((n : ℕ) → n < node_count rule → kind_at rule n ≤ release_kind)
    → Satisfies rule stem cycle ↔ SatisfiesWritten rule stem cycle
unfolding Satisfies SatisfiesWritten
first_edition_same rule stem cycle low = root_alike (letter stem cycle) rule low 0

-- and its normal form exactly when it satisfies the rule
pub first_edition_kept : (rule out stem cycle : List ℕ)
    → ((n : ℕ) → n < node_count rule → kind_at rule n ≤ release_kind) → normal_form rule ≡ accepted out
    → 0 < length cycle
    → Satisfies out stem cycle ↔ Satisfies rule stem cycle
first_edition_kept rule out stem cycle low e pos =
    Iff.trans (normal_form_holds rule out stem cycle e pos) (Iff.symm (first_edition_same rule stem cycle low))
