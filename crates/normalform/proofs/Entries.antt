-- The bytes of a node in a sense, by its kind, and of a constant's code, as the code of the crate computes them.
-- Assumes nothing.
use Prim.Native.Nat.{ℕ, ◌<◌}
use mathlib.Core.Path.{◌≡◌, refl, sym, ◌∙◌, ap}
use mathlib.Core.Bool.{Bool}
use mathlib.Core.List.{List, [], ◌∷◌}
use mathlib.Core.Logic.{◌⊎◌, inl, inr}
use native.Mathlib.Omega.{arith}
use native.Mathlib.Decide.{ℕ_discrete}
use Rattle.formula.specs.declared.kind.Kind.{Kind}
use Rattle.formula.specs.declared.kind.Kind.TheVariants.{Proposition, NegatedProposition, And, Or, Next}
use Rattle.formula.specs.declared.kind.Kind.TheVariants.{Until, Release, Implies, Always, Eventually}
use Rattle.formula.specs.Kind.{kind_number}
use Rattle.formula.specs.Rule.{kind_at, left_at, right_at}
use Rattle.normalform.specs.Written.{Written, build_written, written_tree}
use Rattle.normalform.specs.NormalForm.{entry, subject, sense}
use Rattle.normalform.specs.Memory.{node_code, constant_code, left_turned, form_kind}
use Rattle.normalform.proofs.Fitting.{WrittenNode, leaf_tree, inner_built}
use Rattle.normalform.proofs.Arms.{Paired}

abbrev three : (kind left right : ℕ) → List ℕ
three kind left right = kind ∷ (left ∷ (right ∷ []))

-- f has the numbers of the codes
module _ (f : ℕ → ℕ) {rule : List ℕ} {n : ℕ} (node : WrittenNode rule n) (s : Bool) where
  abbrev bytes : List ℕ
  bytes = entry f (written_tree rule n) s

  -- of a node of a known kind
  leaf_is : (k : ℕ) → kind_at rule n ≡ k → (xs : List ℕ)
      → ((a b : Written) → xs ≡ entry f (build_written k n (left_at rule n) a b) s) → xs ≡ bytes
  leaf_is k e xs h =
      let (a, b, tree) = leaf_tree rule n node in
      h a b ∙ rw (tree, e)

  inner_is : (k : ℕ) → kind_at rule n ≡ k → 3 < k
      → entry f (build_written k n (left_at rule n) (written_tree rule (left_at rule n))
      (written_tree rule (right_at rule n))) s ≡ bytes
  inner_is k e inner =
      let tree = inner_built rule n node k (left_at rule n) e refl (right_at rule n) refl inner in
      ap (λ (t : Written). entry f t s) (sym tree)

  module _ (kind : Kind) (ek : kind_number kind ≡ kind_at rule n) {new : ℕ}
      (en : new ≡ form_kind (kind_number kind) s) where
    here : (k : Kind) → kind ≡ k → kind_at rule n ≡ kind_number k
    here k e = sym ek ∙ ap kind_number e

    pub leaf_made : (kind ≡ Proposition) ⊎ (kind ≡ NegatedProposition) → three new (left_at rule n) 0 ≡ bytes
    unfolding entry
    leaf_made (inl e) = rw (en, e) (leaf_is 2 (here Proposition e) _ (λ a b. refl))
    leaf_made (inr e) = rw (en, e) (leaf_is 3 (here NegatedProposition e) _ (λ a b. refl))

    module _ {l : ℕ} (el : l ≡ left_at rule n) {b : ℕ} where
      pub next_made : kind ≡ Next → b ≡ f (node_code rule l s) → three new b 0 ≡ bytes
      unfolding entry
      next_made e eb = rw (en, eb, el, e) (inner_is 6 (here Next e) (omega arith))

      pub future_made : (kind ≡ Always) ⊎ (kind ≡ Eventually) → {a : ℕ} → a ≡ f (constant_code (kind_number kind) s)
          → b ≡ f (node_code rule l s) → three new a b ≡ bytes
      unfolding entry
      future_made (inl e) ea eb = rw (en, ea, eb, el, e) (inner_is 11 (here Always e) (omega arith))
      future_made (inr e) ea eb = rw (en, ea, eb, el, e) (inner_is 12 (here Eventually e) (omega arith))

      pub both_made : (kind ≡ Implies) ⊎ Paired kind → {t : Bool} → t ≡ left_turned (kind_number kind) s
          → b ≡ f (node_code rule l t) → {r : ℕ} → r ≡ right_at rule n → {a : ℕ} → a ≡ f (node_code rule r s)
          → three new b a ≡ bytes
      unfolding entry
      both_made (inl e) et eb er ea = rw (en, eb, ea, et, el, er, e) (inner_is 10 (here Implies e) (omega arith))
      both_made (inr (inl e)) et eb er ea = rw (en, eb, ea, et, el, er, e) (inner_is 4 (here And e) (omega arith))
      both_made (inr (inr (inl e))) et eb er ea =
          rw (en, eb, ea, et, el, er, e) (inner_is 5 (here Or e) (omega arith))
      both_made (inr (inr (inr (inl e)))) et eb er ea =
          rw (en, eb, ea, et, el, er, e) (inner_is 7 (here Until e) (omega arith))
      both_made (inr (inr (inr (inr e)))) et eb er ea =
          rw (en, eb, ea, et, el, er, e) (inner_is 8 (here Release e) (omega arith))

-- the bytes of a constant's code
pub constant_made : (f : ℕ → ℕ) (look : ℕ → Written) (c : ℕ) → c < 2
    → three c 0 0 ≡ entry f (subject look c) (sense c)
unfolding entry
constant_made f look c lt = go (ℕ_discrete c 0)
  where
    go : Dec (c ≡ 0) → three c 0 0 ≡ entry f (subject look c) (sense c)
    go (yes z) = rw z
    go (no d) =
        let z : c ≡ 1 = omega arith in
        rw z
