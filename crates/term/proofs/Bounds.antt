-- The bound of a cover, by the kind of a node: a union has at most the sum of the sizes, a product their product.
-- Assumes nothing.
use mathlib.Core.Path.{◌≡◌, refl, sym, ◌∙◌}
use mathlib.Core.List.{List, []}
use mathlib.Core.Bool.{true}
use Prim.Native.Nat.{ℕ, suc, ◌+◌, ◌*◌, ◌≤◌, ◌<◌, min}
use native.Mathlib.Omega.{arith}
use native.Mathlib.Nat.{mul-le-mul, one-le-mul, mul-le-mul_left, mul-le-mul_right}
use lib.ListN.{length, get_or, set}
use lib.Seq.{get_or-set_same, get_or-set_other}
use lib.Dec.{ltb}
use lib.Bits.{bit_or}
use borrow.Author.Count.{below_more}
use Rattle.sets.proofs.Inserts.{union_shorter, product_shorter}
use Rattle.formula.specs.declared.kind.Kind.{Kind}
use Rattle.formula.specs.declared.kind.Kind.TheVariants.{False, True, Proposition, NegatedProposition, And, Or, Next}
use Rattle.formula.specs.declared.kind.Kind.TheVariants.{Until, Release, Not, Implies, Always, Eventually}
use Rattle.formula.specs.Kind.{kind_number}
use Rattle.formula.specs.Formula.{Formula, bottom, top, proposition, negated_proposition, conjunction, disjunction}
use Rattle.formula.specs.Formula.{next}
use Rattle.formula.specs.Formula.{until, release, build, tree}
use Rattle.term.specs.Limits.{max_terms}
use Rattle.term.specs.Term.{cover}
use Rattle.term.specs.Memory.{cover_bound, BoundedBelow}
use Rattle.term.proofs.Sizes.{Ready, left_lower, right_lower, of_leaf, of_pair}
use Rattle.formula.specs.Rule.{kind_at, left_at, right_at}

pub bounds : (f : Formula) → (1 ≤ cover_bound f) × (cover_bound f ≤ suc max_terms)
unfolding cover_bound
bounds bottom = omega arith
bounds top = omega arith
bounds (proposition n p) = omega arith
bounds (negated_proposition n p) = omega arith
bounds (conjunction a b) = omega (arith, one-le-mul (bounds a).0 (bounds b).0)
bounds (disjunction a b) = omega (arith, bounds a)
bounds (next n a) = omega arith
bounds (until n a b) = omega arith
bounds (release n a b) = omega arith

-- a product of numbers from 1 on is no smaller than either
factors_few : (a b : ℕ) → 1 ≤ a → 1 ≤ b → a * b ≤ max_terms → (a ≤ max_terms) × (b ≤ max_terms)
factors_few a b p q le = (omega (arith, mul-le-mul_left a q), omega (arith, mul-le-mul_right b p))

pub cover_bounded : (f : Formula) → cover_bound f ≤ max_terms → length (cover f) ≤ cover_bound f
unfolding cover_bound cover
cover_bounded bottom le = omega arith
cover_bounded top le = omega arith
cover_bounded (proposition n p) le = omega arith
cover_bounded (negated_proposition n p) le = omega arith
cover_bounded (conjunction a b) le =
    let few = factors_few (cover_bound a) (cover_bound b) (bounds a).0 (bounds b).0 (omega arith) in
    omega (
      arith,
      product_shorter ltb bit_or (λ _. true) (cover a) (cover b) [],
      mul-le-mul (cover_bounded a few.0)
          (cover_bounded b few.1),
    )
cover_bounded (disjunction a b) le =
    let few = cover_bounded a (omega (arith, bounds b)) in
    omega (arith, union_shorter ltb (cover a) (cover b), few, cover_bounded b (omega (arith, bounds a)))
cover_bounded (next n a) le = omega arith
cover_bounded (until n a b) le = omega arith
cover_bounded (release n a b) le = omega arith

-- by the kind
module _ (n p : ℕ) (f g : Formula) (k : ℕ) where
  bound_and : k ≡ 4 → cover_bound (build k n p f g) ≡ min (suc max_terms) (cover_bound f * cover_bound g)
  unfolding cover_bound
  bound_and e = rw e

  bound_or : k ≡ 5 → cover_bound (build k n p f g) ≡ min (suc max_terms) (cover_bound f + cover_bound g)
  unfolding cover_bound
  bound_or e = rw e

bound_leaf : (n p : ℕ) (f g : Formula) (kind : Kind) → (kind ≡ And → ⊥) → (kind ≡ Or → ⊥)
    → cover_bound (build (kind_number kind) n p f g) ≡ 1
unfolding cover_bound
bound_leaf n p f g False a b = refl
bound_leaf n p f g True a b = refl
bound_leaf n p f g Proposition a b = refl
bound_leaf n p f g NegatedProposition a b = refl
bound_leaf n p f g And a b = absurd (a refl)
bound_leaf n p f g Or a b = absurd (b refl)
bound_leaf n p f g Next a b = refl
bound_leaf n p f g Until a b = refl
bound_leaf n p f g Release a b = refl
bound_leaf n p f g Not a b = refl
bound_leaf n p f g Implies a b = refl
bound_leaf n p f g Always a b = refl
bound_leaf n p f g Eventually a b = refl

-- the bound of a node n by those of its children, which stand among bounds
module _ {rule : List ℕ} {n k l r : ℕ} (ready : Ready rule n) (places : List ℕ) (below : BoundedBelow rule n places)
    (ek : k ≡ kind_at rule n) (el : l ≡ left_at rule n) (er : r ≡ right_at rule n) where
  left_bound : 3 < k → get_or places l 0 ≡ cover_bound (tree rule l)
  left_bound inner = below l (left_lower ready ek el inner)

  right_bound : 3 < k → get_or places r 0 ≡ cover_bound (tree rule r)
  right_bound inner = below r (right_lower ready ek er inner)

  pub children_bounded : 3 < k → (get_or places l 0 ≤ suc max_terms) × (get_or places r 0 ≤ suc max_terms)
  children_bounded inner =
      (omega (arith, left_bound inner, bounds (tree rule l)), omega (arith, right_bound inner, bounds (tree rule r)))

  module _ {bound : ℕ} where
    pub bound_of_and : k ≡ 4 → bound ≡ min (suc max_terms) (get_or places l 0 * get_or places r 0)
        → bound ≡ cover_bound (tree rule n)
    bound_of_and e is =
        of_pair ready ek (λ f. bound ≡ cover_bound f) el er (omega arith)
        (rw (bound_and n l _ _ k e, ← left_bound (omega arith), ← right_bound (omega arith)) is)

    pub bound_of_or : k ≡ 5 → bound ≡ min (suc max_terms) (get_or places l 0 + get_or places r 0)
        → bound ≡ cover_bound (tree rule n)
    bound_of_or e is =
        of_pair ready ek (λ f. bound ≡ cover_bound f) el er (omega arith)
        (rw (bound_or n l _ _ k e, ← left_bound (omega arith), ← right_bound (omega arith)) is)

pub bound_of_other : {rule : List ℕ} {n : ℕ} {kind : Kind} → Ready rule n → kind_number kind ≡ kind_at rule n
    → (kind ≡ And → ⊥) → (kind ≡ Or → ⊥) → 1 ≡ cover_bound (tree rule n)
bound_of_other {rule} {n} {kind} ready ek a b =
    of_leaf ready ek (λ f. 1 ≡ cover_bound f) refl (λ f g. sym (bound_leaf n _ f g kind a b))

-- the bound of one node more
pub bounded_more : (rule bounds : List ℕ) (i v : ℕ) → i < length bounds → BoundedBelow rule i bounds
    → v ≡ cover_bound (tree rule i)
    → BoundedBelow rule (i + 1) (set bounds i v)
bounded_more rule bounds i v lt done e =
    below_more _ i (λ k l. get_or-set_other bounds i k v 0 (λ f. omega arith) ∙ done k l)
    (get_or-set_same bounds i v 0 lt ∙ e)
