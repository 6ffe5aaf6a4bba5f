-- The obligations in a tree's covers and terms are nodes of the tree; so a term of an until's right side does not owe
-- the until. Assumes nothing.
use Prim.Native.Nat.{ℕ, ◌^◌, ◌<◌}
use mathlib.Core.Path.{sym, subst}
use mathlib.Core.Logic.{inl, inr}
use mathlib.Core.List.{[], ◌∷◌}
use mathlib.Core.Bool.{true}
use native.Mathlib.Omega.{arith}
use lib.Bits.{bit_or}
use lib.Dec.{ltb}
use Rattle.sets.specs.Sets.{union, In}
use Rattle.formula.specs.Formula.{Formula, bottom, top, proposition, negated_proposition, conjunction, disjunction}
use Rattle.formula.specs.Formula.{next}
use Rattle.formula.specs.Formula.{until, release}
use Rattle.term.specs.Term.{Term, term, less, joined, consistent, product, cover, terms}
use Rattle.sets.specs.Bits.{Has}
use Rattle.sets.proofs.Bits.{or_has, zero_has, has_pow}
use Rattle.sets.proofs.Members.{All, all_one, map_in}
use Rattle.correctness.proofs.Members.{all_union, all_product}
use Rattle.correctness.proofs.Runs.{Below}

-- the bits of d are below k
abbrev Low : ℕ → ℕ → Type 0
Low k d = (m : ℕ) → Has d m → m < k

low_none : (k : ℕ) → Low k 0
low_none k m b = absurd (zero_has b)

low_one : (k n : ℕ) → n < k → Low k (2 ^ n)
low_one k n l m b = omega (arith, has_pow n m b)

low_or : (k x y : ℕ) → Low k x → Low k y → Low k (bit_or x y)
low_or k x y p q m b = elim (or_has x y m b) [ inl c ↦ p m c | inr c ↦ q m c ]

cover_low : (k : ℕ) (g : Formula) → Below k g → All (Low k) (cover g)
unfolding cover
cover_low k bottom l = λ c h. absurd h
cover_low k top l = all_one (Low k) 0 (low_none k)
cover_low k (proposition n p) l = all_one (Low k) (2 ^ n) (low_one k n l)
cover_low k (negated_proposition n p) l = all_one (Low k) (2 ^ n) (low_one k n l)
cover_low k (conjunction a b) (p, q) =
    all_product ltb bit_or (λ _. true) (Low k) (low_or k) (cover a) (cover b) (cover_low k a p) (cover_low k b q)
cover_low k (disjunction a b) (p, q) = all_union ltb (Low k) (cover a) (cover b) (cover_low k a p) (cover_low k b q)
cover_low k (next n a) (l, p) = all_one (Low k) (2 ^ n) (low_one k n l)
cover_low k (until n a b) (l, p, q) = all_one (Low k) (2 ^ n) (low_one k n l)
cover_low k (release n a b) (l, p, q) = all_one (Low k) (2 ^ n) (low_one k n l)

abbrev LowTerm : ℕ → Term → Type 0
LowTerm k u = Low k u.obligations

low_joined : (k : ℕ) (x y : Term) → LowTerm k x → LowTerm k y → LowTerm k (joined x y)
low_joined k x y = low_or k x.obligations y.obligations

terms_low : (k : ℕ) (g : Formula) → Below k g → All (LowTerm k) (terms g)
unfolding terms
terms_low k bottom l = λ u h. absurd h
terms_low k top l = all_one (LowTerm k) (term 0 0 0) (low_none k)
terms_low k (proposition n p) l = all_one (LowTerm k) (term (2 ^ p) 0 0) (low_none k)
terms_low k (negated_proposition n p) l = all_one (LowTerm k) (term 0 (2 ^ p) 0) (low_none k)
terms_low k (conjunction a b) (p, q) =
    all_product less joined consistent (LowTerm k) (low_joined k) (terms a) (terms b) (terms_low k a p)
    (terms_low k b q)
terms_low k (disjunction a b) (p, q) =
    all_union less (LowTerm k) (terms a) (terms b) (terms_low k a p) (terms_low k b q)
terms_low k (next n a) (l, p) = λ u h.
    let (c, mc, e) = map_in (term 0 0) u (cover a) h in
    subst (LowTerm k) (sym e) (cover_low k a p c mc)
terms_low k (until n a b) (l, p, q) =
    all_union less (LowTerm k) (terms b) (product (terms a) (term 0 0 (2 ^ n) ∷ [])) (terms_low k b q)
    (all_product less joined consistent (LowTerm k) (low_joined k) (terms a) (term 0 0 (2 ^ n) ∷ []) (terms_low k a p)
    (all_one (LowTerm k) (term 0 0 (2 ^ n)) (low_one k n l)))
terms_low k (release n a b) (l, p, q) =
    all_product less joined consistent (LowTerm k) (low_joined k) (terms b)
    (union less (terms a) (term 0 0 (2 ^ n) ∷ [])) (terms_low k b q)
    (all_union less (LowTerm k) (terms a) (term 0 0 (2 ^ n) ∷ []) (terms_low k a p)
    (all_one (LowTerm k) (term 0 0 (2 ^ n)) (low_one k n l)))

-- no term of a tree whose numbers are below n owes n
pub terms_own : (n : ℕ) (g : Formula) → Below n g → (u : Term) → In u (terms g) → Has u.obligations n → ⊥
terms_own n g l u h b = omega (arith, terms_low n g l u h n b)
