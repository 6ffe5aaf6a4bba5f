-- The packed terms of a formula rise and are consistent: each list is made by inserting what is.
-- Assumes nothing.
use mathlib.Core.Path.{◌≡◌}
use mathlib.Core.List.{[], ◌∷◌, map}
use Prim.Native.Nat.{ℕ, ◌*◌, ◌/◌, ◌%◌, ◌^◌, ◌<◌}
use native.Mathlib.Omega.{arith}
use lib.Bits.{bit_or, and_zero_r}
use lib.Pow.{pow-lt}
use Rattle.sets.specs.Sets.{insert_product_n, product_conflicts_n}
use Rattle.sets.proofs.Rising.{Rising, Consistent, union_rises, product_rises, product_zero}
use Rattle.sets.proofs.Conflicts.{product_apart}
use Rattle.formula.specs.Limits.{propositions}
use Rattle.formula.specs.Formula.{Formula, bottom, top, proposition, negated_proposition, conjunction, disjunction}
use Rattle.formula.specs.Formula.{next}
use Rattle.formula.specs.Formula.{until, release, InRange}
use Rattle.term.specs.Term.{cover, terms}
use Rattle.term.specs.Memory.{pack, pack_set}
use Rattle.term.proofs.Packing.{set_drops, pack_must, pack_must_not, pack_unions, pack_union, pack_owing}
use Rattle.term.proofs.Packing.{pack_conjunction, pack_disjunction, pack_until, pack_release}

-- a join that is kept is consistent
kept : (x y : ℕ) → Consistent x → Consistent y → Consistent (bit_or x y) → Consistent (bit_or x y)
kept x y p q e = e

one_rises : (t : ℕ) → Consistent t → Rising Consistent 0 (t ∷ [])
one_rises t c = (omega arith, c, tt)

pub cover_rises : (f : Formula) → Rising Consistent 0 (map pack_set (cover f))
unfolding cover
cover_rises bottom = tt
cover_rises top = one_rises _ (set_drops 0)
cover_rises (proposition n p) = one_rises _ (set_drops (2 ^ n))
cover_rises (negated_proposition n p) = one_rises _ (set_drops (2 ^ n))
cover_rises (conjunction a b) =
    rw (pack_unions (cover a) (cover b)) (product_rises Consistent kept 0 0 _ _ _ (cover_rises a) (cover_rises b) tt)
cover_rises (disjunction a b) =
    rw (pack_union (cover a) (cover b)) (union_rises Consistent 0 _ _ (cover_rises a) (cover_rises b))
cover_rises (next n a) = one_rises _ (set_drops (2 ^ n))
cover_rises (until n a b) = one_rises _ (set_drops (2 ^ n))
cover_rises (release n a b) = one_rises _ (set_drops (2 ^ n))

-- a term that asks propositions alone, and one that forbids them alone
asking : (m : ℕ) → Consistent (m * 256)
asking m =
    let e : m * 256 % 256 ≡ 0 = omega arith in
    rw (e, and_zero_r)

forbidding : (m : ℕ) → m < 256 → Consistent m
forbidding m lt =
    let e : m / 256 ≡ 0 = omega arith in
    rw e

pub terms_rise : (f : Formula) → InRange f → Rising Consistent 0 (map pack (terms f))
unfolding terms InRange
terms_rise bottom m = tt
terms_rise top m = one_rises _ (set_drops 0)
terms_rise (proposition n p) m = rw (pack_must (2 ^ p)) (one_rises _ (asking (2 ^ p)))
terms_rise (negated_proposition n p) m =
    rw (pack_must_not (2 ^ p)) (one_rises _ (forbidding (2 ^ p) (omega (arith, pow-lt {j = propositions} m))))
terms_rise (conjunction a b) m =
    rw (pack_conjunction 0 a b m.0 m.1)
    (product_rises Consistent kept 0 0 _ _ _ (terms_rise a m.0) (terms_rise b m.1) tt)
terms_rise (disjunction a b) m =
    rw (pack_disjunction 0 a b m.0 m.1) (union_rises Consistent 0 _ _ (terms_rise a m.0) (terms_rise b m.1))
terms_rise (next n a) m = rw (pack_owing (cover a)) (cover_rises a)
terms_rise (until n a b) m =
    rw (pack_until n a b m.0 m.1) (union_rises Consistent 0 _ _ (terms_rise b m.1)
    (product_rises Consistent kept 0 0 _ _ _ (terms_rise a m.0) (one_rises _ (set_drops (2 ^ n))) tt))
terms_rise (release n a b) m =
    rw (pack_release n a b m.0 m.1)
    (product_rises Consistent kept 0 0 _ _ _ (terms_rise b m.1)
    (union_rises Consistent 0 _ _ (terms_rise a m.0) (one_rises _ (set_drops (2 ^ n)))) tt)

-- a product begun with the term that asks nothing: no join is dropped
pub product_one : (f : Formula) → InRange f → insert_product_n (0 ∷ []) (map pack (terms f)) [] ≡ map pack (terms f)
product_one f m = product_zero 0 (map pack (terms f)) (terms_rise f m)

pub product_one_apart : (f : Formula) → InRange f → product_conflicts_n (0 ∷ []) (map pack (terms f)) ≡ 0
product_one_apart f m = product_apart 0 (map pack (terms f)) (terms_rise f m)
