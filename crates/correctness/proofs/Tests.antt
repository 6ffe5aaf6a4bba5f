-- What the tests of the definitions say: when a transition reads a letter, and when a term fulfils an until.
-- Assumes nothing.
use Prim.Native.Nat.{ℕ}
use mathlib.Core.Path.{◌≡◌, ap}
use mathlib.Core.Logic.{◌⊎◌, inl, inr, ◌↔◌}
use mathlib.Core.List.{List}
use mathlib.Core.Bool.{true, not, and-eq-true_iff}
use lib.Dec.{eqb}
use lib.Bits.{bit_or}
use borrow.Author.Tests.{eqb-true, eq-eqb, ne_eqb, not-true}
use Rattle.sets.specs.Sets.{any}
use Rattle.formula.specs.Formula.{tree}
use Rattle.sets.specs.Bits.{has, Has}
use Rattle.term.specs.Term.{Term, terms}
use Rattle.acceptance.specs.Acceptance.{within, shows, fulfils}
use Rattle.automaton.specs.Automaton.{reads}
use Rattle.sets.proofs.Members.{or_iff, any_iff}
use Rattle.sets.proofs.Bits.{Sub, has_false, and_disjoint, disjoint_and, or_sub, sub_or}
use Rattle.correctness.proofs.Runs.{Reads, Within, Fulfilling}

pub within_iff : (x y : ℕ) → within x y ≡ true ↔ Sub x y
within_iff x y = (λ e. sub_or x y (eqb-true (bit_or x y) y e), λ s. eq-eqb (bit_or x y) y (or_sub x y s))

lacks_iff : (d n : ℕ) → not (has d n) ≡ true ↔ (Has d n → ⊥)
lacks_iff d n = (λ q. has_false d n (not-true (has d n) q), λ h. ap not (ne_eqb _ 1 (λ q. h (record { set = q }))))

shows_iff : (f : ℕ) (t u : Term) → shows f t u ≡ true ↔ (Within u t × (Has u.obligations f → ⊥))
unfolding shows
shows_iff f t u = (there, back)
  where
    there : shows f t u ≡ true → Within u t × (Has u.obligations f → ⊥)
    there e =
        let (a, p) = (and-eq-true_iff (within u.must t.must) _).0 e in
        let (b, q) = (and-eq-true_iff (within u.must_not t.must_not) _).0 p in
        let (c, r) = (and-eq-true_iff (within u.obligations t.obligations) _).0 q in (
          record {
            must = (within_iff u.must t.must).0 a;
            must_not = (within_iff u.must_not t.must_not).0 b;
            obligations
                = (within_iff u.obligations t.obligations).0 c;
          },
          (lacks_iff u.obligations f).0 r,
        )

    back : Within u t × (Has u.obligations f → ⊥) → shows f t u ≡ true
    back (k, h) =
        (and-eq-true_iff (within u.must t.must) _).1 (
          (within_iff u.must t.must).1 k.must,
          (and-eq-true_iff (within u.must_not t.must_not) _).1 (
            (within_iff u.must_not t.must_not).1 k.must_not,
            (and-eq-true_iff (within u.obligations t.obligations) _).1
                ((within_iff u.obligations t.obligations).1 k.obligations, (lacks_iff u.obligations f).1 h),
          ),
        )

pub fulfils_iff : (rule : List ℕ) (f : ℕ) (t : Term) → fulfils rule f t ≡ true ↔ Fulfilling f (tree rule f) t
unfolding fulfils
fulfils_iff rule f t = (there, back)
  where
    one : fulfils rule f t ≡ true ↔ ((not (has t.obligations f) ≡ true) ⊎ (any (shows f t) (terms (tree rule f)) ≡ true))
    one = or_iff (not (has t.obligations f)) (any (shows f t) (terms (tree rule f)))

    there : fulfils rule f t ≡ true → Fulfilling f (tree rule f) t
    there e = elim (one.0 e) [
      | inl p ↦ inl ((lacks_iff t.obligations f).0 p)
      | inr p ↦ (let (u, m, q) = (any_iff (shows f t) (terms (tree rule f))).0 p in let (k, h) = (shows_iff f t u).0 q
          in inr (u, m, k, h))
    ]

    back : Fulfilling f (tree rule f) t → fulfils rule f t ≡ true
    back (inl h) = one.1 (inl ((lacks_iff t.obligations f).1 h))
    back (inr (u, m, k, h)) =
        one.1 (inr ((any_iff (shows f t) (terms (tree rule f))).1 (u, m, (shows_iff f t u).1 (k, h))))

-- the transition of term t, whatever its target
pub reads_iff : (t : Term) (target letter : ℕ)
    → reads (record { must = t.must; must_not = t.must_not; target = target }) letter ≡ true ↔ Reads t letter
reads_iff t target letter = (
  λ e.
      let (p, q) = (and-eq-true_iff (eqb (bit_or t.must letter) letter) _).0 e in
      record { set = (within_iff t.must letter).0 p; clear = disjoint_and t.must_not letter (eqb-true _ 0 q) },
  λ r.
      (and-eq-true_iff (eqb (bit_or t.must letter) letter) _).1
      ((within_iff t.must letter).1 r.set, eq-eqb _ 0 (and_disjoint t.must_not letter r.clear)),
)
