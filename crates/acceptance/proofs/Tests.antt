-- The tests on packed terms say of numbers what the definitions say of terms.
-- Assumes nothing.
use mathlib.Core.Path.{◌≡◌, refl}
use mathlib.Core.Bool.{Bool, true, false, ◌&&◌, and_assoc}
use mathlib.Core.List.{List, map}
use Prim.Native.Nat.{ℕ}
use native.Mathlib.Omega.{arith}
use lib.Dec.{eqb}
use borrow.Author.Tests.{eq-eqb, ne_eqb, eqb-true, eqb-false}
use Rattle.sets.proofs.Members.{any_map}
use Rattle.formula.specs.Formula.{tree, InRange}
use Rattle.term.specs.Term.{Term, joined, terms}
use Rattle.term.specs.Memory.{pack, obligations_n, unpack}
use Rattle.term.proofs.Packing.{Bytes, of_terms, numbers_bytes, terms_numbers}
use Rattle.term.proofs.Unpacking.{pack_unpack, unpack_bytes}
use Rattle.acceptance.specs.Acceptance.{shows, fulfils}
use Rattle.acceptance.specs.Memory.{shows_n, fulfils_n}

-- one number is another where the three parts are
pub equal_parts : (x y : Term) → Bytes x → Bytes y
    → eqb (pack x) (pack y) ≡ (eqb x.must y.must && (eqb x.must_not y.must_not && eqb x.obligations y.obligations))
equal_parts x y g h =
    go (eqb x.must y.must) (eqb x.must_not y.must_not) (eqb x.obligations y.obligations) refl refl refl
  where
    go : (a b c : Bool) → eqb x.must y.must ≡ a → eqb x.must_not y.must_not ≡ b → eqb x.obligations y.obligations ≡ c
        → eqb (pack x) (pack y) ≡ (a && (b && c))
    go true true true p q r = eq-eqb (pack x) (pack y) (omega (arith, eqb-true))
    go true true false p q r = ne_eqb (pack x) (pack y) (λ e. eqb-false x.obligations y.obligations r (omega arith))
    go true false c p q r = ne_eqb (pack x) (pack y) (λ e. eqb-false x.must_not y.must_not q (omega arith))
    go false b c p q r = ne_eqb (pack x) (pack y) (λ e. eqb-false x.must y.must p (omega arith))

pack_obligations : (t : Term) → Bytes t → obligations_n (pack t) ≡ t.obligations
pack_obligations t g = omega arith

shows_packed : (f : ℕ) (t u : Term) → Bytes t → Bytes u → shows_n f (pack t) (pack u) ≡ shows f t u
unfolding shows
shows_packed f t u g h =
    rw (of_terms.joins u t h g, equal_parts (joined u t) t (of_terms.good u t h g) g, pack_obligations u h)
    (simp and_assoc)

fulfils_packed : (rule : List ℕ) (f : ℕ) (t : Term) → InRange (tree rule f) → Bytes t
    → fulfils_n f (map pack (terms (tree rule f))) (pack t) ≡ fulfils rule f t
unfolding fulfils
fulfils_packed rule f t range g =
    let bytes = numbers_bytes (terms_numbers (tree rule f) range) in
    let same = any_map pack (shows_n f (pack t)) (shows f t) (terms (tree rule f))
    (λ u m. shows_packed f t u g (bytes u m)) in
    rw (pack_obligations t g, same)

pub fulfils_number : (rule : List ℕ) (f t : ℕ) → InRange (tree rule f)
    → fulfils_n f (map pack (terms (tree rule f))) t ≡ fulfils rule f (unpack t)
fulfils_number rule f t range = rw (pack_unpack t) at (fulfils_packed rule f (unpack t) range (unpack_bytes t))
