-- Domination among terms and among packed terms: both fall in rank and can be followed on, and packing carries one to
-- the other. Assumes of packed terms that their must and must_not are bytes.
use mathlib.Core.Path.{◌≡◌, refl, sym, ap}
use mathlib.Core.Bool.{Bool, true, false, not, ◌&&◌, and-eq-true_iff, and_assoc, false≢true}
use mathlib.Core.List.{List, map}
use Prim.Native.Nat.{ℕ, ◌+◌, ◌≤◌, ◌<◌}
use native.Mathlib.Omega.{arith}
use lib.Dec.{eqb}
use lib.Bits.{bit_or, or_add_and, and_le_r}
use borrow.Author.Tests.{eqb-true, eq-eqb, ne_eqb, eqb-false, not-true}
use Rattle.sets.proofs.Members.{All}
use Rattle.sets.proofs.Bits.{or_sub, sub_or}
use Rattle.term.specs.Term.{Term, joined}
use Rattle.term.specs.Memory.{pack, unpack}
use Rattle.term.proofs.Packing.{Bytes, of_terms}
use Rattle.term.proofs.Unpacking.{unpack_pack}
use Rattle.acceptance.specs.Acceptance.{within, fulfilment}
use Rattle.acceptance.proofs.Tests.{equal_parts}
use Rattle.domination.specs.Domination.{same_term, dominates, undominated}
use Rattle.domination.specs.Memory.{dominates_n}
use Rattle.domination.proofs.Undominated.{undominated_map}

-- a set within another is no larger as a number
within_le : (x y : ℕ) → within x y ≡ true → x ≤ y
within_le x y e = omega (arith, eqb-true (bit_or x y) y e, or_add_and x y, and_le_r x y)

within_follows : (x y z : ℕ) → within x y ≡ true → within y z ≡ true → within x z ≡ true
within_follows x y z e f =
    let a = sub_or x y (eqb-true (bit_or x y) y e) in
    let b = sub_or y z (eqb-true (bit_or y z) z f) in
    eq-eqb (bit_or x z) z (or_sub x z (λ n h. b n (a n h)))

-- ---- packed terms
module _ (untils : ℕ → ℕ) where
  record NumberParts (u t : ℕ) : Type 0 where
    other : u ≡ t → ⊥
    asks : within u t ≡ true
    fulfils : within (untils t) (untils u) ≡ true

  number_parts : (u t : ℕ) → dominates_n untils u t ≡ true → NumberParts u t
  number_parts u t e =
      let (a, p) = (and-eq-true_iff (not (eqb u t)) _).0 e in
      let (b, q) = (and-eq-true_iff (within u t) _).0 p in
      record { other = eqb-false u t (not-true (eqb u t) a); asks = b; fulfils = q }

  parts_number : (u t : ℕ) → NumberParts u t → dominates_n untils u t ≡ true
  parts_number u t p =
      (and-eq-true_iff (not (eqb u t)) _).1
      (ap not (ne_eqb u t p.other), (and-eq-true_iff (within u t) _).1 (p.asks, p.fulfils))

  pub number_falls : (u t : ℕ) → dominates_n untils u t ≡ true → u < t
  number_falls u t e = let p = number_parts u t e in omega (arith, p.other, within_le u t p.asks)

  pub number_follows : (x y z : ℕ) → dominates_n untils x y ≡ true → dominates_n untils y z ≡ true
      → dominates_n untils x z ≡ true
  number_follows x y z e f =
      let p = number_parts x y e in
      let q = number_parts y z f in
      parts_number x z (record {
        other = λ s. omega (arith, number_falls x y e, number_falls y z f);
        asks = within_follows x y z p.asks q.asks;
        fulfils = within_follows (untils z) (untils y) (untils x) q.fulfils p.fulfils;
      })

-- ---- terms
-- all that a term asks, forbids and owes, as one number
abbrev pub rank : Term → ℕ
rank t = t.must + t.must_not + t.obligations

module _ (rule : List ℕ) where
  -- u dominates t, part by part
  pub record TermParts (u t : Term) : Type 0 where
    other : same_term u t ≡ false
    pub must : within u.must t.must ≡ true
    pub must_not : within u.must_not t.must_not ≡ true
    pub obligations : within u.obligations t.obligations ≡ true
    pub fulfils : within (fulfilment rule t) (fulfilment rule u) ≡ true

  pub term_parts : (u t : Term) → dominates rule u t ≡ true → TermParts u t
  unfolding dominates
  term_parts u t e =
      let (a, p) = (and-eq-true_iff (not (same_term u t)) _).0 e in
      let (b, q) = (and-eq-true_iff (within u.must t.must) _).0 p in
      let (c, r) = (and-eq-true_iff (within u.must_not t.must_not) _).0 q in
      let (d, f) = (and-eq-true_iff (within u.obligations t.obligations) _).0 r in
      record { other = not-true (same_term u t) a; must = b; must_not = c; obligations = d; fulfils = f }

  parts_term : (u t : Term) → TermParts u t → dominates rule u t ≡ true
  unfolding dominates
  parts_term u t p = rw (p.other, p.must, p.must_not, p.obligations) p.fulfils

  pub term_falls : (u t : Term) → dominates rule u t ≡ true → rank u < rank t
  term_falls u t e =
      let p = term_parts u t e in
      go (eqb u.must t.must) (eqb u.must_not t.must_not) (eqb u.obligations t.obligations) refl refl refl
      p.other (within_le _ _ p.must) (within_le _ _ p.must_not) (within_le _ _ p.obligations)
    where
      go : (a b c : Bool) → eqb u.must t.must ≡ a → eqb u.must_not t.must_not ≡ b
          → eqb u.obligations t.obligations ≡ c → (a && (b && c)) ≡ false
          → u.must ≤ t.must → u.must_not ≤ t.must_not → u.obligations ≤ t.obligations → rank u < rank t
      go true true true p q r e l m n = absurd (false≢true (sym e))
      go true true false p q r e l m n = omega (arith, eqb-false u.obligations t.obligations r)
      go true false c p q r e l m n = omega (arith, eqb-false u.must_not t.must_not q)
      go false b c p q r e l m n = omega (arith, eqb-false u.must t.must p)

  pub term_follows : (x y z : Term) → dominates rule x y ≡ true → dominates rule y z ≡ true
      → dominates rule x z ≡ true
  term_follows x y z e f =
      let p = term_parts x y e in
      let q = term_parts y z f in
      parts_term x z (record {
        other = other (same_term x z) refl;
        must = within_follows x.must y.must z.must p.must q.must;
        must_not = within_follows x.must_not y.must_not z.must_not p.must_not q.must_not;
        obligations = within_follows x.obligations y.obligations z.obligations p.obligations q.obligations;
        fulfils = within_follows (fulfilment rule z) (fulfilment rule y) (fulfilment rule x) q.fulfils p.fulfils;
      })
    where
      -- if x were z, its rank would be below itself
      other : (b : Bool) → same_term x z ≡ b → b ≡ false
      other false s = refl
      other true s =
          let (a, r) = (and-eq-true_iff (eqb x.must z.must) _).0 s in
          let (b, c) = (and-eq-true_iff (eqb x.must_not z.must_not) _).0 r in
          absurd (omega (
            arith,
            eqb-true x.must z.must a,
            eqb-true x.must_not z.must_not b,
            eqb-true x.obligations z.obligations c,
            term_falls x y e,
            term_falls y z f,
          ))

  -- No two terms dominate each other, so of two at least one stays (R-1, sentence 2).
  pub dominates_one_way : (u t : Term) → dominates rule u t ≡ true → dominates rule t u ≡ true → ⊥
  dominates_one_way u t e f = omega (arith, term_falls u t e, term_falls t u f)

  -- which untils a packed term fulfils
  abbrev pub untils_n : ℕ → ℕ
  untils_n t = fulfilment rule (unpack t)

  dominates_packed : (u t : Term) → Bytes u → Bytes t → dominates_n untils_n (pack u) (pack t) ≡ dominates rule u t
  unfolding dominates
  dominates_packed u t g h =
      rw (
        equal_parts u t g h,
        of_terms.joins u t g h,
        equal_parts (joined u t) t (of_terms.good u t g h) h,
        unpack_pack u g,
        unpack_pack t h,
      ) (simp and_assoc)

  -- sifting packed terms is sifting terms
  pub undominated_packed : (ts : List Term) → All Bytes ts
      → undominated (dominates_n untils_n) (map pack ts) ≡ map pack (undominated (dominates rule) ts)
  undominated_packed ts bytes =
      undominated_map pack (dominates_n untils_n) (dominates rule) ts
      (λ u t m n. dominates_packed u t (bytes u m) (bytes t n))
