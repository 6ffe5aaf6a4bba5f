-- Pairs by number and numbers by code: what the table of numbers says of a code, and how a pair takes the next number.
-- Assumes nothing.
use mathlib.Core.Path.{◌≡◌, refl, ◌∙◌}
use mathlib.Core.List.{List, [], ◌∷◌, ◌++◌}
use mathlib.Core.Bool.{Bool, true, false, cond}
use mathlib.Core.Logic.{inl, inr}
use Prim.Native.Nat.{ℕ, suc, ◌+◌, ◌-◌, ◌≤◌, ◌<◌}
use native.Mathlib.Numerals.{add-one}
use native.Mathlib.Decide.{ℕ_discrete, dec_lt}
use native.Mathlib.Omega.{arith}
use lib.ListN.{length, get_or, take, set, replicate, length-set, length-replicate, get_or-replicate}
use lib.Seq.{take-suc-set, get_or-set_same, get_or-set_other, length-take-le}
use lib.Dec.{eqb, ltb}
use borrow.Author.Tests.{eq-eqb, lt-ltb, le-ltb, eqb-true}
use Rattle.sets.specs.Sets.{In}
use Rattle.generalized.specs.Explore.{find}
use Rattle.generalized.proofs.Numbers.{find_stays}
use Rattle.automaton.specs.Limits.{max_states}
use Rattle.translation.specs.Memory.{code_places, PairsNumbered}

-- ---- places of one more

module _ {A : Type 0} (same : A → A → Bool) where
  find_behind : (x : A) (xs ys : List A) → length xs ≤ find same x xs
      → find same x (xs ++ ys) ≡ length xs + find same x ys
  unfolding find
  find_behind x [] ys le = omega arith
  find_behind x (y ∷ xs) ys le = go (same x y) le (λ l. find_behind x xs ys l)
    where
      go : (b : Bool) → suc (length xs) ≤ elim b [ true ↦ 0 | false ↦ suc (find same x xs) ]
          → (length xs ≤ find same x xs → find same x (xs ++ ys) ≡ length xs + find same x ys)
          → elim b [ true ↦ 0 | false ↦ suc (find same x (xs ++ ys)) ] ≡ suc (length xs) + find same x ys
      go true l ih = absurd (omega arith)
      go false l ih = omega (arith, ih (omega arith))

-- a number that none of xs is has no place among them
pub find_none : (x : ℕ) (xs : List ℕ) → ((y : ℕ) → In y xs → x ≡ y → ⊥) → length xs ≤ find eqb x xs
unfolding find
find_none x [] other = omega arith
find_none x (y ∷ xs) other = go (eqb x y) refl (find_none x xs (λ z h. other z (inr h)))
  where
    go : (b : Bool) → eqb x y ≡ b → length xs ≤ find eqb x xs
        → suc (length xs) ≤ elim b [ true ↦ 0 | false ↦ suc (find eqb x xs) ]
    go true e le = absurd (other y (inl refl) (eqb-true x y e))
    go false e le = omega arith

-- ---- the tables

pub numbered_begins : (pairs index : List ℕ) → length pairs ≡ max_states → index ≡ replicate code_places 0
    → PairsNumbered pairs index 0
numbered_begins pairs index room e = record {
  room = room;
  size = rw e (length-replicate {A = ℕ} code_places 0);
  few = omega arith;
  number = λ code lt. rw (
    e,
    get_or-replicate {A = ℕ} code_places code 0 0 lt,
    le-ltb (find eqb code (take 0 pairs)) 0
        (omega arith),
  );
}

module _ (pairs index : List ℕ) (n : ℕ) (inv : PairsNumbered pairs index n) (code : ℕ) (lt : code < code_places) where
  known_number : find eqb code (take n pairs) < n → get_or index code 0 ≡ suc (find eqb code (take n pairs))
  known_number l = inv.number code lt ∙ rw (lt-ltb (find eqb code (take n pairs)) n l)

  pub number_is : find eqb code (take n pairs) < n → get_or index code 0 - 1 ≡ find eqb code (take n pairs)
  number_is l = omega (arith, known_number l)

  pub unseen : get_or index code 0 ≡ 0 → n ≤ find eqb code (take n pairs)
  unseen e = go (dec_lt (find eqb code (take n pairs)) n)
    where
      go : Dec (find eqb code (take n pairs) < n) → n ≤ find eqb code (take n pairs)
      go (yes l) = absurd (omega (arith, known_number l))
      go (no ge) = omega arith

  pub seen : (get_or index code 0 ≡ 0 → ⊥) → find eqb code (take n pairs) < n
  seen some = go (dec_lt (find eqb code (take n pairs)) n)
    where
      go : Dec (find eqb code (take n pairs) < n) → find eqb code (take n pairs) < n
      go (yes l) = l
      go (no ge) = absurd (some (inv.number code lt ∙ rw (le-ltb (find eqb code (take n pairs)) n (omega arith))))

  module _ (room : n < max_states) (late : n ≤ find eqb code (take n pairs)) where
    inside : n < length pairs
    inside = omega (arith, inv.room)

    pairs_more : take (n + 1) (set pairs n code) ≡ take n pairs ++ (code ∷ [])
    pairs_more = rw (add-one n, take-suc-set pairs n code inside)

    before : length (take n pairs) ≡ n
    before = length-take-le n pairs (omega (arith, inside))

    pub number_more : PairsNumbered (set pairs n code) (set index code (n + 1)) (n + 1)
    unfolding find
    number_more = record {
      room = length-set pairs n code ∙ inv.room;
      size = length-set index code (n + 1) ∙ inv.size;
      few = omega arith;
      number = λ other l. rw pairs_more
          (each other l (ℕ_discrete other code) (dec_lt (find eqb other (take n pairs)) n));
    }
      where
        each : (other : ℕ) → other < code_places → Dec (other ≡ code) → Dec (find eqb other (take n pairs) < n)
            → get_or (set index code (n + 1)) other 0 ≡ cond (ltb (find eqb other (take n pairs ++ (code ∷ []))) (n + 1)) (suc (find eqb other (take n pairs ++ (code ∷ [])))) 0
        each other l (yes e) d =
            let last : find eqb code (take n pairs ++ (code ∷ [])) ≡ n =
            find_behind eqb code (take n pairs) (code ∷ []) (omega (arith, before)) ∙ rw
            (before, find, eq-eqb code code refl) (omega arith) in
            rw (
              e,
              get_or-set_same index code (n + 1) 0 (omega (arith, inv.size)),
              last,
              lt-ltb n (n + 1) (omega arith),
              add-one,
            )
        each other l (no ne) (yes f) =
            let same : find eqb other (take n pairs ++ (code ∷ [])) ≡ find eqb other (take n pairs) =
            find_stays eqb other (take n pairs) (code ∷ []) (omega (arith, before)) in
            rw (
              get_or-set_other index code other (n + 1) 0 ne,
              same,
              lt-ltb (find eqb other (take n pairs)) (n + 1)
                  (omega arith),
              inv.number other l,
              lt-ltb (find eqb other (take n pairs)) n f,
            )
        each other l (no ne) (no ge) =
            let most : n + 1 ≤ find eqb other (take n pairs ++ (code ∷ [])) =
            rw (find_behind eqb other (take n pairs) (code ∷ []) (omega (arith, before)))
            (omega (arith, before, find_none other (code ∷ []) (λ y h. absurd_other y h))) in
            rw (
              get_or-set_other index code other (n + 1) 0 ne,
              le-ltb (find eqb other (take n pairs ++ (code ∷ [])))
                  (n + 1) most,
              inv.number other l,
              le-ltb (find eqb other (take n pairs)) n (omega arith),
            )
          where
            absurd_other : (y : ℕ) → In y (code ∷ []) → other ≡ y → ⊥
            absurd_other y (inl e) f = ne (f ∙ e)
            absurd_other y (inr h) f = h
