-- Where each letter that remains stands, and what stands there; the search for it, letter by letter. Assumes nothing.
use Prim.Native.Nat.{ℕ, zero, suc, ◌+◌, ◌-◌, ◌<◌, ◌≤◌}
use mathlib.Core.Path.{◌≡◌, refl, sym, ◌∙◌, ap}
use mathlib.Core.List.{List, [], ◌∷◌}
use mathlib.Core.Bool.{Bool, true, false, cond}
use native.Mathlib.Omega.{arith}
use native.Mathlib.Numerals.{add-one}
use lib.ListN.{get_or, length, drop, length-drop}
use lib.Seq.{drop-cons}
use lib.Dec.{ltb}
use borrow.Author.Tests.{lt-ltb, le-ltb}
use Rattle.lasso.specs.Lasso.{skipped, remains, remaining}
use Rattle.lasso.proofs.Skipping.{remaining_kept, remaining_skipped}
use Rattle.place.specs.Place.{place_in, place_of}

pub place_few : (xs : List ℕ) (i : ℕ) → place_in xs i ≤ length xs
unfolding place_in
place_few [] i = omega arith
place_few (x ∷ xs) zero = go (remains x) (place_few xs zero)
  where
    go : (b : Bool) → place_in xs zero ≤ length xs → cond b zero (suc (place_in xs zero)) ≤ suc (length xs)
    go true ih = omega arith
    go false ih = omega arith
place_few (x ∷ xs) (suc i) = omega (arith, place_few xs (cond (remains x) i (suc i)))

module _ (x : ℕ) (xs : List ℕ) where
  place_here : (left : ℕ) → x < skipped → left ≡ 0 → place_in (x ∷ xs) left ≡ 0
  unfolding place_in
  place_here zero l none = rw (lt-ltb x skipped l)
  place_here (suc left) l none = absurd (omega arith)

  -- where one is left to pass, it is passed
  place_passed : (left : ℕ) → x < skipped → (left ≡ 0 → ⊥) → place_in (x ∷ xs) left ≡ suc (place_in xs (left - 1))
  unfolding place_in
  place_passed zero l some = absurd (some refl)
  place_passed (suc left) l some =
      let one : suc left - 1 ≡ left = omega arith in
      rw (lt-ltb x skipped l, one)

  place_skipped : (left : ℕ) → skipped ≤ x → place_in (x ∷ xs) left ≡ suc (place_in xs left)
  unfolding place_in
  place_skipped zero l = rw (le-ltb x skipped l)
  place_skipped (suc left) l = rw (le-ltb x skipped l)

-- the search stands at index `at`, with `left` letters to pass
pub record Seeking (letters : List ℕ) (i left at : ℕ) : Type 0 where
  pub within : at ≤ length letters
  pub rest : at + place_in (drop at letters) left ≡ place_in letters i

module _ (letters : List ℕ) (i : ℕ) where
  module _ (left at : ℕ) (inv : Seeking letters i left at) where
    module _ (lt : at < length letters) where
      abbrev x : ℕ
      x = get_or letters at 0

      begins : place_in (drop at letters) left ≡ place_in (x ∷ drop (suc at) letters) left
      begins = ap (λ (xs : List ℕ). place_in xs left) (drop-cons letters at 0 lt)

      pub seek_finds : get_or letters at 0 < skipped → left ≡ 0 → at ≡ place_in letters i
      seek_finds l none =
          omega (arith, begins, place_here x (drop (suc at) letters) left l none, inv.rest)

      pub seek_passes : get_or letters at 0 < skipped → (left ≡ 0 → ⊥) → Seeking letters i (left - 1) (at + 1)
      seek_passes l some =
          let h = begins ∙ place_passed x (drop (suc at) letters) left l some in
          record { within = omega arith; rest = rw (add-one at) (omega (arith, h, inv.rest)) }

      pub seek_skips : skipped ≤ get_or letters at 0 → Seeking letters i left (at + 1)
      seek_skips l =
          let h = begins ∙ place_skipped x (drop (suc at) letters) left l in
          record { within = omega arith; rest = rw (add-one at) (omega (arith, h, inv.rest)) }

    pub seek_ends : length letters ≤ at → length letters ≡ place_in letters i
    unfolding place_in
    seek_ends le =
        let e = nothing left (drop at letters) (omega (arith, length-drop at letters)) in
        omega (arith, e, inv.within, inv.rest)
      where
        nothing : (left : ℕ) (xs : List ℕ) → length xs ≡ 0 → place_in xs left ≡ 0
        nothing left [] e = refl
        nothing left (x ∷ xs) e = absurd (omega arith)

-- what the search goes by
pub ruleset seeking = (seek_finds, seek_passes, seek_skips, seek_ends)

module _ (stem cycle : List ℕ) (i s : ℕ) (es : s ≡ length (remaining stem)) where
  pub place_stem : i < s → place_in stem i ≡ place_of stem cycle i
  unfolding place_of
  place_stem l = sym (rw (lt-ltb i (length (remaining stem)) (omega arith)) refl)

  pub place_cycle : s ≤ i → length stem + place_in cycle (i - s) ≡ place_of stem cycle i
  unfolding place_of
  place_cycle l = rw es (sym (rw (le-ltb i (length (remaining stem)) (omega arith)) refl))

-- the two ways of it
pub ruleset placing = (place_few, place_stem, place_cycle)

-- it is at most the number of letters
pub place_within : (stem cycle : List ℕ) (i : ℕ) → place_of stem cycle i ≤ length stem + length cycle
unfolding place_of
place_within stem cycle i = go (ltb i (length (remaining stem)))
  where
    go : (b : Bool)
        → cond b (place_in stem i) (length stem + place_in cycle (i - length (remaining stem))) ≤ length stem + length
        cycle
    go true = omega (arith, place_few stem i)
    go false = omega (arith, place_few cycle (i - length (remaining stem)))

-- ---- what stands there

-- at an index stands remaining letter i, and of the letters from there on those remain that follow on it
pub record Stands (xs : List ℕ) (i at : ℕ) : Type 0 where
  pub inside : at < length xs
  pub stays : remains (get_or xs at 0) ≡ true
  pub same : get_or xs at 0 ≡ get_or (remaining xs) i 0
  pub follow : remaining (drop at xs) ≡ drop i (remaining xs)

-- one letter before them, of which b says whether it remains
stands_later : (x : ℕ) (xs : List ℕ) (b : Bool) → remains x ≡ b → {i at : ℕ} → Stands xs i at
    → Stands (x ∷ xs) (cond b (suc i) i) (suc at)
stands_later x xs true e t = record {
  inside = omega (arith, t.inside);
  stays = t.stays;
  same = rw (remaining_kept x xs e) t.same;
  follow = rw (remaining_kept x xs e) t.follow;
}
stands_later x xs false e t = record {
  inside = omega (arith, t.inside);
  stays = t.stays;
  same = rw (remaining_skipped x xs e) t.same;
  follow = rw (remaining_skipped x xs e) t.follow;
}

pub place_stands : (xs : List ℕ) (i : ℕ) → i < length (remaining xs) → Stands xs i (place_in xs i)
unfolding place_in remaining
place_stands [] i l = absurd (omega arith)
place_stands (x ∷ xs) zero l = go (remains x) refl (place_stands xs zero)
  where
    go : (b : Bool) → remains x ≡ b → (0 < length (remaining xs) → Stands xs 0 (place_in xs 0))
        → Stands (x ∷ xs) 0 (cond b 0 (suc (place_in xs 0)))
    go true e ih = record {
      inside = omega arith;
      stays = e;
      same = rw (remaining_kept x xs e) refl;
      follow = refl;
    }
    go false e ih = stands_later x xs false e (ih (omega (arith, ap length (remaining_skipped x xs e))))
place_stands (x ∷ xs) (suc i) l = go (remains x) refl (place_stands xs)
  where
    go : (b : Bool) → remains x ≡ b → ((j : ℕ) → j < length (remaining xs) → Stands xs j (place_in xs j))
        → Stands (x ∷ xs) (suc i) (suc (place_in xs (cond b i (suc i))))
    go true e ih = stands_later x xs true e (ih i (omega (arith, ap length (remaining_kept x xs e))))
    go false e ih = stands_later x xs false e (ih (suc i) (omega (arith, ap length (remaining_skipped x xs e))))
