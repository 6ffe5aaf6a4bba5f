-- The index at which remaining letter i is found is the place, of R-9, at which letter i of the word stands in the word
-- as it is lent. Assumes nothing.
use Prim.Native.Nat.{ℕ, zero, suc, ◌+◌, ◌-◌, ◌<◌, ◌≤◌}
use mathlib.Core.Path.{◌≡◌, refl, sym, ◌∙◌, ap, ap₂}
use mathlib.Core.List.{List, [], ◌∷◌, ◌++◌}
use mathlib.Core.Bool.{Bool, true, false, cond}
use native.Mathlib.Omega.{arith}
use native.Mathlib.Numerals.{add-one}
use native.Mathlib.Decide.{dec_lt}
use lib.ListN.{get_or, length, take, drop, length-append, length-drop}
use Rattle.lasso.specs.Lasso.{remains, remaining, letter, remaining_before, IthRemaining}
use Rattle.lasso.proofs.Letters.{letter_early, letter_cycle, letter_unrolled}
use Rattle.lasso.proofs.Skipping.{remaining_kept, remaining_skipped, remaining_append, remaining_next}
use Rattle.place.specs.Place.{place_in, place_of}
use Rattle.place.proofs.Standing.{Stands, place_stem, place_cycle, place_stands}

-- one letter counts, or not
one_counts : (x : ℕ) → cond (remains x) 1 0 ≡ length (remaining (x ∷ []))
one_counts x = go (remains x) refl
  where
    go : (b : Bool) → remains x ≡ b → cond b 1 0 ≡ length (remaining (x ∷ []))
    go true e = unfold remaining in sym (ap length (remaining_kept x [] e))
    go false e = unfold remaining in sym (ap length (remaining_skipped x [] e))

-- of a word that begins with a list, so many of the first n letters remain
before_list : (xs : List ℕ) (word : ℕ → ℕ) → ((i : ℕ) → i < length xs → word i ≡ get_or xs i 0)
    → (n : ℕ) → n ≤ length xs → remaining_before word n ≡ length (remaining (take n xs))
unfolding remaining_before remaining
before_list xs word begins zero le = refl
before_list xs word begins (suc n) le =
    ap₂ (λ (x y : ℕ). x + y) (before_list xs word begins n (omega arith))
    (ap (λ (x : ℕ). cond (remains x) 1 0) (begins n (omega arith)) ∙ one_counts (get_or xs n 0))
    ∙ sym (length-append (remaining (take n xs)) (remaining (get_or xs n 0 ∷ [])))
    ∙ sym (ap length (remaining_next xs n (omega arith)))
    ∙ ap (λ (k : ℕ). length (remaining (take k xs))) (add-one n)

-- before the one where remaining letter i stands, i remain
stands_before : (xs : List ℕ) (i at : ℕ) → i < length (remaining xs) → Stands xs i at
    → length (remaining (take at xs)) ≡ i
stands_before xs i at l t =
    let parts : length (remaining xs) ≡ length (remaining (take at xs)) + length (drop i (remaining xs)) =
    ap (λ (ys : List ℕ). length (remaining ys)) (sym (take_drop at xs))
    ∙ ap length (remaining_append (take at xs) (drop at xs))
    ∙ length-append (remaining (take at xs)) (remaining (drop at xs))
    ∙ ap (λ (ys : List ℕ). length (remaining (take at xs)) + length ys) t.follow in
    omega (arith, parts, length-drop i (remaining xs))
  where
    take_drop : (n : ℕ) (ys : List ℕ) → take n ys ++ drop n ys ≡ ys
    take_drop zero ys = refl
    take_drop (suc n) [] = refl
    take_drop (suc n) (y ∷ ys) = ap (λ (zs : List ℕ). y ∷ zs) (take_drop n ys)

module _ (stem cycle : List ℕ) (i : ℕ) (inside : i < length (remaining stem) + length (remaining cycle)) where
  abbrev s : ℕ
  s = length (remaining stem)

  -- letter i of the word is the i-th that remains of the letters as lent, at the index that is told
  pub record Placed : Type 0 where
    pub ith : IthRemaining (letter stem cycle) i (letter (remaining stem) (remaining cycle) i)
    pub at : ith.place ≡ place_of stem cycle i

  pub placed : Placed
  placed = go (dec_lt i s)
    where
      in_stem : i < s → Stands stem i (place_in stem i) → Placed
      in_stem l t =
          let k = place_in stem i in
          let kept : letter (remaining stem) (remaining cycle) i ≡ get_or stem k 0 =
          letter_early (remaining stem) (remaining cycle) i l ∙ sym t.same in
          record {
            ith = record {
              place = k;
              there = letter_early stem cycle k t.inside ∙ sym kept;
              stays = ap remains kept ∙ t.stays;
              before = before_list stem (letter stem cycle) (letter_early stem cycle) k (omega (arith, t.inside))
                  ∙ stands_before stem i k l t;
            };
            at = place_stem stem cycle i s refl l;
          }

      both_begin : (j : ℕ) → j < length (stem ++ cycle) → letter stem cycle j ≡ get_or (stem ++ cycle) j 0
      both_begin j l = sym (letter_unrolled stem cycle j) ∙ letter_early (stem ++ cycle) cycle j l

      take_both : (xs : List ℕ) (k : ℕ) → take (length xs + k) (xs ++ cycle) ≡ xs ++ take k cycle
      take_both [] k = let e : 0 + k ≡ k = omega arith in ap (λ (n : ℕ). take n cycle) e
      take_both (x ∷ xs) k =
          let e : suc (length xs) + k ≡ suc (length xs + k) = omega arith in
          ap (λ (n : ℕ). take n (x ∷ xs ++ cycle)) e ∙ ap (λ (zs : List ℕ). x ∷ zs) (take_both xs k)

      in_cycle_lem : s ≤ i → Stands cycle (i - s) (place_in cycle (i - s)) → Placed
      in_cycle_lem l t =
          let k = place_in cycle (i - s) in
          let off : length stem + k - length stem ≡ k = omega arith in
          let kept : letter (remaining stem) (remaining cycle) i ≡ get_or cycle k 0 =
          letter_cycle (remaining stem) (remaining cycle) i l inside ∙ sym t.same in
          let counted : length (remaining (take (length stem + k) (stem ++ cycle))) ≡ s + length
          (remaining (take k cycle)) =
          ap (λ (xs : List ℕ). length (remaining xs)) (take_both stem k)
          ∙ ap length (remaining_append stem (take k cycle))
          ∙ length-append (remaining stem) (remaining (take k cycle)) in
          record {
            ith = record {
              place = length stem + k;
              there = letter_cycle stem cycle (length stem + k) (omega arith) (omega (arith, t.inside))
                  ∙ ap (λ (j : ℕ). get_or cycle j 0) off ∙ sym kept;
              stays = ap remains kept ∙ t.stays;
              before = before_list (stem ++ cycle) (letter stem cycle) both_begin (length stem + k)
                  (omega (arith, t.inside, length-append stem cycle))
                  ∙ omega (arith, counted, stands_before cycle (i - s) k (omega arith) t);
            };
            at = place_cycle stem cycle i s refl l;
          }

      go : Dec (i < s) → Placed
      go (yes l) = in_stem l (place_stands stem i l)
      go (no l) = in_cycle_lem (omega arith) (place_stands cycle (i - s) (omega arith))
