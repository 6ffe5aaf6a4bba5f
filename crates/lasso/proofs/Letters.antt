-- The word of two lists repeats from the end of the stem on, and stays the same where the cycle is written out once in
-- the stem; its letter at a position, and the position after that. Assumes nothing.
use Prim.Native.Nat.{ℕ, suc, ◌+◌, ◌-◌, ◌%◌, ◌<◌, ◌≤◌}
use mathlib.Core.Path.{◌≡◌, sym, ◌∙◌, ap}
use mathlib.Core.List.{List, ◌++◌}
use native.Mathlib.Omega.{arith}
use native.Mathlib.Decide.{dec_lt}
use native.Mathlib.Nat.{add-mod_right, mod-eq_of_lt}
use lib.ListN.{get_or, length, length-append, get_or-append}
use lib.Seq.{get_or-append-add}
use borrow.Author.Tests.{lt-ltb, le-ltb}
use Rattle.lasso.specs.Lasso.{letter, after}

pub letter_early : (stem cycle : List ℕ) (i : ℕ) → i < length stem → letter stem cycle i ≡ get_or stem i 0
unfolding letter
letter_early stem cycle i l = rw (lt-ltb i (length stem) l)

letter_late : (stem cycle : List ℕ) (i : ℕ) → length stem ≤ i
    → letter stem cycle i ≡ get_or cycle ((i - length stem) % length cycle) 0
unfolding letter
letter_late stem cycle i l = rw (le-ltb i (length stem) l)

pub letter_round : (stem cycle : List ℕ) (i : ℕ) → length stem ≤ i
    → letter stem cycle (i + length cycle) ≡ letter stem cycle i
letter_round stem cycle i l =
    let e : i + length cycle - length stem ≡ i - length stem + length cycle = omega arith in
    letter_late stem cycle (i + length cycle) (omega arith)
    ∙ ap (λ (x : ℕ). get_or cycle (x % length cycle) 0) e
    ∙ ap (λ (x : ℕ). get_or cycle x 0) (add-mod_right (i - length stem) (length cycle))
    ∙ sym (letter_late stem cycle i l)

-- one round of the cycle written out behind the stem
pub letter_unrolled : (stem cycle : List ℕ) (i : ℕ) → letter (stem ++ cycle) cycle i ≡ letter stem cycle i
letter_unrolled stem cycle i = go (dec_lt i (length stem)) (dec_lt i (length stem + length cycle))
  where
    longer : length (stem ++ cycle) ≡ length stem + length cycle
    longer = length-append stem cycle

    go : Dec (i < length stem) → Dec (i < length stem + length cycle)
        → letter (stem ++ cycle) cycle i ≡ letter stem cycle i
    go (yes l) d =
        letter_early (stem ++ cycle) cycle i (omega (arith, longer)) ∙ get_or-append stem cycle 0 i l
        ∙ sym (letter_early stem cycle i l)
    go (no l) (yes m) =
        let k = i - length stem in
        let at : i ≡ length stem + k = omega arith in
        letter_early (stem ++ cycle) cycle i (omega (arith, longer))
        ∙ ap (λ (x : ℕ). get_or (stem ++ cycle) x 0) at ∙ get_or-append-add stem cycle k 0
        ∙ ap (λ (x : ℕ). get_or cycle x 0) (sym (mod-eq_of_lt {n = k} {m = length cycle} (omega arith)))
        ∙ sym (letter_late stem cycle i (omega arith))
    go (no l) (no m) =
        let k = i - length (stem ++ cycle) in
        let back : i - length stem ≡ k + length cycle = omega (arith, longer) in
        letter_late (stem ++ cycle) cycle i (omega (arith, longer))
        ∙ ap (λ (x : ℕ). get_or cycle x 0) (sym (add-mod_right k (length cycle)))
        ∙ ap (λ (x : ℕ). get_or cycle (x % length cycle) 0) (sym back)
        ∙ sym (letter_late stem cycle i (omega arith))

-- ---- positions

-- in the cycle, the first time round
pub letter_cycle : (stem cycle : List ℕ) (p : ℕ) → length stem ≤ p → p < length stem + length cycle
    → letter stem cycle p ≡ get_or cycle (p - length stem) 0
letter_cycle stem cycle p l m =
    let lt : p - length stem < length cycle = omega arith in
    letter_late stem cycle p l ∙ ap (λ (i : ℕ). get_or cycle i 0) (mod-eq_of_lt lt)

module _ (stem cycle : List ℕ) where
  pub after_inside : (p : ℕ) → suc p < length stem + length cycle → after stem cycle p ≡ suc p
  unfolding after
  after_inside p l = rw (lt-ltb (suc p) (length stem + length cycle) l)

  pub after_last : (p : ℕ) → length stem + length cycle ≤ suc p → after stem cycle p ≡ length stem
  unfolding after
  after_last p l = rw (le-ltb (suc p) (length stem + length cycle) l)

  pub after_small : 0 < length cycle → (p : ℕ) → after stem cycle p < length stem + length cycle
  after_small pos p = go (dec_lt (suc p) (length stem + length cycle))
    where
      go : Dec (suc p < length stem + length cycle) → after stem cycle p < length stem + length cycle
      go (yes l) = omega (arith, after_inside p l)
      go (no l) = omega (arith, after_last p (omega arith))
