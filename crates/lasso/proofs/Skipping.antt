-- The letters that remain, of lists: taken one by one, of two lists in a row, their number; the loop that keeps them,
-- the search for one, and what all bits joined say. Assumes nothing.
use Prim.Native.Nat.{ℕ, suc, ◌+◌, ◌<◌, ◌≤◌}
use mathlib.Core.Path.{◌≡◌, refl, sym, ◌∙◌, ap}
use mathlib.Core.Logic.{◌↔◌}
use mathlib.Core.List.{List, [], ◌∷◌, ◌++◌, append-nil}
use mathlib.Core.Bool.{Bool, true, false, cond}
use native.Mathlib.Omega.{arith}
use native.Mathlib.Numerals.{add-one}
use lib.ListN.{get_or, length, take, set, length-set}
use lib.Dec.{ltb}
use lib.Bits.{bit_or, or_lt, or_add_and, and_le_l, and_le_r}
use lib.Seq.{take-suc, take-suc-set, take-set-le, take_all}
use native.Mathlib.Nat.{add-zero}
use borrow.Author.Tests.{lt-ltb, ltb-true}
use Rattle.std.specs.List.{fold, list_any}
use Rattle.lasso.specs.Lasso.{skipped, remains, remaining}

module _ (x : ℕ) (xs : List ℕ) where
  pub remaining_kept : remains x ≡ true → remaining (x ∷ xs) ≡ x ∷ remaining xs
  unfolding remaining
  remaining_kept e = rw (e, remaining)

  pub remaining_skipped : remains x ≡ false → remaining (x ∷ xs) ≡ remaining xs
  unfolding remaining
  remaining_skipped e = rw (e, remaining)

pub remaining_append : (xs ys : List ℕ) → remaining (xs ++ ys) ≡ remaining xs ++ remaining ys
unfolding remaining
remaining_append [] ys = refl
remaining_append (x ∷ xs) ys = go (remains x) refl (remaining_append xs ys)
  where
    go : (b : Bool) → remains x ≡ b → remaining (xs ++ ys) ≡ remaining xs ++ remaining ys
        → remaining (x ∷ xs ++ ys) ≡ remaining (x ∷ xs) ++ remaining ys
    go true e ih = rw (remaining_kept x (xs ++ ys) e, remaining_kept x xs e) (ap (λ (l : List ℕ). x ∷ l) ih)
    go false e ih = rw (remaining_skipped x (xs ++ ys) e, remaining_skipped x xs e) ih

-- no letter is added
pub remaining_fewer : (xs : List ℕ) → length (remaining xs) ≤ length xs
unfolding remaining
remaining_fewer [] = omega arith
remaining_fewer (x ∷ xs) = go (remains x) refl (remaining_fewer xs)
  where
    go : (b : Bool) → remains x ≡ b → length (remaining xs) ≤ length xs
        → length (remaining (x ∷ xs)) ≤ length (x ∷ xs)
    go true e ih = rw (remaining_kept x xs e) (omega arith)
    go false e ih = rw (remaining_skipped x xs e) (omega arith)

-- of what remains all remains
pub remaining_again : (xs : List ℕ) → remaining (remaining xs) ≡ remaining xs
unfolding remaining
remaining_again [] = refl
remaining_again (x ∷ xs) = go (remains x) refl (remaining_again xs)
  where
    go : (b : Bool) → remains x ≡ b → remaining (remaining xs) ≡ remaining xs
        → remaining (remaining (x ∷ xs)) ≡ remaining (x ∷ xs)
    go true e ih = rw (remaining_kept x xs e, remaining_kept x (remaining xs) e) (ap (λ (l : List ℕ). x ∷ l) ih)
    go false e ih = rw (remaining_skipped x xs e) ih

-- where as many remain as there are, all do
pub all_remain : (xs : List ℕ) → length (remaining xs) ≡ length xs → remaining xs ≡ xs
unfolding remaining
all_remain [] e = refl
all_remain (x ∷ xs) e = go (remains x) refl (all_remain xs)
  where
    go : (b : Bool) → remains x ≡ b → (length (remaining xs) ≡ length xs → remaining xs ≡ xs)
        → remaining (x ∷ xs) ≡ x ∷ xs
    go true r ih =
        let kept = remaining_kept x xs r in
        kept ∙ ap (λ (l : List ℕ). x ∷ l) (ih (omega (arith, e, ap length kept)))
    go false r ih = absurd (omega (arith, e, ap length (remaining_skipped x xs r), remaining_fewer xs))

-- one letter more
pub remaining_next : (xs : List ℕ) (i : ℕ) → i < length xs
    → remaining (take (i + 1) xs) ≡ remaining (take i xs) ++ remaining (get_or xs i 0 ∷ [])
remaining_next xs i lt = rw (add-one, take-suc xs i 0 lt) (remaining_append (take i xs) (get_or xs i 0 ∷ []))

-- ---- a loop that keeps what remains: of the first i letters it has kept n

pub record Keeping (lent letters kept : List ℕ) (n i : ℕ) : Type 0 where
  pub within : i ≤ length letters
  pub few : n ≤ i
  pub size : length kept ≡ length lent
  pub so_far : take n kept ≡ remaining (take i letters)

module _ (lent letters : List ℕ) where
  pub keep_begins : Keeping lent letters lent 0 0
  unfolding remaining
  keep_begins = record { within = omega arith; few = omega arith; size = refl; so_far = refl }

  pub keep_steps : (kept : List ℕ) {r : ℕ} (n i : ℕ) → i < length letters → length letters ≤ length lent
      → Keeping lent letters kept n i → r ≡ cond (remains (get_or letters i 0)) 1 0
      → Keeping lent letters (set kept n (get_or letters i 0)) (n + r) (i + 1)
  unfolding remaining
  keep_steps kept {r} n i lt room inv counted =
      let (one, kept-so) = step (remains x) refl in
      record {
        within = omega arith;
        few = omega (arith, inv.few);
        size = simp length-set inv.size;
        so_far = kept-so ∙ rw inv.so_far (sym (remaining_next letters i lt));
      }
    where
      x : ℕ
      x = get_or letters i 0

      room_left : n < length kept
      room_left = omega (arith, inv.few, inv.size)

      -- what is kept after the step, of a letter that is kept and of one that is skipped
      step : (b : Bool) → remains x ≡ b → (r ≤ 1) × (take (n + r) (set kept n x) ≡ take n kept ++ remaining (x ∷ []))
      step true e =
          let one : r ≡ 1 = counted ∙ rw e in
          (omega arith, rw (one, add-one, take-suc-set kept n x room_left, remaining_kept x [] e, remaining))
      step false e =
          let none : r ≡ 0 = counted ∙ rw e in
          (omega arith, rw (none, add-zero, take-set-le n kept n x (omega arith), remaining_skipped x [] e, append-nil))

  pub keep_ends : (kept : List ℕ) (n i : ℕ) → length letters ≤ i → length letters ≤ length lent
      → Keeping lent letters kept n i → (n ≤ length kept) × (take n kept ≡ remaining letters)
  keep_ends kept n i le room inv =
      (omega (arith, inv.within, inv.few, inv.size), inv.so_far ∙ ap remaining (take_all i letters le))

-- ---- what a search for a letter that remains says

pub list_any-remains : (xs : List ℕ) → list_any remains xs ≡ ltb 0 (length (remaining xs))
unfolding remaining
list_any-remains [] = refl
list_any-remains (x ∷ xs) = go (remains x) refl (list_any-remains xs)
  where
    go : (b : Bool) → remains x ≡ b → list_any remains xs ≡ ltb 0 (length (remaining xs))
        → list_any remains (x ∷ xs) ≡ ltb 0 (length (remaining (x ∷ xs)))
    go true e ih = rw (e, remaining_kept x xs e, lt-ltb 0 (suc (length (remaining xs))) (omega arith))
    go false e ih = rw (e, remaining_skipped x xs e) ih

-- ---- the bits of all letters joined: bit 7 is not among them where each remains

joined_from : (joined : ℕ) (xs : List ℕ)
    → (fold bit_or joined xs < skipped) ↔ ((joined < skipped) × (remaining xs ≡ xs))
unfolding remaining
joined_from joined [] = (λ l. (l, refl), λ p. p.0)
joined_from joined (x ∷ xs) =
    let rest = joined_from (bit_or joined x) xs in
    (λ l. together (rest.0 l), λ p. rest.1 (apart p.0 p.1))
  where
    together : (bit_or joined x < skipped) × (remaining xs ≡ xs)
        → (joined < skipped) × (remaining (x ∷ xs) ≡ x ∷ xs)
    together (less, all) =
        let sum = or_add_and joined x in
        let first : x < skipped = omega (arith, sum, and_le_l joined x) in (
          omega (arith, sum, and_le_r joined x),
          remaining_kept x xs (lt-ltb x skipped first) ∙ ap (λ (l : List ℕ). x ∷ l) all,
        )

    apart : joined < skipped → remaining (x ∷ xs) ≡ x ∷ xs → (bit_or joined x < skipped) × (remaining xs ≡ xs)
    apart less all = go (remains x) refl
      where
        go : (b : Bool) → remains x ≡ b → (bit_or joined x < skipped) × (remaining xs ≡ xs)
        go true e =
            let same : x ∷ remaining xs ≡ x ∷ xs = sym (remaining_kept x xs e) ∙ all in
            (or_lt 7 joined x less (ltb-true x skipped e), cc)
        go false e = absurd (omega (arith, ap length all, ap length (remaining_skipped x xs e), remaining_fewer xs))

pub joined-remain : (xs : List ℕ) → (ltb (fold bit_or 0 xs) skipped ≡ true) ↔ (remaining xs ≡ xs)
joined-remain xs =
    let told = joined_from 0 xs in (
      λ e. (told.0 (ltb-true (fold bit_or 0 xs) skipped e)).1,
      λ e. lt-ltb (fold bit_or 0 xs) skipped (told.1 (omega arith, e)),
    )
