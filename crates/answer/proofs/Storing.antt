-- A loop that stores one list over the front of another, zeros among them, and the two stores of a number.
-- Assumes nothing.
use mathlib.Core.Path.{◌≡◌, refl, ◌∙◌}
use mathlib.Core.List.{List, ◌++◌, append-nil}
use Prim.Native.Nat.{ℕ, ◌+◌, ◌/◌, ◌%◌, ◌≤◌, ◌<◌}
use native.Mathlib.Nat.{zero-add}
use native.Mathlib.Numerals.{add-one}
use native.Mathlib.Omega.{arith}
use lib.ListN.{length, get_or, take, drop, set, replicate, length-set, length-replicate}
use lib.Seq.{sets, paste-suc, take_all, drop-length}
use Rattle.answer.specs.Bytes.{two_bytes}
use Rattle.answer.proofs.Zeros.{zeros_at}

-- a loop that stores vs and stands at i: the first i are stored, and the rest is as it was
pub record Storing (xs vs : List ℕ) (n : ℕ) (ys : List ℕ) (i : ℕ) : Type 0 where
  pub within : i ≤ n
  pub size : length ys ≡ length xs
  pub stored : ys ≡ take i vs ++ drop i xs

module _ (xs vs : List ℕ) (n : ℕ) where
  pub store_begins : Storing xs vs n xs 0
  store_begins = record { within = omega arith; size = refl; stored = refl }

  pub store_steps : (ys : List ℕ) (i : ℕ) → i < n → n ≤ length xs → n ≤ length vs → Storing xs vs n ys i
      → Storing xs vs n (set ys i (get_or vs i 0)) (i + 1)
  store_steps ys i lt room source inv = record {
    within = omega arith;
    size = simp length-set inv.size;
    stored = rw (add-one, inv.stored) (simp zero-add at (paste-suc xs 0 vs i 0 (omega arith) (omega arith)));
  }

  pub store_ends : (ys : List ℕ) (i : ℕ) → n ≤ i → Storing xs vs n ys i → ys ≡ take n vs ++ drop n xs
  store_ends ys i le inv =
      let e : n ≡ i = omega (arith, inv.within) in
      rw e inv.stored

-- a turn of the loop that copies
pub copy_steps : {X : Type 0} (xs vs ys : List X) (i : ℕ) (x : X) → i < length vs → length vs ≤ length xs
    → x ≡ get_or vs i x → ys ≡ take i vs ++ drop i xs → set ys i x ≡ take (i + 1) vs ++ drop (i + 1) xs
copy_steps xs vs ys i x lt room is e =
    rw (add-one, e) (rw (← is) at (simp zero-add at (paste-suc xs 0 vs i x (omega arith) (omega arith))))

-- a loop that stores zeros over all of xs
abbrev pub Zeroing : (xs ys : List ℕ) (i : ℕ) → Type 0
Zeroing xs ys i = Storing xs (replicate (length xs) 0) (length xs) ys i

module _ (xs ys : List ℕ) (i : ℕ) where
  pub zero_steps : i < length ys → Zeroing xs ys i → Zeroing xs (set ys i 0) (i + 1)
  zero_steps lt inv =
      let all = length-replicate {A = ℕ} (length xs) 0 in
      rw (zeros_at (length xs) i) at (store_steps xs _ (length xs) ys i (omega arith) (omega arith) (omega arith) inv)

  pub zero_ends : length ys ≤ i → Zeroing xs ys i → ys ≡ replicate (length xs) 0
  zero_ends le inv =
      let all = length-replicate {A = ℕ} (length xs) 0 in
      store_ends xs _ (length xs) ys i (omega arith) inv
      ∙ rw (take_all {A = ℕ} (length xs) (replicate (length xs) 0) (omega arith), drop-length, append-nil)

-- the two bytes of a number
pub two_stores : (table : List ℕ) (at x : ℕ)
    → set (set table at (x % 256)) (at + 1) (x / 256) ≡ sets table at (two_bytes x)
unfolding two_bytes
two_stores table at x = rw (add-one at)
