-- The lowest refusal of a run of checks: what a loop from 0 knows of it. Assumes nothing.
use mathlib.Core.Path.{◌≡◌, refl, sym}
use Prim.Native.Nat.{ℕ, zero, suc, ◌+◌, ◌≤◌, ◌<◌}
use native.Mathlib.Decide.{ℕ_discrete}
use native.Mathlib.Numerals.{add-one}
use native.Mathlib.Omega.{arith}
use mathlib.Core.Bool.{true, false≢true}
use Rattle.answer.specs.Result.{accepted, refused, and_then, Check, fine, lowest, passes}

-- a refusal is no acceptance
pub not_fine : {A : Type 0} {number place : ℕ} → ◌≡◌ {A = Check} (refused number place) fine → A
not_fine e = let z : ◌≡◌ {A = ℕ} 0 1 = cc in absurd (omega arith)

-- what comes first in a fine answer is fine, and so is what follows
pub fine_first : (a b : Check) → and_then a (λ _. b) ≡ fine → a ≡ fine
fine_first (accepted u) b e = refl
fine_first (refused number place) b e = not_fine e

pub fine_second : (a b : Check) → and_then a (λ _. b) ≡ fine → b ≡ fine
fine_second (accepted u) b e = e
fine_second (refused number place) b e = not_fine e

-- the first refusal found is the lowest
lowest_found : (check : ℕ → Check) (i n : ℕ) {number place : ℕ} → i < n → lowest check i ≡ fine
    → refused number place ≡ check i → refused number place ≡ lowest check n
unfolding lowest
lowest_found check i zero lt e f = absurd (omega arith)
lowest_found check i (suc n) {number} {place} lt e f = pick (ℕ_discrete i n) (λ lt. lowest_found check i n lt e f)
  where
    pick : Dec (i ≡ n) → (i < n → refused number place ≡ lowest check n)
        → refused number place ≡ and_then (lowest check n) (λ _. check n)
    pick (yes same) below = rw (← same, e) f
    pick (no other) below = rw (← below (omega arith)) refl

-- a loop over the checks 0 to n - 1 that stands at i: those before i are fine
pub record Passing (check : ℕ → Check) (n i : ℕ) : Type 0 where
  pub within : i ≤ n
  pub passed : lowest check i ≡ fine

module _ (check : ℕ → Check) (n : ℕ) where
  pub pass_begins : Passing check n 0
  unfolding lowest
  pass_begins = record { within = omega arith; passed = refl }

  pub pass_steps : (i : ℕ) → i < n → Passing check n i → check i ≡ fine → Passing check n (i + 1)
  unfolding lowest
  pass_steps i lt inv f = record { within = omega arith; passed = rw (add-one, inv.passed) f }

  pub pass_fails : (i : ℕ) {number place : ℕ} → i < n → Passing check n i → refused number place ≡ check i
      → refused number place ≡ lowest check n
  pass_fails i lt inv f = lowest_found check i n lt inv.passed f

  pub pass_ends : (i : ℕ) → n ≤ i → Passing check n i → fine ≡ lowest check n
  pass_ends i le inv =
      let e : n ≡ i = omega arith in
      rw e (sym inv.passed)

-- checks that are fine together are fine each
pub lowest_each : (check : ℕ → Check) (n : ℕ) → lowest check n ≡ fine → (k : ℕ) → k < n → check k ≡ fine
unfolding lowest
lowest_each check zero e k lt = absurd (omega arith)
lowest_each check (suc n) e k lt =
    pick (ℕ_discrete k n) (λ lt. lowest_each check n (fine_first (lowest check n) (check n) e) k lt)
  where
    pick : Dec (k ≡ n) → (k < n → check k ≡ fine) → check k ≡ fine
    pick (yes same) below = rw same (fine_second (lowest check n) (check n) e)
    pick (no other) below = below (omega arith)

-- and so are the first of them together
pub lowest_below : (check : ℕ → Check) (n : ℕ) → lowest check n ≡ fine → (k : ℕ) → k ≤ n → lowest check k ≡ fine
unfolding lowest
lowest_below check zero e k le =
    let z : k ≡ 0 = omega arith in
    rw z refl
lowest_below check (suc n) e k le =
    pick (ℕ_discrete k (suc n)) (λ le. lowest_below check n (fine_first (lowest check n) (check n) e) k le)
  where
    pick : Dec (k ≡ suc n) → (k ≤ n → lowest check k ≡ fine) → lowest check k ≡ fine
    pick (yes same) below = rw same e
    pick (no other) below = below (omega arith)

-- checks that are fine each are fine together
pub lowest_all : (check : ℕ → Check) (n : ℕ) → ((k : ℕ) → k < n → check k ≡ fine) → lowest check n ≡ fine
unfolding lowest
lowest_all check zero h = refl
lowest_all check (suc n) h = rw (lowest_all check n (λ k l. h k (omega arith))) (h n (omega arith))

-- a turn of such a loop: nothing is checked before it begins, a fine check is passed, a refusal is the lowest
pub turn_begins : (check : ℕ → Check) → lowest check 0 ≡ fine
unfolding lowest
turn_begins check = refl

pub turn_passes : (check : ℕ → Check) (i : ℕ) → lowest check i ≡ fine → fine ≡ check i → lowest check (i + 1) ≡ fine
unfolding lowest
turn_passes check i before here = rw (add-one, before) (sym here)

pub turn_fails : (check : ℕ → Check) (n i : ℕ) {number place : ℕ} → i < n → lowest check i ≡ fine
    → refused number place ≡ check i → refused number place ≡ lowest check n
turn_fails check n i lt before here = lowest_found check i n lt before here

-- a fine answer passes, and the other way round
pub passes_fine : (c : Check) → passes c ≡ true → c ≡ fine
passes_fine (accepted u) e = refl
passes_fine (refused number place) e = absurd (false≢true e)

pub ruleset turns = (turn_begins, turn_passes, turn_fails)
