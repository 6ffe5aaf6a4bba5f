-- The searches for the first position. Assumes nothing.
use Prim.Native.Nat.{ℕ, zero, suc, ◌+◌, ◌≤◌, ◌<◌}
use mathlib.Core.Path.{◌≡◌, refl, sym, ◌∙◌, ap}
use mathlib.Core.List.{List}
use Rattle.std.specs.Prelude.{Option, None as none, Some as some}
use Rattle.std.specs.Option.{MatchOption}
use mathlib.Core.Bool.{Bool, true, false, cond, not, ◌&&◌, ◌||◌}
use native.Mathlib.Omega.{arith}
use native.Mathlib.Numerals.{add-one}
use native.Mathlib.Decide.{ℕ_discrete}
use lib.ListN.{get_or, length}
use Rattle.std.specs.List.{zip, AllWithin, HoldsAt}
use Rattle.std.proofs.lemmas.Slice.Zip.{length-zip, get_or-zip}
use Rattle.sets.specs.Sets.{any_below}
use Rattle.explain.specs.Explain.{first_from}
use Rattle.explain.proofs.Searches.{none_from}
use Rattle.explain.specs.Memory.{exposed_at, both_fail_at}

found_at : (test : ℕ → Bool) (i count k : ℕ) → i ≤ k → k < i + count → ((j : ℕ) → i ≤ j → j < k → test j ≡ false)
    → test k ≡ true → first_from test i count ≡ some k
unfolding first_from
found_at test i zero k a b h e = absurd (omega arith)
found_at test i (suc count) k a b h e = go (ℕ_discrete i k) (found_at test (suc i) count k)
  where
    go : Dec (i ≡ k)
        → (suc i ≤ k → k < suc i + count → ((j : ℕ) → suc i ≤ j → j < k → test j ≡ false) → test k ≡ true → first_from
        test (suc i) count ≡ some k)
        → cond (test i) (some i) (first_from test (suc i) count) ≡ some k
    go (yes q) ih = rw (q, e) refl
    go (no q) ih =
        rw (h i (omega arith) (omega arith)) (ih (omega arith) (omega arith) (λ j x y. h j (omega arith) y) e)

-- the first position at which a test succeeds, as a search finds it
pub first_found : (test : ℕ → Bool) (total : ℕ) (r : Option ℕ)
    → MatchOption r ((k : ℕ) → k < total → test k ≡ false)
    (λ i. (i < total) × (test i ≡ true) × ((k : ℕ) → k < i → test k ≡ false))
    → r ≡ first_from test 0 total
first_found test total (some i) (inside, here, before) =
    sym (found_at test 0 total i (omega arith) (omega arith) (λ j a b. before j b) here)
first_found test total none h = sym (none_from test 0 total (λ j a b. h j (omega arith)))

-- the first pair of two rows of which neither flag is set, as a search over the pairs finds it
abbrev pub BothFail : Bool × Bool → Type 0
BothFail p = (not p.0 && not p.1) ≡ true

abbrev pub SomeHolds : Bool × Bool → Type 0
SomeHolds p = (not p.0 && not p.1) ≡ false

module _ (left right : List Bool) (same : length left ≡ length right) where
  abbrev pairs : List (Bool × Bool)
  pairs = zip left right

  size : length pairs ≡ length right
  size = omega (arith, length-zip left right)

  pair_is : (i : ℕ) → i < length right → get_or pairs i (false, false) ≡ (get_or left i false, get_or right i false)
  pair_is i l = get_or-zip left right i (false, false) (omega arith) l

  tests : (b : Bool) (i : ℕ) → i < length right
      → (λ (p : Bool × Bool). (not p.0 && not p.1) ≡ b) (get_or pairs i (false, false))
      → both_fail_at left right i ≡ b
  tests b i l h = rw (pair_is i l) at h

  pub pair_found : (r : Option ℕ)
      → MatchOption r (AllWithin SomeHolds pairs 0 (length pairs))
      (λ i. (i < length pairs) × HoldsAt BothFail pairs i × AllWithin SomeHolds pairs 0 i)
      → r ≡ first_from (both_fail_at left right) 0 (length right)
  pair_found (some i) (inside, here, before) =
      first_found (both_fail_at left right) (length right) (some i) (
        omega (arith, size),
        tests true i (omega (arith, size)) (here (false, false)),
        λ k l. tests false k (omega (arith, size)) (before k (false, false) (omega arith) l),
      )
  pair_found none h =
      first_found (both_fail_at left right) (length right) none
      (λ k l. tests false k l (h k (false, false) (omega arith) (omega (arith, size))))

-- a position is not exposed if the left side has held, or if the right side holds
pub by_held : (a b : Bool) → b ≡ true → (not a && not b) ≡ false
by_held true b e = refl
by_held false b e = rw e

pub by_right : (a b : Bool) → a ≡ true → (not a && not b) ≡ false
by_right a b e = rw e

-- ---- release: `held` is whether the left side has held below i
module _ (left right : List Bool) where
  pub record Holding (i : ℕ) (held : Bool) : Type 0 where
    pub passed : (j : ℕ) → j < i → exposed_at left right j ≡ false
    pub so_far : held ≡ any_below (λ j. get_or left j false) i

  pub hold_begins : Holding 0 false
  unfolding any_below
  hold_begins = record { passed = λ j l. absurd (omega arith); so_far = refl }

  -- the test of a position, by what has held
  exposed_by : (i : ℕ) (held : Bool) → Holding i held
      → (not (get_or right i false) && not held) ≡ exposed_at left right i
  exposed_by i held inv = ap (λ (y : Bool). not (get_or right i false) && not y) inv.so_far

  pub hold_finds : (i total : ℕ) (held : Bool) → i < total → get_or right i false ≡ false → held ≡ false
      → Holding i held → some i ≡ first_from (exposed_at left right) 0 total
  hold_finds i total held l r h inv =
      first_found (exposed_at left right) total (some i) (l, sym (exposed_by i held inv) ∙ rw (r, h) refl, inv.passed)

  pub hold_steps : (i : ℕ) (held : Bool) → (not (get_or right i false) && not held) ≡ false → Holding i held
      → Holding (i + 1) (held || get_or left i false)
  unfolding any_below
  hold_steps i held t inv = record {
    passed = λ j m. go j m (ℕ_discrete j i);
    so_far = rw (add-one i) (ap (λ (y : Bool). y || get_or left i false) inv.so_far);
  }
    where
      go : (j : ℕ) → j < i + 1 → Dec (j ≡ i) → exposed_at left right j ≡ false
      go j m (yes q) = ap (exposed_at left right) q ∙ sym (exposed_by i held inv) ∙ t
      go j m (no q) = inv.passed j (omega arith)

  pub hold_ends : (i total : ℕ) (held : Bool) → i ≡ total → Holding i held
      → none ≡ first_from (exposed_at left right) 0 total
  hold_ends i total held e inv = first_found (exposed_at left right) total none (rw e at inv.passed)
