-- A search for a number below n that passes a test, from the lowest on. Assumes nothing.
use Prim.Native.Nat.{ℕ, zero, suc, ◌+◌}
use mathlib.Core.Path.{◌≡◌, sym, ◌∙◌, ap}
use mathlib.Core.Bool.{Bool, ◌||◌, or-false}
use Rattle.std.proofs.Math.Bool.{or_assoc}
use native.Mathlib.Omega.{arith}
use native.Mathlib.Numerals.{add-one}
use Rattle.std.specs.List.{list_any, range_with_len}
use Rattle.sets.specs.Sets.{any_below}

module _ (test : ℕ → Bool) where
  -- the n numbers from a on, after those below a
  from : (a n : ℕ) → (any_below test a || list_any test (range_with_len a n)) ≡ any_below test (a + n)
  unfolding any_below
  from a zero =
      let none : a ≡ a + 0 = omega arith in
      or-false (any_below test a) ∙ ap (any_below test) none
  from a (suc n) =
      let next : a + 1 ≡ suc a = add-one a in
      let all : suc a + n ≡ a + suc n = omega arith in
      sym (or_assoc (any_below test a) (test a) (list_any test (range_with_len (a + 1) n)))
      ∙ rw (next, ← all) (from (suc a) n)

  pub any_range : (n : ℕ) → list_any test (range_with_len 0 n) ≡ any_below test n
  unfolding any_below
  any_range n =
      let all : 0 + n ≡ n = omega arith in
      from 0 n ∙ ap (any_below test) all
