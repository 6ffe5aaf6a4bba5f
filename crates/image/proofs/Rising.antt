-- The loop over the initial numbers: what the code tests of one is what 13 asks, where the least that it may be is one
-- above the number before. Assumes nothing.
use mathlib.Core.Path.{◌≡◌, refl}
use mathlib.Core.Bool.{Bool, true, false, ◌&&◌}
use mathlib.Core.List.{List}
use Prim.Native.Nat.{ℕ, zero, suc, ◌+◌, ◌*◌}
use native.Mathlib.Numerals.{add-one}
use native.Mathlib.Omega.{arith}
use lib.Dec.{leb, ltb}
use borrow.Author.Tests.{le-leb}
use Rattle.std.proofs.lemmas.Bool.Decides.{nat_tests}
use Rattle.answer.specs.Result.{require}
use Rattle.answer.proofs.Lowest.{turn_begins, turn_passes, turn_fails}
use Rattle.answer.specs.Bytes.{number_at}
use Rattle.image.specs.Reader.{initial_check}

-- what initial number i is to be at least
abbrev pub least_at : List ℕ → ℕ → ℕ
least_at xs zero = 0
least_at xs (suc i) = number_at xs (2 * i) + 1

pub least_next : (xs : List ℕ) (i : ℕ) {x : ℕ} → x ≡ number_at xs (2 * i) → x + 1 ≡ least_at xs (i + 1)
least_next xs i read = rw (add-one i, read)

pub initial_tested : (n : ℕ) (xs : List ℕ) (i : ℕ) {x least : ℕ} → x ≡ number_at xs (2 * i) → least ≡ least_at xs i
    → require (ltb x n && leb least x) 13 i ≡ initial_check n xs i
unfolding initial_check
initial_tested n xs zero {x} read next = rw (next, le-leb 0 x (omega arith), read) (passed (ltb (number_at xs 0) n))
  where
    passed : (b : Bool) → require (b && true) 13 0 ≡ require b 13 0
    passed true = refl
    passed false = refl
initial_tested n xs (suc i) {x} read next = rw (next, read) (grind (arith, nat_tests))

-- a turn of the loop over the initial numbers, for `image::check_initial`
pub ruleset initial_turns = (turn_begins, turn_passes, turn_fails, least_next, initial_tested)
