-- What a lasso has that 8, 9 and 28 let pass. Assumes nothing.
use Prim.Native.Nat.{ℕ, ◌+◌, ◌<◌, ◌≤◌}
use mathlib.Core.Path.{◌≡◌, sym}
use mathlib.Core.List.{List}
use native.Mathlib.Omega.{arith}
use lib.ListN.{length}
use lib.Dec.{leb, ltb}
use borrow.Author.Tests.{lt-ltb, ltb-true, leb-true, le-leb}
use Rattle.answer.specs.Result.{fine, require}
use Rattle.answer.proofs.Lowest.{fine_first, fine_second}
use Rattle.answer.proofs.Results.{require_fine}
use Rattle.lasso.specs.Lasso.{remaining, max_letters, lasso_check}
use Rattle.lasso.proofs.Skipping.{remaining_fewer, remaining_again}

module _ (stem cycle : List ℕ) where
  -- of the cycle of a lasso that is not refused a letter remains
  pub lasso_some : fine ≡ lasso_check stem cycle → 0 < length (remaining cycle)
  unfolding lasso_check
  lasso_some e =
      ltb-true 0 (length (remaining cycle))
      (require_fine _ 28 0
      (fine_second (require (leb (length stem + length cycle) max_letters) 9 0) _
      (fine_second (require (ltb 0 (length cycle)) 8 0) _ (sym e))))

  -- and it has no more letters than a lasso may have
  pub lasso_few : fine ≡ lasso_check stem cycle → length stem + length cycle ≤ max_letters
  unfolding lasso_check
  lasso_few e =
      leb-true (length stem + length cycle) max_letters
      (require_fine _ 9 0
      (fine_first (require (leb (length stem + length cycle) max_letters) 9 0) _
      (fine_second (require (ltb 0 (length cycle)) 8 0) _ (sym e))))

  -- and nothing else is asked of it
  pub lasso_within : 0 < length (remaining cycle) → length stem + length cycle ≤ max_letters
      → fine ≡ lasso_check stem cycle
  unfolding lasso_check
  lasso_within some few =
      rw (
        lt-ltb 0 (length cycle) (omega (arith, remaining_fewer cycle)),
        le-leb (length stem + length cycle) max_letters few,
        lt-ltb 0 (length (remaining cycle)) some,
      )

  -- what remains of it has no more letters either
  pub remaining_few : length stem + length cycle ≤ max_letters
      → length (remaining stem) + length (remaining cycle) ≤ max_letters
  remaining_few few = omega (arith, remaining_fewer stem, remaining_fewer cycle)

-- what is known of one that is not refused
pub ruleset lasso_known = (lasso_some, lasso_few, remaining_few, remaining_fewer)

-- so what remains of a lasso that is not refused is not refused as a lasso of its own
pub remaining_fine : (stem cycle : List ℕ) → fine ≡ lasso_check stem cycle
    → fine ≡ lasso_check (remaining stem) (remaining cycle)
remaining_fine stem cycle e =
    lasso_within (remaining stem) (remaining cycle) (rw (remaining_again cycle) (lasso_some stem cycle e))
    (remaining_few stem cycle (lasso_few stem cycle e))
