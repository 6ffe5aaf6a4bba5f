-- `judge::judge_remaining` meets its contract: the letters that are judged, as they are lent or gathered, are those
-- that remain. Assumes nothing.
use native.Mathlib.Omega.{arith}
use native.Mathlib.Nat.{mul-le-mul_left}
use Prim.Native.Nat.{ℕ, ◌*◌, ◌≤◌}
use lib.ListN.{length}
use Rattle.lasso.specs.Lasso.{max_letters}
use Rattle.lasso.proofs.Skipping.{remaining_fewer}
use Rattle.lasso.proofs.Checking.{lasso_some, lasso_few, remaining_few}
use Rattle.automaton.specs.Limits.{max_states}
use Rattle.judge.proofs.judge_remaining.Goals as goal
use Rattle.judge.proofs.judge_remaining.Goals.{After-none_skipped}

-- the working bytes are enough for as many letters as a lasso may have
enough : (c : After-none_skipped) → {k : ℕ} → k ≤ max_letters → max_states * k ≤ length c.args.work.now
enough c few = omega (arith, mul-le-mul_left max_states few, c.requires.1)

-- ---- no letter is skipped
pub judge_letters-requires : goal.judge_letters-requires
judge_letters-requires c =
    let some = lasso_some _ _ c.requires.0 in
    let cycle = c.args.lasso.now.cycle.now in (
      omega (arith, some, remaining_fewer cycle),
      enough
          (goal.at.judge_letters-requires c).After-none_skipped (lasso_few _ _ c.requires.0),
    )

-- ---- what remains is gathered in the first places
pub keep_remaining-stem_len-requires : goal.keep_remaining-stem_len-requires
keep_remaining-stem_len-requires c = omega (arith, lasso_few _ _ c.requires.0)

pub keep_remaining-cycle_len-requires : goal.keep_remaining-cycle_len-requires
keep_remaining-cycle_len-requires c = omega (arith, lasso_few _ _ c.requires.0)

pub judge_letters-requires-2 : goal.judge_letters-requires-2
judge_letters-requires-2 c =
    let lasso = c.args.lasso.now in (
      rw c.keep_remaining-cycle_len.ensures.1 (lasso_some _ _ c.requires.0),
      rw (c.keep_remaining-stem_len.ensures.1, c.keep_remaining-cycle_len.ensures.1)
          (enough (goal.at.judge_letters-requires-2 c).After-none_skipped
          (remaining_few lasso.stem.now lasso.cycle.now (lasso_few _ _ c.requires.0))),
    )
