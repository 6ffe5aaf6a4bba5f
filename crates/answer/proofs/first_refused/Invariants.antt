-- `answer::first_refused` meets its contract: the checks before i are fine. Assumes nothing.
use Rattle.std.proofs.Common.{◌≡◌, ℕ}
use Rattle.answer.specs.Result.{lowest, fine, Check, Checks}
use Rattle.answer.proofs.first_refused.Given as goal

abbrev pub invariant-loop-i : goal.invariant-loop-i
invariant-loop-i g l = (checks : ℕ → Check) → Checks (goal.F-post g l.check) checks l.n → lowest checks l.i ≡ fine
