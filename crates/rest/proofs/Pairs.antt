-- The pairs taken are points that can be reached, and of these none is met twice. Assumes nothing.
use Prim.Native.Nat.{ℕ, ◌+◌, ◌*◌, ◌<◌, ◌≤◌}
use mathlib.Core.List.{List}
use native.Mathlib.Omega.{arith}
use lib.ListN.{length}
use Rattle.automaton.specs.Automaton.{Automaton}
use Rattle.automaton.proofs.InRange.{InRange}
use Rattle.rest.specs.Search.{reached_from, starts}
use Rattle.rest.specs.Rest.{resting, taken, pairs_taken}
use Rattle.rest.proofs.Searching.{cut_short, reached_few}

-- The bound of 02, R-5, last sentence: on any lasso whose cycle has a letter, judging takes at most as many pairs as
-- there are states times letters in stem and cycle. That targets and initial numbers are states, the reader checks.
pub pairs_few : (a : Automaton) (stem cycle : List ℕ) → InRange a → 0 < length cycle
    → pairs_taken a stem cycle ≤ length a.states * (length stem + length cycle)
unfolding pairs_taken taken
pairs_few a stem cycle range pos =
    omega (
      arith,
      cut_short (resting a stem cycle) (reached_from a stem cycle (starts a stem cycle)),
      reached_few a stem cycle range pos,
    )
