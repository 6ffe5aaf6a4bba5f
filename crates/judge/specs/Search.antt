-- Whether an automaton has an accepting pass on a lasso, as a value: a search over points, each a position of the lasso
-- and a state. `has_accepting_pass_iff` (proofs/HasAcceptingPass.antt) says that it is true exactly where there is an
-- `AcceptingPass`, which renders 01, Judging, sentences 1 to 4.
use Rattle.std.specs.Prelude.{ℕ, List, Bool, ◌&&◌, get_or}
use Rattle.sets.specs.Sets.{any}
use Rattle.automaton.specs.Automaton.{Automaton, no_state}
use Rattle.rest.specs.Search.{Point, member, onward, reached_from, starts}

module _ (a : Automaton) (stem cycle : List ℕ) where
  abbrev pub accepting : Point → Bool
  accepting x = (get_or a.states x.state no_state).accepting

  -- some point that can be reached accepts, and can be reached again from those after it
  unfoldable pub has_accepting_pass : Bool
  has_accepting_pass =
      any (λ x. accepting x && member x (reached_from a stem cycle (onward a stem cycle x)))
      (reached_from a stem cycle (starts a stem cycle))
