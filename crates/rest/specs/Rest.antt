-- The pairs of position and state, here points, that judging takes: breadth first, until one is at rest (02, R-5).
use Rattle.std.specs.Prelude.{ℕ, List, [], ◌∷◌, Bool, true, false, get_or, length}
use Rattle.sets.specs.Sets.{any}
use Rattle.automaton.specs.Automaton.{Automaton, no_state, at_rest}
use Rattle.rest.specs.Search.{Point, reached_from, starts}

-- the members of a list up to the first that passes the test, which is the last then
unfoldable pub up_to : {A : Type 0} → (A → Bool) → List A → List A
up_to test [] = []
up_to test (x ∷ xs) = elim (test x) [ true ↦ x ∷ [] | false ↦ x ∷ up_to test xs ]

module _ (a : Automaton) (stem cycle : List ℕ) where
  abbrev pub resting : Point → Bool
  resting x = at_rest x.state (get_or a.states x.state no_state)

  -- The points taken. A search takes points in the order in which it meets them, begun with the initial states as they
  -- stand and going on with what each one's transitions lead to, in order; it ends with the first at rest. Without one,
  -- all that can be reached are taken.
  unfoldable pub taken : List Point
  taken = up_to resting (reached_from a stem cycle (starts a stem cycle))

  -- whether one of them is at rest
  unfoldable pub rest_taken : Bool
  rest_taken = any resting taken

  -- how many they are
  unfoldable pub pairs_taken : ℕ
  pairs_taken = length taken
