-- A search over points, each a position of a lasso and a state of an automaton, breadth first: which points can be
-- reached from given ones, in the order in which they are met and taken.
use Rattle.std.specs.Prelude.{ℕ, zero, suc, ◌+◌, ◌*◌, List, [], ◌∷◌, ◌++◌, map, Bool, true, false, ◌&&◌, get_or, length}
use Rattle.std.specs.Prelude.{eqb, ltb}
use Rattle.sets.specs.Sets.{any}
use Rattle.lasso.specs.Lasso.{letter, after}
use Rattle.automaton.specs.Automaton.{Transition, Automaton, no_state, reads}

pub record Point : Type 0 where
  pub position : ℕ
  pub state : ℕ

abbrev pub point : ℕ → ℕ → Point
point position state = record { position = position; state = state }

abbrev pub same_point : Point → Point → Bool
same_point x y = eqb x.position y.position && eqb x.state y.state

abbrev pub member : Point → List Point → Bool
member x ys = any (same_point x) ys

-- the points met so far, and one that was not among them at their end
unfoldable pub visit : Point → List Point → List Point
visit x met = elim (member x met) [ true ↦ met | false ↦ met ++ (x ∷ []) ]

unfoldable pub visit_all : List Point → List Point → List Point
visit_all [] met = met
visit_all (x ∷ xs) met = visit_all xs (visit x met)

-- where the transitions that read the letter lead, in order, at the next position
unfoldable pub read_targets : (letter next : ℕ) → List Transition → List Point
read_targets x next [] = []
read_targets x next (t ∷ ts) = elim (reads t x) [
  | true ↦ point next t.target ∷ read_targets x next ts
  | false ↦ read_targets x next ts
]

module _ (a : Automaton) (stem cycle : List ℕ) where
  -- the points that a step leads to
  unfoldable pub onward : Point → List Point
  onward x =
      read_targets (letter stem cycle x.position) (after stem cycle x.position)
      (get_or a.states x.state no_state).transitions

  -- the points met, when the first `taken` of them have been taken: each one taken meets those that it leads to
  unfoldable pub reach : (fuel taken : ℕ) (met : List Point) → List Point
  reach zero taken met = met
  reach (suc fuel) taken met = elim (ltb taken (length met)) [
    | true ↦ reach fuel (suc taken) (visit_all (onward (get_or met taken (point 0 0))) met)
    | false ↦ met
  ]

  -- all points that can be reached from the given ones: each is taken once, so states times positions are enough
  unfoldable pub reached_from : List Point → List Point
  reached_from from = reach (length a.states * (length stem + length cycle)) 0 (visit_all from [])

  -- the initial states, at letter 0
  unfoldable pub starts : List Point
  starts = map (point 0) a.initial
