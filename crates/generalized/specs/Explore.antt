-- A walk that numbers what it meets, as both walks do.
use Rattle.std.specs.Prelude.{ℕ, zero, suc, ◌+◌, List, [], ◌∷◌, ◌++◌, Bool, true, false, get_or, length, ltb}
use Rattle.answer.specs.Result.{Result, accepted, refused, and_then, Check}

module _ {A : Type 0} (same : A → A → Bool) where
  -- the number of x: its first place among xs, or their count where it is not among them
  unfoldable pub find : A → List A → ℕ
  find x [] = 0
  find x (y ∷ ys) = elim (same x y) [ true ↦ 0 | false ↦ suc (find x ys) ]

  -- xs when x is met: the same if x is among them, else with x behind them; where limit are numbered already, a new
  -- one is refused by full (01, First walk and second walk, sentences 7, 8 and 16)
  unfoldable pub meet : (limit full place : ℕ) → A → List A → Result (List A)
  meet limit full place x xs =
      elim (ltb (find x xs) (length xs)) [
        | true ↦ accepted xs
        | false ↦ elim (ltb (length xs) limit) [ true ↦ accepted (xs ++ (x ∷ [])) | false ↦ refused full place ]
      ]

-- how a walk numbers states: which two are the same, how many may have a number, the refusal of one more, and what is
-- asked of the transition of a state at place that has count before it
pub record Numbering (A : Type 0) : Type 0 where
  pub same : A → A → Bool
  pub limit : ℕ
  pub full : ℕ
  pub each : (place count : ℕ) → Check

-- the targets of the state at place, in order
unfoldable pub meet_all : {A : Type 0} (n : Numbering A) (place : ℕ) (targets : List A) (count : ℕ) → List A
    → Result (List A)
meet_all n place [] count xs = accepted xs
meet_all n place (y ∷ ys) count xs =
    and_then (n.each place count)
    (λ _. and_then (meet n.same n.limit n.full place y xs) (λ more. meet_all n place ys (suc count) more))

-- a walk: how it numbers, where a state leads, and what is asked of a state as it is taken. `none` is no state.
pub record Walk (A : Type 0) : Type 0 where
  pub numbering : Numbering A
  pub none : A
  pub targets : A → List A
  pub before : (place : ℕ) → A → Check

-- the walk over the states from place on, by number, those that it meets on its way too; count transitions lie before
-- it (01, First walk and second walk, sentence 3)
unfoldable pub explore : {A : Type 0} (w : Walk A) (fuel place count : ℕ) → List A → Result (List A)
explore w zero place count xs = accepted xs
explore w (suc fuel) place count xs =
    elim (ltb place (length xs)) [
      | true ↦ and_then (w.before place (get_or xs place w.none))
          (λ _. and_then (meet_all w.numbering place (w.targets (get_or xs place w.none)) count xs)
          (λ more. explore w fuel (suc place) (count + length (w.targets (get_or xs place w.none))) more))
      | false ↦ accepted xs
    ]

-- the whole walk from the states xs: no more than limit are taken
abbrev pub walked : {A : Type 0} (w : Walk A) → List A → Result (List A)
walked w xs = explore w w.numbering.limit 0 0 xs
