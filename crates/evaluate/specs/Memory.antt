-- How the table of flags lies in memory: row k begins at place k * max_letters and has a place for each position.
use Rattle.std.specs.Prelude.{ℕ, ◌+◌, ◌-◌, ◌*◌, ◌/◌, ◌%◌, ◌^◌, ◌<◌, ◌≤◌, ◌≡◌, List, [], Bool, true, false, cond, not}
use Rattle.std.specs.Prelude.{◌&&◌, ◌||◌, get_or, length, take, drop, eqb}
use Rattle.lasso.specs.Lasso.{letter, after, max_letters}
use Rattle.formula.specs.Rule.{node_count}
use Rattle.evaluate.specs.Truth.{sweep, truth}

-- ---- one flag

-- of a leaf, by the letter
abbrev pub leaf_here : (kind p x : ℕ) → Bool
leaf_here kind p x =
    cond (eqb kind 0) false (cond (eqb kind 1) true (cond (eqb kind 2) (eqb (x / 2 ^ p % 2) 1) (eqb (x / 2 ^ p % 2) 0)))

-- of an and, an or or a next, by its sides there and its left side at the next position
abbrev pub pair_here : (kind : ℕ) (a b ahead : Bool) → Bool
pair_here kind a b ahead = cond (eqb kind 4) (a && b) (cond (eqb kind 5) (a || b) ahead)

-- of an until or a release, by its sides there and itself at the next position
abbrev pub round_here : (kind : ℕ) (a b next : Bool) → Bool
round_here kind a b next = cond (eqb kind 7) (b || (a && next)) (b && (a || next))

-- ---- by the rows that begin at places a and b

abbrev pub leaf_step : (kind p : ℕ) (stem cycle : List ℕ) → ℕ → Bool → Bool
leaf_step kind p stem cycle i next = leaf_here kind p (letter stem cycle i)

abbrev pub pair_step : (kind : ℕ) (table : List Bool) (a b : ℕ) (stem cycle : List ℕ) → ℕ → Bool → Bool
pair_step kind table a b stem cycle i next =
    pair_here kind (get_or table (a + i) false) (get_or table (b + i) false)
    (get_or table (a + after stem cycle i) false)

abbrev pub round_step : (kind : ℕ) (table : List Bool) (a b : ℕ) → ℕ → Bool → Bool
round_step kind table a b i next = round_here kind (get_or table (a + i) false) (get_or table (b + i) false) next

-- what is behind the last position in the first round: an until has not come, a release has not been broken
abbrev pub opening : ℕ → Bool
opening kind = not (eqb kind 7)

-- ---- rows

-- a pass backwards over the row that begins at place `at`, which has `end` positions and stands at position i
pub record Swept (f : ℕ → Bool → Bool) (at end : ℕ) (v : Bool) (before after : List Bool) (i : ℕ) : Type 0 where
  pub within : i ≤ end
  pub size : length after ≡ length before
  pub row : take (end - i) (drop (at + i) after) ≡ sweep f i (end - i) v
  pub kept : take (at + i) after ≡ take (at + i) before

-- the row that begins at place `at` has these flags, and what is before it is as it was
pub record RowStored (at count : ℕ) (flags before after : List Bool) : Type 0 where
  pub size : length after ≡ length before
  pub row : take count (drop at after) ≡ flags
  pub kept : take at after ≡ take at before

-- the first k rows are those of the table of a rule
pub record Filled (rule stem cycle : List ℕ) (table : List Bool) (k : ℕ) : Type 0 where
  pub rows : (j : ℕ) → j < k
      → take (length stem + length cycle) (drop (j * max_letters) table) ≡ get_or (truth rule stem cycle) j []

-- what filling asks for: a lasso within the limits, and room for the rows of all nodes
pub record Room (rule stem cycle : List ℕ) (table : List Bool) : Type 0 where
  pub some : 0 < length cycle
  pub few : length stem + length cycle ≤ max_letters
  pub places : node_count rule * max_letters ≤ length table
