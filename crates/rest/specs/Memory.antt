-- How the code goes about the search to rest: what it keeps in memory, and what each step makes of that. What the
-- search is, specs/Rest.antt says. It takes points in the order of `reach`, level after level: those at one position,
-- then those met meanwhile at the next. So two lists of states are enough for the points still to be taken, one for
-- the level and one for the next; and a byte for each position and state marks the points that were met.
use Rattle.std.specs.Prelude.{ℕ, suc, ◌+◌, ◌*◌, ◌<◌, ◌≤◌, ◌≡◌, List, ◌++◌, map, true, false, get_or, length, take}
use Rattle.std.specs.Prelude.{Option, Some, None}
use Rattle.sets.specs.Sets.{In}
use Rattle.automaton.specs.Automaton.{Automaton}
use Rattle.automaton.specs.Limits.{max_states}
use Rattle.image.specs.Reader.{counts_at}
use Rattle.image.specs.Lookup.{records_at}
use Rattle.lasso.specs.Lasso.{after}
use Rattle.rest.specs.declared.Level.{Level}
use Rattle.rest.specs.Search.{Point, point, visit_all, reach, reached_from, starts}
use Rattle.rest.specs.Rest.{resting, rest_taken, pairs_taken}

-- ---- the image

-- a table of where the transition records of each state begin
pub record Placed (image places : List ℕ) : Type 0 where
  pub begin : (q : ℕ) → q < (counts_at image).states → get_or places q 0 ≡ records_at image q

-- ---- the points met

-- the bytes of position p mark the points met there: that of a state is 1 exactly where it was met
pub record Marked (p : ℕ) (work : List ℕ) (met : List Point) : Type 0 where
  pub marked : (q : ℕ) → q < max_states → In (point p q) met → get_or work (max_states * p + q) 0 ≡ 1
  pub only : (q : ℕ) → q < max_states → get_or work (max_states * p + q) 0 ≡ 1 → In (point p q) met

-- and so do those of each position for which there are bytes
abbrev pub Marks : (work : List ℕ) (met : List Point) → Type 0
Marks work met = (p : ℕ) → max_states * suc p ≤ length work → Marked p work met

-- the marks, and a level, which lists the states met
pub record Buffers : Type 0 where
  pub work : List ℕ
  pub level : Level

abbrev pub buffers : (work : List ℕ) (level : Level) → Buffers
buffers work level = record { work = work; level = level }

-- the buffers show the points met: those of older and, behind them, those of the states listed, at position p. No state
-- is listed twice, and all are among the n that there are.
pub record Shows (n p : ℕ) (b : Buffers) (older met : List Point) : Type 0 where
  pub small : n ≤ max_states
  pub bytes : max_states * suc p ≤ length b.work
  pub size : length b.level.states ≡ max_states
  pub marks : Marks b.work met
  pub listed : met ≡ older ++ map (point p) (take b.level.count b.level.states)
  pub below : (i : ℕ) → i < b.level.count → get_or b.level.states i 0 < n
  pub apart : (i j : ℕ) → i < j → j < b.level.count → get_or b.level.states i 0 ≡ get_or b.level.states j 0 → ⊥

-- the buffers show some points at position p
pub record Ready (n p : ℕ) (b : Buffers) : Type 0 where
  pub older : List Point
  pub met : List Point
  pub shows : Shows n p b older met

-- the points xs are met, whichever the buffers showed before
pub record Fills (n p : ℕ) (before after : Buffers) (xs : List Point) : Type 0 where
  pub fills : (older met : List Point) → Shows n p before older met → Shows n p after older (visit_all xs met)

-- ---- the search

module _ (a : Automaton) (stem cycle : List ℕ) where
  -- the search has taken the first k of the points met, and none of these is at rest
  pub record Searching (k : ℕ) (met : List Point) : Type 0 where
    pub within : k ≤ length met
    pub calm : (i : ℕ) → i < k → resting a stem cycle (get_or met i (point 0 0)) ≡ false
    pub fuel : ℕ
    pub enough : length a.states * (length stem + length cycle) ≤ k + fuel
    pub same : reach a stem cycle fuel k met ≡ reached_from a stem cycle (starts a stem cycle)

  -- it stands before a level at position p: k points were taken, and the states of those that are not are listed
  pub record Before (n p k : ℕ) (b : Buffers) : Type 0 where
    pub older : List Point
    pub met : List Point
    pub inside : p < length stem + length cycle
    pub shows : Shows n p b older met
    pub long : length older ≡ k
    pub searching : Searching k met

  -- how a level at position p ends: with a point at rest, the last one taken, of `pairs`; or `total` are taken, and the
  -- search stands before the next level
  abbrev pub Ended : (n p total : ℕ) → Option ℕ → Buffers → Type 0
  Ended n p total (Some pairs) b = (true ≡ rest_taken a stem cycle) × (pairs ≡ pairs_taken a stem cycle)
  Ended n p total None b = Before n (after stem cycle p) total b

  -- the bytes of each position of the lasso mark the points there that can be reached
  abbrev pub ReachedMarked : (work : List ℕ) → Type 0
  ReachedMarked work =
      (p : ℕ) → p < length stem + length cycle → Marked p work (reached_from a stem cycle (starts a stem cycle))
