-- Pairs whose transitions stand in the first walk's tables: what a function that reads them there knows.
-- Assumes nothing.
use mathlib.Core.Path.{◌≡◌, sym, subst}
use mathlib.Core.Logic.{inl, inr}
use mathlib.Core.List.{List, [], ◌∷◌}
use Prim.Native.Nat.{ℕ, ◌/◌, ◌≤◌, ◌<◌}
use native.Mathlib.Omega.{arith}
use lib.ListN.{length, drop, length-drop}
use lib.Seq.{length-take-le}
use Rattle.sets.specs.Sets.{In}
use Rattle.automaton.specs.Limits.{max_of_state}
use Rattle.translation.specs.Memory.{row_start, row_count, row, level_places, PairRows, Leads}

module _ {ends transitions : List ℕ} {r : ℕ} {codes : List ℕ} (rows : PairRows ends transitions r codes)
    (code : ℕ) (among : In code codes) where
  pub state_within : code / level_places < rows.listed.states
  state_within = rows.listed.within code among

  pub row_few : row_count ends (code / level_places) ≤ max_of_state
  row_few = rows.listed.rows.few (code / level_places) state_within

  pub own_size : length (row ends transitions (code / level_places)) ≡ row_count ends (code / level_places)
  own_size =
      let rises = rows.listed.rows.rising (code / level_places) state_within in
      let inside = rows.listed.rows.inside (code / level_places) state_within in
      length-take-le (row_count ends (code / level_places)) (drop (row_start ends (code / level_places)) transitions)
      (omega (arith, length-drop (row_start ends (code / level_places)) transitions, rises, inside, rows.size))

  pub own_leads : Leads (row ends transitions (code / level_places))
  own_leads x h = omega (arith, rows.closed (code / level_places) state_within x h, rows.listed.rows.states)

-- one of several pairs by itself
pub one_alone : {ends transitions : List ℕ} {r : ℕ} {codes : List ℕ} (code : ℕ) → PairRows ends transitions r codes
    → In code codes → PairRows ends transitions r (code ∷ [])
one_alone {ends} {transitions} {r} {codes} code rows among = record {
  listed = record {
    states = rows.listed.states;
    rows = rows.listed.rows;
    within = λ x h. elim h [
      | inl e ↦ subst (λ (y : ℕ). y / level_places < rows.listed.states) (sym e) (rows.listed.within code among)
      | inr none ↦ absurd none
    ];
  };
  size = rows.size;
  levels = rows.levels;
  closed = rows.closed;
}
