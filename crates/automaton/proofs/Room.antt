-- Three tables against 25: from the tests that the code makes to the lengths, and back. Assumes nothing.
use mathlib.Core.Path.{◌≡◌}
use mathlib.Core.Bool.{Bool, true, false, not, ◌&&◌, and-eq-true_iff}
use mathlib.Core.List.{List}
use Prim.Native.Nat.{ℕ, ◌-◌, ◌≤◌, ◌<◌}
use native.Mathlib.Omega.{arith}
use lib.ListN.{length, replicate, length-append, length-replicate}
use lib.Dec.{leb}
use borrow.Author.Tests.{leb-true, le-leb, lt-leb, not-true, not-false}
use Rattle.answer.specs.Result.{refused, fine}
use Rattle.answer.specs.Bytes.{filled}
use Rattle.answer.proofs.Results.{require_fine}
use Rattle.automaton.specs.Limits.{states_bytes, transitions_bytes, initial_bytes}
use Rattle.automaton.specs.Tables.{lengths_fit, table_check, TablesRoom}

module _ (s t i : List ℕ) where
  abbrev sizes : Bool
  sizes = lengths_fit (length s) (length t) (length i)

  pub room_fits : sizes ≡ true → TablesRoom s t i
  room_fits e =
      let tests = (and-eq-true_iff (leb states_bytes (length s)) _).0 e in
      let rest = (and-eq-true_iff (leb transitions_bytes (length t)) _).0 tests.1 in
      record {
        states = leb-true states_bytes (length s) tests.0;
        transitions = leb-true transitions_bytes (length t) rest.0;
        initial = leb-true initial_bytes (length i) rest.1;
      }

  pub fits_room : TablesRoom s t i → sizes ≡ true
  fits_room room =
      let first = le-leb states_bytes (length s) room.states in
      let second = le-leb transitions_bytes (length t) room.transitions in
      rw (first, second) (le-leb initial_bytes (length i) room.initial)

  pub tables_short : {r : Bool} → r ≡ sizes → not r ≡ true → table_check s t i ≡ refused 25 0
  unfolding table_check
  tables_short {r} e f = rw (← e, not-true r f)

  pub room_fine : table_check s t i ≡ fine → TablesRoom s t i
  unfolding table_check
  room_fine e = room_fits (require_fine sizes 25 0 e)

  pub fine_room : TablesRoom s t i → table_check s t i ≡ fine
  unfolding table_check
  fine_room room = rw (fits_room room)

-- a table that was filled is no shorter
filled_longer : (table bytes : List ℕ) → length table ≤ length (filled table bytes)
filled_longer table bytes =
    let zeros = length table - length bytes in
    rw (length-append bytes (replicate zeros 0), length-replicate {A = ℕ} zeros 0) (omega arith)

pub filled_room : (s t i x y z : List ℕ) → TablesRoom s t i → TablesRoom (filled s x) (filled t y) (filled i z)
filled_room s t i x y z room = record {
  states = omega (arith, room.states, filled_longer s x);
  transitions = omega (arith, room.transitions, filled_longer t y);
  initial = omega (arith, room.initial, filled_longer i z);
}
