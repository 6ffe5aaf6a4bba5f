-- The loops that write the records of states and initial numbers: what is written so far stands in front.
-- Assumes nothing.
use mathlib.Core.Path.{◌≡◌, refl, ◌∙◌}
use mathlib.Core.List.{List}
use Prim.Native.Nat.{ℕ, suc, ◌+◌, ◌*◌, ◌/◌, ◌%◌, ◌≤◌, ◌<◌}
use native.Mathlib.Numerals.{add-one}
use native.Mathlib.Omega.{arith}
use lib.ListN.{length, get_or, take}
use lib.Seq.{sets, take-suc, length-take-le}
use lib.Dec.{eqb}
use Rattle.translation.specs.Degeneralized.{numbers}
use Rattle.automaton.specs.Records.{records, numbered, numbered_records}
use Rattle.answer.specs.Bytes.{two_bytes}
use Rattle.translation.specs.Memory.{row_count, row, level_places, rests_n, pair_bytes}
use Rattle.translation.proofs.Filling.{front_record}
use Rattle.automaton.proofs.Records.{numbered_last, number_length, state_length}

-- ---- the initial numbers

-- a loop that writes numbers and stands at i
pub record Initials (before table : List ℕ) (i : ℕ) : Type 0 where
  pub size : length table ≡ length before
  pub front : take (i * 2) table ≡ records two_bytes (numbers i)

pub initials_begin : (before : List ℕ) → Initials before before 0
unfolding numbers records
initials_begin before = record { size = refl; front = refl }

pub initials_step : (before : List ℕ) (n : ℕ) (table after : List ℕ) (i : ℕ) → n * 2 ≤ length before → i < n
    → Initials before table i → length after ≡ length table → after ≡ sets table (i * 2) (two_bytes i)
    → Initials before after (i + 1)
unfolding numbers
initials_step before n table after i room lt inv same e = record {
  size = same ∙ inv.size;
  front = rw (add-one i) (front_record two_bytes (numbers i) i table after (i * 2) (suc i * 2) inv.front
      (rw (number_length i) (omega arith)) (omega (arith, inv.size)) e);
}

-- ---- the states

-- a loop that writes the records of the pairs and stands at p
pub record States (ends kept : List ℕ) (r : ℕ) (pairs before table : List ℕ) (p : ℕ) : Type 0 where
  pub size : length table ≡ length before
  pub front : take (p * 4) table ≡ numbered_records (pair_bytes ends kept r) 0 (take p pairs)

pub states_begin : (ends kept : List ℕ) (r : ℕ) (pairs before : List ℕ) → States ends kept r pairs before before 0
unfolding records numbered
states_begin ends kept r pairs before = record { size = refl; front = refl }

module _ (ends kept : List ℕ) (r : ℕ) (pairs before table : List ℕ) (p : ℕ)
    (inv : States ends kept r pairs before table p) where
  module _ (lt : p < length pairs) (room : length pairs * 4 ≤ length before) where
    pub state_room : p * 4 + 4 ≤ length table
    state_room = omega (arith, inv.size)

    pub states_step : (after : List ℕ) → length after ≡ length table
        → after ≡ sets table (p * 4) (pair_bytes ends kept r p (get_or pairs p 0))
        → States ends kept r pairs before after (p + 1)
    states_step after same e =
        let number : 0 + length (take p pairs) ≡ p = omega (arith, length-take-le p pairs (omega arith)) in
        let code = get_or pairs p 0 in
        let size =
        state_length (row_count ends (code / level_places)) (eqb (code % level_places) r)
        (rests_n r code (row ends kept (code / level_places))) in
        record {
          size = same ∙ inv.size;
          front = rw (add-one p, take-suc pairs p 0 lt, numbered_last 0 (take p pairs) (get_or pairs p 0), number)
              (front_record (λ x. pair_bytes ends kept r x.0 x.1) (numbered 0 (take p pairs)) (p, get_or pairs p 0)
              table after (p * 4) (suc p * 4) inv.front (omega (arith, size)) (omega (arith, state_room)) e);
        }
