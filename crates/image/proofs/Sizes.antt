-- How many bytes the image of an automaton takes: those of the contents, and 4, 4 and 2 a record, so that its counts
-- alone decide it. Assumes nothing.
use mathlib.Core.Path.{◌≡◌, refl}
use mathlib.Core.List.{List, ◌++◌}
use Prim.Native.Nat.{ℕ, ◌*◌}
use native.Mathlib.Omega.{arith}
use lib.ListN.{length, length-append}
use Rattle.automaton.specs.Automaton.{Automaton}
use Rattle.answer.specs.Bytes.{two_bytes}
use Rattle.automaton.specs.Records.{state_records, transition_records, initial_records}
use Rattle.automaton.specs.Tables.{Counts, counts, transition_count}
use Rattle.automaton.proofs.Records.{records_length, number_length, states_length, transitions_count}
use Rattle.image.specs.Image.{entry, image_length, contents, image_bytes, contents_bytes}

pub contents_size : (c : Counts) → length (contents c) ≡ contents_bytes
unfolding contents entry two_bytes
contents_size c = refl

-- contents and bodies in a row
pub row_size : (c : Counts) (s t i : List ℕ) → length s ≡ 4 * c.states → length t ≡ 4 * c.transitions
    → length i ≡ 2 * c.initial → length (contents c ++ (s ++ (t ++ i))) ≡ image_length c
row_size c s t i es et ei = simp (length-append, contents_size, es, et, ei) (omega arith)

module _ (a : Automaton) where
  pub states_size : length (state_records a) ≡ 4 * length a.states
  states_size = omega (arith, states_length a)

  pub transitions_size : length (transition_records a) ≡ 4 * transition_count a.states
  unfolding transition_records
  transitions_size = omega (arith, transitions_count a.states)

  pub initial_size : length (initial_records a) ≡ 2 * length a.initial
  unfolding initial_records
  initial_size = omega (arith, records_length two_bytes 2 number_length a.initial)

  pub image_size : length (image_bytes a) ≡ image_length (counts a)
  unfolding image_bytes
  image_size =
      row_size (counts a) (state_records a) (transition_records a) (initial_records a)
      states_size transitions_size initial_size
