-- Translate and write in a row: the image of a rule's automaton stands at the buffer's start. Where both calls have
-- accepted, their answers say that the buffers were long enough. Assumes nothing.
use Prim.Native.Nat.{ℕ, ◌≤◌}
use mathlib.Core.Path.{◌≡◌, refl, sym, ◌∙◌, ap}
use mathlib.Core.List.{List, ◌++◌}
use native.Mathlib.Omega.{arith}
use lib.ListN.{length, take, drop, length-append}
use lib.Seq.{take_at}
use borrow.Author.Tests.{leb-true, le-leb}
use Rattle.answer.specs.Result.{Result, accepted, refused, and_then, Check, fine}
use Rattle.answer.specs.Buffer.{Buffer, buffer}
use Rattle.answer.specs.Bytes.{filled}
use Rattle.answer.proofs.Lowest.{fine_first, fine_second}
use Rattle.answer.proofs.Results.{require_fine, never_both, then_accepted}
use Rattle.automaton.specs.Automaton.{Automaton}
use Rattle.automaton.specs.Records.{state_records, transition_records, initial_records}
use Rattle.automaton.specs.Tables.{Counts, counts, Outcome, outcome, table_check, TablesRoom}
use Rattle.automaton.proofs.Room.{room_fine, fine_room, filled_room}
use Rattle.normalform.specs.NormalForm.{written_checked}
use Rattle.translation.specs.Translate.{written_translation, stored, unless, translated}
use Rattle.image.specs.Image.{image_bytes, largest_image}
use Rattle.image.specs.Calls.{buffer_check, written, read_counted, writes}
use Rattle.image.proofs.ImageAccepted.{counts_fit_lem, tables_read}
use Rattle.correctness.proofs.WellFormed.{written_well_formed}

module _ (rule s t i image : List ℕ) (fits : TablesRoom s t i) (room : largest_image ≤ length image)
    (bytes : written_checked rule ≡ fine) where
  -- the tables that translate fills pass the writer's checks
  image_written : (a : Automaton) → written_translation rule ≡ accepted a
      → writes (counts a) (filled s (state_records a)) (filled t (transition_records a)) (filled i (initial_records a)) image ≡ buffer (accepted (length (image_bytes a))) (image_bytes a ++ drop (length (image_bytes a)) image)
  unfolding writes
  image_written a e =
      let formed = written_well_formed rule a e in
      let tables =
      fine_room _ _ _
      (filled_room s t i (state_records a) (transition_records a) (initial_records a) fits) in
      rw (tables, le-leb largest_image (length image) room, counts_fit_lem a formed, tables_read a formed)

  module _ (s' t' i' : List ℕ) {told : Result Counts} (translates : outcome told s' t' i' ≡ translated rule s t i) where
    -- translate stores what the translation comes to
    pub is_stored : outcome told s' t' i' ≡ stored (written_translation rule) s t i
    unfolding translated
    is_stored = translates ∙ rw (fine_room s t i fits, bytes)

    module _ (c : Counts) (counted : told ≡ accepted c) (image' : List ℕ) {written : Result ℕ}
        (writing : buffer written image' ≡ writes c s' t' i' image) where
      -- the image of the rule's automaton is at the start of the buffer, and its records are in the tables
      pub record Stored : Type 0 where
        pub automaton : Automaton
        pub translated_to : written_translation rule ≡ accepted automaton
        pub tables : outcome told s' t' i' ≡ stored (accepted automaton) s t i
        answered : written ≡ accepted (length (image_bytes automaton))
        pub stored_in : image' ≡ image_bytes automaton ++ drop (length (image_bytes automaton)) image

      pub has_stored : Stored
      unfolding stored
      has_stored = go (written_translation rule) refl is_stored
        where
          go : (r : Result Automaton) → written_translation rule ≡ r → outcome told s' t' i' ≡ stored r s t i → Stored
          go (accepted a) known tables =
              let same : c ≡ counts a = cc (ap (λ (o : Outcome). o.answer) tables) in
              let handed : writes c s' t' i' image ≡ writes (counts a) (filled s (state_records a))
              (filled t (transition_records a)) (filled i (initial_records a)) image =
              λ k. writes (same k) (tables k).states (tables k).transitions (tables k).initial image in
              let done = writing ∙ handed ∙ image_written a known in
              record {
                automaton = a;
                translated_to = known;
                tables = tables;
                answered = ap (λ (b : Buffer). b.answer) done;
                stored_in = ap (λ (b : Buffer). b.bytes) done;
              }
          go (refused n p) known tables = never_both (sym (ap (λ (o : Outcome). o.answer) tables) ∙ counted)

      -- the writer refuses nothing
      pub write_refused : {A : Type 0} {number place : ℕ} → written ≡ refused number place → A
      write_refused e = never_both (sym e ∙ has_stored.answered)

      module _ (n : ℕ) (e : written ≡ accepted n) where
        abbrev a : Automaton
        a = has_stored.automaton

        image_size : length (image_bytes a) ≡ n
        image_size = cc has_stored.answered

        pub image_inside : n ≤ length image'
        image_inside =
            omega (
              arith,
              image_size,
              ap length has_stored.stored_in,
              length-append (image_bytes a)
                  (drop (length (image_bytes a)) image),
            )

        pub image_is : take n image' ≡ image_bytes a
        image_is =
            ap (take n) has_stored.stored_in
            ∙ take_at (image_bytes a) (drop (length (image_bytes a)) image) n image_size

-- ---- calls that have accepted

-- what an accepted answer says of the checks before it
translate_fine : (rule s t i s' t' i' : List ℕ) (c : Counts) → outcome (accepted c) s' t' i' ≡ translated rule s t i
    → (table_check s t i ≡ fine) × (written_checked rule ≡ fine)
unfolding translated
translate_fine rule s t i s' t' i' c e = go (and_then (table_check s t i) (λ _. written_checked rule)) refl e
  where
    go : (check : Check) → and_then (table_check s t i) (λ _. written_checked rule) ≡ check
        → outcome (accepted c) s' t' i' ≡ unless check (stored (written_translation rule) s t i) s t i
        → (table_check s t i ≡ fine) × (written_checked rule ≡ fine)
    go (accepted u) known is = (
      fine_first (table_check s t i) (written_checked rule) known,
      fine_second (table_check s t i)
          (written_checked rule) known,
    )
    go (refused number place) known is = never_both (sym (ap (λ (o : Outcome). o.answer) is))

write_fine : (c : Counts) (s t i image image' : List ℕ) (n : ℕ) → buffer (accepted n) image' ≡ writes c s t i image
    → buffer_check image ≡ fine
unfolding writes
write_fine c s t i image image' n e =
    go (and_then (table_check s t i) (λ _. and_then (buffer_check image) (λ _. read_counted c s t i))) refl e
  where
    go : (r : Result Automaton)
        → and_then (table_check s t i) (λ _. and_then (buffer_check image) (λ _. read_counted c s t i)) ≡ r
        → buffer (accepted n) image' ≡ written r image → buffer_check image ≡ fine
    go (accepted a) known is =
        let (_, _, after-tables) = then_accepted (table_check s t i) _ known in
        (then_accepted (buffer_check image) _ after-tables).1
    go (refused number place) known is = never_both (sym (ap (λ (b : Buffer). b.answer) is))

-- an automaton, its counts and its image
pub record Imaged (rule : List ℕ) (c : Counts) (image : List ℕ) : Type 0 where
  pub automaton : Automaton
  pub translated_to : written_translation rule ≡ accepted automaton
  pub counted : c ≡ counts automaton
  pub is_image : image ≡ image_bytes automaton

-- translate has accepted the written rule, write the tables and counts that translate left: the image that write left
-- is that of the rule's automaton
pub two_calls : (rule s t i s' t' i' image image' : List ℕ) (c : Counts) (n : ℕ)
    → outcome (accepted c) s' t' i' ≡ translated rule s t i → buffer (accepted n) image' ≡ writes c s' t' i' image
    → Imaged rule c (take n image')
unfolding stored
two_calls rule s t i s' t' i' image image' c n translating writing =
    let (tables, bytes) = translate_fine rule s t i s' t' i' c translating in
    let fits = room_fine s t i tables in
    let buffers = write_fine c s' t' i' image image' n writing in
    let room = leb-true largest_image (length image) (require_fine _ 25 0 buffers) in
    let made = has_stored rule s t i image fits room bytes s' t' i' translating c refl image' writing in
    record {
      automaton = made.automaton;
      translated_to = made.translated_to;
      counted = cc (ap (λ (o : Outcome). o.answer) made.tables);
      is_image = image_is rule s t i image fits room bytes s' t' i' translating c refl image' writing n refl;
    }
