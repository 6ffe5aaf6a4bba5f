-- Translate, write and judge in a row: what each call hands to the next, and what the five buffers hold at each way
-- out. Assumes nothing.
use Prim.Native.Nat.{ℕ, ◌≤◌, ◌<◌}
use mathlib.Core.Path.{◌≡◌, refl, sym, ◌∙◌, ap}
use mathlib.Core.List.{List}
use mathlib.Core.Bool.{Bool, true, not}
use lib.ListN.{length, take}
use borrow.Author.Tests.{leb-true, le-leb, lt-leb}
use Rattle.answer.specs.Result.{Result, accepted, refused, fine}
use Rattle.normalform.specs.NormalForm.{written_checked}
use Rattle.answer.proofs.Results.{require_fine, never_both, then_accepted}
use Rattle.automaton.specs.Automaton.{Automaton}
use Rattle.automaton.specs.Tables.{Counts, Outcome, outcome, lengths_fit, table_check, TablesRoom}
use Rattle.automaton.proofs.Room.{tables_short, room_fine, fine_room}
use Rattle.translation.specs.Translate.{written_translation, stored, translated}
use Rattle.image.specs.Image.{largest_image}
use Rattle.image.specs.Calls.{buffer_check, writes}
use Rattle.answer.specs.Buffer.{buffer}
use Rattle.judge.specs.Judge.{work_bytes, Finding, judgement, letters_judged, judged}
use Rattle.lasso.specs.Lasso.{remaining, lasso_check}
use Rattle.judge.proofs.VerdictIff.{image_judged}
use Rattle.correctness.proofs.WellFormed.{written_well_formed}
use Rattle.demands.specs.Demand.{room_check, input_check, Decision, decision, concluded, decided}
use Rattle.demands.proofs.TwoCalls.{Stored, is_stored, has_stored, image_is}

-- ---- buffers that are long enough, a rule and a lasso that are not refused

-- what 25 lets pass, and then 1 to 7, 26, 8, 9 and 28
pub record Room (states transitions initial image work : List ℕ) : Type 0 where
  pub tables : TablesRoom states transitions initial
  pub buffer : largest_image ≤ length image
  pub working : work_bytes ≤ length work

pub record Passed (rule stem cycle states transitions initial image work : List ℕ) : Type 0 where
  pub room : Room states transitions initial image work
  pub bytes : written_checked rule ≡ fine
  pub lasso : lasso_check stem cycle ≡ fine

-- ---- the three calls

module _ (rule stem cycle s t i image work : List ℕ) (passes : input_check rule stem cycle s t i image work ≡ fine)
  where
    pub passed : Passed rule stem cycle s t i image work
    unfolding input_check room_check
    passed =
        let (_, room, after-room) = then_accepted (room_check s t i image work) _ passes in
        let (_, tables, after-tables) = then_accepted (table_check s t i) _ room in
        let (_, buffer, works) = then_accepted (buffer_check image) _ after-tables in
        let (_, bytes, lasso) = then_accepted (written_checked rule) _ after-room in
        record {
          room = record {
            tables = room_fine s t i tables;
            buffer = leb-true largest_image (length image) (require_fine _ 25 0 buffer);
            working = leb-true work_bytes (length work) (require_fine _ 25 0 works);
          };
          bytes = bytes;
          lasso = lasso;
        }

    fits : TablesRoom s t i
    fits = passed.room.tables

    room : largest_image ≤ length image
    room = passed.room.buffer

    bytes : written_checked rule ≡ fine
    bytes = passed.bytes

    module _ (s' t' i' : List ℕ) {told : Result Counts} (translates : outcome told s' t' i' ≡ translated rule s t i) where
      -- 20 to 24
      pub rule_refused : {number place : ℕ} → told ≡ refused number place
          → decision (refused number place) s' t' i' image work ≡ concluded (written_translation rule) stem cycle s t i image work
      unfolding stored
      rule_refused {number} {place} e =
          go (written_translation rule) refl (is_stored rule s t i image fits room bytes s' t' i' translates)
        where
          go : (r : Result Automaton) → written_translation rule ≡ r → outcome told s' t' i' ≡ stored r s t i
              → decision (refused number place) s' t' i' image work ≡ concluded r stem cycle s t i image work
          go (accepted a) known is = never_both (sym e ∙ ap (λ (o : Outcome). o.answer) is)
          go (refused n p) known is =
              let same : ◌≡◌ {A = Result Counts} (refused number place) (refused n p) =
              sym e ∙ ap (λ (o : Outcome). o.answer) is in
              let same_number : number ≡ n = cc in
              let same_place : place ≡ p = cc in
              λ k. decision (refused (same_number k) (same_place k)) (is k).states (is k).transitions (is k).initial image
              work

      module _ (c : Counts) (counted : told ≡ accepted c) (image' : List ℕ) {written : Result ℕ}
          (writing : buffer written image' ≡ writes c s' t' i' image) (n : ℕ) (e : written ≡ accepted n) where
        abbrev has : Stored rule s t i image fits room bytes s' t' i' translates c counted image' writing
        has = has_stored rule s t i image fits room bytes s' t' i' translates c counted image' writing

        abbrev a : Automaton
        a = has.automaton

        pub lasso_judged : {answer : Result Finding} {work' : List ℕ}
            → judgement answer work' ≡ judged (take n image') stem cycle work
            → decision answer s' t' i' image' work' ≡ concluded (written_translation rule) stem cycle s t i image work
        unfolding stored
        lasso_judged {answer} {work'} judges =
            let known : judgement answer work' ≡ letters_judged a (remaining stem) (remaining cycle) work =
            judges ∙ ap (λ (bytes : List ℕ). judged bytes stem cycle work)
            (image_is rule s t i image fits room bytes s' t' i' translates c counted image' writing n e) ∙ image_judged a
            (written_well_formed rule a has.translated_to) stem cycle work passed.lasso passed.room.working in
            let tables = has.tables in
            rw has.translated_to (λ k. decision (known k).answer (tables k).states (tables k).transitions
            (tables k).initial (has.stored_in k) (known k).work)

-- ---- the checks before them

module _ (rule stem cycle s t i image work : List ℕ) where
  -- the input is refused, and every byte is as it was
  abbrev Refuses : (number place : ℕ) → Type 0
  Refuses number place =
      decision (refused number place) s t i image work ≡ decided rule stem cycle s t i image work

  pub tables_refused : {r : Bool} → r ≡ lengths_fit (length s) (length t) (length i) → not r ≡ true → Refuses 25 0
  unfolding decided input_check room_check
  tables_refused fit f = rw (tables_short s t i fit f)

  module _ (tables : TablesRoom s t i) where
    pub buffer_refused : length image < largest_image → Refuses 25 0
    unfolding decided input_check room_check
    buffer_refused lt = rw (fine_room s t i tables, lt-leb largest_image (length image) lt)

    pub work_refused : largest_image ≤ length image → length work < work_bytes → Refuses 25 0
    unfolding decided input_check room_check
    work_refused le lt =
        rw (fine_room s t i tables, le-leb largest_image (length image) le, lt-leb work_bytes (length work) lt)

  module _ (room : Room s t i image work) where
    room_fits : room_check s t i image work ≡ fine
    unfolding room_check
    room_fits =
        let buffer = le-leb largest_image (length image) room.buffer in
        rw (fine_room s t i room.tables, buffer, le-leb work_bytes (length work) room.working)

    pub bytes_refused : {number place : ℕ} → refused number place ≡ written_checked rule → Refuses number place
    unfolding decided input_check
    bytes_refused e = rw (room_fits, ← e)

    module _ (bytes : fine ≡ written_checked rule) where
      pub lasso_refused : {number place : ℕ} → refused number place ≡ lasso_check stem cycle → Refuses number place
      unfolding decided input_check
      lasso_refused e = rw (room_fits, ← bytes, ← e)

      module _ (lasso : fine ≡ lasso_check stem cycle) where
        pub input_fine : input_check rule stem cycle s t i image work ≡ fine
        unfolding input_check
        input_fine = rw (room_fits, ← bytes, ← lasso)

        pub concludes : {d : Decision} → d ≡ concluded (written_translation rule) stem cycle s t i image work
            → d ≡ decided rule stem cycle s t i image work
        unfolding decided
        concludes e = rw input_fine e
