-- The outcomes of write and read, by the answers of their checks and what was stored. Assumes of the bytes only that
-- they are bytes.
use mathlib.Core.Path.{◌≡◌, refl, sym, ap, ◌∙◌}
use mathlib.Core.List.{List, ◌++◌}
use Prim.Native.Nat.{ℕ, ◌≤◌}
use native.Mathlib.Omega.{arith}
use lib.ListN.{length, take, drop, length-drop}
use lib.Seq.{take-append_seam}
use borrow.Author.Tests.{le-leb}
use Rattle.answer.specs.Result.{Result, accepted, refused, fine}
use Rattle.answer.proofs.Results.{never_both}
use Rattle.automaton.specs.Automaton.{Automaton}
use Rattle.automaton.specs.Records.{state_records, transition_records, initial_records}
use Rattle.automaton.specs.Tables.{Counts, counts, Outcome, outcome, TablesRoom}
use Rattle.automaton.proofs.Room.{fine_room}
use Rattle.answer.specs.Bytes.{filled}
use Rattle.image.specs.Image.{transitions_at, initial_at, image_bytes, contents_bytes, largest_image}
use Rattle.image.specs.Image.{states_body, transitions_body, initial_body}
use Rattle.image.specs.Reader.{counts_at, records_check, read_tables, bodies_check}
use Rattle.image.specs.Calls.{written, writes, loaded, read_into, checks}
use Rattle.answer.specs.Buffer.{Buffer, buffer}
use Rattle.image.specs.Memory.{joined_over, HasRecords, Loads, Small}
use Rattle.image.proofs.Tests.{small_fits}
use Rattle.image.proofs.Tables.{Bytes, drop_bytes, Passed, counts_back, states_back, transitions_back, initial_back}
use Rattle.image.proofs.Tables.{image_back, image_length_lem}
use Rattle.image.proofs.Contents.{Contents, contents_fine, read_of, checks_of, checks_refused}

module _ (s t i : List ℕ) where
  -- such tables have room for the records of counts that fit
  pub room_passed : (c : Counts) → Small c → TablesRoom s t i → Bytes s → Bytes t → Bytes i
      → records_check c s t i ≡ fine → Passed c s t i
  room_passed c small room bs bt bi checked = record {
    state_bytes_lem = bs;
    transition_bytes_lem = bt;
    initial_bytes_lem = bi;
    state_room = omega (arith, small.states, room.states);
    transition_room = omega (arith, small.transitions, room.transitions);
    initial_room = omega (arith, small.initial, room.initial);
    checked = checked;
  }

-- the tables and the buffer are long enough, and the counts fit
pub record Ready (c : Counts) (s t i image : List ℕ) : Type 0 where
  pub small : Small c
  pub tables : TablesRoom s t i
  pub room : largest_image ≤ length image

module _ {c : Counts} {s t i image : List ℕ} (ready : Ready c s t i image) where
  pub has_records : HasRecords c s t i
  has_records =
      let small = ready.small in
      let tables = ready.tables in
      (small.states, omega arith, omega arith, omega arith)

  pub write_accepted : {w : Buffer} → Bytes s → Bytes t → Bytes i → fine ≡ records_check c s t i
      → w ≡ joined_over c s t i image → w ≡ writes c s t i image
  unfolding writes read_tables
  write_accepted bs bt bi known e =
      let passed = room_passed s t i c ready.small ready.tables bs bt bi (sym known) in
      let room = le-leb largest_image (length image) ready.room in
      e ∙ rw (fine_room s t i ready.tables, room, small_fits c ready.small, sym known)
      (rw (image_back c s t i passed, image_length_lem c s t i passed))

-- what is written when a length is answered
pub record Writes (r : Result Automaton) (n : ℕ) (before after : List ℕ) : Type 0 where
  pub automaton : Automaton
  pub answer : r ≡ accepted automaton
  pub size : n ≡ length (image_bytes automaton)
  pub bytes : after ≡ image_bytes automaton ++ drop (length (image_bytes automaton)) before

pub writes_of : (r : Result Automaton) (n : ℕ) (before after : List ℕ) → written r before ≡ buffer (accepted n) after
    → Writes r n before after
writes_of (accepted a) n before after e =
    let same : accepted (length (image_bytes a)) ≡ accepted n = ap (λ (b : Buffer). b.answer) e in
    record { automaton = a; answer = refl; size = cc; bytes = sym (ap (λ (b : Buffer). b.bytes) e) }
writes_of (refused number place) n before after e = never_both (ap (λ (b : Buffer). b.answer) e)

pub written_front : {r : Result Automaton} {n : ℕ} {before after : List ℕ} (done : Writes r n before after)
    → take n after ≡ image_bytes done.automaton
written_front {before = before} done =
    let a = done.automaton in
    rw (done.size, done.bytes) (take-append_seam (image_bytes a) (drop (length (image_bytes a)) before))

-- what is read when counts are answered
pub record Reads (r : Result Automaton) (c : Counts) (s t i s₁ t₁ i₁ : List ℕ) : Type 0 where
  pub automaton : Automaton
  pub answer : r ≡ accepted automaton
  pub counted : c ≡ counts automaton
  pub states_are : s₁ ≡ filled s (state_records automaton)
  pub transitions_are : t₁ ≡ filled t (transition_records automaton)
  pub initial_are : i₁ ≡ filled i (initial_records automaton)

pub reads_of : (r : Result Automaton) (c : Counts) (s t i s₁ t₁ i₁ : List ℕ)
    → loaded r s t i ≡ outcome (accepted c) s₁ t₁ i₁ → Reads r c s t i s₁ t₁ i₁
reads_of (accepted a) c s t i s₁ t₁ i₁ e =
    let same : accepted (counts a) ≡ accepted c = ap (λ (o : Outcome). o.answer) e in
    record {
      automaton = a;
      answer = refl;
      counted = cc;
      states_are = sym (ap (λ (o : Outcome). o.states) e);
      transitions_are = sym (ap (λ (o : Outcome). o.transitions) e);
      initial_are = sym (ap (λ (o : Outcome). o.initial) e);
    }
reads_of (refused number place) c s t i s₁ t₁ i₁ e = never_both (ap (λ (o : Outcome). o.answer) e)

-- the bodies of an image, as three tables
pub body_passed : (image : List ℕ) → Contents image → Bytes image → bodies_check (counts_at image) image ≡ fine
    → let c = counts_at image in
    Passed c (states_body image) (transitions_body c image) (initial_body c image)
body_passed image contents bytes checked =
    let size = contents.size in
    record {
      state_bytes_lem = drop_bytes contents_bytes image bytes;
      transition_bytes_lem = drop_bytes (transitions_at (counts_at image)) image bytes;
      initial_bytes_lem = drop_bytes (initial_at (counts_at image)) image bytes;
      state_room = rw (length-drop contents_bytes image) (omega arith);
      transition_room = rw (length-drop (transitions_at (counts_at image)) image) (omega arith);
      initial_room = rw (length-drop (initial_at (counts_at image)) image) (omega arith);
      checked = checked;
    }

-- the reader, where the tables are long enough
module _ (image s t i : List ℕ) (tables : TablesRoom s t i) where
  pub read_refused : {number place : ℕ} → refused number place ≡ checks image
      → outcome (refused number place) s t i ≡ read_into image s t i
  unfolding read_into
  read_refused e = rw (fine_room s t i tables, checks_refused image e)

  pub read_accepted : {c : Counts} {s₁ t₁ i₁ : List ℕ} → Bytes image → accepted c ≡ checks image
      → Loads image c s t i s₁ t₁ i₁ → outcome (accepted c) s₁ t₁ i₁ ≡ read_into image s t i
  unfolding read_into
  read_accepted {c} bytes e loads =
      let found = checks_of image c e in
      let parts = read_of image found.automaton found.read in
      let passed = body_passed image (contents_fine image parts.contents) bytes parts.bodies in
      rw (loads.states_are, loads.transitions_are, loads.initial_are, fine_room s t i tables, found.read)
      (rw (parts.automaton, counts_back _ _ _ _ parts.bodies, states_back _ _ _ _ passed)
      (rw (transitions_back _ _ _ _ passed, initial_back _ _ _ _ passed, found.same)))
