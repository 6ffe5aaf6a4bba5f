-- Write and read are inverse: of an automaton and its image, and of the two calls with every byte that is lent.
-- Assumes nothing.
use mathlib.Core.Path.{◌≡◌, sym, ap, ◌∙◌}
use mathlib.Core.Bool.{true}
use mathlib.Core.List.{List, ◌++◌}
use Prim.Native.Nat.{ℕ, ◌*◌}
use lib.ListN.{length, take, drop}
use Rattle.answer.specs.Result.{accepted, fine, require}
use Rattle.answer.proofs.Results.{require_fine}
use Rattle.automaton.specs.Automaton.{Automaton}
use Rattle.automaton.specs.Records.{state_records, transition_records, initial_records}
use Rattle.automaton.specs.Tables.{Counts, counts, outcome, table_check}
use Rattle.answer.specs.Bytes.{filled}
use Rattle.image.specs.Image.{image_bytes}
use Rattle.image.specs.Reader.{counts_at, counts_fit, contents_check, records_check, automaton_from, read_tables}
use Rattle.image.specs.Reader.{read_image}
use Rattle.image.specs.Calls.{buffer_check, writes, read_into}
use Rattle.answer.specs.Buffer.{buffer}
use Rattle.image.proofs.Before.{follows, passes}
use Rattle.image.proofs.Tests.{counts_small, small_fits}
use Rattle.image.proofs.Contents.{read_of, contents_fine}
use Rattle.image.proofs.Tables.{Bytes, Passed, counts_back, states_back, transitions_back, initial_back, image_back}
use Rattle.image.proofs.Agree.{longer, longer_agrees, longer_bytes, longer_room, front_agrees, tables_agree}
use Rattle.automaton.proofs.Room.{room_fine, fine_room, filled_room}
use Rattle.image.proofs.Outcomes.{writes_of, written_front, reads_of, room_passed, body_passed}
use Rattle.image.proofs.Images.{joined_read, whole_image}

-- Demand 2, its second half: reading an image and writing what was read gives that image again, byte by byte. So no two
-- images are read as one automaton.
pub write_read : (image : List ℕ) (a : Automaton) → Bytes image → read_image image ≡ accepted a → image_bytes a ≡ image
write_read image a bytes e =
    let read = read_of image a e in
    let fits = contents_fine image read.contents in
    ap image_bytes read.automaton ∙ image_back _ _ _ _ (body_passed image fits bytes read.bodies) ∙ whole_image image
    bytes fits

-- 01, The image, sentence 8: the image of an automaton whose tables pass 10 (counts only) to 13 is read as that
-- automaton, and so with its counts and its entries.
pub read_write : (c : Counts) (s t i : List ℕ) (a : Automaton) → Bytes s → Bytes t → Bytes i → counts_fit c ≡ true
    → read_tables c s t i ≡ accepted a → read_image (image_bytes a) ≡ accepted a
unfolding read_tables
read_write c s t i a bs bt bi fit e =
    let s₁ = longer (4 * c.states) s in
    let t₁ = longer (4 * c.transitions) t in
    let i₁ = longer (2 * c.initial) i in
    let same =
    tables_agree c s t i s₁ t₁ i₁ (longer_agrees (4 * c.states) s) (longer_agrees (4 * c.transitions) t)
    (longer_agrees (2 * c.initial) i) a e in
    let answer = passes (records_check c s₁ t₁ i₁) a (automaton_from c s₁ t₁ i₁) (sym same) in
    let passed : Passed c s₁ t₁ i₁ = record {
      state_bytes_lem = longer_bytes (4 * c.states) s bs;
      transition_bytes_lem = longer_bytes (4 * c.transitions) t bt;
      initial_bytes_lem = longer_bytes (2 * c.initial) i bi;
      state_room = longer_room (4 * c.states) s;
      transition_room = longer_room (4 * c.transitions) t;
      initial_room = longer_room (2 * c.initial) i;
      checked = answer.passed;
    } in
    ap read_image (ap image_bytes answer.same ∙ image_back c s₁ t₁ i₁ passed) ∙ joined_read c s₁ t₁ i₁ passed a fit same

-- the same sentence of the two calls: where write answers n, reading the first n bytes of its buffer into tables that
-- are long enough answers the counts that were written, and leaves there the used entries that were written, and zero
-- behind them.
pub reading_back : (c : Counts) (s t i before after : List ℕ) (n : ℕ) → Bytes s → Bytes t → Bytes i
    → writes c s t i before ≡ buffer (accepted n) after
    → (s₁ t₁ i₁ : List ℕ) → table_check s₁ t₁ i₁ ≡ fine
    → read_into (take n after) s₁ t₁ i₁ ≡ outcome (accepted c) (filled s₁ (take (4 * c.states) s)) (filled t₁ (take (4 * c.transitions) t)) (filled i₁ (take (2 * c.initial) i))
unfolding writes read_into read_tables
reading_back c s t i before after n bs bt bi e s₁ t₁ i₁ long =
    let done = writes_of _ n before after e in
    let a = done.automaton in
    let tables = follows (table_check s t i) _ a done.answer in
    let room = follows (buffer_check before) _ a tables.answer in
    let counted = follows (require (counts_fit c) 10 0) _ a room.answer in
    let fit = require_fine (counts_fit c) 10 0 counted.passed in
    let answer = passes (records_check c s t i) a (automaton_from c s t i) (sym counted.answer) in
    let passed = room_passed s t i c (counts_small c fit) (room_fine s t i tables.passed) bs bt bi answer.passed in
    rw (
      written_front done,
      long,
      read_write c s t i a bs bt bi fit counted.answer,
      answer.same,
      counts_back c s t i
          answer.passed,
      states_back c s t i passed,
      transitions_back c s t i passed,
      initial_back c s t i passed,
    )

-- the tables that a reader filled are read and written as the image, whatever stood in them before
module _ (image s t i : List ℕ) (a : Automaton) (bytes : Bytes image) (e : read_image image ≡ accepted a) where
  abbrev c : Counts
  c = counts_at image

  abbrev s₁ : List ℕ
  s₁ = filled s (state_records a)

  abbrev t₁ : List ℕ
  t₁ = filled t (transition_records a)

  abbrev i₁ : List ℕ
  i₁ = filled i (initial_records a)

  filled_read : read_tables c s₁ t₁ i₁ ≡ accepted a
  unfolding read_image
  filled_read =
      let read = read_of image a e in
      let passed = body_passed image (contents_fine image read.contents) bytes read.bodies in
      let states = ap state_records read.automaton ∙ states_back _ _ _ _ passed in
      let transitions = ap transition_records read.automaton ∙ transitions_back _ _ _ _ passed in
      let initial = ap initial_records read.automaton ∙ initial_back _ _ _ _ passed in
      rw (states, transitions, initial)
      (tables_agree c _ _ _ _ _ _ (front_agrees (4 * c.states) _ _ passed.state_room)
      (front_agrees (4 * c.transitions) _ _ passed.transition_room)
      (front_agrees (2 * c.initial) _ _ passed.initial_room) a (follows (contents_check image) _ a e).answer)

  filled_written : (before : List ℕ) → table_check s t i ≡ fine → buffer_check before ≡ fine
      → writes c s₁ t₁ i₁ before ≡ buffer (accepted (length image)) (image ++ drop (length image) before)
  unfolding writes
  filled_written before long room =
      let fits = contents_fine image (read_of image a e).contents in
      rw (
        fine_room s₁ t₁ i₁ (filled_room s t i (state_records a) (transition_records a) (initial_records a)
            (room_fine s t i long)),
        room,
        small_fits c fits.small,
        filled_read,
        write_read image a bytes e,
      )

-- The twin for the two calls: where read answers counts, writing the tables that it left into any buffer that is long
-- enough answers the image's length, puts the image's own bytes first, and leaves what stood behind them.
pub writing_back : (image s t i s₁ t₁ i₁ : List ℕ) (c : Counts) → Bytes image
    → read_into image s t i ≡ outcome (accepted c) s₁ t₁ i₁
    → (before : List ℕ) → buffer_check before ≡ fine
    → writes c s₁ t₁ i₁ before ≡ buffer (accepted (length image)) (image ++ drop (length image) before)
unfolding read_into
writing_back image s t i s₁ t₁ i₁ c bytes e before room =
    let done = reads_of _ c s t i s₁ t₁ i₁ e in
    let a = done.automaton in
    let tables = follows (table_check s t i) _ a done.answer in
    let read = read_of image a tables.answer in
    let counted : c ≡ counts_at image = done.counted ∙ ap counts read.automaton ∙ counts_back _ _ _ _ read.bodies in
    cc (
      done.states_are,
      done.transitions_are,
      done.initial_are,
      counted,
      filled_written image s t i a bytes
          tables.answer before tables.passed room,
    )
