-- What is read from contents and used bytes that stand in a row, and what a whole image is made of. Assumes nothing
-- but that bytes are bytes.
use mathlib.Core.Path.{◌≡◌, refl, sym, ap, ◌∙◌}
use mathlib.Core.Bool.{true}
use mathlib.Core.List.{List, [], ◌++◌, append-nil, append_assoc}
use Prim.Native.Nat.{ℕ, suc, ◌+◌, ◌*◌, ◌≤◌}
use native.Mathlib.Numerals.{add-one}
use native.Mathlib.Omega.{arith}
use lib.ListN.{length, get_or, take, drop, length-drop, take-append-drop}
use lib.Seq.{drop_at, drop-drop, drop-cons, take_all, length-take-le}
use borrow.Author.Tests.{le-leb, eq-eqb}
use Rattle.answer.specs.Result.{accepted, fine}
use Rattle.automaton.specs.Automaton.{Automaton}
use Rattle.answer.specs.Bytes.{two_bytes, number_at}
use Rattle.automaton.specs.Tables.{Counts}
use Rattle.image.specs.Image.{entry, transitions_at, initial_at, image_length, contents, contents_bytes}
use Rattle.image.specs.Image.{states_body, transitions_body, initial_body}
use Rattle.image.specs.Reader.{counts_at, counts_fit, contents_check, read_tables, read_bodies, read_image}
use Rattle.image.specs.Memory.{joined_bodies}
use Rattle.image.proofs.Contents.{Contents}
use Rattle.image.proofs.Sizes.{row_size}
use Rattle.image.proofs.ReadRecords.{number_read}
use Rattle.image.proofs.Tables.{Bytes, two_back, Passed}
use Rattle.image.proofs.Agree.{front_agrees, tables_agree}

-- contents and bodies in a row
module _ (c : Counts) (s t i : List ℕ) where
  abbrev row : List ℕ
  row = contents c ++ (s ++ (t ++ i))

  counts_again : counts_at row ≡ c
  unfolding contents entry two_bytes
  counts_again = rw (number_read c.states, number_read c.transitions, number_read c.initial)

  contents_again : counts_fit c ≡ true → length row ≡ image_length c → contents_check row ≡ fine
  unfolding contents_check contents entry two_bytes
  contents_again fit size =
      let at₂ = eq-eqb (transitions_at c) (transitions_at c) refl in
      let at₃ = eq-eqb (initial_at c) (initial_at c) refl in
      let long = le-leb contents_bytes (length row) (rw size (omega arith)) in
      rw (number_read c.states, number_read c.transitions, number_read c.initial)
      (rw (number_read (transitions_at c), number_read (initial_at c), fit)
      (rw (at₂, at₃, eq-eqb (length row) (image_length c) size, long)))

  bodies_again : drop contents_bytes row ≡ s ++ (t ++ i)
  unfolding contents entry two_bytes
  bodies_again = refl

  module _ (es : length s ≡ 4 * c.states) (et : length t ≡ 4 * c.transitions) (ei : length i ≡ 2 * c.initial) where
    transitions_again : drop (transitions_at c) row ≡ t ++ i
    transitions_again =
        sym (drop-drop (4 * c.states) contents_bytes row)
        ∙ ap (drop (4 * c.states)) bodies_again
        ∙ drop_at s (t ++ i) (4 * c.states) es

    initial_again : drop (initial_at c) row ≡ i
    initial_again =
        sym (drop-drop (4 * c.transitions) (transitions_at c) row)
        ∙ ap (drop (4 * c.transitions)) transitions_again
        ∙ drop_at t i (4 * c.transitions) et

    -- are read as tables, each with what stands behind it
    pub row_read : counts_fit c ≡ true → read_image row ≡ read_tables c (s ++ (t ++ i)) (t ++ i) i
    unfolding read_image
    row_read fit = rw (contents_again fit (row_size c s t i es et ei)) (same (counts_at row) counts_again)
      where
        same : (d : Counts) → d ≡ c → read_bodies d row ≡ read_tables c (s ++ (t ++ i)) (t ++ i) i
        same d e = rw (e, bodies_again, transitions_again, initial_again)

-- contents and used bytes in a row are read as the tables are
module _ (c : Counts) (s t i : List ℕ) (passed : Passed c s t i) where
  pub joined_read : (a : Automaton) → counts_fit c ≡ true → read_tables c s t i ≡ accepted a
      → read_image (joined_bodies c s t i) ≡ accepted a
  joined_read a fit e =
      let us = take (4 * c.states) s in
      let vs = take (4 * c.transitions) t in
      let ws = take (2 * c.initial) i in
      row_read c us vs ws (length-take-le (4 * c.states) s passed.state_room)
      (length-take-le (4 * c.transitions) t passed.transition_room)
      (length-take-le (2 * c.initial) i passed.initial_room) fit
      ∙ tables_agree c s t i (us ++ (vs ++ ws)) (vs ++ ws) ws
      (front_agrees (4 * c.states) s (vs ++ ws) passed.state_room)
      (front_agrees (4 * c.transitions) t ws passed.transition_room)
      (rw append-nil at (front_agrees (2 * c.initial) i [] passed.initial_room)) a e

-- a number at k and what stands behind it
number_front : (xs : List ℕ) (k m n : ℕ) → Bytes xs → m ≡ suc (suc k) → m ≤ length xs → n ≡ number_at xs k
    → two_bytes n ++ drop m xs ≡ drop k xs
number_front xs k m n bytes after room e =
    rw (
      e,
      after,
      two_back (get_or xs k 0) (get_or xs (k + 1) 0) (bytes k),
      add-one,
      drop-cons xs k 0 (omega arith),
      drop-cons xs (suc k) 0 (omega arith),
    )

-- and an entry of the contents
entry_front : (xs : List ℕ) (k kind count offset : ℕ) → Bytes xs → k + 6 ≤ length xs → kind ≡ number_at xs k
    → count ≡ number_at xs (k + 2) → offset ≡ number_at xs (k + 4)
    → entry kind count offset ++ drop (k + 6) xs ≡ drop k xs
unfolding entry
entry_front xs k kind count offset bytes room e f g =
    let third = number_front xs (k + 4) (k + 6) offset bytes (omega arith) room g in
    let second = number_front xs (k + 2) (k + 4) count bytes (omega arith) (omega arith) f in
    let first = number_front xs k (k + 2) kind bytes (omega arith) (omega arith) e in
    rw (append_assoc, append_assoc, third, second, first)

-- a part and what stands behind it
part_front : (xs : List ℕ) (a n m : ℕ) → a + n ≡ m → take n (drop a xs) ++ drop m xs ≡ drop a xs
part_front xs a n m e = rw (← e, ← drop-drop n a xs) (take-append-drop n (drop a xs))

-- an image that 10 does not refuse is its contents and its bodies
module _ (image : List ℕ) (bytes : Bytes image) (fits : Contents image) where
  abbrev c : Counts
  c = counts_at image

  contents_front : contents c ++ states_body image ≡ image
  unfolding contents
  contents_front =
      let size = fits.size in
      let first = entry_front image 0 1 c.states contents_bytes bytes (omega arith)
      (sym fits.kind₁) refl (sym fits.offset₁) in
      let second = entry_front image 6 2 c.transitions (transitions_at c) bytes (omega arith)
      (sym fits.kind₂) refl (sym fits.offset₂) in
      let third = entry_front image 12 3 c.initial (initial_at c) bytes (omega arith)
      (sym fits.kind₃) refl (sym fits.offset₃) in
      rw (append_assoc, append_assoc, third, second, first)

  pub whole_image : joined_bodies c (states_body image) (transitions_body c image) (initial_body c image) ≡ image
  whole_image =
      let size = fits.size in
      let room : length (initial_body c image) ≤ 2 * c.initial = rw (length-drop (initial_at c) image) (omega arith) in
      let transitions = part_front image (transitions_at c) (4 * c.transitions) (initial_at c) refl in
      let states = part_front image contents_bytes (4 * c.states) (transitions_at c) refl in
      rw (take_all (2 * c.initial) (initial_body c image) room, transitions, states) contents_front
