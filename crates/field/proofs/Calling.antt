-- The calls on a lent set: what is left in it, and the answer; and what parsing an image tells. Assumes nothing.
use Prim.Native.Nat.{ℕ, ◌<◌, ◌≤◌}
use Rattle.std.specs.Prelude.{Result as Returned, Ok, Err, IfOk}
use mathlib.Core.Path.{◌≡◌, refl, sym, ◌∙◌, ap}
use mathlib.Core.List.{List}
use mathlib.Core.Bool.{Bool}
use borrow.Author.Tests.{lt-ltb, le-ltb}
use Rattle.answer.specs.Result.{accepted}
use Rattle.answer.specs.Bytes.{filled}
use Rattle.lasso.specs.Lasso.{skipped}
use Rattle.automaton.specs.Automaton.{Automaton}
use Rattle.image.specs.Lookup.{image_automaton}
use Rattle.image.specs.Calls.{checks}
use Rattle.image.specs.Parsed.{parsed}
use Rattle.image.specs.Reader.{read_image}
use Rattle.image.specs.declared.readable.Image.{Image}
use Rattle.answer.specs.declared.Refusal.{Refusal}
use Rattle.field.specs.Memory.{watched}
use Rattle.image.proofs.Contents.{read_of, checks_of, checks_refused}
use Rattle.field.specs.Sets.{in_set, packed, moved, is_empty}
use Rattle.field.specs.Calls.{watch, left, advances}

-- ---- the set that is left, and whether it is empty
module _ (a : Automaton) (set : List ℕ) where
  -- it has the bytes of a test
  pub packed_is : (after bytes : List ℕ) (test : ℕ → Bool) (r : Bool) → bytes ≡ packed test
      → after ≡ filled set bytes → r ≡ is_empty a (in_set after)
      → watch (accepted r) after ≡ left a (filled set (packed test))
  packed_is after bytes test r of is e =
      ap (λ (b : Bool). watch (accepted b) after) e ∙ ap (left a) (is ∙ ap (filled set) of)

  module _ (x : ℕ) (after : List ℕ) (r : Bool) (e : r ≡ is_empty a (in_set after)) where
    pub skips : skipped ≤ x → after ≡ set → watch (accepted r) after ≡ advances a set x
    skips s is =
        ap (λ (b : Bool). watch (accepted b) after) e ∙ ap (left a) is ∙ sym (rw (le-ltb x skipped s) refl)

    pub moves : (bytes : List ℕ) → x < skipped → bytes ≡ packed (moved a (in_set set) x) → after ≡ filled set bytes
        → watch (accepted r) after ≡ advances a set x
    moves bytes s of is = packed_is after bytes _ r of is e ∙ sym (rw (lt-ltb x skipped s) refl)

-- ---- 25 and 10 to 13

-- what parsing tells is the automaton or the refusal of the reader
pub parsed_watched : (image : List ℕ) (r : Returned Image Refusal) → IfOk r (λ i. i.bytes.now ≡ image)
    → parsed r ≡ checks image → watched r ≡ read_image image
parsed_watched image (Ok i) same e =
    let found = checks_of image i.counts e in
    ap (λ (bytes : List ℕ). accepted (image_automaton bytes)) same
    ∙ ap (λ (a : Automaton). accepted a) (sym (read_of image found.automaton found.read).automaton) ∙ sym found.read
parsed_watched image (Err refusal) same e = sym (checks_refused image e)
