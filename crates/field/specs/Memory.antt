-- States that join a set, as the code adds them to its bytes; and what checking an image for a lent set tells.
use Rattle.std.specs.Prelude.{ℕ, ◌*◌, ◌<◌, ◌≡◌, List, Bool, get_or, length, Result as Returned, Ok, Err}
use Rattle.std.specs.Int.Bits.{bit_or}
use Rattle.answer.specs.Result.{Result, accepted, refused, reason_number}
use Rattle.answer.specs.declared.Refusal.{Refusal}
use Rattle.automaton.specs.Automaton.{Automaton}
use Rattle.image.specs.Lookup.{image_automaton}
use Rattle.image.specs.declared.readable.Image.{Image}
use Rattle.field.specs.Sets.{bits_from}

-- every byte has the bits that it had, and besides those of the states that pass a test
pub record Added (before after : List ℕ) (test : ℕ → Bool) : Type 0 where
  pub size : length after ≡ length before
  pub bytes : (k : ℕ) → k < length before → get_or after k 0 ≡ bit_or (get_or before k 0) (bits_from test (8 * k) 8)

-- the automaton of the image, or the refusal
abbrev pub watched : Returned Image Refusal → Result Automaton
watched (Ok image) = accepted (image_automaton image.bytes.now)
watched (Err r) = refused (reason_number r.reason) r.place
