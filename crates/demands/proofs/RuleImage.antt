-- The reader accepts the image of a written rule's automaton. Assumes nothing.
use mathlib.Core.Path.{◌≡◌}
use mathlib.Core.List.{List}
use Prim.Native.Nat.{ℕ}
use Rattle.answer.specs.Result.{accepted}
use Rattle.automaton.specs.Automaton.{Automaton}
use Rattle.translation.specs.Translate.{written_translation}
use Rattle.image.specs.Image.{image_bytes}
use Rattle.image.specs.Reader.{read_image}
use Rattle.image.proofs.ImageAccepted.{image_accepted}
use Rattle.correctness.proofs.WellFormed.{written_well_formed}

pub rule_image_accepted : (rule : List ℕ) (a : Automaton) → written_translation rule ≡ accepted a
    → read_image (image_bytes a) ≡ accepted a
rule_image_accepted rule a e = image_accepted a (written_well_formed rule a e)
