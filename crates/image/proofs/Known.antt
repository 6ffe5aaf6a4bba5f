-- What is known of a parsed image: it is readable, and its counts are those that its bytes give. Assumes nothing.
use Prim.Native.Nat.{◌+◌, ◌*◌, ◌≤◌}
use mathlib.Core.Path.{◌≡◌, ap, sym, ◌∙◌}
use native.Mathlib.Omega.{arith}
use lib.ListN.{length}
use Rattle.automaton.specs.Limits.{max_states}
use Rattle.automaton.specs.Tables.{Counts}
use Rattle.image.specs.Image.{contents_bytes, image_length}
use Rattle.image.specs.Reader.{counts_at}
use Rattle.image.specs.Lookup.{Readable}
use Rattle.image.specs.declared.readable.Image.{Image}

module _ (image : Image) where
  pub known : Readable image.bytes.now
  known = record {
    few = image.few;
    size = image.size;
    sum = image.sum;
    rests = image.rests;
    targets = image.targets;
    starts = image.starts;
  }

  pub states_known : image.counts.states ≡ (counts_at image.bytes.now).states
  states_known = ap (λ (c : Counts). c.states) image.counted

  pub initial_known : image.counts.initial ≡ (counts_at image.bytes.now).initial
  initial_known = ap (λ (c : Counts). c.initial) image.counted

  pub few_known : image.counts.states ≤ max_states
  few_known = omega (arith, states_known, known.few)

  pub size_known : length image.bytes.now ≡ image_length image.counts
  size_known = known.size ∙ ap image_length (sym image.counted)

  -- the records of its states lie within it
  pub records_known : contents_bytes + 4 * image.counts.states ≤ length image.bytes.now
  records_known = let fine = known in omega (arith, states_known, fine.size)
