-- What is known of an image that check accepts: its records are within bounds. Assumes nothing.
use Prim.Native.Nat.{ℕ, zero, suc, ◌+◌, ◌*◌, ◌<◌}
use mathlib.Core.Path.{◌≡◌}
use mathlib.Core.List.{List}
use mathlib.Core.Bool.{and-eq-true_iff}
use native.Mathlib.Omega.{arith}
use lib.Seq.{get_or-drop}
use borrow.Author.Tests.{ltb-true}
use Rattle.answer.specs.Result.{accepted, fine}
use Rattle.answer.proofs.Results.{require_fine}
use Rattle.automaton.specs.Automaton.{Automaton}
use Rattle.automaton.specs.Tables.{Counts}
use Rattle.answer.specs.Bytes.{number_at}
use Rattle.image.specs.Reader.{counts_at, transition_record_check, initial_check, automaton_from}
use Rattle.image.specs.Calls.{checks}
use Rattle.image.proofs.Contents.{Read, read_of, contents_fine, checks_of}
use Rattle.image.proofs.RecordsFit.{RecordsFit, fine_fit}
use Rattle.image.specs.Image.{contents_bytes, rest_at, states_body, transitions_body}
use Rattle.image.specs.Lookup.{image_automaton, RestByte, Readable}
use Rattle.image.proofs.Tables.{rests_right}
use Rattle.image.proofs.Lookup.{automaton_states, step_target, initial_state}
use Rattle.automaton.proofs.InRange.{InRange}

module _ {c : Counts} {s t i : List ℕ} (fit : RecordsFit c s t i) where
  target_below : (k : ℕ) → k < c.transitions → number_at t (4 * k + 2) < c.states
  unfolding transition_record_check
  target_below k lt = ltb-true _ _ ((and-eq-true_iff _ _).0 (require_fine _ 12 k (fit.transitions k lt))).0

  initial_below : (k : ℕ) → k < c.initial → number_at i (2 * k) < c.states
  unfolding initial_check
  initial_below k lt = go k (fit.initial k lt)
    where
      go : (k : ℕ) → initial_check c.states i k ≡ fine → number_at i (2 * k) < c.states
      go zero e = ltb-true _ _ (require_fine _ 13 0 e)
      go (suc k) e = ltb-true _ _ ((and-eq-true_iff _ _).0 (require_fine _ 13 (suc k) e)).0

rest_byte : (image : List ℕ) {i : List ℕ}
    → RecordsFit (counts_at image) (states_body image) (transitions_body (counts_at image) image) i
    → (q : ℕ) → q < (counts_at image).states → RestByte image q
unfolding automaton_from
rest_byte image fit q lt =
    let here : contents_bytes + (4 * q + 3) ≡ rest_at + 4 * q = omega arith in
    let e : 0 + q ≡ q = omega arith in
    rw (← here, ← get_or-drop contents_bytes image (4 * q + 3) 0) (rw e at (rests_right fit q lt))

pub readable : {image : List ℕ} {a : Automaton} → Read image a → Readable image
readable {image} read =
    let contents = contents_fine image read.contents in
    let fit = fine_fit (counts_at image) _ _ _ read.bodies in
    record {
      few = contents.small.states;
      size = contents.size;
      sum = fit.sum;
      rests = λ q lt. rest_byte image fit q lt;
      targets = target_below fit;
      starts = initial_below fit;
    }

pub known : (image : List ℕ) {c : Counts} → accepted c ≡ checks image → Readable image
known image {c} e =
    let found = checks_of image c e in
    readable (read_of image found.automaton found.read)

-- and the counts are those that its contents say
pub accepted_counts : (image : List ℕ) {c : Counts} → accepted c ≡ checks image → c ≡ counts_at image
accepted_counts image {c} e = (checks_of image c e).same

-- the automaton's targets and initial numbers are states
pub readable_in_range : (image : List ℕ) → Readable image → InRange (image_automaton image)
readable_in_range image fine = record {
  targets = λ q x next h. omega (arith, automaton_states image, step_target image fine q x next h);
  initial = λ q h. omega (arith, automaton_states image, initial_state image fine q h);
}
