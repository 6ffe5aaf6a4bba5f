-- `judge::run` meets its contract: the bits are those after the first letters (`Running`), in turns in one list of
-- rows and in the other. Assumes nothing.
use native.Mathlib.Omega.{arith}
use Prim.Native.Nat.{ℕ, ◌+◌, ◌*◌, ◌/◌, ◌<◌}
use mathlib.Core.Path.{◌≡◌}
use lib.ListN.{length}
use Rattle.automaton.specs.Automaton.{Step}
use Rattle.image.specs.Lookup.{image_automaton}
use Rattle.image.proofs.Lookup.{step_target}
use Rattle.image.proofs.Known.{known, states_known}
use Rattle.judge.proofs.Letters.{run_begins, run_confined, run_steps, run_stops, run_ends}
use Rattle.judge.proofs.Letters.{first_letter, second_letter, last_letter, no_letter}
use Rattle.judge.proofs.run.Goals as goal
use Rattle.judge.proofs.run.Goals.{Start, then-not-advance-via-then-not-advance}
use Rattle.judge.proofs.run.Goals.{then-not-advance-via-else-not-advance+then-not-advance-2}

-- every transition leads to one of the n states
target : (c : Start)
    → (p x q : ℕ) → Step (image_automaton c.args.image.now.bytes.now) p x q → q < c.args.image.now.counts.states
target c p x q h =
    let image = c.args.image.now in
    rw (states_known image) (step_target image.bytes.now (known image) p x q h)

pub loop-pair-init : goal.loop-pair-init
loop-pair-init c = run_begins _ _ _ _

pub advance-requires : goal.advance-requires
advance-requires c = c.loop-pair.invariant.confined

pub advance-requires-else-not-advance : goal.advance-requires-else-not-advance
advance-requires-else-not-advance c =
    run_confined _ _ _ _ (target (goal.at.advance-requires-else-not-advance c).Start) c.requires
    (2 * c.loop-pair.pair-index) c.loop-pair.invariant

pub returns-then-not-advance : goal.returns-then-not-advance
returns-then-not-advance c =
    let i = c.loop-pair.pair-index in
    let word = c.args.word.now in
    let leads = target (goal.at.returns-then-not-advance c).Start in
    let lt : i < length word / 2 = omega (arith, c.as_chunks.ensures.front_len) in
    let ran = rw (first_letter word i c.as_chunks.ensures.front lt) at c.advance.ensures in
    elim c.then-not-advance.branch [
      | then-not-advance-via-then-not-advance w ↦
          run_stops _ _ word _ leads c.requires (2 * i) c.loop-pair.invariant (omega arith) ran w.if-not-advance.true
      | then-not-advance-via-else-not-advance+then-not-advance-2 w ↦
          run_stops _ _ word _ leads c.requires (2 * i + 1)
          (run_steps _ _ word _ leads c.requires (2 * i) c.loop-pair.invariant (omega arith) ran w.if-not-advance.false)
          (omega arith)
          (rw (second_letter word i c.as_chunks.ensures.front lt) at w.advance-else-not-advance.ensures)
          w.if-not-advance-2.true
    ]

pub loop-pair-preserved : goal.loop-pair-preserved
loop-pair-preserved c =
    let i = c.loop-pair.pair-index in
    let word = c.args.word.now in
    let leads = target (goal.at.loop-pair-preserved c).Start in
    let lt : i < length word / 2 = omega (arith, c.as_chunks.ensures.front_len) in
    let one = run_steps _ _ word _ leads c.requires (2 * i) c.loop-pair.invariant (omega arith)
    (rw (first_letter word i c.as_chunks.ensures.front lt) at c.advance.ensures) c.if-not-advance.false in
    let e : 2 * (i + 1) ≡ 2 * i + 1 + 1 = omega arith in
    rw e (run_steps _ _ word _ leads c.requires (2 * i + 1) one (omega arith)
    (rw (second_letter word i c.as_chunks.ensures.front lt) at c.advance-else-not-advance.ensures)
    c.if-not-advance-2.false)

pub advance-requires-in-Some : goal.advance-requires-in-Some
advance-requires-in-Some c = c.loop-pair.invariant.confined

-- behind the pairs there is nothing, or the word's last letter
pub returns-then-not-advance-3 : goal.returns-then-not-advance-3
returns-then-not-advance-3 c =
    let i = c.loop-pair.pair-index in
    let word = c.args.word.now in
    let leads = target (goal.at.returns-then-not-advance-3 c).Start in
    let last = last_letter word _ i (omega (arith, c.as_chunks.ensures.front_len)) c.as_chunks.ensures.back
    c.as_chunks.ensures.back_len c.in-Some.letter.now c.in-Some.ensures.value in
    run_stops _ _ word _ leads c.requires (2 * i) c.loop-pair.invariant (omega (arith, last.0))
    (rw last.1 at c.advance-in-Some.ensures) c.if-not-advance-3.true

pub returns-else-not-advance-3 : goal.returns-else-not-advance-3
returns-else-not-advance-3 c =
    let i = c.loop-pair.pair-index in
    let word = c.args.word.now in
    let leads = target (goal.at.returns-else-not-advance-3 c).Start in
    let last = last_letter word _ i (omega (arith, c.as_chunks.ensures.front_len)) c.as_chunks.ensures.back
    c.as_chunks.ensures.back_len c.in-Some.letter.now c.in-Some.ensures.value in
    run_ends _ _ word _ (2 * i + 1) last.0
    (run_steps _ _ word _ leads c.requires (2 * i) c.loop-pair.invariant (omega (arith, last.0))
    (rw last.1 at c.advance-in-Some.ensures) c.if-not-advance-3.false)

pub returns-in_default : goal.returns-in_default
returns-in_default c =
    let i = c.loop-pair.pair-index in
    let word = c.args.word.now in
    let none = no_letter word _ i (omega (arith, c.as_chunks.ensures.front_len)) c.as_chunks.ensures.back
    c.as_chunks.ensures.back_len c.in_default.ensures.value in
    run_ends _ _ word _ (2 * i) none c.loop-pair.invariant
