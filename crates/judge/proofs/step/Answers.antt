-- `judge::step` meets its contract: the transitions are taken into empty rows, and what they reach is lifted.
-- Assumes nothing.
use native.Mathlib.Omega.{arith}
use Prim.Native.Nat.{ℕ, ◌*◌}
use mathlib.Core.Path.{◌≡◌, ap, ◌∙◌}
use mathlib.Core.List.{List, ◌++◌}
use lib.ListN.{replicate, drop}
use lib.Seq.{length-take-le}
use Rattle.image.specs.Lookup.{image_automaton}
use Rattle.image.proofs.Lookup.{step_inside}
use Rattle.image.proofs.Known.{states_known, few_known}
use Rattle.judge.proofs.RunBits.{cleared}
use Rattle.judge.proofs.Letters.{stepped}
use Rattle.judge.proofs.step.Goals as goal
use Rattle.judge.proofs.step.Goals.{After-fill}

pub overflow_mul-image : goal.overflow_mul-image
overflow_mul-image c = omega (arith, few_known c.args.image.now)

pub slice_bounds-fill-end : goal.slice_bounds-fill-end
slice_bounds-fill-end c = omega (arith, few_known c.args.image.now)

-- the first words are 0
zeroed : (c : After-fill) → c.fill.new.self ≡ replicate (4 * c.args.image.now.counts.states) 0
zeroed c =
    c.fill.ensures.after (λ y h. h)
    ∙ ap (λ (n : ℕ). replicate n 0) (length-take-le _ c.args.next.now (omega (arith, few_known c.args.image.now)))

pub returns : goal.returns
returns c =
    let image = c.args.image.now in
    let none = cleared image.counts.states _ c.requires
    (ap (λ (zeros : List ℕ). zeros ++ drop (4 * image.counts.states) c.args.next.now)
    (zeroed (goal.at.returns c).After-fill)) in
    stepped (image_automaton image.bytes.now) c.args.letter _ none c.step_states.ensures
    (λ p q h. rw (states_known image) (step_inside image.bytes.now p c.args.letter q h)) c.lift.ensures
