-- `judge::advance` meets its contract: where no run stands in a state none is left, since each stands in one.
-- Assumes nothing.
use Rattle.image.specs.Lookup.{image_automaton}
use Rattle.image.proofs.Lookup.{step_target}
use Rattle.image.proofs.Known.{known, states_known, few_known}
use Rattle.judge.proofs.Letters.{advanced}
use Rattle.judge.proofs.advance.Goals as goal

pub some_run-requires : goal.some_run-requires
some_run-requires c = few_known c.args.image.now

pub returns : goal.returns
returns c =
    let image = c.args.image.now in
    advanced (image_automaton image.bytes.now) c.args.letter
    (λ p q h. rw (states_known image) (step_target image.bytes.now (known image) p c.args.letter q h))
    c.step.ensures c.some_run.ensures
