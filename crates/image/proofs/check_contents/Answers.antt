-- `image::check_contents` meets its contract: its tests are those of `contents_check`, in their order, and the counts
-- are small before they are reckoned with. Assumes nothing.
use mathlib.Core.Path.{sym, ◌∙◌}
use Rattle.automaton.specs.Tables.{Counts}
use Rattle.image.specs.Memory.{Small}
use Rattle.answer.proofs.Results.{require_fine}
use Rattle.image.proofs.Tests.{counts_small}
use Rattle.image.proofs.check_contents.Goals as goal
use Rattle.image.proofs.check_contents.Goals.{In_ok-require-2}

small : (c : In_ok-require-2)
    → let counts : Counts = record {
      states = c.number_at.result;
      transitions = c.number_at-2.result;
      initial = c.number_at-3.result;
    } in
    Small counts
small c = counts_small _ (sym c.counts_fit.ensures ∙ require_fine _ _ _ (sym c.in_ok-require-2.ensures))

pub transitions_at-second-requires : goal.transitions_at-second-requires
transitions_at-second-requires c = small (goal.at.transitions_at-second-requires c).In_ok-require-2

pub initial_at-third-requires : goal.initial_at-third-requires
initial_at-third-requires c = small (goal.at.initial_at-third-requires c).In_ok-require-2

pub image_length-requires : goal.image_length-requires
image_length-requires c = small (goal.at.image_length-requires c).In_ok-require-2
