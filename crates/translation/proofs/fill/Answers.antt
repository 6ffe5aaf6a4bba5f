-- `translation::fill` meets its contract: the table of terms, or 20, and then the two walks, which follow
-- `translation`; the conflicts of the nodes and of the first walk's states are all. Assumes nothing.
use mathlib.Core.Path.{◌≡◌, refl}
use Rattle.std.specs.Prelude.{Err}
use Rattle.std.proofs.Common.{rules}
use Rattle.answer.specs.Result.{fine}
use Rattle.answer.proofs.Lowest.{passes_fine}
use Rattle.term.specs.Size.{sizes_checked}
use Rattle.translation.proofs.FirstWalk.{handed}
use Rattle.translation.proofs.Translating.{sizes_are, size_refused, first_refused, filled_all}
use Rattle.translation.proofs.fill.Goals as goal
use Rattle.translation.proofs.fill.Goals.{In_ok-of_nodes}

-- no node is a 20
sizes : (c : In_ok-of_nodes) → sizes_checked c.args.rule.now.bytes.now ≡ fine
sizes c = sizes_are _ (passes_fine _ c.args.rule.now.accepted) c.in_ok-of_nodes.ensures.sizes

pub returns-in_err-of_nodes : goal.returns-in_err-of_nodes
returns-in_err-of_nodes c =
    let same : c.from_residual.result ≡ Err c.in_err-of_nodes.field-0.0 = search rules in
    rw same (size_refused _ (sizes_are _ (passes_fine _ c.args.rule.now.accepted) c.in_err-of_nodes.ensures))

pub walk-requires : goal.walk-requires
walk-requires c = (
  sizes (goal.at.walk-requires c).In_ok-of_nodes,
  c.in_ok-of_nodes.ensures.terms,
  record { states_room = refl; transitions_room = refl; ends_room = refl },
)

pub returns-in_err-walked : goal.returns-in_err-walked
returns-in_err-walked c =
    let same : c.from_residual-in_err-walked.result ≡ Err c.in_err-walked.field-0.0 = search rules in
    rw same
    (first_refused _ (sizes (goal.at.returns-in_err-walked c).In_ok-of_nodes) c.in_err-walked.ensures)

pub degeneralize-requires : goal.degeneralize-requires
degeneralize-requires c = (
  sizes (goal.at.degeneralize-requires c).In_ok-of_nodes,
  handed c.walk.auto.states c.walk.auto.transitions c.walk.auto.ends c.in_ok-walked.ensures,
  c.requires.1,
)

pub returns : goal.returns
returns c =
    let walked = c.in_ok-walked.ensures in
    filled_all _ walked.are c.in_ok-of_nodes.ensures.conflicts walked.conflicts refl c.in_ok-counts.ensures
