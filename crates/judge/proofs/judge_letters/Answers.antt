-- `judge::judge_letters` meets its contract: what the search to rest has found, and the verdict: a pair at rest was
-- taken, or the full search decides. Assumes nothing.
use mathlib.Core.Path.{◌≡◌, sym, ◌∙◌}
use mathlib.Core.Bool.{◌||◌}
use Rattle.image.specs.Lookup.{image_automaton}
use Rattle.image.proofs.Accepted.{readable_in_range}
use Rattle.judge.specs.Search.{has_accepting_pass}
use Rattle.image.proofs.Known.{known}
use Rattle.judge.proofs.Judgements.{decided_pass, letters_kept, letters_broken}
use Rattle.judge.proofs.judge_letters.Goals as goal
use Rattle.judge.proofs.judge_letters.Goals.{Joined-taken, then-taken, else-taken}

kept_is : (c : Joined-taken)
    → c.if-taken.kept
    ≡ (c.take_pairs-taken.result.rests
    || has_accepting_pass (image_automaton c.args.image.now.bytes.now) c.args.lasso.now.stem.now
    c.args.lasso.now.cycle.now)
kept_is c =
    let image = c.args.image.now in
    let range = readable_in_range _ (known image) in
    elim c.if-taken.branch [
      | then-taken w ↦ rw (w.kept-is, w.if-taken.true)
      | else-taken w ↦
          rw (w.kept-is, w.if-taken.false) (sym (decided_pass _ _ _ range c.requires.0 w.search-kept.ensures))
    ]

pub returns-then-kept : goal.returns-then-kept
returns-then-kept c =
    letters_kept _ _ _ c.args.work.now c.take_pairs-taken.ensures.0 c.take_pairs-taken.ensures.1
    (kept_is (goal.at.returns-then-kept c).Joined-taken) (c.zero.ensures ∙ rw c.take_pairs-taken.auto.work)
    c.if-kept.true

pub returns-else-kept : goal.returns-else-kept
returns-else-kept c =
    letters_broken _ _ _ c.args.work.now c.take_pairs-taken.ensures.0 c.take_pairs-taken.ensures.1
    (kept_is (goal.at.returns-else-kept c).Joined-taken) (c.zero.ensures ∙ rw c.take_pairs-taken.auto.work)
    c.if-kept.false
