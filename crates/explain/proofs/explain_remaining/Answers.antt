-- `explain::explain_remaining` meets its contract: the letters that are looked at, as they are lent or gathered, are
-- those that remain. Assumes nothing.
use Prim.Native.Nat.{◌+◌, ◌≤◌}
use mathlib.Core.Path.{◌≡◌, sym, ◌∙◌, ap}
use lib.ListN.{length}
use lib.Seq.{length-take-le}
use native.Mathlib.Omega.{arith}
use Rattle.answer.proofs.Lowest.{passes_fine}
use Rattle.lasso.specs.Lasso.{remaining, max_letters}
use Rattle.lasso.proofs.Checking.{lasso_few}
use Rattle.explain.proofs.Calling.{letters_fit, letters_told}
use Rattle.explain.proofs.explain_remaining.Goals as goal
use Rattle.explain.proofs.explain_remaining.Goals.{After-none_skipped, Then-none_skipped}

few : (c : After-none_skipped) → length c.args.lasso.now.stem.now + length c.args.lasso.now.cycle.now ≤ max_letters
few c = lasso_few _ _ (sym c.requires)

-- ---- no letter is skipped
whole : (c : Then-none_skipped)
    → (c.args.lasso.now.stem.now ≡ remaining c.args.lasso.now.stem.now)
    × (c.args.lasso.now.cycle.now ≡ remaining c.args.lasso.now.cycle.now)
whole c =
    let w = c.none_skipped.ensures.0 c.if-none_skipped.true in
    (sym w.0, sym w.1)

pub explain_letters-requires : goal.explain_letters-requires
explain_letters-requires c = letters_fit _ _ c.requires (whole c).0 (whole c).1

pub as_lent-requires : goal.as_lent-requires
as_lent-requires c = (
  ap length (whole (goal.at.as_lent-requires c).Then-none_skipped).0,
  few (goal.at.as_lent-requires c).After-none_skipped,
)

pub returns-then-none_skipped : goal.returns-then-none_skipped
returns-then-none_skipped c =
    let w = whole (goal.at.returns-then-none_skipped c).Then-none_skipped in
    letters_told _ _ _ (passes_fine _ c.args.rule.now.accepted) c.requires w.0 w.1 c.explain_letters.ensures
    c.as_lent.ensures

-- ---- what remains is gathered in the first places
pub keep_remaining-s-requires : goal.keep_remaining-s-requires
keep_remaining-s-requires c = omega (arith, few (goal.at.keep_remaining-s-requires c).After-none_skipped)

pub keep_remaining-n-requires : goal.keep_remaining-n-requires
keep_remaining-n-requires c = omega (arith, few (goal.at.keep_remaining-n-requires c).After-none_skipped)

pub explain_letters-requires-2 : goal.explain_letters-requires-2
explain_letters-requires-2 c =
    letters_fit _ _ c.requires c.keep_remaining-s.ensures.1 c.keep_remaining-n.ensures.1

pub as_lent-requires-2 : goal.as_lent-requires-2
as_lent-requires-2 c =
    let kept = c.keep_remaining-s.ensures in
    (sym (length-take-le _ _ kept.0) ∙ ap length kept.1, few (goal.at.as_lent-requires-2 c).After-none_skipped)

pub returns : goal.returns
returns c =
    letters_told _ _ _ (passes_fine _ c.args.rule.now.accepted) c.requires c.keep_remaining-s.ensures.1
    c.keep_remaining-n.ensures.1 c.explain_letters-2.ensures c.as_lent-2.ensures
