-- `explain::until_break` meets its contract: the first pair of flags of which neither is set. Assumes nothing.
use Rattle.std.proofs.Common.{rules, tests}
use Rattle.std.proofs.lemmas.Iterator.{IsFirst-from_position, YieldsList-from_slice, YieldsList-from_zip}
use Rattle.explain.proofs.Looking.{BothFail, SomeHolds, pair_found}
use Rattle.explain.proofs.until_break.Goals as goal

pub returns : goal.returns
returns c =
    pair_found _ _ c.requires _
    (IsFirst-from_position c.position.new.self _ _ BothFail SomeHolds c.position.ensures.ran
    (YieldsList-from_zip (YieldsList-from_slice c.args.left.now cc) (YieldsList-from_slice c.args.right.now cc))
    (λ x q k. search (rules, tests)) (λ x q k. search (rules, tests)))
