-- `generalized::find` meets its contract: the one at last has its own place, and a search finds the first that is x.
-- Assumes nothing.
use Rattle.std.proofs.Common.{rules, tests}
use Rattle.std.proofs.lemmas.Iterator.{YieldsList-from_slice}
use Rattle.std.proofs.lemmas.Iterator.Search.{position_from_yields_List}
use lib.Dec.{eqb}
use Rattle.generalized.proofs.Numbers.{finds_position}
use Rattle.generalized.proofs.find.Goals as goal

pub returns : goal.returns
returns c =
    let items = c.args.items.now in
    let x = c.args.x in
    let is = position_from_yields_List (λ y. eqb y x) _ _ c.position.result c.position.ensures.ran
    (YieldsList-from_slice items cc) (λ y b q k. search (rules, tests)) in
    rw is (finds_position x items)
