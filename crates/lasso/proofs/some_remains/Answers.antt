-- `lasso::some_remains` meets its contract: the search finds a letter below 128, or none. Assumes nothing.
use Rattle.std.proofs.Common.{rules, tests, ◌∙◌}
use Rattle.std.proofs.lemmas.Iterator.{YieldsList-from_slice}
use Rattle.std.proofs.lemmas.Iterator.Search.{any_from_yields_List}
use Rattle.lasso.specs.Lasso.{remains}
use Rattle.lasso.proofs.Skipping.{list_any-remains}
use Rattle.lasso.proofs.some_remains.Goals as goal

pub returns : goal.returns
returns c =
    any_from_yields_List remains _ _ _ c.any.ensures.ran (YieldsList-from_slice c.args.letters.now cc)
    (λ x b q k. search (rules, tests)) ∙ list_any-remains c.args.letters.now
