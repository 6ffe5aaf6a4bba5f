-- `translation::rests` meets its contract: by the level, and then by what the search in the row finds.
-- Assumes nothing.
use mathlib.Core.Bool.{Bool}
use mathlib.Core.Path.{◌∙◌}
use Prim.Native.Nat.{ℕ}
use borrow.Author.Tests.{tests, eq-eqb}
use Rattle.std.proofs.Common.{rules}
use Rattle.std.proofs.lemmas.Iterator.{YieldsList-from_slice}
use Rattle.std.proofs.lemmas.Iterator.Search.{any_from_yields_List}
use Rattle.sets.proofs.Seeking.{list_any_is}
use Rattle.translation.specs.Memory.{stays_n}
use Rattle.translation.proofs.rests.Goals as goal

pub returns-then-level_of-last : goal.returns-then-level_of-last
returns-then-level_of-last c =
    let test : ℕ → Bool = stays_n c.args.last c.args.code in
    let found =
    any_from_yields_List test _ _ c.any.result c.any.ensures.ran
    (YieldsList-from_slice c.args.row.now c.iter.ensures.rest) (λ x b q k. search (rules, tests)) in
    rw (← c.level_of.ensures, eq-eqb _ c.args.last c.if-level_of-last.true) (found ∙ list_any_is test c.args.row.now)
