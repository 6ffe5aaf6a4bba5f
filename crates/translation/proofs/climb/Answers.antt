-- `translation::climb` meets its contract: what the search over the levels finds is where the climb ends.
-- Assumes nothing.
use native.Mathlib.Omega.{arith}
use mathlib.Core.Bool.{not}
use mathlib.Core.Path.{refl, sym, ap, ◌∙◌}
use Prim.Native.Nat.{ℕ, ◌-◌}
use Rattle.std.proofs.Common.{rules}
use Rattle.std.proofs.lemmas.Iterator.{YieldsList-from_range}
use Rattle.std.proofs.lemmas.Iterator.Search.{find_from_yields_List}
use Rattle.std.specs.Option.{unwrap_or}
use borrow.Author.Tests.{tests}
use Rattle.sets.specs.Bits.{has}
use Rattle.translation.proofs.Levels.{climb_first, same_option}
use Rattle.translation.proofs.climb.Goals as goal

pub returns : goal.returns
returns c =
    let a = c.args in
    c.unwrap_or.ensures
    ∙ ap (λ found. unwrap_or found a.last)
    (sym (same_option c.find.result)
    ∙ find_from_yields_List (λ (j : ℕ). not (has a.fulfilled j)) _ _ c.find.result c.find.ensures.ran
    (YieldsList-from_range a.from a.last (a.last - a.from) refl refl) (λ x b q k. search (rules, tests)))
    ∙ sym (climb_first a.fulfilled a.last (a.last - a.from) a.from (omega arith))
