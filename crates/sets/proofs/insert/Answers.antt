-- `sets::insert` meets its contract: the first number that is not below the new one is the same, or tells its place.
-- Assumes nothing.
use Rattle.std.proofs.Common.{arith, rules, tests, ◌≡◌, ◌<◌, get_or, take, leb, rules}
use Rattle.std.proofs.lemmas.Iterator.{YieldsList-from_slice}
use Rattle.std.proofs.lemmas.Iterator.Search.{position_from_yields_List}
use Rattle.sets.proofs.Stores.{over_in, found_in, absent_in}
use Rattle.sets.proofs.insert.Goals as goal
use Rattle.sets.proofs.insert.Goals.{else-i-count-via-then-i-count+else-items-i, else-i-count-via-else-i-count}

pub returns-then-items-count : goal.returns-then-items-count
returns-then-items-count c = over_in _ _ _ (omega arith)

pub returns-then-items-i : goal.returns-then-items-i
returns-then-items-i c =
    let items = c.args.items.now in
    let t = c.args.t in
    let first = position_from_yields_List (leb t) _ _ _ c.position.ensures.ran
    (YieldsList-from_slice (take c.args.count items) (cc)) (λ x b q k. search (rules, tests)) in
    found_in items c.args.count t _ (omega arith) first c.unwrap_or-i.ensures
    c.if-i-count.true c.if-items-i.true

pub returns : goal.returns
returns c =
    let items = c.args.items.now in
    let t = c.args.t in
    let first = position_from_yields_List (leb t) _ _ _ c.position.ensures.ran
    (YieldsList-from_slice (take c.args.count items) (cc)) (λ x b q k. search (rules, tests)) in
    let other : c.unwrap_or-i.result < c.args.count → get_or items c.unwrap_or-i.result 0 ≡ t → ⊥ =
    elim c.else-i-count.branch [
      | else-i-count-via-then-i-count+else-items-i w ↦ λ l e. w.if-items-i.false e
      | else-i-count-via-else-i-count w ↦ λ l e. omega arith
    ] in
    absent_in items c.args.count t _ (omega arith) first c.unwrap_or-i.ensures other c.insert_at.ensures
