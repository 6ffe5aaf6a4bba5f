-- `field::is_empty` meets its contract: the states are looked at by their numbers, from 0 on. Assumes nothing.
use Rattle.std.proofs.Common.{arith, rules, tests, refl, sym, ap, ◌∙◌}
use Rattle.std.proofs.lemmas.Iterator.{YieldsList-from_range}
use Rattle.std.proofs.lemmas.Iterator.Search.{any_from_yields_List}
use Rattle.std.proofs.iter.Serving.{serving}
use mathlib.Core.Bool.{not}
use Rattle.sets.specs.Sets.{any_below}
use Rattle.image.proofs.Lookup.{automaton_states}
use Rattle.field.specs.Sets.{in_set, is_empty}
use Rattle.image.proofs.Known.{states_known, few_known}
use Rattle.field.proofs.Emptiness.{any_range}
use Rattle.field.proofs.is_empty.Goals as goal

-- a state has its byte in the set
pub any-requires-clause-callable : goal.any-requires-clause-callable
any-requires-clause-callable c =
    let few = few_known c.args.image.now in
    grind serving

pub returns : goal.returns
unfolding is_empty
returns c =
    let image = c.args.image.now in
    let n = image.counts.states in
    let member = in_set c.args.set.now in
    let numbers = YieldsList-from_range 0 n n refl (omega arith) in
    let some = any_from_yields_List member _ _ c.any.result c.any.ensures.ran numbers
    (λ x b q k. search (rules, tests)) in
    let all = states_known image ∙ sym (automaton_states image.bytes.now) in
    ap not (some ∙ any_range member n ∙ ap (any_below member) all)
