-- `image::some_free_to` meets its contract: the records are looked at by their numbers, from 0 on. Assumes nothing.
use Rattle.std.proofs.Common.{arith, rules, tests, ◌≡◌, ◌+◌, ◌*◌, refl, ◌∙◌, ℕ, Bool}
use Rattle.std.proofs.lemmas.Iterator.{YieldsList-from_range}
use Rattle.std.proofs.lemmas.Iterator.Search.{any_from_yields_List}
use Rattle.automaton.specs.Automaton.{free_to}
use Rattle.image.specs.Lookup.{record_at}
use Rattle.image.proofs.Rests.{free_among}
use Rattle.image.proofs.some_free_to.Goals as goal

pub returns : goal.returns
returns c =
    let bytes = c.args.transitions.now in
    let free : ℕ → Bool = λ i. free_to c.args.q (record_at bytes (c.args.at + 4 * i)) in
    let numbers = YieldsList-from_range 0 c.args.count c.args.count refl (omega arith) in
    let here : c.args.at + 4 * 0 ≡ c.args.at = omega arith in
    any_from_yields_List free _ _ c.any.result c.any.ensures.ran numbers (λ x b q k. search (rules, tests))
    ∙ rw here at (free_among bytes c.args.at c.args.q 0 c.args.count)
