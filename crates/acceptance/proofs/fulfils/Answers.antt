-- `acceptance::fulfils` meets its contract: one of the terms shows it, or none. Assumes nothing.
use Rattle.std.proofs.Common.{rules, tests, ◌∙◌, ◌≡◌}
use Rattle.std.proofs.lemmas.Iterator.{YieldsList-from_slice}
use Rattle.std.proofs.lemmas.Iterator.Search.{any_from_yields_List}
use Rattle.sets.proofs.Seeking.{list_any_is}
use Rattle.sets.specs.Sets.{any}
use Rattle.acceptance.specs.Memory.{shows_n}
use Rattle.acceptance.proofs.fulfils.Goals as goal

pub returns-else-not-owes : goal.returns-else-not-owes
returns-else-not-owes c =
    let test = shows_n c.args.f c.args.t in
    let found : c.any.result ≡ any test c.args.us.now =
    any_from_yields_List test _ _ _ c.any.ensures.ran (YieldsList-from_slice c.args.us.now cc)
    (λ x b q k. search (rules, tests)) ∙ list_any_is test c.args.us.now in
    rw (← c.owes.ensures, c.if-not-owes.false) found
