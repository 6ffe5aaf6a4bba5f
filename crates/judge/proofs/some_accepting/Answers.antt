-- `judge::some_accepting` meets its contract: the states are looked at in turn (`Decisions`). Assumes nothing.
use Rattle.std.proofs.Common.{ℕ, refl, rules, arith}
use Rattle.std.proofs.lemmas.Iterator.{cases_from_any, YieldsList-from_range}
use Rattle.image.specs.Lookup.{AcceptingByte}
use Rattle.judge.proofs.Decisions.{tells_below}
use Rattle.judge.proofs.some_accepting.Goals as goal

pub returns : goal.returns
returns c =
    let n = c.args.image.now.counts.states in
    let P : ℕ → Type 0 = λ q. AcceptingByte c.args.image.now.bytes.now q in
    tells_below n P c.any.result (cases_from_any _ _ c.any.result P (λ q. P q → ⊥) c.any.ensures.ran
    (YieldsList-from_range 0 n n refl (omega arith)) (λ x q k. search rules) (λ x q k. search rules))
