-- `judge::some_back` meets its contract: the states are looked at in turn (`Decisions`). Assumes nothing.
use Rattle.std.proofs.Common.{ℕ, ◌+◌, refl, rules, arith}
use Rattle.std.proofs.lemmas.Iterator.{cases_from_any, YieldsList-from_range}
use Rattle.judge.specs.Limits.{met_bit}
use Rattle.judge.specs.Memory.{Token}
use Rattle.judge.proofs.Decisions.{tells_below}
use Rattle.judge.proofs.some_back.Goals as goal

pub returns : goal.returns
returns c =
    let n = c.args.n in
    let P : ℕ → Type 0 = λ q. Token c.args.rows.now q (met_bit + q) in
    tells_below n P c.any.result (cases_from_any _ _ c.any.result P (λ q. P q → ⊥) c.any.ensures.ran
    (YieldsList-from_range 0 n n refl (omega arith)) (λ x q k. search rules) (λ x q k. search rules))
