-- `judge::some_run` meets its contract: the rows are looked at in turn (`Decisions`). Assumes nothing.
use Rattle.std.proofs.Common.{ℕ, refl, rules, arith, tests}
use Rattle.std.proofs.lemmas.Iterator.{cases_from_any, YieldsList-from_range}
use Rattle.judge.specs.Memory.{Token}
use Rattle.judge.proofs.Decisions.{none_below}
use Rattle.judge.proofs.some_run.Goals as goal

pub returns : goal.returns
returns c e q k lt =
    let n = c.args.n in
    let Empty : ℕ → Type 0 = λ q. (k : ℕ) → Token c.args.rows.now q k → ⊥ in
    none_below n (λ q. Unit {0}) Empty c.any.result (cases_from_any _ _ c.any.result (λ q. Unit {0}) Empty
    c.any.ensures.ran (YieldsList-from_range 0 n n refl (omega arith)) (λ x q k. tt)
    (λ x q k. search (rules, tests))) e q lt k
