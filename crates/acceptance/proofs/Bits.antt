-- The set of the numbers below n of which a test holds: it is below 2 ^ n, so that which untils a term fulfils is a
-- byte, and has a number exactly if the test holds of it. Assumes nothing.
use mathlib.Core.Path.{◌≡◌, refl, sym, ◌∙◌, ap}
use mathlib.Core.Bool.{Bool, true, false, cond}
use mathlib.Core.List.{List}
use Prim.Native.Nat.{ℕ, zero, suc, ◌+◌, ◌-◌, ◌*◌, ◌/◌, ◌%◌, ◌^◌, ◌<◌}
use native.Mathlib.Nat.{two-pow-succ, pow-succ', mul_assoc, div-eq_of_lt, add-div_right, add-mul-div_right}
use native.Mathlib.Decide.{ℕ_discrete}
use native.Mathlib.Omega.{arith}
use lib.Pow.{pow_mono, pow-add, pow_pos}
use Rattle.answer.specs.Result.{fine}
use Rattle.sets.specs.Bits.{has}
use Rattle.formula.specs.Rule.{checked}
use Rattle.term.specs.Term.{Term}
use Rattle.acceptance.specs.Acceptance.{until_count, fulfils_next, bits_of, fulfilment}
use Rattle.acceptance.proofs.Gathering.{untils_few}

pub bits_small : (test : ℕ → Bool) (n : ℕ) → bits_of test n < 2 ^ n
unfolding bits_of
bits_small test zero = omega arith
bits_small test (suc n) = go (test n) (bits_small test n)
  where
    go : (b : Bool) → bits_of test n < 2 ^ n → bits_of test n + cond b (2 ^ n) 0 < 2 ^ suc n
    go true lt = omega (arith, two-pow-succ n)
    go false lt = omega (arith, two-pow-succ n)

module _ (test : ℕ → Bool) where
  -- a bit is not changed by a higher one
  below : (d n j : ℕ) → j < n → (d + 2 ^ n) / 2 ^ j % 2 ≡ d / 2 ^ j % 2
  below d n j lt =
      let e : n ≡ (n - suc j) + suc j = omega arith in
      let power : 2 ^ n ≡ 2 ^ (n - suc j) * 2 * 2 ^ j =
      ap (λ (k : ℕ). 2 ^ k) e ∙ pow-add 2 (n - suc j) (suc j) ∙ rw (pow-succ' 2 j)
      (sym (mul_assoc (2 ^ (n - suc j)) 2 (2 ^ j))) in
      rw (power, add-mul-div_right d (2 ^ (n - suc j) * 2) (pow_pos j)) (omega arith)

  bits_has : (n j : ℕ) → j < n → has (bits_of test n) j ≡ test j
  unfolding bits_of
  bits_has zero j lt = absurd (omega arith)
  bits_has (suc n) j lt = go (ℕ_discrete j n) (test n) refl (λ l. bits_has n j l)
    where
      go : Dec (j ≡ n) → (b : Bool) → test n ≡ b → (j < n → has (bits_of test n) j ≡ test j)
          → has (bits_of test n + cond b (2 ^ n) 0) j ≡ test j
      go (yes e) true t rest =
          rw (e, t, add-div_right (bits_of test n) (pow_pos n), div-eq_of_lt (bits_small test n))
      go (yes e) false t rest =
          let none : bits_of test n + 0 ≡ bits_of test n = omega arith in
          rw (e, t, none, div-eq_of_lt (bits_small test n))
      go (no ne) true t rest = rw (below (bits_of test n) n j (omega arith)) (rest (omega arith))
      go (no ne) false t rest =
          let none : bits_of test n + 0 ≡ bits_of test n = omega arith in
          rw none (rest (omega arith))

-- bit j of the byte says whether until j + 1 is fulfilled
pub fulfilment_has : (rule : List ℕ) (t : Term) (j : ℕ) → j < until_count rule
    → has (fulfilment rule t) j ≡ fulfils_next rule j t
unfolding fulfilment
fulfilment_has rule t j lt = bits_has (λ k. fulfils_next rule k t) (until_count rule) j lt

pub fulfilment_byte : (rule : List ℕ) → checked rule ≡ fine → (t : Term) → fulfilment rule t < 256
unfolding fulfilment
fulfilment_byte rule passed t =
    omega (
      arith,
      bits_small (λ k. fulfils_next rule k t) (until_count rule),
      pow_mono {i = until_count rule} {j = 8}
          (untils_few rule passed),
    )
