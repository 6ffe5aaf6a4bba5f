-- A letter is tested for what must hold and what must not, both by one test. Assumes nothing.
use Prim.Native.Nat.{ℕ}
use mathlib.Core.Path.{◌≡◌, ◌∙◌}
use mathlib.Core.Bool.{◌&&◌}
use native.Mathlib.Omega.{arith}
use native.Mathlib.Decide.{ℕ_discrete}
use lib.Bits.{bit_or, bit_xor, and_le_l, and_le_r, or_add_and, xor_add_and, xor_self}
use lib.Dec.{eqb}
use borrow.Author.Tests.{eq-eqb, ne_eqb}

pub or_none_lem : (a b : ℕ) → bit_or a b ≡ 0 → (a ≡ 0) × (b ≡ 0)
or_none_lem a b e =
    let l = and_le_l a b in
    let r = and_le_r a b in
    let s = or_add_and a b in
    (omega arith, omega arith)

xor_none : (a b : ℕ) → bit_xor a b ≡ 0 → a ≡ b
xor_none a b e =
    let l = and_le_l a b in
    let r = and_le_r a b in
    let s = xor_add_and a b in
    omega arith

-- two tests in one
pub tests_joined : (a b c : ℕ) → eqb (bit_or (bit_xor a b) c) 0 ≡ (eqb a b && eqb c 0)
tests_joined a b c = go (ℕ_discrete a b) (ℕ_discrete c 0)
  where
    go : Dec (a ≡ b) → Dec (c ≡ 0) → eqb (bit_or (bit_xor a b) c) 0 ≡ (eqb a b && eqb c 0)
    go (no e) d = ne_eqb _ 0 (λ z. e (xor_none a b (or_none_lem (bit_xor a b) c z).0)) ∙ rw (ne_eqb a b e)
    go (yes e) (no f) = ne_eqb _ 0 (λ z. f (or_none_lem (bit_xor a b) c z).1) ∙ rw (eq-eqb a b e, ne_eqb c 0 f)
    go (yes e) (yes f) =
        let z : bit_or (bit_xor a b) c ≡ 0 = rw (e, f, xor_self b) in
        eq-eqb _ 0 z ∙ rw (eq-eqb a b e, eq-eqb c 0 f)
