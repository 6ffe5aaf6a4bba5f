-- The bits of a number: the laws of bit_or, bit_and and 2 ^ n over them, and the tests that the definitions make of
-- them. Assumes nothing.
use Prim.Native.Nat.{ℕ, suc, ◌+◌, ◌-◌, ◌*◌, ◌/◌, ◌%◌, ◌^◌, ◌<◌, min, max}
use mathlib.Core.Path.{◌≡◌, refl, sym, ◌∙◌, ap, subst}
use mathlib.Core.Logic.{◌⊎◌, inl, inr}
use mathlib.Core.Bool.{true, false}
use native.Mathlib.Omega.{arith}
use native.Mathlib.Nat.{one-mul, mod-eq_of_lt, mod-lt, div-eq_of_lt, div_self, mul-mod_left, mul-div_cancel, pow-suc}
use native.Mathlib.Nat.{pow-succ'}
use native.Mathlib.Nat.{div-div-eq-div-mul, div-one, div-lt_iff_lt-mul}
use native.Mathlib.Decide.{ℕ_discrete, dec_lt}
use lib.Arith.{bin_ind}
use lib.Bits.{bit_and, bit_or, or_shr, and_shr, or_step, and_step, or_zero_l, or_comm}
use lib.Pow.{pow_pos, pow-lt, pow-add}
use borrow.Author.Tests.{eqb-true, eqb-false}
use Rattle.sets.specs.Bits.{has, Has}

-- every bit of x is one of y
abbrev pub Sub : ℕ → ℕ → Type 0
Sub x y = (n : ℕ) → Has x n → Has y n

pub has_dec : (d n : ℕ) → Dec (Has d n)
has_dec d n = go (ℕ_discrete (d / 2 ^ n % 2) 1)
  where
    go : Dec (d / 2 ^ n % 2 ≡ 1) → Dec (Has d n)
    go (yes e) = yes (record { set = e })
    go (no e) = no (λ h. e h.set)

pub has_true : (d n : ℕ) → has d n ≡ true → Has d n
has_true d n q = record { set = eqb-true (d / 2 ^ n % 2) 1 q }

pub has_false : (d n : ℕ) → has d n ≡ false → Has d n → ⊥
has_false d n q h = eqb-false (d / 2 ^ n % 2) 1 q h.set

two : (x : ℕ) → x % 2 < 2
two x = mod-lt x (omega arith)

-- a bit that is not set is 0
pub has_zero : (d n : ℕ) → (Has d n → ⊥) → d / 2 ^ n % 2 ≡ 0
has_zero d n h = go (ℕ_discrete (d / 2 ^ n % 2) 1)
  where
    go : Dec (d / 2 ^ n % 2 ≡ 1) → d / 2 ^ n % 2 ≡ 0
    go (yes e) = absurd (h (record { set = e }))
    go (no e) = omega (arith, two (d / 2 ^ n))

pub not_has : (d n : ℕ) → d / 2 ^ n % 2 ≡ 0 → Has d n → ⊥
not_has d n e h = omega arith

or_bit : (a b n : ℕ) → bit_or a b / 2 ^ n % 2 ≡ max (a / 2 ^ n % 2) (b / 2 ^ n % 2)
or_bit a b n = ap (λ (x : ℕ). x % 2) (or_shr a b n) ∙ low (a / 2 ^ n) (b / 2 ^ n)
  where
    low : (a b : ℕ) → bit_or a b % 2 ≡ max (a % 2) (b % 2)
    low a b = omega (arith, or_step a b, two a, two b)

and_bit : (a b n : ℕ) → bit_and a b / 2 ^ n % 2 ≡ min (a / 2 ^ n % 2) (b / 2 ^ n % 2)
and_bit a b n = ap (λ (x : ℕ). x % 2) (and_shr a b n) ∙ low (a / 2 ^ n) (b / 2 ^ n)
  where
    low : (a b : ℕ) → bit_and a b % 2 ≡ min (a % 2) (b % 2)
    low a b = omega (arith, and_step a b, two a, two b)

pub or_has : (a b n : ℕ) → Has (bit_or a b) n → Has a n ⊎ Has b n
or_has a b n h = go (has_dec a n) (has_dec b n)
  where
    go : Dec (Has a n) → Dec (Has b n) → Has a n ⊎ Has b n
    go (yes p) q = inl p
    go (no p) (yes q) = inr q
    go (no p) (no q) = absurd (omega (arith, or_bit a b n, has_zero a n p, has_zero b n q))

pub has_or_l : (a b n : ℕ) → Has a n → Has (bit_or a b) n
has_or_l a b n h = record { set = omega (arith, or_bit a b n, two (b / 2 ^ n)) }

pub has_or_r : (a b n : ℕ) → Has b n → Has (bit_or a b) n
has_or_r a b n h = record { set = omega (arith, or_bit a b n, two (a / 2 ^ n)) }

pub and_has : (a b n : ℕ) → Has (bit_and a b) n → Has a n × Has b n
and_has a b n h =
    let e = and_bit a b n in
    let l = two (a / 2 ^ n) in
    let r = two (b / 2 ^ n) in
    (record { set = omega arith }, record { set = omega arith })

pub zero_has : {n : ℕ} → Has 0 n → ⊥
zero_has {n} h = omega (arith, div-eq_of_lt (pow_pos n))

-- bit n of 2 ^ n, and no other
pub pow_has : (n : ℕ) → Has (2 ^ n) n
pow_has n = record { set = ap (λ (x : ℕ). x % 2) (div_self (pow_pos n)) }

pub has_pow : (n m : ℕ) → Has (2 ^ n) m → m ≡ n
has_pow n m h = go (dec_lt n m) (dec_lt m n)
  where
    below : n < m → ⊥
    below l = omega (arith, div-eq_of_lt (pow-lt l))

    above : (k : ℕ) → n ≡ suc k + m → ⊥
    above k e = omega (
      arith,
      ap (λ (x : ℕ). 2 ^ x / 2 ^ m % 2) e
          ∙ ap (λ (x : ℕ). x / 2 ^ m % 2) (pow-add 2 (suc k) m)
          ∙ ap (λ (x : ℕ). x % 2) (mul-div_cancel (2 ^ suc k) (pow_pos m))
          ∙ ap (λ (x : ℕ). x % 2) (pow-suc 2 k) ∙ mul-mod_left (2 ^ k) 2,
    )

    go : Dec (n < m) → Dec (m < n) → m ≡ n
    go (yes l) d = absurd (below l)
    go (no l) (yes k) = absurd (above (n - suc m) (omega arith))
    go (no l) (no k) = omega arith

-- 1 shifted by less than a word's width
pub shifted_one : (width n : ℕ) → n < width → 1 * 2 ^ n % 2 ^ width ≡ 2 ^ n
shifted_one width n lt = rw one-mul (mod-eq_of_lt (pow-lt {j = width} lt))

-- the lowest bit, and the others
odd_has : (x : ℕ) → x % 2 ≡ 1 → Has x 0
odd_has x e = record { set = ap (λ (y : ℕ). y % 2) (div-one x) ∙ e }

has_odd : (x : ℕ) → Has x 0 → x % 2 ≡ 1
has_odd x h = sym (ap (λ (y : ℕ). y % 2) (div-one x)) ∙ h.set

half_bit : (x n : ℕ) → x / 2 / 2 ^ n ≡ x / 2 ^ suc n
half_bit x n = div-div-eq-div-mul x 2 (2 ^ n) ∙ sym (ap (λ (y : ℕ). x / y) (pow-succ' 2 n))

has_suc : (x n : ℕ) → Has (x / 2) n → Has x (suc n)
has_suc x n h = record { set = sym (ap (λ (y : ℕ). y % 2) (half_bit x n)) ∙ h.set }

has_half : (x n : ℕ) → Has x (suc n) → Has (x / 2) n
has_half x n h = record { set = ap (λ (y : ℕ). y % 2) (half_bit x n) ∙ h.set }

-- a number that is not 0 has a bit
pub some_bit : (x : ℕ) → (x ≡ 0 → ⊥) → (n : ℕ) × Has x n
some_bit = bin_ind (λ x. (x ≡ 0 → ⊥) → (n : ℕ) × Has x n) (λ h. absurd (h refl)) step
  where
    step : (x : ℕ) → ((x / 2 ≡ 0 → ⊥) → (n : ℕ) × Has (x / 2) n) → (x ≡ 0 → ⊥) → (n : ℕ) × Has x n
    step x ih h = go (ℕ_discrete (x % 2) 1)
      where
        go : Dec (x % 2 ≡ 1) → (n : ℕ) × Has x n
        go (yes e) = (0, odd_has x e)
        go (no e) = let r = ih (λ z. h (omega (arith, two x))) in (suc r.0, has_suc x r.0 r.1)

-- two numbers with no bit in common
pub and_disjoint : (a b : ℕ) → ((n : ℕ) → Has a n → Has b n → ⊥) → bit_and a b ≡ 0
and_disjoint a b h = go (ℕ_discrete (bit_and a b) 0)
  where
    go : Dec (bit_and a b ≡ 0) → bit_and a b ≡ 0
    go (yes e) = e
    go (no e) =
        let (n, k) = some_bit (bit_and a b) e in
        let (p, q) = and_has a b n k in
        absurd (h n p q)

pub disjoint_and : (a b : ℕ) → bit_and a b ≡ 0 → (n : ℕ) → Has a n → Has b n → ⊥
disjoint_and a b e n p q = zero_has (subst (λ (x : ℕ). Has x n) e (record { set = omega (arith, and_bit a b n) }))

-- a number within another
pub or_sub : (x y : ℕ) → Sub x y → bit_or x y ≡ y
or_sub = bin_ind (λ x. (y : ℕ) → Sub x y → bit_or x y ≡ y) (λ y s. or_zero_l y) step
  where
    step : (x : ℕ) → ((y : ℕ) → Sub (x / 2) y → bit_or (x / 2) y ≡ y) → (y : ℕ) → Sub x y → bit_or x y ≡ y
    step x ih y s = go (ℕ_discrete (x % 2) 1)
      where
        high : bit_or (x / 2) (y / 2) ≡ y / 2
        high = ih (y / 2) (λ n h. has_half y n (s (suc n) (has_suc x n h)))

        go : Dec (x % 2 ≡ 1) → bit_or x y ≡ y
        go (yes e) = omega (arith, or_step x y, high, has_odd y (s 0 (odd_has x e)))
        go (no e) = omega (arith, or_step x y, high, two x, two y)

pub sub_or : (x y : ℕ) → bit_or x y ≡ y → Sub x y
sub_or x y e n h = subst (λ (z : ℕ). Has z n) e (has_or_l x y n h)

-- numbers with the same bits are equal
pub sub_both : (x y : ℕ) → Sub x y → Sub y x → x ≡ y
sub_both x y s t = sym (or_sub y x t) ∙ or_comm y x ∙ or_sub x y s

pub or_assoc : (a b c : ℕ) → bit_or (bit_or a b) c ≡ bit_or a (bit_or b c)
or_assoc a b c = sub_both (bit_or (bit_or a b) c) (bit_or a (bit_or b c)) there back
  where
    there : Sub (bit_or (bit_or a b) c) (bit_or a (bit_or b c))
    there n h = elim (or_has (bit_or a b) c n h) [
      | inl p ↦ elim (or_has a b n p) [
        | inl q ↦ has_or_l a (bit_or b c) n q
        | inr q ↦ has_or_r a (bit_or b c) n (has_or_l b c n q)
      ]
      | inr p ↦ has_or_r a (bit_or b c) n (has_or_r b c n p)
    ]

    back : Sub (bit_or a (bit_or b c)) (bit_or (bit_or a b) c)
    back n h = elim (or_has a (bit_or b c) n h) [
      | inl p ↦ has_or_l (bit_or a b) c n (has_or_l a b n p)
      | inr p ↦ elim (or_has b c n p) [
        | inl q ↦ has_or_l (bit_or a b) c n (has_or_r a b n q)
        | inr q ↦ has_or_r (bit_or a b) c n q
      ]
    ]

-- a number whose bits are all below k
pub bits_below : (x k : ℕ) → ((n : ℕ) → Has x n → n < k) → x < 2 ^ k
bits_below x k below = go (dec_lt x (2 ^ k))
  where
    high : (n : ℕ) → x / 2 ^ k / 2 ^ n ≡ x / 2 ^ (k + n)
    high n = div-div-eq-div-mul x (2 ^ k) (2 ^ n) ∙ sym (ap (λ (y : ℕ). x / y) (pow-add 2 k n))

    go : Dec (x < 2 ^ k) → x < 2 ^ k
    go (yes lt) = lt
    go (no ge) =
        let (n, h) =
        some_bit (x / 2 ^ k) (λ z. ge (omega (arith, (div-lt_iff_lt-mul {x = x} {y = 1} (pow_pos k)).0 (omega arith))))
        in
        absurd (omega (arith, below (k + n) (record { set = sym (ap (λ (y : ℕ). y % 2) (high n)) ∙ h.set })))
