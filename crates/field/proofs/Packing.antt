-- The states of a set in bytes: eight in a byte, the lowest in the lowest bit; and each state out of its byte again.
-- Assumes nothing.
use Prim.Native.Nat.{ℕ, zero, suc, ◌+◌, ◌-◌, ◌*◌, ◌/◌, ◌%◌, ◌^◌, ◌<◌, ◌≤◌, max}
use mathlib.Core.Path.{◌≡◌, refl, sym, ◌∙◌, ap}
use mathlib.Core.List.{List, [], ◌∷◌, ◌++◌}
use mathlib.Core.Bool.{Bool, true, false, cond, ◌||◌}
use native.Mathlib.Omega.{arith}
use native.Mathlib.Nat.{pow-succ', div-one, div-div-eq-div-mul}
use native.Mathlib.Decide.{ℕ_discrete}
use lib.ListN.{get_or, length, replicate, length-append, length-replicate, get_or-replicate, get_or-append}
use lib.Seq.{get_or-append_seam, ext_get_or}
use lib.Bits.{bit_or, or_step}
use lib.Dec.{eqb}
use borrow.Author.Tests.{eq-eqb, ne_eqb}
use Rattle.answer.specs.Bytes.{filled}
use Rattle.sets.specs.Bits.{has}
use Rattle.automaton.specs.Limits.{max_states}
use Rattle.field.specs.Sets.{set_bytes, in_set, bits_from, bytes_up_to, packed}
use Rattle.field.specs.Memory.{Added}

-- ---- the lowest bit, and those above it

bit_low : (b : Bool) (r : ℕ) → (cond b 1 0 + 2 * r) % 2 ≡ cond b 1 0
bit_low true r = omega arith
bit_low false r = omega arith

bit_half : (b : Bool) (r : ℕ) → (cond b 1 0 + 2 * r) / 2 ≡ r
bit_half true r = omega arith
bit_half false r = omega arith

bit_is : (b : Bool) → eqb (cond b 1 0) 1 ≡ b
bit_is true = refl
bit_is false = refl

bit_or_lem : (b c : Bool) (r : ℕ) → r * 2 + max (cond b 1 0) (cond c 1 0) ≡ cond (b || c) 1 0 + 2 * r
bit_or_lem true true r = omega arith
bit_or_lem true false r = omega arith
bit_or_lem false true r = omega arith
bit_or_lem false false r = omega arith

-- ---- the bits of n states from i on

-- none is in the set
pub bits_none : (set : ℕ → Bool) (i n : ℕ) → ((q : ℕ) → i ≤ q → q < i + n → set q ≡ false) → bits_from set i n ≡ 0
unfolding bits_from
bits_none set i zero none = refl
bits_none set i (suc n) none =
    rw (none i (omega arith) (omega arith), bits_none set (suc i) n (λ q l h. none q (omega arith) (omega arith))) refl

-- one of them is, and no other state
pub bits_one : (t i n : ℕ) → i ≤ t → t < i + n → bits_from (λ q. eqb q t) i n ≡ 2 ^ (t - i)
unfolding bits_from
bits_one t i zero l h = absurd (omega arith)
bits_one t i (suc n) l h = go (ℕ_discrete i t) (bits_one t (suc i) n)
  where
    go : Dec (i ≡ t) → (suc i ≤ t → t < suc i + n → bits_from (λ q. eqb q t) (suc i) n ≡ 2 ^ (t - suc i))
        → cond (eqb i t) 1 0 + 2 * bits_from (λ q. eqb q t) (suc i) n ≡ 2 ^ (t - i)
    go (yes e) ih =
        let z : t - i ≡ 0 = omega arith in
        rw (eq-eqb i t e, bits_none (λ q. eqb q t) (suc i) n (λ q a b. ne_eqb q t (λ (f : q ≡ t). omega arith)), z) refl
    go (no e) ih =
        let s : t - i ≡ suc (t - suc i) = omega arith in
        rw (ne_eqb i t e, ih (omega arith) (omega arith), s, pow-succ' 2 (t - suc i)) (omega arith)

-- those of one set or another
pub bits_or : (f g : ℕ → Bool) (i n : ℕ) → bit_or (bits_from f i n) (bits_from g i n) ≡ bits_from (λ q. f q || g q) i n
unfolding bits_from
bits_or f g i zero = refl
bits_or f g i (suc n) =
    one (f i) (g i) (bits_from f (suc i) n) (bits_from g (suc i) n) ∙ rw (bits_or f g (suc i) n) refl
  where
    one : (b c : Bool) (x y : ℕ) → bit_or (cond b 1 0 + 2 * x) (cond c 1 0 + 2 * y) ≡ cond (b || c) 1 0 + 2 * bit_or x y
    one b c x y =
        or_step (cond b 1 0 + 2 * x) (cond c 1 0 + 2 * y)
        ∙ rw (bit_half b x, bit_half c y, bit_low b x, bit_low c y) (bit_or_lem b c (bit_or x y))

-- bit j is that of state i + j
bits_has : (set : ℕ → Bool) (n i j : ℕ) → j < n → has (bits_from set i n) j ≡ set (i + j)
unfolding bits_from
bits_has set zero i j l = absurd (omega arith)
bits_has set (suc n) i zero l =
    let e : i ≡ i + 0 = omega arith in
    let x = cond (set i) 1 0 + 2 * bits_from set (suc i) n in
    ap (λ (k : ℕ). eqb (k % 2) 1) (div-one x)
    ∙ ap (λ (k : ℕ). eqb k 1) (bit_low (set i) (bits_from set (suc i) n)) ∙ bit_is (set i) ∙ ap set e
bits_has set (suc n) i (suc j) l =
    let e : suc i + j ≡ i + suc j = omega arith in
    let x = cond (set i) 1 0 + 2 * bits_from set (suc i) n in
    ap (λ (k : ℕ). eqb (x / k % 2) 1) (pow-succ' 2 j)
    ∙ ap (λ (k : ℕ). eqb (k % 2) 1) (sym (div-div-eq-div-mul x 2 (2 ^ j)))
    ∙ ap (λ (k : ℕ). eqb (k / 2 ^ j % 2) 1) (bit_half (set i) (bits_from set (suc i) n))
    ∙ bits_has set n (suc i) j (omega arith) ∙ ap set e

-- ---- the first n bytes

pub bytes_length : (set : ℕ → Bool) (n : ℕ) → length (bytes_up_to set n) ≡ n
unfolding bytes_up_to
bytes_length set zero = refl
bytes_length set (suc n) =
    omega (arith, length-append (bytes_up_to set n) (bits_from set (8 * n) 8 ∷ []), bytes_length set n)

bytes_at : (set : ℕ → Bool) (n k : ℕ) → k < n → get_or (bytes_up_to set n) k 0 ≡ bits_from set (8 * k) 8
unfolding bytes_up_to
bytes_at set zero k l = absurd (omega arith)
bytes_at set (suc n) k l = go (ℕ_discrete k n) (bytes_at set n k)
  where
    go : Dec (k ≡ n) → (k < n → get_or (bytes_up_to set n) k 0 ≡ bits_from set (8 * k) 8)
        → get_or (bytes_up_to set n ++ (bits_from set (8 * n) 8 ∷ [])) k 0 ≡ bits_from set (8 * k) 8
    go (yes e) ih =
        let q : k ≡ length (bytes_up_to set n) = e ∙ sym (bytes_length set n) in
        ap (λ (j : ℕ). get_or (bytes_up_to set n ++ (bits_from set (8 * n) 8 ∷ [])) j 0) q
        ∙ get_or-append_seam (bytes_up_to set n) (bits_from set (8 * n) 8) [] 0
        ∙ ap (λ (j : ℕ). bits_from set (8 * j) 8) (sym e)
    go (no e) ih =
        get_or-append (bytes_up_to set n) (bits_from set (8 * n) 8 ∷ []) 0 k (omega (arith, bytes_length set n))
        ∙ ih (omega arith)

-- zeros that the states of a set joined
pub from_zeros : (n : ℕ) (after : List ℕ) (set : ℕ → Bool) → Added (replicate n 0) after set → after ≡ bytes_up_to set n
from_zeros n after set added =
    let long : length after ≡ n = added.size ∙ length-replicate {A = ℕ} n 0 in
    ext_get_or 0 after (bytes_up_to set n) (long ∙ sym (bytes_length set n)) (λ k l. at k (omega arith))
  where
    at : (k : ℕ) → k < n → get_or after k 0 ≡ get_or (bytes_up_to set n) k 0
    at k l =
        added.bytes k (omega (arith, length-replicate {A = ℕ} n 0))
        ∙ ap (λ (b : ℕ). bit_or b (bits_from set (8 * k) 8)) (get_or-replicate n k 0 0 l)
        ∙ sym (bytes_at set n k l)

-- what is packed is in the set, and nothing else is
pub packed_has : (before : List ℕ) (set : ℕ → Bool) (q : ℕ) → q < max_states
    → in_set (filled before (packed set)) q ≡ set q
packed_has before set q l =
    let k : q / 8 < set_bytes = omega arith in
    let e : 8 * (q / 8) + q % 8 ≡ q = omega arith in
    ap (λ (b : ℕ). has b (q % 8))
    (get_or-append (packed set) _ 0 (q / 8) (omega (arith, bytes_length set set_bytes))
    ∙ bytes_at set set_bytes (q / 8) k)
    ∙ bits_has set 8 (8 * (q / 8)) (q % 8) (omega arith) ∙ ap set e
