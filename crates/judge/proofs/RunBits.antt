-- What joining words, setting a bit and looking at one say of the bits of rows. Assumes nothing.
use Prim.Native.Nat.{ℕ, zero, suc, ◌+◌, ◌-◌, ◌*◌, ◌/◌, ◌%◌, ◌^◌, ◌<◌, ◌≤◌}
use mathlib.Core.Path.{◌≡◌, refl, sym, ◌∙◌, ap, subst}
use mathlib.Core.List.{List, [], ◌∷◌, ◌++◌}
use mathlib.Core.Logic.{◌⊎◌, inl, inr, ⊎_elim, ⊎_map}
use native.Mathlib.Omega.{arith}
use native.Mathlib.Decide.{ℕ_discrete, dec_lt}
use lib.ListN.{length, get_or, set, replicate, take, drop, length-replicate, length-take, length-drop, get_or-append}
use lib.Seq.{get_or-set_same, get_or-set_other, get_or-append-add, get_or-take, get_or-drop, length-take-le}
use lib.Bits.{bit_and, bit_or, and_mask}
use lib.Dec.{eqb}
use native.Mathlib.Nat.{add-zero}
use borrow.Author.Tests.{eqb-true, eqb-false}
use Rattle.judge.specs.Memory.{Token, Lifted, Gains, Confined, Ored, Tells}
use Rattle.sets.specs.Bits.{Has}
use Rattle.automaton.proofs.LetterTests.{or_none_lem}
use Rattle.sets.proofs.Bits.{or_has, has_or_l, has_or_r, zero_has, pow_has, has_pow}
use Rattle.judge.specs.Limits.{met_bit, row_bits}
use Rattle.judge.proofs.Gathers.{adds_as, none_set}

-- ---- words joined

-- a list with word w joined to the one at i
abbrev join_at : List ℕ → (i w : ℕ) → List ℕ
join_at x i w = set x i (bit_or (get_or x i 0) w)

-- a loop that has joined the first i words
pub record Oring (before from after : List ℕ) (i : ℕ) : Type 0 where
  pub joined : (j : ℕ) → j < i → get_or after j 0 ≡ bit_or (get_or before j 0) (get_or from j 0)
  pub rest : (j : ℕ) → i ≤ j → get_or after j 0 ≡ get_or before j 0

module _ (x from : List ℕ) where
  pub or_begins : Oring x from x 0
  or_begins = record { joined = λ j lt. absurd (omega arith); rest = λ j le. refl }

  pub or_steps : (y : List ℕ) (i : ℕ) → i < length y → Oring x from y i
      → Oring x from (join_at y i (get_or from i 0)) (i + 1)
  or_steps y i lt inv = record {
    joined = λ j l. pick j l (ℕ_discrete j i);
    rest = λ j le. get_or-set_other y i j _ 0 (λ q. omega arith) ∙ inv.rest j (omega arith);
  }
    where
      new : List ℕ
      new = join_at y i (get_or from i 0)

      pick : (j : ℕ) → j < i + 1 → Dec (j ≡ i) → get_or new j 0 ≡ bit_or (get_or x j 0) (get_or from j 0)
      pick j l (yes e) =
          rw e (get_or-set_same y i _ 0 lt
          ∙ ap (λ (w : ℕ). bit_or w (get_or from i 0)) (inv.rest i (omega arith)))
      pick j l (no e) = get_or-set_other y i j _ 0 e ∙ inv.joined j (omega arith)

-- n words from index a on have been joined with those of another list
pub record Joining (before : List ℕ) (a : ℕ) (from : List ℕ) (n : ℕ) (after : List ℕ) : Type 0 where
  pub inside : (i : ℕ) → i < n → get_or after (a + i) 0 ≡ bit_or (get_or before (a + i) 0) (get_or from i 0)
  pub outside : (i : ℕ) → (i < a) ⊎ (a + n ≤ i) → get_or after i 0 ≡ get_or before i 0

-- where a part of a list was joined
module _ (x part from : List ℕ) (a n : ℕ) (fits : a + n ≤ length x) (size : length part ≡ n) (words : length from ≡ n)
    (o : Ored (take n (drop a x)) from part) where
  abbrev front : List ℕ
  front = take a x

  abbrev back : List ℕ
  back = drop n (drop a x)

  front_size : length front ≡ a
  front_size = length-take-le a x (omega arith)

  -- what stands behind the front
  behind : (i : ℕ) → get_or (front ++ (part ++ back)) (a + i) 0 ≡ get_or (part ++ back) i 0
  behind i =
      let e : a + i ≡ length front + i = omega (arith, front_size) in
      rw e (get_or-append-add front (part ++ back) i 0)

  part_joined : Joining x a from n (front ++ (part ++ back))
  part_joined = record { inside = inside; outside = outside }
    where
      inside : (i : ℕ) → i < n
          → get_or (front ++ (part ++ back)) (a + i) 0 ≡ bit_or (get_or x (a + i) 0) (get_or from i 0)
      inside i lt =
          behind i ∙ get_or-append part back 0 i (omega arith) ∙ o i (omega arith)
          ∙ ap (λ (w : ℕ). bit_or w (get_or from i 0)) (get_or-take n (drop a x) i 0 lt ∙ get_or-drop a x i 0)

      outside : (i : ℕ) → (i < a) ⊎ (a + n ≤ i) → get_or (front ++ (part ++ back)) i 0 ≡ get_or x i 0
      outside i (inl lt) =
          get_or-append front (part ++ back) 0 i (omega (arith, front_size)) ∙ get_or-take a x i 0 lt
      outside i (inr le) =
          let d = i - (a + n) in
          let e : i ≡ a + (n + d) = omega arith in
          let f : n + d ≡ length part + d = omega (arith, size) in
          rw e (behind (n + d) ∙ ap (λ (j : ℕ). get_or (part ++ back) j 0) f ∙ get_or-append-add part back d 0
          ∙ get_or-drop n (drop a x) d 0 ∙ get_or-drop a x (n + d) 0)

-- the words from index a up to index e, as the code lends them
pub joined_part : (x part from : List ℕ) (a e n : ℕ) → e ≡ a + n → e ≤ length x → length from ≡ n
    → length part ≡ length (take (e - a) (drop a x)) → Ored (take (e - a) (drop a x)) from part
    → Joining x a from n (take a x ++ (part ++ drop (e - a) (drop a x)))
joined_part x part from a e n end fits words same o =
    let k : e - a ≡ n = omega arith in
    let size : length part ≡ n = omega (arith, same, length-take (e - a) (drop a x), length-drop a x) in
    rw k (part_joined x part from a n (omega arith) size words (rw k at o))

-- a bit of a word that is the same in both lists
same_token : {x y : List ℕ} {q k : ℕ} → get_or x (4 * q + k / 64) 0 ≡ get_or y (4 * q + k / 64) 0 → Token x q k
    → Token y q k
same_token {x} {y} {q} {k} e h = record { within = h.within; bit = subst (λ (d : ℕ). Has d (k % 64)) e h.bit }

-- n words of row t, from its word c on, joined with those of a list: their bits, one by one
module _ {x from y : List ℕ} {a n : ℕ} (t c : ℕ) (start : a ≡ 4 * t + c) (fits : c + n ≤ 4)
    (o : Joining x a from n y) where
  abbrev Among : (r k : ℕ) → Type 0
  Among r k = (r ≡ t) × (c ≤ k / 64) × (k / 64 < c + n)

  -- the word that is joined
  abbrev other : ℕ → ℕ
  other k = get_or from (k / 64 - c) 0

  abbrev pub Added : (r k : ℕ) → Type 0
  Added r k = Among r k × Has (other k) (k % 64)

  -- a word is among those joined, or it is as it was
  among : (r k : ℕ) → Among r k → get_or y (4 * r + k / 64) 0 ≡ bit_or (get_or x (4 * r + k / 64) 0) (other k)
  among r k (e, l, h) =
      let i : 4 * r + k / 64 ≡ a + (k / 64 - c) = omega arith in
      rw i (o.inside (k / 64 - c) (omega arith))

  abbrev Stays : (r k : ℕ) → Type 0
  Stays r k = get_or y (4 * r + k / 64) 0 ≡ get_or x (4 * r + k / 64) 0

  which : (r k : ℕ) → k < row_bits → Among r k ⊎ Stays r k
  which r k w = go (dec_lt (4 * r + k / 64) a) (dec_lt (4 * r + k / 64) (a + n))
    where
      go : Dec (4 * r + k / 64 < a) → Dec (4 * r + k / 64 < a + n) → Among r k ⊎ Stays r k
      go (yes l) d = inr (o.outside (4 * r + k / 64) (inl l))
      go (no l) (no h) = inr (o.outside (4 * r + k / 64) (inr (omega arith)))
      go (no l) (yes h) = inl (omega arith, omega arith, omega arith)

  pub joined_bits : Gains x y Added
  joined_bits = record {
    only = λ r k h. only r k h (which r k h.within);
    all = λ r k h. ⊎_elim (λ h. old r k h (which r k h.within)) (new r k) h;
  }
    where
      token : (r k : ℕ) → Among r k → k < row_bits → Has (bit_or (get_or x (4 * r + k / 64) 0) (other k)) (k % 64)
          → Token y r k
      token r k m w b = record { within = w; bit = rw (among r k m) b }

      only : (r k : ℕ) → Token y r k → Among r k ⊎ Stays r k → Token x r k ⊎ Added r k
      only r k h (inl m) =
          ⊎_map (λ b. record { within = h.within; bit = b }) (λ b. (m, b))
          (or_has _ (other k) (k % 64) (subst (λ (d : ℕ). Has d (k % 64)) (among r k m) h.bit))
      only r k h (inr e) = inl (same_token e h)

      old : (r k : ℕ) → Token x r k → Among r k ⊎ Stays r k → Token y r k
      old r k h (inl m) = token r k m h.within (has_or_l _ (other k) (k % 64) h.bit)
      old r k h (inr e) = same_token (sym e) h

      new : (r k : ℕ) → Added r k → Token y r k
      new r k (m, b) =
          token r k m (omega (arith, m.2)) (has_or_r (get_or x (4 * r + k / 64) 0) (other k) (k % 64) b)

module _ (x row y : List ℕ) (t : ℕ) where
  -- a whole row
  pub joined_row : Joining x (4 * t) row 4 y → Gains x y (λ r k. (r ≡ t) × Token row 0 k)
  joined_row o = adds_as (joined_bits t 0 (omega arith) (omega arith) o) to from
    where
      same : (k : ℕ) → k / 64 - 0 ≡ 4 * 0 + k / 64
      same k = omega arith

      to : (r k : ℕ) → Added t 0 (omega arith) (omega arith) o r k → (r ≡ t) × Token row 0 k
      to r k ((e, l, h), b) = (e, record { within = omega arith; bit = rw (same k) at b })

      from : (r k : ℕ) → (r ≡ t) × Token row 0 k → Added t 0 (omega arith) (omega arith) o r k
      from r k (e, h) = ((e, omega arith, omega (arith, h.within)), rw (same k) h.bit)

  -- the upper half of a row, from the lower half of another
  pub joined_met : Joining x (4 * t + 2) (take 2 row) 2 y → Gains x y (λ r k. (r ≡ t) × Lifted (Token row) 0 k)
  joined_met o = adds_as (joined_bits t 2 (omega arith) (omega arith) o) to from_low
    where
      to : (r k : ℕ) → Added t 2 (omega arith) (omega arith) o r k → (r ≡ t) × Lifted (Token row) 0 k
      to r k ((e, l, h), b) =
          let i : k / 64 - 2 ≡ 4 * 0 + (k - met_bit) / 64 = omega arith in
          let m : k % 64 ≡ (k - met_bit) % 64 = omega arith in (
            e,
            record {
              low = k - met_bit;
              half = omega arith;
              high = omega arith;
              held = record {
                within = omega arith;
                bit = rw (i, m) at (rw (get_or-take 2 row (k / 64 - 2) 0 (omega arith)) at b);
              };
            },
          )

      from_low : (r k : ℕ) → (r ≡ t) × Lifted (Token row) 0 k → Added t 2 (omega arith) (omega arith) o r k
      from_low r k (e, l) =
          let g = l.high in
          let lt = l.half in
          let i : k / 64 - 2 ≡ 4 * 0 + l.low / 64 = omega arith in
          let m : k % 64 ≡ l.low % 64 = omega arith in
          ((e, omega arith, omega arith), rw (get_or-take 2 row (k / 64 - 2) 0 (omega arith), i, m) l.held.bit)

-- ---- no bit

four : (row : List ℕ) (j : ℕ) → j < 4 → get_or row 0 0 ≡ 0 → get_or row 1 0 ≡ 0 → get_or row 2 0 ≡ 0
    → get_or row 3 0 ≡ 0
    → get_or row j 0 ≡ 0
four row zero lt a b c d = a
four row (suc zero) lt a b c d = b
four row (suc (suc zero)) lt a b c d = c
four row (suc (suc (suc zero))) lt a b c d = d
four row (suc (suc (suc (suc j)))) lt a b c d = absurd (omega arith)

-- the four words of a row joined are 0, as the code looks at them
pub row_none : (row : List ℕ)
    → bit_or (bit_or (bit_or (get_or row 0 0) (get_or row 1 0)) (get_or row 2 0)) (get_or row 3 0) ≡ 0
    → (k : ℕ) → Token row 0 k → ⊥
row_none row e k h =
    let f = or_none_lem _ (get_or row 3 0) e in
    let g = or_none_lem _ (get_or row 2 0) f.0 in
    let w = or_none_lem (get_or row 0 0) (get_or row 1 0) g.0 in
    zero_has (rw (four row (4 * 0 + k / 64) (omega (arith, h.within)) w.0 w.1 g.1 f.1) at h.bit)

-- the first n rows are 0, and behind them nothing stood
pub cleared : (n : ℕ) (old : List ℕ) → Confined n old → {rows : List ℕ}
    → rows ≡ replicate (4 * n) 0 ++ drop (4 * n) old → (q k : ℕ) → Token rows q k → ⊥
cleared n old confined {rows} e q k h = go (dec_lt q n)
  where
    zeros : List ℕ
    zeros = replicate (4 * n) 0

    at : ℕ
    at = 4 * q + k / 64

    size : length zeros ≡ 4 * n
    size = length-replicate (4 * n) 0

    go : Dec (q < n) → ⊥
    go (yes lt) =
        none_set (4 * n) q k
        (same_token (get_or-append zeros (drop (4 * n) old) 0 at (omega (arith, size, h.within))) (rw e at h))
    go (no ge) =
        let i : 4 * n + (at - 4 * n) ≡ at = omega arith in
        let z : at ≡ length zeros + (at - 4 * n) = omega (arith, size) in
        ge (confined q k (same_token (ap (λ (j : ℕ). get_or (zeros ++ drop (4 * n) old) j 0) z
        ∙ get_or-append-add zeros (drop (4 * n) old) (at - 4 * n) 0 ∙ get_or-drop (4 * n) old (at - 4 * n) 0
        ∙ ap (λ (j : ℕ). get_or old j 0) i) (rw e at h)))

-- ---- one bit

pub bit_is_set : (x : List ℕ) (q k : ℕ) → 4 * q + 4 ≤ length x → k < row_bits → (word : ℕ) → word ≡ 2 ^ (k % 64)
    → Gains x (join_at x (4 * q + k / 64) word) (λ r j. (r ≡ q) × (j ≡ k))
bit_is_set x q k fits within word e =
    adds_as (joined_bits q (k / 64) refl (omega arith) one) (λ r j h. to r j h.0 h.1)
    (λ r j h. ((h.0, omega (arith, h.1), omega (arith, h.1)), from r j h.1))
  where
    at : ℕ
    at = 4 * q + k / 64

    one : Joining x at (word ∷ []) 1 (join_at x at word)
    one = record { inside = here; outside = λ i out. get_or-set_other x at i _ 0 (apart i out) }
      where
        here : (i : ℕ) → i < 1
            → get_or (join_at x at word) (at + i) 0 ≡ bit_or (get_or x (at + i) 0) (get_or (word ∷ []) i 0)
        here zero lt = simp add-zero (get_or-set_same x at _ 0 (omega arith))
        here (suc i) lt = absurd (omega arith)

        apart : (i : ℕ) → (i < at) ⊎ (at + 1 ≤ i) → (i ≡ at) → ⊥
        apart i (inl lt) e = omega arith
        apart i (inr le) e = omega arith

    to : (r j : ℕ) → (r ≡ q) × (k / 64 ≤ j / 64) × (j / 64 < k / 64 + 1)
        → Has (get_or (word ∷ []) (j / 64 - k / 64) 0) (j % 64) → (r ≡ q) × (j ≡ k)
    to r j (a, l, h) b =
        let z : j / 64 - k / 64 ≡ 0 = omega arith in
        let m = has_pow (k % 64) (j % 64) (rw (z, e) at b) in
        (a, omega arith)

    from : (r j : ℕ) → j ≡ k → Has (get_or (word ∷ []) (j / 64 - k / 64) 0) (j % 64)
    from r j f =
        let z : j / 64 - k / 64 ≡ 0 = omega arith in
        rw (z, e, f) (pow_has (k % 64))

-- a word's bit, as the code looks at it
pub looked : (rows : List ℕ) (q k : ℕ) → k < row_bits
    → Tells (eqb (bit_and (get_or rows (4 * q + k / 64) 0 / 2 ^ (k % 64)) 1) 1) (Token rows q k)
looked rows q k w =
    let bits = get_or rows (4 * q + k / 64) 0 / 2 ^ (k % 64) in
    record {
      yes = λ e. record { within = w; bit = record { set = rw (and_mask bits 1) at (eqb-true (bit_and bits 1) 1 e) } };
      no = λ e h. eqb-false (bit_and bits 1) 1 e (and_mask bits 1 ∙ h.bit.set);
    }
