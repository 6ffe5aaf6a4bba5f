-- A loop that adds bits turn by turn: what it has added is what each turn adds. Assumes nothing.
use Prim.Native.Nat.{ℕ, ◌+◌, ◌*◌, ◌/◌, ◌<◌, ◌≤◌}
use mathlib.Core.Path.{◌≡◌, refl}
use mathlib.Core.List.{List}
use mathlib.Core.Logic.{◌⊎◌, inl, inr, ⊎_elim, ⊎_map}
use native.Mathlib.Omega.{arith}
use native.Mathlib.Decide.{ℕ_discrete}
use lib.ListN.{replicate}
use Rattle.judge.specs.Memory.{Token, Lifted, Is, Gains}
use Rattle.answer.proofs.Zeros.{zeros_at}
use Rattle.sets.proofs.Bits.{zero_has}

-- rows by what those held of which they were made
pub is_made : {x y : List ℕ} {P : (q k : ℕ) → Type 0} (Made : ((q k : ℕ) → Type 0) → (q k : ℕ) → Type 0)
    → ((P Q : (q k : ℕ) → Type 0) → ((q k : ℕ) → P q k → Q q k) → (q k : ℕ) → Made P q k → Made Q q k)
    → Is x P → Is y (Made (Token x)) → Is y (Made P)
is_made Made map p is = record {
  only = λ q k h. map _ _ p.only q k (is.only q k h);
  all = λ q k h. is.all q k (map _ _ p.all q k h);
}

-- what is added, said otherwise
pub adds_as : {x y : List ℕ} {New New' : (q k : ℕ) → Type 0} → Gains x y New → ((q k : ℕ) → New q k → New' q k)
    → ((q k : ℕ) → New' q k → New q k) → Gains x y New'
adds_as adds to from = record {
  only = λ q k h. ⊎_map (λ h. h) (to q k) (adds.only q k h);
  all = λ q k h. adds.all q k (⊎_map (λ h. h) (from q k) h);
}

-- nothing is added
pub adds_none : {x : List ℕ} {New : (q k : ℕ) → Type 0} → ((q k : ℕ) → New q k → ⊥) → Gains x x New
adds_none none = record { only = λ q k h. inl h; all = λ q k h. ⊎_elim (λ h. h) (λ h. absurd (none q k h)) h }

-- what is lifted in one row, in another
pub lift_as : {P Q : (q k : ℕ) → Type 0} {p q k : ℕ} (l : Lifted P p k) → Q q l.low → Lifted Q q k
lift_as l h = record { low = l.low; half = l.half; high = l.high; held = h }

-- the bits of a row by itself, said of the row where it stands
pub adds_row : {x y rows row : List ℕ} {P : ℕ → Type 0} {q : ℕ} → Is row (λ p k. (p ≡ 0) × Token rows q k)
    → Gains x y (λ t k. P t × Token row 0 k) → Gains x y (λ t k. P t × Token rows q k)
adds_row is adds =
    adds_as adds (λ t k h. (h.0, (is.only 0 k h.1).1)) (λ t k h. (h.0, is.all 0 k (refl, h.1)))

pub adds_lifted : {x y rows row : List ℕ} {P : ℕ → Type 0} {q : ℕ} → Is row (λ p k. (p ≡ 0) × Token rows q k)
    → Gains x y (λ t k. P t × Lifted (Token row) 0 k) → Gains x y (λ t k. P t × Lifted (Token rows) q k)
adds_lifted is adds =
    adds_as adds (λ t k h. (h.0, lift_as h.1 (is.only 0 h.1.low h.1.held).1))
    (λ t k h. (h.0, lift_as h.1 (is.all 0 h.1.low (refl, h.1.held))))

-- to rows that have no bit
pub none_set : (n q k : ℕ) → Token (replicate n 0) q k → ⊥
none_set n q k h = zero_has (rw (zeros_at n (4 * q + k / 64)) at h.bit)

pub is_initial : {rows : List ℕ} {New : (q k : ℕ) → Type 0} (m : ℕ) → Gains (replicate m 0) rows New → Is rows New
is_initial m adds = record {
  only = λ q k h. ⊎_elim (λ h. absurd (none_set m q k h)) (λ h. h) (adds.only q k h);
  all = λ q k h. adds.all q k (inr h);
}

-- a loop with n turns that stands at i
pub record Gathering (before : List ℕ) (New : (i q k : ℕ) → Type 0) (n : ℕ) (after : List ℕ) (i : ℕ) : Type 0 where
  pub within : i ≤ n
  pub gathered : Gains before after (λ q k. (j : ℕ) × (j < i) × New j q k)

module _ (x : List ℕ) (New : (i q k : ℕ) → Type 0) (n : ℕ) where
  pub gather_begins : Gathering x New n x 0
  gather_begins = record { within = omega arith; gathered = adds_none (λ q k h. omega (arith, h.1)) }

  pub gather_steps : (y z : List ℕ) (i : ℕ) → i < n → Gathering x New n y i → Gains y z (New i)
      → Gathering x New n z (i + 1)
  gather_steps y z i lt inv adds = record {
    within = omega arith;
    gathered = record {
      only = λ q k h. ⊎_elim (λ h. old q k (inv.gathered.only q k h)) (λ h. inr (i, omega arith, h))
          (adds.only q k h);
      all = λ q k h. adds.all q k (all q k h);
    };
  }
    where
      old : (q k : ℕ) → Token x q k ⊎ ((j : ℕ) × (j < i) × New j q k)
          → Token x q k ⊎ ((j : ℕ) × (j < i + 1) × New j q k)
      old q k (inl h) = inl h
      old q k (inr (j, l, h)) = inr (j, omega arith, h)

      pick : (q k j : ℕ) → j < i + 1 → New j q k → Dec (j ≡ i) → Token y q k ⊎ New i q k
      pick q k j l h (yes e) = inr (rw e at h)
      pick q k j l h (no e) = inl (inv.gathered.all q k (inr (j, omega arith, h)))

      all : (q k : ℕ) → Token x q k ⊎ ((j : ℕ) × (j < i + 1) × New j q k) → Token y q k ⊎ New i q k
      all q k (inl h) = inl (inv.gathered.all q k (inl h))
      all q k (inr (j, l, h)) = pick q k j l h (ℕ_discrete j i)

  pub gather_ends : (y : List ℕ) (i : ℕ) → n ≤ i → Gathering x New n y i
      → Gains x y (λ q k. (j : ℕ) × (j < n) × New j q k)
  gather_ends y i le inv =
      let e : i ≡ n = omega (arith, inv.within) in
      rw e at inv.gathered

-- a loop of which each turn changes a row of its own: row i is still as it was
module _ {x y : List ℕ} {New : (p k : ℕ) → Type 0} {n : ℕ} (i : ℕ)
    (inv : Gathering x (λ p r k. (r ≡ p) × New p k) n y i) where
  pub row_was : {k : ℕ} → Token y i k → Token x i k
  row_was {k} h = ⊎_elim (λ t. t) (λ v. absurd (omega (arith, v.1, v.2.0))) (inv.gathered.only i k h)

  pub row_is : {k : ℕ} → Token x i k → Token y i k
  row_is {k} h = inv.gathered.all i k (inl h)
