-- On a word that repeats from position s on with period n, what holds repeats too, and can be decided: an until that
-- comes true does so within s + n positions. Assumes nothing.
use Prim.Native.Nat.{ℕ, zero, suc, ◌+◌, ◌-◌, ◌/◌, ◌%◌, ◌^◌, ◌<◌, ◌≤◌}
use mathlib.Core.Path.{◌≡◌, refl, sym, subst}
use mathlib.Core.Logic.Dec
use mathlib.Core.Logic.{◌⊎◌, inl, inr}
use native.Mathlib.Omega.{arith}
use native.Mathlib.Decide.{ℕ_discrete, dec_le}
use Rattle.formula.specs.Formula.{Formula, bottom, top, proposition, negated_proposition, conjunction, disjunction}
use Rattle.formula.specs.Formula.{next}
use Rattle.formula.specs.Formula.{until, release}
use Rattle.formula.specs.Satisfaction.{Holds}
use Rattle.lasso.proofs.Positions.{Decided, some_dec}

-- until and release of any two properties of positions
abbrev pub Until : (P Q : ℕ → Type 0) → ℕ → Type 0
Until P Q i = (k : ℕ) × (i ≤ k) × Q k × ((j : ℕ) → i ≤ j → j < k → P j)

abbrev pub Release : (P Q : ℕ → Type 0) → ℕ → Type 0
Release P Q i = (k : ℕ) → i ≤ k → (Q k ⊎ ((j : ℕ) × (i ≤ j) × (j < k) × P j))

-- an until that comes true within d positions
abbrev Near : (P Q : ℕ → Type 0) → ℕ → ℕ → Type 0
Near P Q d i = (k : ℕ) × (i ≤ k) × (k ≤ i + d) × Q k × ((j : ℕ) → i ≤ j → j < k → P j)

unfoldable pub near_dec : (P Q : ℕ → Type 0) → Decided P → Decided Q → (d i : ℕ) → Dec (Near P Q d i)
near_dec P Q dp dq zero i = go (dq i)
  where
    go : Dec (Q i) → Dec (Near P Q zero i)
    go (yes q) = yes (i, omega arith, omega arith, q, λ j a b. absurd (omega arith))
    go (no q) = no (λ (k, l, r, h, f). q (subst Q (omega arith) h))
near_dec P Q dp dq (suc d) i = go (dq i) (dp i) (near_dec P Q dp dq d (suc i))
  where
    go : Dec (Q i) → Dec (P i) → Dec (Near P Q d (suc i)) → Dec (Near P Q (suc d) i)
    go (yes q) p r = yes (i, omega arith, omega arith, q, λ j a b. absurd (omega arith))
    go (no q) (no p) r = no (λ (k, l, m, h, f). late k l h f (ℕ_discrete i k))
      where
        late : (k : ℕ) → i ≤ k → Q k → ((j : ℕ) → i ≤ j → j < k → P j) → Dec (i ≡ k) → ⊥
        late k l h f (yes e) = q (subst Q (sym e) h)
        late k l h f (no e) = p (f i (omega arith) (omega arith))
    go (no q) (yes p) (yes (k, l, m, h, f)) = yes (k, omega arith, omega arith, h, λ j a b. now j a b (ℕ_discrete i j))
      where
        now : (j : ℕ) → i ≤ j → j < k → Dec (i ≡ j) → P j
        now j a b (yes e) = subst P e p
        now j a b (no e) = f j (omega arith) b
    go (no q) (yes p) (no r) = no (λ (k, l, m, h, f). late k l m h f (ℕ_discrete i k))
      where
        late : (k : ℕ) → i ≤ k → k ≤ i + suc d → Q k → ((j : ℕ) → i ≤ j → j < k → P j) → Dec (i ≡ k) → ⊥
        late k l m h f (yes e) = q (subst Q (sym e) h)
        late k l m h f (no e) = r (k, omega arith, omega arith, h, λ j a b. f j (omega arith) b)

module _ (s n : ℕ) (pos : 0 < n) where
  abbrev pub Repeats : (ℕ → Type 0) → Type 0
  Repeats P = (i : ℕ) → s ≤ i → (P i → P (i + n)) × (P (i + n) → P i)

  -- the two halves, at positions that are given
  on : (P : ℕ → Type 0) → Repeats P → (i k : ℕ) → s ≤ i → k ≡ i + n → P i → P k
  on P r i k l e h = subst P (sym e) ((r i l).0 h)

  pub off : (P : ℕ → Type 0) → Repeats P → (i k : ℕ) → s ≤ i → k ≡ i + n → P k → P i
  off P r i k l e h = (r i l).1 (subst P e h)

  pub until_near : (P Q : ℕ → Type 0) → Repeats Q → (i : ℕ) → Until P Q i → Near P Q (s + n) i
  until_near P Q rq i (k, l, h, f) = go k k (omega arith) l h f
    where
      go : (fuel k : ℕ) → k ≤ fuel → i ≤ k → Q k → ((j : ℕ) → i ≤ j → j < k → P j) → Near P Q (s + n) i
      go zero k m l h f = (k, l, omega arith, h, f)
      go (suc fuel) k m l h f = step (λ k m l h f. go fuel k m l h f) (dec_le k (i + (s + n)))
        where
          step : ((k : ℕ) → k ≤ fuel → i ≤ k → Q k → ((j : ℕ) → i ≤ j → j < k → P j) → Near P Q (s + n) i)
              → Dec (k ≤ i + (s + n)) → Near P Q (s + n) i
          step ih (yes a) = (k, l, a, h, f)
          step ih (no a) =
              ih (k - n) (omega arith) (omega arith) (off Q rq (k - n) k (omega arith) (omega arith) h)
              (λ j b c. f j b (omega arith))

  unfoldable pub until_dec : (P Q : ℕ → Type 0) → Repeats Q → Decided P → Decided Q → Decided (Until P Q)
  until_dec P Q rq dp dq i = go (near_dec P Q dp dq (s + n) i)
    where
      go : Dec (Near P Q (s + n) i) → Dec (Until P Q i)
      go (yes (k, l, m, h, f)) = yes (k, l, h, f)
      go (no x) = no (λ u. x (until_near P Q rq i u))

  pub until_repeats : (P Q : ℕ → Type 0) → Repeats P → Repeats Q → Repeats (Until P Q)
  until_repeats P Q rp rq i l = (
    λ (k, a, h, f). (
      k + n,
      omega arith,
      on Q rq k (k + n) (omega arith) refl h,
      λ j b c. on P rp (j - n) j (omega arith) (omega arith) (f (j - n) (omega arith) (omega arith)),
    ),
    λ (k, a, h, f). (
      k - n,
      omega arith,
      off Q rq (k - n) k (omega arith) (omega arith) h,
      λ j b c. off P rp j (j + n) (omega arith) refl (f (j + n) (omega arith) (omega arith)),
    ),
  )

  pub not_repeats : (P : ℕ → Type 0) → Repeats P → Repeats (λ i. P i → ⊥)
  not_repeats P rp i l = (λ h p. h ((rp i l).1 p), λ h p. h ((rp i l).0 p))

  release_repeats : (P Q : ℕ → Type 0) → Repeats P → Repeats Q → Repeats (Release P Q)
  release_repeats P Q rp rq i l = (there, back)
    where
      there : Release P Q i → Release P Q (i + n)
      there h k a = elim (h (k - n) (omega arith)) [
        | inl q ↦ inl (on Q rq (k - n) k (omega arith) (omega arith) q)
        | inr r ↦ inr (r.0 + n, omega arith, omega arith, on P rp r.0 (r.0 + n) (omega arith) refl r.3)
      ]

      back : Release P Q (i + n) → Release P Q i
      back h k a = elim (h (k + n) (omega arith)) [
        | inl q ↦ inl (off Q rq k (k + n) (omega arith) refl q)
        | inr r ↦ inr (r.0 - n, omega arith, omega arith, off P rp (r.0 - n) r.0 (omega arith) (omega arith) r.3)
      ]

  unfoldable pub release_dec : (P Q : ℕ → Type 0) → Repeats Q → Decided P → Decided Q → Decided (Release P Q)
  release_dec P Q rq dp dq i =
      go (until_dec (λ j. P j → ⊥) (λ j. Q j → ⊥) (not_repeats Q rq) (λ j. Dec.not (dp j)) (λ j. Dec.not (dq j)) i)
    where
      go : Dec (Until (λ j. P j → ⊥) (λ j. Q j → ⊥) i) → Dec (Release P Q i)
      go (yes (k, l, h, f)) = no (λ r. elim (r k l) [ inl q ↦ h q | inr x ↦ f x.0 x.1 x.2 x.3 ])
      go (no u) = yes (λ k l. pick k l (dq k) (some_dec P dp (k - i) i))
        where
          pick : (k : ℕ) → i ≤ k → Dec (Q k) → Dec ((j : ℕ) × (i ≤ j) × (j < i + (k - i)) × P j)
              → Q k ⊎ ((j : ℕ) × (i ≤ j) × (j < k) × P j)
          pick k l (yes q) r = inl q
          pick k l (no q) (yes (j, a, b, p)) = inr (j, a, omega arith, p)
          pick k l (no q) (no r) = absurd (u (k, l, q, λ j a b p. r (j, a, omega arith, p)))

  module _ (w : ℕ → ℕ) (round : (i : ℕ) → s ≤ i → w (i + n) ≡ w i) where
    pub holds_repeats : (g : Formula) → Repeats (Holds w g)
    holds_repeats bottom i l = (λ h. h, λ h. h)
    holds_repeats top i l = (λ h. h, λ h. h)
    holds_repeats (proposition c m) i l = (
      λ h. subst (λ (x : ℕ). x / 2 ^ m % 2 ≡ 1) (sym (round i l)) h,
      λ h. subst (λ (x : ℕ). x / 2 ^ m % 2 ≡ 1)
          (round i l) h,
    )
    holds_repeats (negated_proposition c m) i l = (
      λ h. subst (λ (x : ℕ). x / 2 ^ m % 2 ≡ 0) (sym (round i l)) h,
      λ h. subst (λ (x : ℕ). x / 2 ^ m % 2 ≡ 0)
          (round i l) h,
    )
    holds_repeats (conjunction a b) i l = (
      λ h. ((holds_repeats a i l).0 h.0, (holds_repeats b i l).0 h.1),
      λ h.
          ((holds_repeats a i l).1 h.0, (holds_repeats b i l).1 h.1),
    )
    holds_repeats (disjunction a b) i l = (
      λ h. elim h [ inl x ↦ inl ((holds_repeats a i l).0 x) | inr x ↦ inr ((holds_repeats b i l).0 x) ],
      λ h. elim h [ inl x ↦ inl ((holds_repeats a i l).1 x) | inr x ↦ inr ((holds_repeats b i l).1 x) ],
    )
    holds_repeats (next c a) i l = (
      λ h. on (Holds w a) (holds_repeats a) (suc i) (suc (i + n)) (omega arith) (omega arith) h,
      λ h. off (Holds w a) (holds_repeats a) (suc i) (suc (i + n)) (omega arith) (omega arith) h,
    )
    holds_repeats (until c a b) i l = until_repeats (Holds w a) (Holds w b) (holds_repeats a) (holds_repeats b) i l
    holds_repeats (release c a b) i l = release_repeats (Holds w a) (Holds w b) (holds_repeats a) (holds_repeats b) i l

    unfoldable pub holds_dec : (g : Formula) → Decided (Holds w g)
    holds_dec bottom i = no (λ h. h)
    holds_dec top i = yes tt
    holds_dec (proposition c m) i = ℕ_discrete (w i / 2 ^ m % 2) 1
    holds_dec (negated_proposition c m) i = ℕ_discrete (w i / 2 ^ m % 2) 0
    holds_dec (conjunction a b) i = go (holds_dec a i) (holds_dec b i)
      where
        go : Dec (Holds w a i) → Dec (Holds w b i) → Dec (Holds w a i × Holds w b i)
        go (yes x) (yes y) = yes (x, y)
        go (yes x) (no y) = no (λ h. y h.1)
        go (no x) y = no (λ h. x h.0)
    holds_dec (disjunction a b) i = go (holds_dec a i) (holds_dec b i)
      where
        go : Dec (Holds w a i) → Dec (Holds w b i) → Dec (Holds w a i ⊎ Holds w b i)
        go (yes x) y = yes (inl x)
        go (no x) (yes y) = yes (inr y)
        go (no x) (no y) = no (λ h. elim h [ inl a ↦ x a | inr b ↦ y b ])
    holds_dec (next c a) i = holds_dec a (suc i)
    holds_dec (until c a b) i = until_dec (Holds w a) (Holds w b) (holds_repeats b) (holds_dec a) (holds_dec b) i
    holds_dec (release c a b) i = release_dec (Holds w a) (Holds w b) (holds_repeats b) (holds_dec a) (holds_dec b) i
