-- What may hold at positions of a word: again and again, at some one of finitely many; and the pigeonhole principle.
-- Assumes nothing.
use Prim.Native.Nat.{ℕ, zero, suc, ◌+◌, ◌-◌, ◌<◌, ◌≤◌}
use mathlib.Core.Path.{◌≡◌, sym, subst}
use native.Mathlib.Omega.{arith}
use native.Mathlib.Decide.{ℕ_discrete, dec_lt}

-- at or after each position there is one with P
abbrev pub Again : (ℕ → Type 0) → Type 0
Again P = (i : ℕ) → (j : ℕ) × (i ≤ j) × P j

abbrev pub Decided : (ℕ → Type 0) → Type 0
Decided P = (i : ℕ) → Dec (P i)

-- some position from i on and below i + d
unfoldable pub some_dec : (P : ℕ → Type 0) → Decided P → (d i : ℕ) → Dec ((j : ℕ) × (i ≤ j) × (j < i + d) × P j)
some_dec P dp zero i = no (λ (j, a, b, p). omega arith)
some_dec P dp (suc d) i = go (dp i) (some_dec P dp d (suc i))
  where
    go : Dec (P i) → Dec ((j : ℕ) × (suc i ≤ j) × (j < suc i + d) × P j)
        → Dec ((j : ℕ) × (i ≤ j) × (j < i + suc d) × P j)
    go (yes p) r = yes (i, omega arith, omega arith, p)
    go (no p) (yes (j, a, b, q)) = yes (j, omega arith, omega arith, q)
    go (no p) (no r) = no (λ (j, a, b, q). late j a b q (ℕ_discrete i j))
      where
        late : (j : ℕ) → i ≤ j → j < i + suc d → P j → Dec (i ≡ j) → ⊥
        late j a b q (yes e) = p (subst P (sym e) q)
        late j a b q (no e) = r (j, omega arith, omega arith, q)

-- more pigeons than holes
pub pigeon : (N : ℕ) (f : ℕ → ℕ) → ((i : ℕ) → i ≤ N → f i < N) → (a b : ℕ) × (a < b) × (b ≤ N) × (f a ≡ f b)
pigeon zero f h = let l = h 0 (omega arith) in absurd (omega arith)
pigeon (suc N) f h = go (some_dec (λ j. f j ≡ f (suc N)) (λ j. ℕ_discrete (f j) (f (suc N))) (suc N) 0) (pigeon N g)
  where
    top : ℕ
    top = f (suc N)

    lower : (x : ℕ) → Dec (top < x) → ℕ
    lower x (yes l) = x - 1
    lower x (no l) = x

    g : ℕ → ℕ
    g i = lower (f i) (dec_lt top (f i))

    go : Dec ((j : ℕ) × (0 ≤ j) × (j < 0 + suc N) × (f j ≡ f (suc N)))
        → (((i : ℕ) → i ≤ N → g i < N) → (a b : ℕ) × (a < b) × (b ≤ N) × (g a ≡ g b))
        → (a b : ℕ) × (a < b) × (b ≤ suc N) × (f a ≡ f b)
    go (yes (j, x, y, e)) ih = (j, suc N, omega arith, omega arith, e)
    go (no none) ih =
        let (a, b, x, y, e) = ih small in
        (a, b, x, omega arith, same a b (omega arith) y (dec_lt top (f a)) (dec_lt top (f b)) e)
      where
        other : (i : ℕ) → i ≤ N → f i ≡ top → ⊥
        other i l e = none (i, omega arith, omega arith, e)

        less : (x : ℕ) (d : Dec (top < x)) → top < suc N → x < suc N → (x ≡ top → ⊥) → lower x d < N
        less x (yes l) t m n = omega arith
        less x (no l) t m n = go₂ (ℕ_discrete x top)
          where
            go₂ : Dec (x ≡ top) → x < N
            go₂ (yes e) = absurd (n e)
            go₂ (no e) = omega arith

        small : (i : ℕ) → i ≤ N → g i < N
        small i l = less (f i) (dec_lt top (f i)) (h (suc N) (omega arith)) (h i (omega arith)) (other i l)

        same : (a b : ℕ) → a ≤ N → b ≤ N → (p : Dec (top < f a)) (q : Dec (top < f b)) → lower (f a) p ≡ lower (f b) q
            → f a ≡ f b
        same a b x y (yes p) (yes q) e = omega arith
        same a b x y (yes p) (no q) e = absurd (other b y (omega arith))
        same a b x y (no p) (yes q) e = absurd (other a x (omega arith))
        same a b x y (no p) (no q) e = e
