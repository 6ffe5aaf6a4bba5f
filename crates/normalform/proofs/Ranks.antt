-- The numbers of the needed codes rise with the codes, each number below their count is one's, and the bytes under a
-- code stand at its number, by induction on the codes. Assumes nothing.
use Prim.Native.Nat.{ℕ, zero, suc, ◌+◌, ◌*◌, ◌<◌, ◌≤◌}
use mathlib.Core.Path.{◌≡◌, refl, ◌∙◌, subst}
use mathlib.Core.Bool.{Bool, true, false, cond}
use mathlib.Core.List.{List, [], ◌++◌}
use native.Mathlib.Omega.{arith}
use native.Mathlib.Decide.{ℕ_discrete, dec_lt}
use lib.ListN.{get_or, length, length-append, get_or-append}
use lib.Seq.{get_or-append-add}
use Rattle.normalform.specs.NormalForm.{bit, rank, emit}

module _ (need : ℕ → Bool) where
  pub rank_needed : (c : ℕ) → need c ≡ true → rank need (suc c) ≡ suc (rank need c)
  unfolding rank
  rank_needed c e = rw e (omega arith)

  pub rank_passed : (c : ℕ) → need c ≡ false → rank need (suc c) ≡ rank need c
  unfolding rank
  rank_passed c e = rw e (omega arith)

  pub rank_rises : (c d : ℕ) → c ≤ d → rank need c ≤ rank need d
  unfolding rank
  rank_rises c zero le = let e : c ≡ 0 = omega arith in rw e (omega arith)
  rank_rises c (suc d) le = go (ℕ_discrete c (suc d)) (λ le. rank_rises c d le)
    where
      go : Dec (c ≡ suc d) → (c ≤ d → rank need c ≤ rank need d) → rank need c ≤ rank need (suc d)
      go (yes e) ih = rw e (omega arith)
      go (no e) ih = omega (arith, ih (omega arith))

  pub rank_below : (c d : ℕ) → need c ≡ true → c < d → rank need c < rank need d
  rank_below c d e lt = omega (arith, rank_needed c e, rank_rises (suc c) d lt)

  pub rank_same : (c d : ℕ) → need c ≡ true → need d ≡ true → rank need c ≡ rank need d → c ≡ d
  rank_same c d ec ed e = go (dec_lt c d) (dec_lt d c)
    where
      go : Dec (c < d) → Dec (d < c) → c ≡ d
      go (yes l) r = absurd (omega (arith, rank_below c d ec l))
      go (no l) (yes r) = absurd (omega (arith, rank_below d c ed r))
      go (no l) (no r) = omega arith

  -- each number below the count is some needed code's
  pub unrank : (end i : ℕ) → i < rank need end → (c : ℕ) × (c < end) × (need c ≡ true) × (rank need c ≡ i)
  unfolding rank
  unrank zero i lt = absurd (omega arith)
  unrank (suc end) i lt = go (dec_lt i (rank need end)) (need end) refl (λ l. unrank end i l)
    where
      go : Dec (i < rank need end) → (t : Bool) → need end ≡ t
          → (i < rank need end → (c : ℕ) × (c < end) × (need c ≡ true) × (rank need c ≡ i))
          → (c : ℕ) × (c < suc end) × (need c ≡ true) × (rank need c ≡ i)
      go (yes l) t e ih = let (c, a, b, d) = ih l in (c, omega arith, b, d)
      go (no l) true e ih = let m : i < rank need end + 1 = rw e at lt in (end, omega arith, e, omega arith)
      go (no l) false e ih = let m : i < rank need end + 0 = rw e at lt in absurd (omega arith)

  module _ (entries : ℕ → List ℕ) (three : (c : ℕ) → length (entries c) ≡ 3) where
    pub emit_length : (end : ℕ) → length (emit need entries end) ≡ rank need end * 3
    unfolding rank emit
    emit_length zero = refl
    emit_length (suc c) = go (emit_length c) (need c) refl
      where
        go : length (emit need entries c) ≡ rank need c * 3 → (t : Bool) → need c ≡ t
            → length (emit need entries c ++ cond (need c) (entries c) []) ≡ (rank need c + bit (need c)) * 3
        go ih true e = rw e (omega (arith, length-append (emit need entries c) (entries c), three c))
        go ih false e = rw e (omega (arith, length-append (emit need entries c) []))

    pub emit_byte : (end c j : ℕ) → c < end → need c ≡ true → j < 3
        → get_or (emit need entries end) (rank need c * 3 + j) 0 ≡ get_or (entries c) j 0
    unfolding emit
    emit_byte zero c j lt e small = absurd (omega arith)
    emit_byte (suc end) c j lt e small = go (ℕ_discrete c end) (λ lt. emit_byte end c j lt e small)
      where
        go : Dec (c ≡ end) → (c < end → get_or (emit need entries end) (rank need c * 3 + j) 0 ≡ get_or (entries c) j 0)
            → get_or (emit need entries end ++ cond (need end) (entries end) []) (rank need c * 3 + j) 0
            ≡ get_or (entries c) j 0
        go (yes same) ih =
            let at : need end ≡ true = subst (λ (x : ℕ). need x ≡ true) same e in
            let place : rank need end * 3 + j ≡ length (emit need entries end) + j = omega (arith, emit_length end) in
            rw (same, at, place) (get_or-append-add (emit need entries end) (entries end) j 0)
        go (no other) ih =
            get_or-append (emit need entries end) _ 0 (rank need c * 3 + j)
            (omega (arith, emit_length end, rank_below c end e (omega arith)))
            ∙ ih (omega arith)
