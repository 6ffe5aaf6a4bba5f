-- Runs put together through one state after another: after the last state they are closed. Assumes nothing.
use Prim.Native.Nat.{ℕ, ◌+◌, ◌<◌, ◌≤◌}
use mathlib.Core.Path.{◌≡◌, refl, sym, subst}
use mathlib.Core.List.{List}
use mathlib.Core.Logic.{◌⊎◌, inl, inr, ⊎_elim, ⊎_map}
use native.Mathlib.Omega.{arith}
use native.Mathlib.Decide.{ℕ_discrete}
use Rattle.judge.specs.Memory.{Token, Lifted, Is, Gains, Through, Via, Joined, both, met, round, Covered, Linked, one}
use Rattle.judge.specs.Memory.{join, join_met}
use Rattle.judge.specs.Limits.{met_bit}
use Rattle.automaton.specs.Limits.{max_states}
use Rattle.judge.proofs.Gathers.{Gathering, adds_as, lift_as, row_was, row_is}

-- ---- the row by which runs go on

pub through_round : {rows u via : List ℕ} (m : ℕ) → Is u (λ p k. (p ≡ 0) × Token rows m k)
    → Gains u via (λ p k. (p ≡ 0) × Lifted (Token rows) m k) → Token rows m (met_bit + m)
    → Is via (λ p k. (p ≡ 0) × Through rows m k)
through_round m first second back = record {
  only = λ p k h. ⊎_elim (λ h. ((first.only p k h).0, inl (first.only p k h).1)) (λ l. (l.0, inr (back, l.1)))
      (second.only p k h);
  all = λ p k h. second.all p k (⊎_map (λ t. first.all p k (h.0, t)) (λ l. (h.0, l.1)) h.1);
}

-- ---- all rows

module _ {x via : List ℕ} (m n : ℕ) where
  -- a turn of the loop over the rows
  module _ {y : List ℕ} (i : ℕ) (inv : Gathering x (λ p r k. (r ≡ p) × Via x via m p k) n y i) where
    pub turn_covered : m < met_bit → Covered x → Token y i (met_bit + m) → Token y i m
    turn_covered lt covered h = row_is i inv (covered i m lt (row_was i inv h))

    pub turn_through : {z : List ℕ} → Gains y z (λ p k. (p ≡ i) × Via y via m i k)
        → Gains y z (λ p k. (p ≡ i) × Via x via m i k)
    turn_through adds =
        adds_as adds
        (λ p k h. (h.0, ⊎_map (λ v. (row_was i inv v.0, v.1)) (λ v. (row_was i inv v.0, v.1)) h.1))
        (λ p k h. (h.0, ⊎_map (λ v. (row_is i inv v.0, v.1)) (λ v. (row_is i inv v.0, v.1)) h.1))

  pub all_through : Is via (λ p k. (p ≡ 0) × Through x m k) → {y : List ℕ}
      → Gains x y (λ q k. (p : ℕ) × (p < n) × ((q ≡ p) × Via x via m p k))
      → Gains x y (λ q k. (q < n) × Joined (Token x) m q k)
  all_through t adds = adds_as adds to (λ q k h. (q, h.0, (refl, via_of q k h.1)))
    where
      -- a bit of the lower half was not lifted
      low : {k : ℕ} (l : Lifted (Token via) 0 k) → Token x m l.low
      low l = ⊎_elim (λ h. h) (λ b. absurd (omega (arith, l.half, b.1.high))) (t.only 0 l.low l.held).1

      joined : (q k : ℕ) → Via x via m q k → Joined (Token x) m q k
      joined q k (inl (b, h)) = ⊎_elim (λ h. both b h) (λ c. round b c.0 c.1) (t.only 0 k h).1
      joined q k (inr (b, l)) = met b (lift_as l (low l))

      via_of : (q k : ℕ) → Joined (Token x) m q k → Via x via m q k
      via_of q k (both b h) = inl (b, t.all 0 k (refl, inl h))
      via_of q k (met b l) = inr (b, lift_as l (t.all 0 l.low (refl, inl l.held)))
      via_of q k (round b c l) = inl (b, t.all 0 k (refl, inr (c, l)))

      to : (q k : ℕ) → (p : ℕ) × (p < n) × ((q ≡ p) × Via x via m p k) → (q < n) × Joined (Token x) m q k
      to q k (p, lt, (e, v)) = (omega arith, rw e (joined p k v))

-- ---- from state to state

-- runs that pass through state p are put together already
pub record Closed (n : ℕ) (R : (q k : ℕ) → Type 0) (p : ℕ) : Type 0 where
  pub runs : (q k : ℕ) → q < n → R q p → R p k → R q k
  pub mets : (q k : ℕ) → q < n → R q (met_bit + p) → Lifted R p k → R q k

-- a loop over the states that stands at m
pub record Closing (n : ℕ) (before after : List ℕ) (m : ℕ) : Type 0 where
  pub within : m ≤ n
  pub covered : Covered after
  pub sound : (q k : ℕ) → Token after q k → Linked n (Token before) q k
  pub kept : (q k : ℕ) → Token before q k → Token after q k
  pub closed : (p : ℕ) → p < m → Closed n (Token after) p

module _ (n m : ℕ) (few : n ≤ max_states) (lm : m < n) {y z : List ℕ}
    (adds : Gains y z (λ q k. (q < n) × Joined (Token y) m q k)) where
  old : {q k : ℕ} → Token y q k → Token z q k
  old {q} {k} h = adds.all q k (inl h)

  new : {q k : ℕ} → q < n → Joined (Token y) m q k → Token z q k
  new {q} {k} lt j = adds.all q k (inr (lt, j))

  -- a bit of the lower half
  low : (q k : ℕ) → k < met_bit → Token z q k → Token y q k ⊎ (Token y q m × Token y m k)
  low q k lt h = go (adds.only q k h)
    where
      go : Token y q k ⊎ ((q < n) × Joined (Token y) m q k) → Token y q k ⊎ (Token y q m × Token y m k)
      go (inl h) = inl h
      go (inr (l, both b h)) = inr (b, h)
      go (inr (l, met b h)) = absurd (omega (arith, h.high))
      go (inr (l, round b c h)) = absurd (omega (arith, h.high))

  -- the state that was gone through now
  closed_here : Closed n (Token z) m
  closed_here = record {
    runs = λ q k lq b h. run q k lq (⊎_elim (λ h. h) (λ h. h.0) (low q m (omega arith) b)) (adds.only m k h);
    mets = λ q k lq b l. go q k lq (lift_as l (from l)) (adds.only q (met_bit + m) b);
  }
    where
      from : {k : ℕ} (l : Lifted (Token z) m k) → Token y m l.low
      from l = ⊎_elim (λ h. h) (λ h. h.1) (low m l.low l.half l.held)

      run : (q k : ℕ) → q < n → Token y q m → Token y m k ⊎ ((m < n) × Joined (Token y) m m k) → Token z q k
      run q k lq b (inl h) = new lq (both b h)
      run q k lq b (inr (l, both c h)) = new lq (both b h)
      run q k lq b (inr (l, met c h)) = new lq (round b c h)
      run q k lq b (inr (l, round c d h)) = new lq (round b d h)

      go : (q k : ℕ) → q < n → Lifted (Token y) m k
          → Token y q (met_bit + m) ⊎ ((q < n) × Joined (Token y) m q (met_bit + m)) → Token z q k
      go q k lq l (inl b) = new lq (met b l)
      go q k lq l (inr (x, both b c)) = new lq (round b c l)
      go q k lq l (inr (x, met b c)) = new lq (met b l)
      go q k lq l (inr (x, round b c e)) = new lq (round b c l)

  -- and those before it
  module _ (p : ℕ) (lp : p < n) (c : Closed n (Token y) p) where
    run_before : (q k : ℕ) → q < n → Token y q p ⊎ (Token y q m × Token y m p)
        → Token y p k ⊎ ((p < n) × Joined (Token y) m p k) → Token z q k
    run_before q k lq (inl a) (inl h) = old (c.runs q k lq a h)
    run_before q k lq (inl a) (inr (l, both b h)) = new lq (both (c.runs q m lq a b) h)
    run_before q k lq (inl a) (inr (l, round b d h)) = new lq (round (c.runs q m lq a b) d h)
    run_before q k lq (inl a) (inr (l, met b h)) = new lq (met (c.runs q (met_bit + m) lq a b) h)
    run_before q k lq (inr (a, g)) (inl h) = new lq (both a (c.runs m k lm g h))
    run_before q k lq (inr (a, g)) (inr (l, both b h)) = new lq (both a h)
    run_before q k lq (inr (a, g)) (inr (l, round b d h)) = new lq (round a d h)
    run_before q k lq (inr (a, g)) (inr (l, met b h)) = new lq (round a (c.runs m (met_bit + m) lm g b) h)

    met_before : (q k j : ℕ) → q < n → j < met_bit → k ≡ met_bit + j
        → Token y q (met_bit + p) ⊎ ((q < n) × Joined (Token y) m q (met_bit + p))
        → Token y p j ⊎ (Token y p m × Token y m j) → Token z q k
    met_before q k j lq lj ek s (inl a) = here s
      where
        lift : Lifted (Token y) p k
        lift = record { low = j; half = lj; high = ek; held = a }

        on : Lifted (Token y) m (met_bit + p) → Lifted (Token y) m k
        on l =
            let e : l.low ≡ p = omega (arith, l.high) in
            record { low = j; half = lj; high = ek; held = c.runs m j lm (rw e at l.held) a }

        here : Token y q (met_bit + p) ⊎ ((q < n) × Joined (Token y) m q (met_bit + p)) → Token z q k
        here (inl b) = old (c.mets q k lq b lift)
        here (inr (x, both b d)) = new lq (both b (c.mets m k lm d lift))
        here (inr (x, round b d l)) = new lq (round b d (on l))
        here (inr (x, met b l)) = new lq (met b (on l))
    met_before q k j lq lj ek s (inr (g, a)) = here s
      where
        lift : Lifted (Token y) m k
        lift = record { low = j; half = lj; high = ek; held = a }

        back : Lifted (Token y) p (met_bit + m)
        back = record { low = m; half = omega arith; high = refl; held = g }

        here : Token y q (met_bit + p) ⊎ ((q < n) × Joined (Token y) m q (met_bit + p)) → Token z q k
        here (inl b) = new lq (met (c.mets q (met_bit + m) lq b back) lift)
        here (inr (x, both b d)) = new lq (round b (c.mets m (met_bit + m) lm d back) lift)
        here (inr (x, round b d l)) = new lq (round b d lift)
        here (inr (x, met b l)) = new lq (met b lift)

    closed_before : Closed n (Token z) p
    closed_before = record {
      runs = λ q k lq b h. run_before q k lq (low q p (omega arith) b) (adds.only p k h);
      mets = λ q k lq b l. met_before q k l.low lq l.half l.high (adds.only q (met_bit + p) b)
          (low p l.low l.half l.held);
    }

  pub closing_steps : {x : List ℕ} → Closing n x y m → Closing n x z (m + 1)
  closing_steps {x} inv = record {
    within = omega arith;
    covered = λ q k lt h. cover q k lt (adds.only q (met_bit + k) h);
    sound = λ q k h. link q k (adds.only q k h);
    kept = λ q k h. old (inv.kept q k h);
    closed = λ p lt. pick p lt (ℕ_discrete p m);
  }
    where
      -- a run to m goes on by bit k
      on : (k : ℕ) → Lifted (Token y) m (met_bit + k) → Token y m k
      on k l =
          let e : l.low ≡ k = omega (arith, l.high) in
          rw e at l.held

      cover : (q k : ℕ) → k < met_bit → Token y q (met_bit + k) ⊎ ((q < n) × Joined (Token y) m q (met_bit + k))
          → Token z q k
      cover q k lt (inl h) = old (inv.covered q k lt h)
      cover q k lt (inr (lq, both b h)) = new lq (both b (inv.covered m k lt h))
      cover q k lt (inr (lq, met b l)) = new lq (both (inv.covered q m (omega arith) b) (on k l))
      cover q k lt (inr (lq, round b c l)) = new lq (both b (on k l))

      pick : (p : ℕ) → p < m + 1 → Dec (p ≡ m) → Closed n (Token z) p
      pick p lt (yes e) = rw e closed_here
      pick p lt (no e) = closed_before p (omega arith) (inv.closed p (omega arith))

      s : {q k : ℕ} → Token y q k → Linked n (Token x) q k
      s {q} {k} h = inv.sound q k h

      at : {q k : ℕ} (l : Lifted (Token y) m k) → Linked n (Token x) q (met_bit + l.low) → Linked n (Token x) q k
      at {q} l h = subst (λ (j : ℕ). Linked n (Token x) q j) (sym l.high) h

      link : (q k : ℕ) → Token y q k ⊎ ((q < n) × Joined (Token y) m q k) → Linked n (Token x) q k
      link q k (inl h) = s h
      link q k (inr (lq, both b h)) = join m q k lm lq (s b) (s h)
      link q k (inr (lq, met b l)) = at l (join_met m q l.low lm lq l.half (s b) (s l.held))
      link q k (inr (lq, round b c l)) =
          at l (join m q (met_bit + l.low) lm lq (s b) (join_met m m l.low lm lm l.half (s c) (s l.held)))

pub closing_begins : (n : ℕ) (x : List ℕ) → Covered x → Closing n x x 0
closing_begins n x covered = record {
  within = omega arith;
  covered = covered;
  sound = λ q k h. one q k h;
  kept = λ q k h. h;
  closed = λ p lt. absurd (omega arith);
}

pub closing_ends : (n m : ℕ) {x y : List ℕ} → n ≤ m → Closing n x y m → Is y (Linked n (Token x))
closing_ends n m {x} {y} le inv = record { only = inv.sound; all = λ q k h. all h }
  where
    all : {q k : ℕ} → Linked n (Token x) q k → Token y q k
    all (one q k h) = inv.kept q k h
    all (join p q k lp lq b h) = (inv.closed p (omega arith)).runs q k lq (all b) (all h)
    all (join_met p q k lp lq lk b h) =
        (inv.closed p (omega arith)).mets q (met_bit + k) lq (all b)
        (record { low = k; half = lk; high = refl; held = all h })
