-- The counter of levels: it stands at the last level again and again exactly if each until is fulfilled again and
-- again. Assumes nothing.
use Prim.Native.Nat.{ℕ, zero, suc, ◌+◌, ◌-◌, ◌<◌, ◌≤◌}
use mathlib.Core.Path.{◌≡◌, refl, sym, subst, subst₂}
use mathlib.Core.Logic.{◌⊎◌, inl, inr}
use mathlib.Core.List.{List}
use mathlib.Core.Bool.{Bool, true, false}
use native.Mathlib.Omega.{arith}
use native.Mathlib.Decide.{ℕ_discrete, dec_lt}
use borrow.Author.Tests.{lt-ltb, le-ltb}
use Rattle.term.specs.Term.{Term}
use Rattle.acceptance.specs.Acceptance.{until_count, fulfils_next}
use Rattle.translation.specs.Degeneralized.{climb, next_level}
use Rattle.lasso.proofs.Positions.{Again}

module _ (rule : List ℕ) where
  -- x fulfils the until after level k
  abbrev pub Over : ℕ → Term → Type 0
  Over k x = fulfils_next rule k x ≡ true

  abbrev r : ℕ
  r = until_count rule

  climb_bounds : (d j : ℕ) (x : Term) → (j ≤ climb rule d j x) × (climb rule d j x ≤ j + d)
  unfolding climb
  climb_bounds zero j x = (omega arith, omega arith)
  climb_bounds (suc d) j x = go (fulfils_next rule j x) (climb_bounds d (suc j) x)
    where
      go : (b : Bool) → (suc j ≤ climb rule d (suc j) x) × (climb rule d (suc j) x ≤ suc j + d)
          → (j ≤ elim b [ true ↦ climb rule d (suc j) x | false ↦ j ]) × ((elim b [ true ↦ climb rule d (suc j) x | false ↦ j ]) ≤ j + suc d)
      go true ih = (omega arith, omega arith)
      go false ih = (omega arith, omega arith)

  -- what is climbed over is fulfilled
  climb_over : (d j : ℕ) (x : Term) (k : ℕ) → j ≤ k → k < climb rule d j x → Over k x
  unfolding climb
  climb_over zero j x k l m = absurd (omega arith)
  climb_over (suc d) j x k l m =
      go (fulfils_next rule j x) refl m (λ l m. climb_over d (suc j) x k l m) (ℕ_discrete j k)
    where
      go : (b : Bool) → fulfils_next rule j x ≡ b → k < elim b [ true ↦ climb rule d (suc j) x | false ↦ j ]
          → (suc j ≤ k → k < climb rule d (suc j) x → Over k x) → Dec (j ≡ k) → Over k x
      go true q m ih (yes e) = subst (λ (c : ℕ). Over c x) e q
      go true q m ih (no e) = ih (omega arith) m
      go false q m ih e = absurd (omega arith)

  -- what is fulfilled is climbed over
  over_climb : (d j : ℕ) (x : Term) → Over j x → j < climb rule (suc d) j x
  unfolding climb
  over_climb d j x q =
      subst (λ (b : Bool). j < elim b [ true ↦ climb rule d (suc j) x | false ↦ j ]) (sym q)
      (climb_bounds d (suc j) x).0

  next_below : (j : ℕ) (x : Term) → j < r → next_level rule j x ≡ climb rule (r - j) j x
  unfolding next_level
  next_below j x l = rw (lt-ltb j r l)

  next_last : (j : ℕ) (x : Term) → r ≤ j → next_level rule j x ≡ climb rule r 0 x
  unfolding next_level
  next_last j x l = rw (le-ltb j r l)

  next_le : (j : ℕ) (x : Term) → next_level rule j x ≤ r
  next_le j x = go (dec_lt j r)
    where
      go : Dec (j < r) → next_level rule j x ≤ r
      go (yes l) = omega (arith, (climb_bounds (r - j) j x).1, next_below j x l)
      go (no l) = omega (arith, (climb_bounds r 0 x).1, next_last j x (omega arith))

  module _ (t : ℕ → Term) where
    -- the level at each position of a run that takes these transitions
    unfoldable pub level : ℕ → ℕ
    level zero = 0
    level (suc i) = next_level rule (level i) (t i)

    level_le : (i : ℕ) → level i ≤ r
    unfolding level
    level_le zero = omega arith
    level_le (suc i) = next_le (level i) (t i)

    level_grows : (i : ℕ) → level i < r → level i ≤ level (suc i)
    unfolding level
    level_grows i l = omega (arith, next_below (level i) (t i) l, (climb_bounds (r - level i) (level i) (t i)).0)

    level_over : (i : ℕ) → level i < r → Over (level i) (t i) → level i < level (suc i)
    unfolding level
    level_over i l q =
        let f : suc (r - suc (level i)) ≡ r - level i = omega arith in
        let b =
        subst (λ (d : ℕ). level i < climb rule d (level i) (t i)) f (over_climb (r - suc (level i)) (level i) (t i) q)
        in
        omega (arith, next_below (level i) (t i) l)

    -- below r the level rises in the end
    rises : (d i : ℕ) → level i < r → Over (level i) (t (i + d)) → (j : ℕ) × (i ≤ j) × (level i < level j)
    rises zero i l q = (suc i, omega arith, level_over i l (subst (λ (c : ℕ). Over (level i) (t c)) (omega arith) q))
    rises (suc d) i l q = go (rises d (suc i)) (dec_lt (level i) (level (suc i)))
      where
        go : (level (suc i) < r → Over (level (suc i)) (t (suc i + d))
            → (j : ℕ) × (suc i ≤ j) × (level (suc i) < level j))
            → Dec (level i < level (suc i)) → (j : ℕ) × (i ≤ j) × (level i < level j)
        go ih (yes m) = (suc i, omega arith, m)
        go ih (no m) =
            let e : level i ≡ level (suc i) = omega (arith, level_grows i l) in
            let f : i + suc d ≡ suc i + d = omega arith in
            let (j, x, y) = ih (omega arith) (subst₂ (λ (c k : ℕ). Over c (t k)) e f q) in
            (j, omega arith, omega arith)

    climbs : ((k : ℕ) → k < r → Again (λ j. Over k (t j))) → (d i : ℕ) → r ≤ level i + d
        → (j : ℕ) × (i ≤ j) × (level j ≡ r)
    climbs often zero i h = (i, omega arith, omega (arith, level_le i))
    climbs often (suc d) i h = go (climbs often d) (dec_lt (level i) r)
      where
        go : ((j : ℕ) → r ≤ level j + d → (k : ℕ) × (j ≤ k) × (level k ≡ r)) → Dec (level i < r)
            → (j : ℕ) × (i ≤ j) × (level j ≡ r)
        go ih (no l) = (i, omega arith, omega (arith, level_le i))
        go ih (yes l) =
            let (k, x, q) = often (level i) l i in
            let f : k ≡ i + (k - i) = omega arith in
            let (j, y, m) = rises (k - i) i l (subst (λ (c : ℕ). Over (level i) (t c)) f q) in
            let (p, z, e) = ih j (omega arith) in
            (p, omega arith, e)

    -- each until fulfilled again and again: the last level again and again
    pub last_again : ((k : ℕ) → k < until_count rule → Again (λ j. Over k (t j)))
        → Again (λ j. level j ≡ until_count rule)
    last_again often i = climbs often r i (omega arith)

    -- what is passed at level q + 1 was passed at level q, or is fulfilled here
    gained : (q k : ℕ) → k < level (suc q) → ((level q < r) × (k < level q)) ⊎ Over k (t q)
    unfolding level
    gained q k h = go (dec_lt (level q) r)
      where
        up : level q < r → Dec (k < level q) → ((level q < r) × (k < level q)) ⊎ Over k (t q)
        up l (yes m) = inl (l, m)
        up l (no m) =
            inr (climb_over (r - level q) (level q) (t q) k (omega arith) (omega (arith, next_below (level q) (t q) l)))

        go : Dec (level q < r) → ((level q < r) × (k < level q)) ⊎ Over k (t q)
        go (yes l) = up l (dec_lt k (level q))
        go (no l) = inr (climb_over r 0 (t q) k (omega arith) (omega (arith, next_last (level q) (t q) (omega arith))))

    seen : (p : ℕ) → level p ≡ r → (d k : ℕ) → k < level (suc p + d) → (j : ℕ) × (p ≤ j) × Over k (t j)
    seen p e zero k h = go (gained p k (subst (λ (c : ℕ). k < level c) (omega arith) h))
      where
        go : ((level p < r) × (k < level p)) ⊎ Over k (t p) → (j : ℕ) × (p ≤ j) × Over k (t j)
        go (inl x) = absurd (omega arith)
        go (inr g) = (p, omega arith, g)
    seen p e (suc d) k h = go (seen p e d k) (gained (suc p + d) k (subst (λ (c : ℕ). k < level c) f h))
      where
        f : suc p + suc d ≡ suc (suc p + d)
        f = omega arith

        go : (k < level (suc p + d) → (j : ℕ) × (p ≤ j) × Over k (t j))
            → ((level (suc p + d) < r) × (k < level (suc p + d))) ⊎ Over k (t (suc p + d))
            → (j : ℕ) × (p ≤ j) × Over k (t j)
        go ih (inl x) = ih x.1
        go ih (inr g) = (suc p + d, omega arith, g)

    -- and back
    pub fulfilled_again : (Again (λ j. level j ≡ until_count rule)) → (k : ℕ) → k < until_count rule
        → Again (λ j. Over k (t j))
    fulfilled_again last k l i =
        let (p, x, e) = last i in
        let (q, y, f) = last (suc p) in
        let g : q ≡ suc p + (q - suc p) = omega arith in
        let (j, z, h) = seen p e (q - suc p) k (subst (λ (c : ℕ). k < level c) g (omega arith)) in
        (j, omega arith, h)
