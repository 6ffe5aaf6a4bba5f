-- What a search for the first of some nodes or positions has found. Assumes nothing.
use Prim.Native.Nat.{ℕ, zero, suc, ◌+◌, ◌<◌, ◌≤◌}
use mathlib.Core.Path.{◌≡◌, refl, sym, ◌∙◌, ap}
use mathlib.Core.Logic.{inl, inr}
use mathlib.Core.List.{List, [], ◌∷◌, ◌++◌}
use Rattle.std.specs.Prelude.{None as none, Some as some}
use mathlib.Core.Bool.{Bool, true, false, cond, ◌||◌, true≢false}
use native.Mathlib.Omega.{arith}
use native.Mathlib.Decide.{ℕ_discrete}
use Rattle.sets.specs.Sets.{In, any_below}
use Rattle.explain.specs.Explain.{first_failing, first_from}

-- nothing is found and not found
pub none_some : {A B : Type 0} {a : A} → none ≡ some a → B
none_some e = let z : ◌≡◌ {A = ℕ} 0 1 = cc in absurd (omega arith)

-- ---- nodes

pub failing_none : (test : ℕ → Bool) (cs : List ℕ) → first_failing test cs ≡ none → (c : ℕ) → In c cs → test c ≡ true
unfolding first_failing
failing_none test [] e c m = absurd m
failing_none test (x ∷ cs) e c m = go (failing_none test cs) (test x) refl e m
  where
    go : (first_failing test cs ≡ none → (c : ℕ) → In c cs → test c ≡ true) → (b : Bool) → test x ≡ b
        → cond b (first_failing test cs) (some x) ≡ none
        → In c (x ∷ cs) → test c ≡ true
    go ih true q e (inl p) = ap test p ∙ q
    go ih true q e (inr m) = ih e c m
    go ih false q e m = none_some (sym e)

pub none_failing : (test : ℕ → Bool) (cs : List ℕ) → ((c : ℕ) → In c cs → test c ≡ true) → first_failing test cs ≡ none
unfolding first_failing
none_failing test [] h = refl
none_failing test (x ∷ cs) h = rw (h x (inl refl)) (none_failing test cs (λ c m. h c (inr m)))

-- c is the first of the nodes where the test fails
pub record First (test : ℕ → Bool) (cs : List ℕ) (c : ℕ) : Type 0 where
  pub earlier : List ℕ
  pub later : List ℕ
  pub parts : cs ≡ earlier ++ (c ∷ later)
  pub passed : (x : ℕ) → In x earlier → test x ≡ true
  pub failed : test c ≡ false

pub failing_some : (test : ℕ → Bool) (cs : List ℕ) (c : ℕ) → first_failing test cs ≡ some c → First test cs c
unfolding first_failing
failing_some test [] c e = none_some e
failing_some test (x ∷ cs) c e = go (failing_some test cs c) (test x) refl e
  where
    go : (first_failing test cs ≡ some c → First test cs c) → (b : Bool) → test x ≡ b
        → cond b (first_failing test cs) (some x) ≡ some c → First test (x ∷ cs) c
    go ih true q e = longer (ih e)
      where
        longer : First test cs c → First test (x ∷ cs) c
        longer f = record {
          earlier = x ∷ f.earlier;
          later = f.later;
          parts = ap (λ (ys : List ℕ). x ∷ ys) f.parts;
          passed = λ y m. elim m [ inl p ↦ ap test p ∙ q | inr n ↦ f.passed y n ];
          failed = f.failed;
        }
    go ih false q e =
        let p : x ≡ c = cc in
        record {
          earlier =
              [];
          later = cs;
          parts = ap (λ (y : ℕ). y ∷ cs) p;
          passed = λ y m. absurd m;
          failed = ap test (sym p) ∙ q;
        }

-- ---- positions

pub record Found (test : ℕ → Bool) (i count k : ℕ) : Type 0 where
  pub from : i ≤ k
  pub below : k < i + count
  pub here : test k ≡ true
  pub first : (j : ℕ) → i ≤ j → j < k → test j ≡ false

pub from_some : (test : ℕ → Bool) (i count k : ℕ) → first_from test i count ≡ some k → Found test i count k
unfolding first_from
from_some test i zero k e = none_some e
from_some test i (suc count) k e = go (from_some test (suc i) count k) (test i) refl e
  where
    go : (first_from test (suc i) count ≡ some k → Found test (suc i) count k) → (b : Bool) → test i ≡ b
        → cond b (some i) (first_from test (suc i) count) ≡ some k → Found test i (suc count) k
    go ih true q e =
        let p : i ≡ k = cc in
        record {
          from =
              omega arith;
          below = omega arith;
          here = ap test (sym p) ∙ q;
          first = λ j a b. absurd (omega arith);
        }
    go ih false q e = longer (ih e)
      where
        longer : Found test (suc i) count k → Found test i (suc count) k
        longer f = record {
          from = omega (arith, f.from);
          below = omega (arith, f.below);
          here = f.here;
          first = λ j a b. pick j a
              b (ℕ_discrete i j);
        }
          where
            pick : (j : ℕ) → i ≤ j → j < k → Dec (i ≡ j) → test j ≡ false
            pick j a b (yes p) = ap test (sym p) ∙ q
            pick j a b (no p) = f.first j (omega arith) b

pub from_none : (test : ℕ → Bool) (i count : ℕ) → first_from test i count ≡ none → (j : ℕ) → i ≤ j → j < i + count
    → test j ≡ false
unfolding first_from
from_none test i zero e j a b = absurd (omega arith)
from_none test i (suc count) e j a b = go (from_none test (suc i) count) (test i) refl e (ℕ_discrete i j)
  where
    go : (first_from test (suc i) count ≡ none → (j : ℕ) → suc i ≤ j → j < suc i + count → test j ≡ false) → (b : Bool)
        → test i ≡ b
        → cond b (some i) (first_from test (suc i) count) ≡ none → Dec (i ≡ j) → test j ≡ false
    go ih true q e d = none_some (sym e)
    go ih false q e (yes p) = ap test (sym p) ∙ q
    go ih false q e (no p) = ih e j (omega arith) (omega arith)

pub none_from : (test : ℕ → Bool) (i count : ℕ) → ((j : ℕ) → i ≤ j → j < i + count → test j ≡ false)
    → first_from test i count ≡ none
unfolding first_from
none_from test i zero h = refl
none_from test i (suc count) h =
    rw (h i (omega arith) (omega arith)) (none_from test (suc i) count (λ j a b. h j (omega arith) (omega arith)))

pub below_false : (test : ℕ → Bool) (i : ℕ) → any_below test i ≡ false → (j : ℕ) → j < i → test j ≡ false
unfolding any_below
below_false test zero e j l = absurd (omega arith)
below_false test (suc i) e j l = go (below_false test i) (any_below test i) refl e (ℕ_discrete j i)
  where
    go : (any_below test i ≡ false → (j : ℕ) → j < i → test j ≡ false) → (b : Bool) → any_below test i ≡ b
        → (b || test i) ≡ false → Dec (j ≡ i) → test j ≡ false
    go ih true q e d = absurd (true≢false e)
    go ih false q e (yes p) = ap test p ∙ e
    go ih false q e (no p) = ih q j (omega arith)

pub false_below : (test : ℕ → Bool) (i : ℕ) → ((j : ℕ) → j < i → test j ≡ false) → any_below test i ≡ false
unfolding any_below
false_below test zero h = refl
false_below test (suc i) h = rw (false_below test i (λ j l. h j (omega arith))) (h i (omega arith))

-- two tests that agree below n are met below n both or neither
pub below_agree : (f g : ℕ → Bool) (n : ℕ) → ((i : ℕ) → i < n → f i ≡ g i) → any_below f n ≡ any_below g n
unfolding any_below
below_agree f g zero h = refl
below_agree f g (suc n) h = rw (below_agree f g n (λ i l. h i (omega arith)), h n (omega arith))
