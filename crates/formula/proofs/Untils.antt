-- The untils of a rule: how many they are, one node at a time. Assumes nothing.
use mathlib.Core.Path.{◌≡◌, refl}
use mathlib.Core.Bool.{Bool, true, false, cond}
use mathlib.Core.List.{List, [], ◌∷◌}
use Prim.Native.Nat.{ℕ, zero, suc, ◌+◌, ◌≤◌}
use native.Mathlib.Numerals.{add-one}
use native.Mathlib.Omega.{arith}
use lib.Dec.{eqb}
use lib.ListN.{length, length-append}
use Rattle.formula.specs.Rule.{kind_at, untils}

pub one_at_most : (t : Bool) → cond t 1 0 ≤ 1
one_at_most true = omega arith
one_at_most false = omega arith

one_or_none : (t : Bool) (x : ℕ) → length (cond {A = List ℕ} t (x ∷ []) []) ≡ cond t 1 0
one_or_none true x = refl
one_or_none false x = refl

-- none among no nodes
pub untils_none : (rule : List ℕ) → length (untils rule 0) ≡ 0
unfolding untils
untils_none rule = refl

-- one more node is one more until, or none
pub untils_more : (rule : List ℕ) (n : ℕ)
    → length (untils rule (suc n)) ≡ length (untils rule n) + cond (eqb (kind_at rule n) 7) 1 0
unfolding untils
untils_more rule n =
    let t = eqb (kind_at rule n) 7 in
    omega (arith, one_or_none t n, length-append (untils rule n) (cond t (n ∷ []) []))

-- the same with the number that a loop comes to next
pub untils_next : (rule : List ℕ) (n : ℕ)
    → length (untils rule (n + 1)) ≡ length (untils rule n) + cond (eqb (kind_at rule n) 7) 1 0
untils_next rule n = rw (add-one n) (untils_more rule n)

-- no more untils than nodes
pub untils_most : (rule : List ℕ) (n : ℕ) → length (untils rule n) ≤ n
unfolding untils
untils_most rule zero = omega arith
untils_most rule (suc n) = omega (arith, untils_most rule n, untils_more rule n, one_at_most (eqb (kind_at rule n) 7))

-- what a loop that counts them takes
pub ruleset counting = (untils_none, untils_next, untils_most)
