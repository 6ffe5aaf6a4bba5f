-- A rule that 6 lets pass: every node except the root has a parent, whose number is higher.
-- Assumes nothing.
use mathlib.Core.Path.{◌≡◌, refl, ◌∙◌}
use mathlib.Core.Bool.{Bool, true, false, cond}
use mathlib.Core.List.{List}
use Prim.Native.Nat.{ℕ, zero, suc, ◌<◌}
use native.Mathlib.Decide.{ℕ_discrete, dec_lt}
use native.Mathlib.Omega.{arith}
use lib.Dec.{eqb}
use borrow.Author.Tests.{eqb-true}
use Rattle.answer.specs.Result.{fine}
use Rattle.formula.specs.declared.Operand.{Operand}
use Rattle.formula.specs.declared.Operand.TheVariants.{Child}
use Rattle.formula.specs.Rule.{node_count, root, kind_at, left_at, right_at, left_operand, one_child, right_operand}
use Rattle.formula.specs.Rule.{is_child, places, checked}
use Rattle.answer.proofs.Lowest.{not_fine}
use Rattle.formula.proofs.Operands.{left_unused, left_proposition, left_child, right_unused}
use Rattle.formula.proofs.Operands.{right_absent, right_child, two_no_next}
use Rattle.formula.proofs.Checks.{place_none}
use Rattle.formula.proofs.Accepted.{Node, accepted_fine}

-- k is a child of n
pub data Parent (rule : List ℕ) (n k : ℕ) : Type 0 where
  by_left : 3 < kind_at rule n → left_at rule n ≡ k → Parent rule n k
  by_right : 3 < kind_at rule n → (kind_at rule n ≡ 6 → ⊥) → right_at rule n ≡ k → Parent rule n k

child_is : {operand : Operand} (byte k : ℕ) → Child ≡ operand → (is_child operand byte k ≡ 0 → ⊥) → byte ≡ k
child_is byte k child counted = go (eqb byte k) refl (λ e. counted (rw (← child) e))
  where
    go : (b : Bool) → eqb byte k ≡ b → (cond {A = ℕ} b 1 0 ≡ 0 → ⊥) → byte ≡ k
    go true e h = eqb-true byte k e
    go false e h = absurd (h refl)

module _ (rule : List ℕ) (n k : ℕ) where
  left_parent : (is_child (left_operand (kind_at rule n)) (left_at rule n) k ≡ 0 → ⊥) → Parent rule n k
  left_parent counted = pick (dec_lt 3 (kind_at rule n)) (dec_lt 1 (kind_at rule n))
    where
      pick : Dec (3 < kind_at rule n) → Dec (1 < kind_at rule n) → Parent rule n k
      pick (yes inner) d =
          by_left inner (child_is (left_at rule n) k (left_child (kind_at rule n) (omega arith)) counted)
      pick (no leaf) (yes proposition) =
          absurd (counted (rw (← left_proposition (kind_at rule n) (omega arith) (omega arith)) refl))
      pick (no leaf) (no constant) = absurd (counted (rw (← left_unused (kind_at rule n) (omega arith)) refl))

  right_parent : (is_child (right_operand (kind_at rule n)) (right_at rule n) k ≡ 0 → ⊥) → Parent rule n k
  right_parent counted = pick (dec_lt 3 (kind_at rule n)) (one_child (kind_at rule n)) refl
    where
      pick : Dec (3 < kind_at rule n) → (one : Bool) → one_child (kind_at rule n) ≡ one → Parent rule n k
      pick (yes inner) true one = absurd (counted (rw (← right_absent (kind_at rule n) (omega arith) one) refl))
      pick (yes inner) false two =
          by_right inner (two_no_next (kind_at rule n) two)
          (child_is (right_at rule n) k (right_child (kind_at rule n) (omega arith) two) counted)
      pick (no leaf) one e = absurd (counted (rw (← right_unused (kind_at rule n) (omega arith)) refl))

-- one of the first n nodes, if k is a child at one of their places
parent_among : (rule : List ℕ) (n k : ℕ) → (places rule n k ≡ 0 → ⊥) → (p : ℕ) × (p < n) × Parent rule p k
unfolding places
parent_among rule zero k counted = absurd (counted refl)
parent_among rule (suc n) k counted =
    pick (ℕ_discrete (places rule n k) 0) (ℕ_discrete (is_child (left_operand (kind_at rule n)) (left_at rule n) k) 0)
    (parent_among rule n k)
  where
    pick : Dec (places rule n k ≡ 0) → Dec (is_child (left_operand (kind_at rule n)) (left_at rule n) k ≡ 0)
        → ((places rule n k ≡ 0 → ⊥) → (p : ℕ) × (p < n) × Parent rule p k) → (p : ℕ) × (p < suc n) × Parent rule p k
    pick (no below) d ih = let (p, lt, is) = ih below in (p, omega arith, is)
    pick (yes none) (no first) ih = (n, omega arith, left_parent rule n k first)
    pick (yes none) (yes other) ih = (n, omega arith, right_parent rule n k (λ e. counted (omega arith)))

module _ (rule : List ℕ) (passed : checked rule ≡ fine) where
  node : (k : ℕ) → k < node_count rule → Node rule k
  node = (accepted_fine rule passed).nodes

  -- a parent's number is higher
  parent_above : (p k : ℕ) → p < node_count rule → Parent rule p k → k < p
  parent_above p k lt (by_left inner e) = omega (arith, (node p lt).left inner)
  parent_above p k lt (by_right inner pair e) = omega (arith, (node p lt).right inner)

  pub parent_of : (k : ℕ) → k < node_count rule → (k ≡ root rule → ⊥)
      → (p : ℕ) × (p < node_count rule) × (k < p) × Parent rule p k
  parent_of k lt other =
      let (p, inside, is) =
      parent_among rule (node_count rule) k
      (λ none. not_fine (place_none rule k none other ∙ (accepted_fine rule passed).places k lt)) in
      (p, inside, parent_above p k inside is, is)
