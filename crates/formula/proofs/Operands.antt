-- What the bytes of a node are, by its kind. Assumes nothing.
use mathlib.Core.Path.{◌≡◌, sym, ◌∙◌}
use mathlib.Core.Bool.{true, false, false≢true}
use Prim.Native.Nat.{ℕ, ◌≤◌, ◌<◌}
use native.Mathlib.Omega.{arith}
use borrow.Author.Tests.{lt-ltb, le-ltb}
use Rattle.formula.specs.declared.Operand.TheVariants.{Unused, Proposition, Child}
use Rattle.formula.specs.Rule.{left_operand, one_child, right_operand}

module _ (kind : ℕ) where
  pub left_unused : kind < 2 → Unused ≡ left_operand kind
  unfolding left_operand
  left_unused lt = rw (lt-ltb kind 2 lt)

  pub left_proposition : 2 ≤ kind → kind < 4 → Proposition ≡ left_operand kind
  unfolding left_operand
  left_proposition le lt = rw (le-ltb kind 2 le, lt-ltb kind 4 lt)

  pub left_child : 4 ≤ kind → Child ≡ left_operand kind
  unfolding left_operand
  left_child le = rw (le-ltb kind 2 (omega arith), le-ltb kind 4 le)

  pub right_unused : kind < 4 → Unused ≡ right_operand kind
  unfolding right_operand
  right_unused lt = rw (lt-ltb kind 4 lt)

  pub right_absent : 4 ≤ kind → one_child kind ≡ true → Unused ≡ right_operand kind
  unfolding right_operand
  right_absent le one = rw (le-ltb kind 4 le, one)

  pub right_child : 4 ≤ kind → one_child kind ≡ false → Child ≡ right_operand kind
  unfolding right_operand
  right_child le two = rw (le-ltb kind 4 le, two)

  -- a next has one child
  pub next_one : kind ≡ 6 → one_child kind ≡ true
  unfolding one_child
  next_one e = rw e

  pub two_no_next : one_child kind ≡ false → kind ≡ 6 → ⊥
  two_no_next two e = false≢true (sym two ∙ next_one e)
