-- The level that a transition leads to: counted up by the bits of its untils, and by the untils that it fulfils.
-- Assumes nothing.
use mathlib.Core.Path.{◌≡◌, refl}
use mathlib.Core.Bool.{Bool, true, false, cond, not}
use mathlib.Core.List.{List}
use Prim.Native.Nat.{ℕ, zero, suc, ◌+◌, ◌-◌, ◌/◌, ◌%◌, ◌^◌, ◌≤◌, ◌<◌}
use native.Mathlib.Numerals.{add-one}
use native.Mathlib.Omega.{arith}
use lib.Dec.{ltb}
use borrow.Author.Tests.{ltb-true}
use Rattle.std.specs.Prelude.{Option, Some, None}
use Rattle.std.specs.List.{range_with_len, find}
use Rattle.std.specs.Option.{unwrap_or, option_map}
use Rattle.sets.specs.Bits.{has}
use Rattle.formula.specs.Limits.{max_untils}
use Rattle.term.specs.Term.{Term}
use Rattle.generalized.specs.Limits.{max_generalized_states}
use Rattle.acceptance.specs.Acceptance.{until_count, fulfils_next, fulfilment}
use Rattle.acceptance.proofs.Bits.{fulfilment_has}
use Rattle.generalized.specs.Memory.{kept_target, kept_untils}
use Rattle.translation.specs.Degeneralized.{climb, next_level}
use Rattle.translation.specs.Memory.{level_places, code_places, climb_n, next_level_n, target_n}

-- the first number from j on whose bit is not in the set, or the last
pub climb_first : (untils last left j : ℕ) → j + left ≡ last
    → climb_n untils left j ≡ unwrap_or (find (λ k. not (has untils k)) (range_with_len j left)) last
unfolding climb_n
climb_first untils last zero j e = omega arith
climb_first untils last (suc left) j e =
    go (has untils j) (find (λ k. not (has untils k)) (range_with_len (j + 1) left))
    (climb_first untils last left (j + 1) (omega arith))
  where
    go : (b : Bool) (later : Option ℕ) → climb_n untils left (j + 1) ≡ unwrap_or later last
        → elim b [ true ↦ climb_n untils left (suc j) | false ↦ j ] ≡ unwrap_or (cond (not b) (Some j) later) last
    go true later next = rw (← add-one j) next
    go false later next = refl

pub same_option : (found : Option ℕ) → option_map (λ x. x) found ≡ found
same_option (Some x) = refl
same_option None = refl

climb_most : (untils left j : ℕ) → climb_n untils left j ≤ j + left
unfolding climb_n
climb_most untils zero j = omega arith
climb_most untils (suc left) j = go (has untils j) (climb_most untils left (suc j))
  where
    go : (b : Bool) → climb_n untils left (suc j) ≤ suc j + left
        → elim b [ true ↦ climb_n untils left (suc j) | false ↦ j ] ≤ j + suc left
    go true le = omega arith
    go false le = omega arith

pub next_most : (untils r j : ℕ) → next_level_n untils r j ≤ r
unfolding next_level_n
next_most untils r j = go (ltb j r) refl
  where
    go : (b : Bool) → ltb j r ≡ b → cond b (climb_n untils (r - j) j) (climb_n untils r 0) ≤ r
    go true e = omega (arith, climb_most untils (r - j) j, ltb-true j r e)
    go false e = omega (arith, climb_most untils r 0)

-- ---- a target's code

module _ (r level x : ℕ) (few : r ≤ max_untils) where
  pub level_fits : next_level_n (kept_untils x) r level < level_places
  level_fits = omega (arith, next_most (kept_untils x) r level)

  pub target_state : target_n r level x / level_places ≡ kept_target x
  target_state = omega (arith, level_fits)

  pub target_level : target_n r level x % level_places ≡ next_level_n (kept_untils x) r level
  target_level = omega (arith, level_fits)

  -- a transition is a number of 32 bits
  pub target_fits : x < 2 ^ 32 → target_n r level x < 2 ^ 64
  target_fits lt = omega (arith, level_fits)

  pub target_inside : kept_target x < max_generalized_states → target_n r level x < code_places
  target_inside lt = omega (arith, level_fits)

-- ---- the untils of a transition

module _ (rule : List ℕ) (t : Term) where
  climb_is : (left j : ℕ) → j + left ≤ until_count rule → climb_n (fulfilment rule t) left j ≡ climb rule left j t
  unfolding climb_n climb
  climb_is zero j le = refl
  climb_is (suc left) j le =
      rw (fulfilment_has rule t j (omega arith), climb_n, climb)
      (go (fulfils_next rule j t) (climb_is left (suc j) (omega arith)))
    where
      go : (b : Bool) → climb_n (fulfilment rule t) left (suc j) ≡ climb rule left (suc j) t
          → ◌≡◌ {A = ℕ} (elim b [ true ↦ climb_n (fulfilment rule t) left (suc j) | false ↦ j ]) (elim b [ true ↦ climb rule left (suc j) t | false ↦ j ])
      go true next = next
      go false next = refl

  pub next_level_is : (j : ℕ) → next_level_n (fulfilment rule t) (until_count rule) j ≡ next_level rule j t
  unfolding next_level_n next_level
  next_level_is j = go (ltb j (until_count rule)) refl
    where
      go : (b : Bool) → ltb j (until_count rule) ≡ b
          → cond b (climb_n (fulfilment rule t) (until_count rule - j) j) (climb_n (fulfilment rule t) (until_count rule) 0) ≡ cond b (climb rule (until_count rule - j) j t) (climb rule (until_count rule) 0 t)
      go true e = climb_is (until_count rule - j) j (omega (arith, ltb-true j (until_count rule) e))
      go false e = climb_is (until_count rule) 0 (omega arith)
