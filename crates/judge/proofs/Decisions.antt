-- Tests that tell whether something holds, alone and over numbers in turn. Assumes nothing.
use Prim.Native.Nat.{ℕ, ◌<◌}
use mathlib.Core.Path.{◌≡◌, ◌∙◌, subst}
use mathlib.Core.Bool.{Bool, true, false}
use native.Mathlib.Omega.{arith}
use native.Mathlib.Nat.{zero-add}
use lib.ListN.{length, get_or}
use Rattle.std.specs.Bool.{MatchBool}
use Rattle.std.specs.List.{range_with_len, HoldsAt, AllWithin}
use Rattle.std.proofs.lemmas.List.FromFn.{length-range_with_len, get_or-range_with_len}
use Rattle.judge.specs.Memory.{Tells}

pub true_false : {A : Type 0} → ◌≡◌ {A = Bool} true false → A
true_false e = let z : ◌≡◌ {A = ℕ} 0 1 = cc in absurd (omega arith)

pub false_true : {A : Type 0} → ◌≡◌ {A = Bool} false true → A
false_true e = let z : ◌≡◌ {A = ℕ} 0 1 = cc in absurd (omega arith)

pub holds_not : {P : Type 0} → (P → ⊥) → Tells false P
holds_not np = record { yes = λ e. false_true e; no = λ e h. np h }

-- the numbers below n in turn
at_place : (n q : ℕ) → q < n → get_or (range_with_len 0 n) q 0 ≡ q
at_place n q lt = get_or-range_with_len 0 n q 0 lt ∙ zero-add q

-- a test of them, up to the first that passes, as `cases_from_any` says it
module _ (n : ℕ) (Yes No : ℕ → Type 0) where
  abbrev pub Tested : Bool → Type 0
  Tested r =
      MatchBool r ((k : ℕ) × (k < length (range_with_len 0 n)) × HoldsAt Yes (range_with_len 0 n) k)
      (AllWithin No (range_with_len 0 n) 0 (length (range_with_len 0 n)))

  pub none_below : (r : Bool) → Tested r → r ≡ false → (q : ℕ) → q < n → No q
  none_below true h e q lt = true_false e
  none_below false h e q lt =
      subst No (at_place n q lt) (h q 0 (omega arith) (omega (arith, length-range_with_len 0 n)))

  some_below : (r : Bool) → Tested r → r ≡ true → (q : ℕ) × (q < n) × Yes q
  some_below false h e = false_true e
  some_below true (k, lt, h) e =
      let below : k < n = omega (arith, length-range_with_len 0 n) in
      (k, below, subst Yes (at_place n k below) (h 0))

pub tells_below : (n : ℕ) (P : ℕ → Type 0) (r : Bool) → Tested n P (λ q. P q → ⊥) r → Tells r ((q : ℕ) × (q < n) × P q)
tells_below n P r h = record {
  yes = some_below n P (λ q. P q → ⊥) r h;
  no = λ e w. none_below n P (λ q. P q → ⊥) r h e w.0 w.1 w.2;
}
