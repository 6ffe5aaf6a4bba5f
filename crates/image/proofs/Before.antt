-- A check before an answer: an accepted whole has a fine check, and one that is refused before a value has the check's
-- refusal. Assumes nothing.
use mathlib.Core.Path.{◌≡◌, refl, sym}
use Prim.Native.Nat.{ℕ}
use Rattle.answer.proofs.Results.{never_both}
use Rattle.answer.specs.Result.{Result, accepted, refused, and_then, Check, fine}

pub record Follows {A : Type 0} (check : Check) (rest : Result A) (x : A) : Type 0 where
  pub passed : check ≡ fine
  pub answer : rest ≡ accepted x

pub follows : {A : Type 0} (check : Check) (rest : Result A) (x : A) → and_then check (λ _. rest) ≡ accepted x
    → Follows check rest x
follows (accepted u) rest x e = record { passed = refl; answer = e }
follows (refused number place) rest x e = never_both e

-- the same where the rest is a value
pub record Passes {A : Type 0} (check : Check) (x y : A) : Type 0 where
  pub passed : check ≡ fine
  pub same : x ≡ y

pub passes : {A : Type 0} (check : Check) (x y : A) → accepted x ≡ and_then check (λ _. accepted y) → Passes check x y
passes check x y e =
    let after = follows check (accepted y) x (sym e) in
    let answer : accepted y ≡ accepted x = after.answer in
    record { passed = after.passed; same = cc }

pub refuses : {A : Type 0} (check : Check) (y : A) {number place : ℕ}
    → refused number place ≡ and_then check (λ _. accepted y) → refused number place ≡ check
refuses (accepted u) y e = never_both e
refuses (refused n p) y e = cc
