-- What an accepted answer says of the checks before it, and a fine check of its test. Assumes nothing.
use Prim.Native.Nat.{ℕ}
use mathlib.Core.Path.{◌≡◌, refl}
use mathlib.Core.Bool.{Bool, true, false}
use native.Mathlib.Omega.{arith}
use Rattle.answer.specs.Result.{Result, accepted, refused, and_then, Check, fine, require}
use Rattle.answer.proofs.Lowest.{not_fine}

-- nothing is accepted and refused
pub never_both : {A B : Type 0} {number place : ℕ} {a : A} → refused number place ≡ accepted a → B
never_both e = let z : ◌≡◌ {A = ℕ} 0 1 = cc in absurd (omega arith)

pub then_accepted : {A B : Type 0} (r : Result A) (f : A → Result B) {b : B} → and_then r f ≡ accepted b
    → (a : A) × (r ≡ accepted a) × (f a ≡ accepted b)
then_accepted (accepted a) f e = (a, refl, e)
then_accepted (refused number place) f e = never_both e

-- what a fine check says of its test, alone and before others
pub require_fine : (t : Bool) (number place : ℕ) → require t number place ≡ fine → t ≡ true
require_fine true number place e = refl
require_fine false number place e = not_fine e

pub required : (t : Bool) (number place : ℕ) (rest : Check) → and_then (require t number place) (λ _. rest) ≡ fine
    → (t ≡ true) × (rest ≡ fine)
required true number place rest e = (refl, e)
required false number place rest e = not_fine e
