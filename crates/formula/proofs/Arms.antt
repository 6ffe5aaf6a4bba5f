-- Where the number of a kind lies, by the arm of a match that it comes to. Assumes nothing.
use Prim.Native.Nat.{◌≤◌, ◌<◌}
use mathlib.Core.Path.{◌≡◌, refl}
use mathlib.Core.Logic.{◌⊎◌, inl, inr}
use native.Mathlib.Omega.{arith}
use Rattle.formula.specs.declared.kind.Kind.{Kind}
use Rattle.formula.specs.declared.kind.Kind.TheVariants.{False, True, Proposition, NegatedProposition, And, Or, Next}
use Rattle.formula.specs.declared.kind.Kind.TheVariants.{Until, Release, Not, Implies, Always, Eventually}
use Rattle.formula.specs.Kind.{kind_number}

-- a leaf, in an arm of its own
pub leaf_number : {kind : Kind}
    → (kind ≡ False) ⊎ ((kind ≡ True) ⊎ ((kind ≡ Proposition) ⊎ (kind ≡ NegatedProposition))) → kind_number kind < 4
leaf_number (inl e) = rw e (omega arith)
leaf_number (inr (inl e)) = rw e (omega arith)
leaf_number (inr (inr (inl e))) = rw e (omega arith)
leaf_number (inr (inr (inr e))) = rw e (omega arith)

-- an and, an or or a next
pub pair_number : {kind : Kind} → (kind ≡ And) ⊎ ((kind ≡ Or) ⊎ (kind ≡ Next))
    → (4 ≤ kind_number kind) × (kind_number kind < 7)
pair_number (inl e) = rw e (omega arith, omega arith)
pair_number (inr (inl e)) = rw e (omega arith, omega arith)
pair_number (inr (inr e)) = rw e (omega arith, omega arith)

-- an until or a release, in the arm for what is neither
pub round_number : (kind : Kind) → (kind ≡ False → ⊥) → (kind ≡ True → ⊥) → (kind ≡ Proposition → ⊥)
    → (kind ≡ NegatedProposition → ⊥) → (kind ≡ And → ⊥) → (kind ≡ Or → ⊥) → (kind ≡ Next → ⊥) → 7 ≤ kind_number kind
round_number False f t p n a o x = absurd (f refl)
round_number True f t p n a o x = absurd (t refl)
round_number Proposition f t p n a o x = absurd (p refl)
round_number NegatedProposition f t p n a o x = absurd (n refl)
round_number And f t p n a o x = absurd (a refl)
round_number Or f t p n a o x = absurd (o refl)
round_number Next f t p n a o x = absurd (x refl)
round_number Until f t p n a o x = omega arith
round_number Release f t p n a o x = omega arith
round_number Not f t p n a o x = omega arith
round_number Implies f t p n a o x = omega arith
round_number Always f t p n a o x = omega arith
round_number Eventually f t p n a o x = omega arith
