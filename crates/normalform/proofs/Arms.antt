-- What the arm of a match says of a kind. Assumes nothing.
use Prim.Native.Nat.{◌≤◌}
use mathlib.Core.Path.{◌≡◌, refl}
use mathlib.Core.Logic.{◌⊎◌, inl, inr}
use native.Mathlib.Omega.{arith}
use Rattle.formula.specs.declared.kind.Kind.{Kind}
use Rattle.formula.specs.declared.kind.Kind.TheVariants.{False, True, Proposition, NegatedProposition, And, Or, Next}
use Rattle.formula.specs.declared.kind.Kind.TheVariants.{Until, Release, Not, Implies, Always, Eventually}
use Rattle.formula.specs.Kind.{kind_number}

-- a leaf; one with one child in its own sense; one with two
abbrev pub Leaf : Kind → Type 0
Leaf kind = (kind ≡ False) ⊎ ((kind ≡ True) ⊎ ((kind ≡ Proposition) ⊎ (kind ≡ NegatedProposition)))

abbrev pub Single : Kind → Type 0
Single kind = (kind ≡ Next) ⊎ ((kind ≡ Always) ⊎ (kind ≡ Eventually))

abbrev pub Paired : Kind → Type 0
Paired kind = (kind ≡ And) ⊎ ((kind ≡ Or) ⊎ ((kind ≡ Until) ⊎ (kind ≡ Release)))

-- those with children
pub not_inner : {kind : Kind} → kind ≡ Not → 4 ≤ kind_number kind
not_inner e = rw e (omega arith)

pub implies_inner : {kind : Kind} → kind ≡ Implies → 4 ≤ kind_number kind
implies_inner e = rw e (omega arith)

pub single_inner : {kind : Kind} → Single kind → 4 ≤ kind_number kind
single_inner (inl e) = rw e (omega arith)
single_inner (inr (inl e)) = rw e (omega arith)
single_inner (inr (inr e)) = rw e (omega arith)

pub paired_inner : {kind : Kind} → Paired kind → 4 ≤ kind_number kind
paired_inner (inl e) = rw e (omega arith)
paired_inner (inr (inl e)) = rw e (omega arith)
paired_inner (inr (inr (inl e))) = rw e (omega arith)
paired_inner (inr (inr (inr e))) = rw e (omega arith)

-- a kind with a place of its own that is in no other arm has two children
pub both_left : (kind : Kind) → 2 ≤ kind_number kind → (kind_number kind ≡ 9 → ⊥) → (kind ≡ Proposition → ⊥)
    → (kind ≡ NegatedProposition → ⊥) → (kind ≡ Next → ⊥) → (kind ≡ Always → ⊥) → (kind ≡ Eventually → ⊥)
    → (kind ≡ Implies) ⊎ Paired kind
both_left False place no9 p n x a e = absurd (omega arith)
both_left True place no9 p n x a e = absurd (omega arith)
both_left Proposition place no9 p n x a e = absurd (p refl)
both_left NegatedProposition place no9 p n x a e = absurd (n refl)
both_left And place no9 p n x a e = inr (inl refl)
both_left Or place no9 p n x a e = inr (inr (inl refl))
both_left Next place no9 p n x a e = absurd (x refl)
both_left Until place no9 p n x a e = inr (inr (inr (inl refl)))
both_left Release place no9 p n x a e = inr (inr (inr (inr refl)))
both_left Not place no9 p n x a e = absurd (no9 refl)
both_left Implies place no9 p n x a e = inl refl
both_left Always place no9 p n x a e = absurd (a refl)
both_left Eventually place no9 p n x a e = absurd (e refl)

pub both_inner : {kind : Kind} → (kind ≡ Implies) ⊎ Paired kind → 4 ≤ kind_number kind
both_inner (inl e) = implies_inner e
both_inner (inr p) = paired_inner p
