-- The codes of a node itself, as the code of the crate adds them. Assumes nothing.
use Prim.Native.Nat.{ℕ, ◌<◌}
use mathlib.Core.Path.{◌≡◌, refl, subst}
use mathlib.Core.Bool.{Bool, true, false, not}
use mathlib.Core.List.{List, [], ◌∷◌}
use mathlib.Core.Logic.{◌⊎◌, inl, inr}
use lib.ListN.{length, set, length-set}
use Rattle.formula.specs.declared.kind.Kind.{Kind}
use Rattle.formula.specs.declared.kind.Kind.TheVariants.{False, True, Proposition, NegatedProposition, And, Or, Next}
use Rattle.formula.specs.declared.kind.Kind.TheVariants.{Until, Release, Not, Implies, Always, Eventually}
use Rattle.formula.specs.Kind.{kind_number}
use Rattle.normalform.specs.NormalForm.{turned, pair_code}
use Rattle.normalform.specs.Memory.{Added, own_code, constant_code, own_codes}
use Rattle.normalform.proofs.Flags.{added_none, added_one, added_then}

pub turned_false : (s : Bool) → turned false s ≡ s
turned_false true = refl
turned_false false = refl

pub turned_true : (s : Bool) → turned true s ≡ not s
turned_true true = refl
turned_true false = refl

-- a node's own codes, added
module _ (f : List Bool) (kind : Kind) (n : ℕ) (s : Bool) where
  pub own_none : kind ≡ Not → Added f f (own_codes (kind_number kind) n s)
  own_none e = rw e (added_none f)

  module _ (c : ℕ) (inside : c < length f) where
    pub own_two : (kind ≡ Always) ⊎ (kind ≡ Eventually) → c ≡ pair_code n s → (d : ℕ)
        → d ≡ constant_code (kind_number kind) s → d < length f
        → Added f (set (set f c true) d true) (own_codes (kind_number kind) n s)
    own_two which e d is room = subst (Added f _) (codes which)
        (added_then f (set f c true) (set (set f c true) d true) (c ∷ []) (d ∷ []) (added_one f c inside)
        (added_one (set f c true) d (rw (length-set f c true) room)))
      where
        codes : (kind ≡ Always) ⊎ (kind ≡ Eventually) → c ∷ (d ∷ []) ≡ own_codes (kind_number kind) n s
        codes (inl z) = rw (e, is, z) refl
        codes (inr z) = rw (e, is, z) refl

-- of a kind in the arm for the others
pub own_one : (f : List Bool) (kind : Kind) (n : ℕ) (s : Bool) (c : ℕ) → c < length f
    → c ≡ own_code (kind_number kind) n s → (kind ≡ Not → ⊥) → (kind ≡ Always → ⊥) → (kind ≡ Eventually → ⊥)
    → Added f (set f c true) (own_codes (kind_number kind) n s)
own_one f kind n s c inside e other a x = subst (Added f (set f c true)) (codes kind e other a x) (added_one f c inside)
  where
    codes : (kind : Kind) → c ≡ own_code (kind_number kind) n s → (kind ≡ Not → ⊥) → (kind ≡ Always → ⊥)
        → (kind ≡ Eventually → ⊥) → c ∷ [] ≡ own_codes (kind_number kind) n s
    codes False e other a x = rw e refl
    codes True e other a x = rw e refl
    codes Proposition e other a x = rw e refl
    codes NegatedProposition e other a x = rw e refl
    codes And e other a x = rw e refl
    codes Or e other a x = rw e refl
    codes Next e other a x = rw e refl
    codes Until e other a x = rw e refl
    codes Release e other a x = rw e refl
    codes Not e other a x = absurd (other refl)
    codes Implies e other a x = rw e refl
    codes Always e other a x = absurd (a refl)
    codes Eventually e other a x = absurd (x refl)
