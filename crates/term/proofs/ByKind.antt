-- The packed cover and terms of a node, by its kind, where they do not follow by computing.
-- Assumes nothing.
use mathlib.Core.Path.{◌≡◌, refl}
use mathlib.Core.List.{[], ◌∷◌, map}
use Prim.Native.Nat.{ℕ, suc, ◌-◌, ◌^◌, ◌<◌, ◌≤◌}
use native.Mathlib.Omega.{arith}
use Rattle.formula.specs.declared.kind.Kind.{Kind}
use Rattle.formula.specs.declared.kind.Kind.TheVariants.{False, True, Proposition, NegatedProposition, And, Or, Next}
use Rattle.formula.specs.declared.kind.Kind.TheVariants.{Until, Release, Not, Implies, Always, Eventually}
use Rattle.formula.specs.Kind.{kind_number}
use Rattle.formula.specs.Rule.{release_kind}
use Rattle.formula.specs.Formula.{Formula, bottom, build}
use Rattle.term.specs.Term.{cover, terms}
use Rattle.term.specs.Memory.{pack, pack_set}
use Rattle.term.proofs.Packing.{pack_owing}

-- a kind above release builds bottom
pub above : (n p : ℕ) (f g : Formula) (k : ℕ) → release_kind < k → build k n p f g ≡ bottom
above n p f g k lt =
    let e : k ≡ suc (suc (suc (suc (suc (suc (suc (suc (suc (k - 9))))))))) = omega arith in
    rw e

pub of_next : (n p : ℕ) (f g : Formula) (k : ℕ) → k ≡ 6 → map pack (terms (build k n p f g)) ≡ map pack_set (cover f)
unfolding terms
of_next n p f g k e = rw e (pack_owing (cover f))

pub cover_own : (n p : ℕ) (f g : Formula) (kind : Kind) → (kind ≡ False → ⊥) → (kind ≡ True → ⊥) → (kind ≡ And → ⊥)
    → (kind ≡ Or → ⊥) → kind_number kind ≤ release_kind
    → map pack_set (cover (build (kind_number kind) n p f g)) ≡ pack_set (2 ^ n) ∷ []
unfolding cover
cover_own n p f g False a b c d e = absurd (a refl)
cover_own n p f g True a b c d e = absurd (b refl)
cover_own n p f g Proposition a b c d e = refl
cover_own n p f g NegatedProposition a b c d e = refl
cover_own n p f g And a b c d e = absurd (c refl)
cover_own n p f g Or a b c d e = absurd (d refl)
cover_own n p f g Next a b c d e = refl
cover_own n p f g Until a b c d e = refl
cover_own n p f g Release a b c d e = refl
cover_own n p f g Not a b c d e = absurd (omega arith)
cover_own n p f g Implies a b c d e = absurd (omega arith)
cover_own n p f g Always a b c d e = absurd (omega arith)
cover_own n p f g Eventually a b c d e = absurd (omega arith)
