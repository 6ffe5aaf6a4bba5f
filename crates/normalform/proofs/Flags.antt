-- Flags of codes: adding codes one after another adds all of them, and from no flag set the walk of the root sets those
-- of the needed codes. Assumes nothing.
use Prim.Native.Nat.{ℕ, zero, suc, ◌<◌, ◌≤◌}
use mathlib.Core.Path.{◌≡◌, refl, sym, ◌∙◌}
use mathlib.Core.Bool.{Bool, true, false, ◌||◌, or-false}
use mathlib.Core.List.{List, [], ◌∷◌, ◌++◌}
use native.Mathlib.Decide.{ℕ_discrete}
use lib.Dec.{eqb}
use lib.ListN.{get_or, length, set, length-set, replicate, length-replicate, take}
use lib.Seq.{get_or-set_same, get_or-set_other, get_or-take, length-take-le}
use borrow.Author.Tests.{eq-eqb, ne_eqb}
use Rattle.formula.specs.Rule.{root}
use Rattle.normalform.specs.NormalForm.{member, code_end}
use Rattle.normalform.specs.Memory.{code_places, Added, node_walk, Flags}

pub added_one : (flags : List Bool) (c : ℕ) → c < length flags → Added flags (set flags c true) (c ∷ [])
unfolding member
added_one flags c l = record { same = length-set flags c true; each = λ k. go k (ℕ_discrete k c) }
  where
    go : (k : ℕ) → Dec (k ≡ c) → get_or (set flags c true) k false ≡ ((eqb c k || false) || get_or flags k false)
    go k (yes e) = rw (e, eq-eqb c c refl) (get_or-set_same flags c true false l)
    go k (no e) = rw (ne_eqb c k (λ f. e (sym f))) (get_or-set_other flags c k true false e)

pub added_none : (flags : List Bool) → Added flags flags []
unfolding member
added_none flags = record { same = refl; each = λ c. refl }

member_append : (c : ℕ) (xs ys : List ℕ) → member c (xs ++ ys) ≡ (member c xs || member c ys)
unfolding member
member_append c [] ys = refl
member_append c (x ∷ xs) ys = go (eqb x c) (member_append c xs ys)
  where
    go : (b : Bool) → member c (xs ++ ys) ≡ (member c xs || member c ys)
        → (b || member c (xs ++ ys)) ≡ ((b || member c xs) || member c ys)
    go true e = refl
    go false e = e

turn : (a b d : Bool) → (b || (a || d)) ≡ ((a || b) || d)
turn true true d = refl
turn true false d = refl
turn false true d = refl
turn false false d = refl

pub added_then : (f g h : List Bool) (xs ys : List ℕ) → Added f g xs → Added g h ys → Added f h (xs ++ ys)
added_then f g h xs ys a b = record {
  same = b.same ∙ a.same;
  each = λ c. b.each c ∙ rw (a.each c, member_append c xs ys) (turn (member c xs) (member c ys) (get_or f c false));
}

none_set : (n c : ℕ) → get_or (replicate n false) c false ≡ false
none_set zero c = refl
none_set (suc n) zero = refl
none_set (suc n) (suc c) = none_set n c

-- the flags of a rule's codes, behind which the walk sets none
pub root_flags : (rule : List ℕ) (flags : List Bool) → code_end rule ≤ code_places
    → Added (replicate code_places false) flags (node_walk rule (root rule) false)
    → Flags rule (take (code_end rule) flags)
root_flags rule flags few walked = record {
  size = length-take-le (code_end rule) flags (rw (walked.same, length-replicate {A = Bool} code_places false) few);
  each =
      λ c l. get_or-take (code_end rule) flags c false l ∙ walked.each c ∙ rw (none_set code_places c) (or-false _);
}
