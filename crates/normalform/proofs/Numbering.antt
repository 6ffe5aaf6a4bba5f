-- The code of a node, past its nots, and the numbers of all codes: what loops over them know. Assumes nothing.
use Prim.Native.Nat.{ℕ, ◌+◌, ◌<◌, ◌≤◌}
use mathlib.Core.Path.{◌≡◌, refl, sym, ◌∙◌, ap}
use mathlib.Core.Bool.{Bool, true, false, cond, not}
use mathlib.Core.List.{List, ◌∷◌}
use native.Mathlib.Omega.{arith}
use native.Mathlib.Numerals.{add-one}
use native.Mathlib.Decide.{ℕ_discrete}
use lib.ListN.{get_or, length, set, length-set}
use lib.Seq.{get_or-set_same, get_or-set_other}
use Rattle.formula.specs.declared.kind.Kind.{Kind}
use Rattle.formula.specs.declared.kind.Kind.TheVariants.{False, True, Proposition, NegatedProposition, And, Or, Next}
use Rattle.formula.specs.declared.kind.Kind.TheVariants.{Until, Release, Not, Implies, Always, Eventually}
use Rattle.formula.specs.Kind.{kind_number}
use Rattle.formula.specs.Rule.{kind_at, left_at}
use Rattle.normalform.specs.NormalForm.{bit, pair_code, rank}
use Rattle.normalform.specs.Memory.{node_code, own_code, flagged}
use Rattle.normalform.proofs.Nodes.{Pair, four, five, seven, eight}
use Rattle.normalform.proofs.Fitting.{WrittenNode}
use Rattle.normalform.proofs.Codes.{turned_false, turned_true}
use Rattle.normalform.proofs.Turns.{walk_false, walk_true, walk_positive, walk_negative, walk_pair}
use Rattle.normalform.proofs.Turns.{walk_next, walk_not, walk_implies, walk_always, walk_eventually}

-- ---- the code of a node

head_same : {c d : ℕ} {cs ds : List ℕ} → ◌≡◌ {A = List ℕ} (c ∷ cs) (d ∷ ds) → c ≡ d
head_same e = cc

module _ {rule : List ℕ} {n : ℕ} (node : WrittenNode rule n) (s : Bool) where
  -- a not has the code of its operand in the other sense
  pub not_code : (kind : Kind) → kind_number kind ≡ kind_at rule n → kind ≡ Not
      → node_code rule n s ≡ node_code rule (left_at rule n) (not s)
  not_code kind ek e = head_same (walk_not rule n node s (sym ek ∙ ap kind_number e))

  pair : (k : ℕ) → k ≡ kind_at rule n → Pair k → node_code rule n s ≡ pair_code n s
  pair k ek p = head_same (walk_pair rule n node s k (sym ek) p)

  -- any other its own
  pub own_code_lem : (kind : Kind) → kind_number kind ≡ kind_at rule n → (kind ≡ Not → ⊥)
      → node_code rule n s ≡ own_code (kind_number kind) n s
  own_code_lem False ek other = head_same (walk_false rule n node s (sym ek)) ∙ ap bit (sym (turned_false s))
  own_code_lem True ek other = head_same (walk_true rule n node s (sym ek)) ∙ ap bit (sym (turned_true s))
  own_code_lem Proposition ek other = head_same (walk_positive rule n node s (sym ek))
  own_code_lem NegatedProposition ek other = head_same (walk_negative rule n node s (sym ek))
  own_code_lem And ek other = pair 4 ek four
  own_code_lem Or ek other = pair 5 ek five
  own_code_lem Next ek other = head_same (walk_next rule n node s (sym ek))
  own_code_lem Until ek other = pair 7 ek seven
  own_code_lem Release ek other = pair 8 ek eight
  own_code_lem Not ek other = absurd (other refl)
  own_code_lem Implies ek other = head_same (walk_implies rule n node s (sym ek))
  own_code_lem Always ek other = head_same (walk_always rule n node s (sym ek))
  own_code_lem Eventually ek other = head_same (walk_eventually rule n node s (sym ek))

-- ---- the numbers

-- a loop over the codes that stands at c: those before have their numbers, and count of them are needed
pub record Counting (needed : List Bool) (before numbers : List ℕ) (count c : ℕ) : Type 0 where
  pub room : length numbers ≡ length before
  pub most : count ≤ c
  pub counted : count ≡ rank (flagged needed) c
  pub each : (k : ℕ) → k < c → get_or numbers k 0 ≡ rank (flagged needed) k

module _ (needed : List Bool) (before : List ℕ) where
  pub count_begins : Counting needed before before 0 0
  unfolding rank
  count_begins = record { room = refl; most = omega arith; counted = refl; each = λ k l. absurd (omega arith) }

  module _ (numbers : List ℕ) (count c : ℕ) (inv : Counting needed before numbers count c) where
    pub count_steps : c < length before → (more : ℕ) → more ≡ cond (flagged needed c) 1 0
        → Counting needed before (set numbers c count) (count + more) (c + 1)
    unfolding rank
    count_steps lt more e = record {
      room = length-set numbers c count ∙ inv.room;
      most = omega (arith, inv.most, one (flagged needed c) more e);
      counted = rw (add-one c) (omega (arith, inv.counted, same (flagged needed c) more e));
      each = λ k l. pick k l (ℕ_discrete k c);
    }
      where
        one : (b : Bool) (more : ℕ) → more ≡ cond b 1 0 → more ≤ 1
        one true more e = omega arith
        one false more e = omega arith

        same : (b : Bool) (more : ℕ) → more ≡ cond b 1 0 → more ≡ bit b
        same true more e = e
        same false more e = e

        pick : (k : ℕ) → k < c + 1 → Dec (k ≡ c) → get_or (set numbers c count) k 0 ≡ rank (flagged needed) k
        pick k l (yes same) =
            rw same (get_or-set_same numbers c count 0 (omega (arith, inv.room)) ∙ inv.counted)
        pick k l (no other) = get_or-set_other numbers c k count 0 other ∙ inv.each k (omega arith)
