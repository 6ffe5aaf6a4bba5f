-- The untils of a rule that 1 to 7 let pass: they are nodes of it, at most 8, and a loop over the nodes gathers them.
-- Assumes nothing.
use mathlib.Core.Path.{◌≡◌, refl, sym, ap, ◌∙◌}
use mathlib.Core.Bool.{Bool, true, false, cond}
use mathlib.Core.List.{List, [], ◌∷◌, ◌++◌, append-nil}
use Prim.Native.Nat.{ℕ, zero, suc, ◌+◌, ◌≤◌, ◌<◌}
use native.Mathlib.Decide.{dec_lt, ℕ_discrete}
use native.Mathlib.Numerals.{add-one}
use native.Mathlib.Omega.{arith}
use lib.Dec.{eqb}
use lib.ListN.{length, get_or, take, set, length-set, length-append, length-take, get_or-append}
use lib.Seq.{get_or_at, take-suc-set, take_all, length-take-le}
use borrow.Author.Tests.{eq-eqb, ne_eqb}
use Rattle.answer.specs.Result.{passes, fine}
use Rattle.answer.proofs.Lowest.{passes_fine}
use Rattle.formula.specs.Limits.{max_untils}
use Rattle.formula.specs.Rule.{node_count, kind_at, checked, untils}
use Rattle.formula.proofs.Accepted.{accepted_fine}
use Rattle.acceptance.specs.Acceptance.{until_count}
use Rattle.acceptance.specs.Memory.{IsUntils, Known}

pub untils_few : (rule : List ℕ) → checked rule ≡ fine → until_count rule ≤ max_untils
untils_few rule passed = (accepted_fine rule passed).untils

-- an until among the first n nodes is one of them
pub untils_below : (rule : List ℕ) (n k : ℕ) → k < length (untils rule n) → get_or (untils rule n) k 0 < n
unfolding untils
untils_below rule zero k lt = absurd (omega arith)
untils_below rule (suc n) k lt =
    go (eqb (kind_at rule n) 7) lt (dec_lt k (length (untils rule n))) (λ l. untils_below rule n k l)
  where
    go : (b : Bool) → k < length (untils rule n ++ cond b (n ∷ []) []) → Dec (k < length (untils rule n))
        → (k < length (untils rule n) → get_or (untils rule n) k 0 < n)
        → get_or (untils rule n ++ cond b (n ∷ []) []) k 0 < suc n
    go b h (yes l) below =
        rw (get_or-append (untils rule n) (cond b (n ∷ []) []) 0 k l) (omega (arith, below l))
    go true h (no ge) below =
        rw (get_or_at (untils rule n) n [] 0 k (omega (arith, length-append (untils rule n) (n ∷ [])))) (omega arith)
    go false h (no ge) below = absurd (omega (arith, length-append (untils rule n) []))

untils_rise : (rule : List ℕ) (i n : ℕ) → i ≤ n → length (untils rule i) ≤ length (untils rule n)
unfolding untils
untils_rise rule i zero le =
    let e : i ≡ 0 = omega arith in
    rw e (omega arith)
untils_rise rule i (suc n) le = pick (ℕ_discrete i (suc n)) (λ l. untils_rise rule i n l)
  where
    pick : Dec (i ≡ suc n) → (i ≤ n → length (untils rule i) ≤ length (untils rule n))
        → length (untils rule i) ≤ length (untils rule n ++ cond (eqb (kind_at rule n) 7) (n ∷ []) [])
    pick (yes e) below = rw e (omega arith)
    pick (no other) below =
        let l : length (untils rule i) ≤ length (untils rule n) = below (omega arith) in
        omega (arith, length-append (untils rule n) (cond (eqb (kind_at rule n) 7) (n ∷ []) []))

-- a loop over the nodes that stands at i: the first count of nodes are the untils among the first i
pub record Gathering (rule nodes : List ℕ) (count i : ℕ) : Type 0 where
  pub room : length nodes ≡ max_untils
  pub counted : count ≡ length (untils rule i)
  pub gathered : take count nodes ≡ untils rule i

module _ (rule nodes : List ℕ) where
  pub gather_begins : length nodes ≡ max_untils → Gathering rule nodes 0 0
  unfolding untils
  gather_begins room = record { room = room; counted = refl; gathered = refl }

  pub gather_ends : (count : ℕ) {i : ℕ} → i ≡ node_count rule → Gathering rule nodes count i → IsUntils rule nodes count
  gather_ends count same inv = record { counted = rw same at inv.counted; gathered = rw same at inv.gathered }

  module _ (count i : ℕ) where
    next_taken : kind_at rule i ≡ 7 → untils rule (suc i) ≡ untils rule i ++ (i ∷ [])
    unfolding untils
    next_taken e = rw (eq-eqb (kind_at rule i) 7 e)

    next_passed : (kind_at rule i ≡ 7 → ⊥) → untils rule (suc i) ≡ untils rule i
    unfolding untils
    next_passed other = rw (ne_eqb (kind_at rule i) 7 other) (append-nil (untils rule i))

    -- there is a place for one more
    pub gather_fits : Gathering rule nodes count i → i < node_count rule → passes (checked rule) ≡ true
        → kind_at rule i ≡ 7 → count < max_untils
    gather_fits inv lt passed e =
        let more = ap length (next_taken e) ∙ length-append (untils rule i) (i ∷ []) in
        let l = untils_rise rule (suc i) (node_count rule) (omega arith) in
        omega (arith, inv.counted, more, l, untils_few rule (passes_fine _ passed))

    pub gather_takes : Gathering rule nodes count i → count < max_untils → kind_at rule i ≡ 7
        → Gathering rule (set nodes count i) (count + 1) (i + 1)
    gather_takes inv lt e = record {
      room = length-set nodes count i ∙ inv.room;
      counted =
          let more = ap length (next_taken e) ∙ length-append (untils rule i) (i ∷ []) in
          rw (add-one i) (omega (arith, more, inv.counted));
      gathered =
          rw (add-one i, add-one count, take-suc-set nodes count i (omega (arith, inv.room)), inv.gathered)
          (sym (next_taken e));
    }

    pub gather_passes : Gathering rule nodes count i → (kind_at rule i ≡ 7 → ⊥) → Gathering rule nodes count (i + 1)
    gather_passes inv other = record {
      room = inv.room;
      counted = rw (add-one i, next_passed other) inv.counted;
      gathered = rw (add-one i, next_passed other) inv.gathered;
    }

-- ---- the untils of a rule, as they are lent

module _ {rule table nodes : List ℕ} {count : ℕ} (known : Known rule table nodes count) where
  pub nodes_fit : count ≤ length nodes
  nodes_fit = omega (arith, ap length known.untils.gathered, known.untils.counted, length-take count nodes)

  -- those nodes alone are known as well
  pub known_nodes : Known rule table (take count nodes) (length (take count nodes))
  known_nodes =
      let size = length-take-le count nodes nodes_fit in
      let whole : take (length (take count nodes)) (take count nodes) ≡ take count nodes =
      take_all (length (take count nodes)) (take count nodes) (omega arith) in
      record {
        accepted = known.accepted;
        terms = known.terms;
        untils = record {
          counted = size ∙ known.untils.counted;
          gathered = whole ∙ known.untils.gathered;
        };
      }
