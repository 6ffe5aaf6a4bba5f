-- The walk of a node, by its kind: the codes of the node itself, then those of the walks of its children, which are
-- nodes below it. Assumes nothing.
use Prim.Native.Nat.{ℕ, ◌<◌, ◌≤◌}
use mathlib.Core.Path.{◌≡◌, sym, ◌∙◌, ap, subst}
use mathlib.Core.Bool.{Bool, true, not}
use mathlib.Core.List.{List, ◌++◌}
use mathlib.Core.Logic.{inl, inr}
use native.Mathlib.Omega.{arith}
use lib.ListN.{length}
use Rattle.answer.specs.Result.{passes}
use Rattle.answer.proofs.Lowest.{passes_fine}
use Rattle.formula.specs.declared.kind.Kind.{Kind}
use Rattle.formula.specs.declared.kind.Kind.TheVariants.{False, True, Proposition, NegatedProposition, And, Or, Next}
use Rattle.formula.specs.declared.kind.Kind.TheVariants.{Until, Release, Not, Implies, Always, Eventually}
use Rattle.formula.specs.Kind.{kind_number}
use Rattle.formula.specs.Limits.{max_nodes, rule_bytes}
use Rattle.formula.specs.Rule.{node_count, kind_at, left_at, right_at, eventually_kind}
use Rattle.formula.proofs.Accepted.{formed_fine}
use Rattle.normalform.specs.Written.{written_check}
use Rattle.normalform.specs.NormalForm.{code_end}
use Rattle.normalform.specs.Memory.{code_places, Added, node_walk, own_codes}
use Rattle.normalform.proofs.Nodes.{four, five, seven, eight}
use Rattle.normalform.proofs.Fitting.{WrittenNode}
use Rattle.normalform.proofs.Flags.{added_then}
use Rattle.normalform.proofs.Codes.{turned_false, turned_true}
use Rattle.normalform.proofs.Arms.{Leaf, Single, Paired}
use Rattle.normalform.proofs.Turns.{walk_false, walk_true, walk_positive, walk_negative, walk_pair}
use Rattle.normalform.proofs.Turns.{walk_next, walk_not, walk_implies, walk_always, walk_eventually}

module _ (rule : List ℕ) (passed : passes (written_check rule) ≡ true) where
  bytes : length rule ≤ rule_bytes
  unfolding written_check
  bytes = (formed_fine eventually_kind rule (passes_fine (written_check rule) passed)).most

  pub few_nodes : (n : ℕ) → n < node_count rule → n < max_nodes
  few_nodes n inside = omega (arith, bytes)

  -- there is a place for each of its codes
  pub few_codes : code_end rule ≤ code_places
  few_codes = omega (arith, bytes)

module _ {rule : List ℕ} {n : ℕ} (node : WrittenNode rule n) (kind : Kind)
    (ek : kind_number kind ≡ kind_at rule n) where
  pub left_below : {l : ℕ} → l ≡ left_at rule n → 4 ≤ kind_number kind → l < n
  left_below e inner = omega (arith, node.node.left (omega arith))

  pub right_below : {r : ℕ} → r ≡ right_at rule n → 4 ≤ kind_number kind → r < n
  right_below e inner = omega (arith, node.node.right (omega arith))

  here : (k : Kind) → kind ≡ k → kind_at rule n ≡ kind_number k
  here k e = sym ek ∙ ap kind_number e

  module _ (s : Bool) where
    leaf_codes : Leaf kind → node_walk rule n s ≡ own_codes (kind_number kind) n s
    leaf_codes (inl e) = walk_false rule n node s (here False e) ∙ rw (e, turned_false s)
    leaf_codes (inr (inl e)) = walk_true rule n node s (here True e) ∙ rw (e, turned_true s)
    leaf_codes (inr (inr (inl e))) = walk_positive rule n node s (here Proposition e) ∙ rw e
    leaf_codes (inr (inr (inr e))) = walk_negative rule n node s (here NegatedProposition e) ∙ rw e

    -- codes of the node itself and then of its children, added one after another
    module _ {f g : List Bool} (own : Added f g (own_codes (kind_number kind) n s)) where
      pub leaf_added : Leaf kind → Added f g (node_walk rule n s)
      leaf_added leaf = subst (Added f g) (sym (leaf_codes leaf)) own

      module _ {h : List Bool} {l : ℕ} (el : l ≡ left_at rule n) where
        pub not_added : kind ≡ Not → Added g h (node_walk rule l (not s)) → Added f h (node_walk rule n s)
        not_added e left =
            let codes : own_codes (kind_number kind) n s ++ node_walk rule l (not s) ≡ node_walk rule n s =
            rw (e, el) (sym (walk_not rule n node s (here Not e))) in
            subst (Added f h) codes (added_then f g h _ _ own left)

        pub single_added : Single kind → Added g h (node_walk rule l s) → Added f h (node_walk rule n s)
        single_added single left = subst (Added f h) (go single) (added_then f g h _ _ own left)
          where
            go : Single kind → own_codes (kind_number kind) n s ++ node_walk rule l s ≡ node_walk rule n s
            go (inl e) = rw (e, el) (sym (walk_next rule n node s (here Next e)))
            go (inr (inl e)) = rw (e, el) (sym (walk_always rule n node s (here Always e)))
            go (inr (inr e)) = rw (e, el) (sym (walk_eventually rule n node s (here Eventually e)))

        module _ {i : List Bool} {r : ℕ} (er : r ≡ right_at rule n) (right : Added h i (node_walk rule r s)) where
          pub implies_added : kind ≡ Implies → Added g h (node_walk rule l (not s)) → Added f i (node_walk rule n s)
          implies_added e left =
              let codes : own_codes (kind_number kind) n s ++ (node_walk rule l (not s) ++ node_walk rule r s)
              ≡ node_walk rule n s =
              rw (e, el, er) (sym (walk_implies rule n node s (here Implies e))) in
              subst (Added f i) codes (added_then f g i _ _ own (added_then g h i _ _ left right))

          pub paired_added : Paired kind → Added g h (node_walk rule l s) → Added f i (node_walk rule n s)
          paired_added paired left =
              subst (Added f i) (go paired) (added_then f g i _ _ own (added_then g h i _ _ left right))
            where
              go : Paired kind
                  → own_codes (kind_number kind) n s ++ (node_walk rule l s ++ node_walk rule r s) ≡ node_walk rule n s
              go (inl e) = rw (e, el, er) (sym (walk_pair rule n node s 4 (here And e) four))
              go (inr (inl e)) = rw (e, el, er) (sym (walk_pair rule n node s 5 (here Or e) five))
              go (inr (inr (inl e))) = rw (e, el, er) (sym (walk_pair rule n node s 7 (here Until e) seven))
              go (inr (inr (inr e))) = rw (e, el, er) (sym (walk_pair rule n node s 8 (here Release e) eight))
