-- What the checks of two rules that are merged say where they let them pass, and what the call's answer and its buffer
-- say. Assumes nothing.
use Prim.Native.Nat.{ℕ, ◌+◌, ◌*◌, ◌≤◌}
use mathlib.Core.Path.{◌≡◌, refl, sym, ◌∙◌, ap}
use mathlib.Core.List.{List}
use lib.Dec.{leb}
use lib.ListN.{length, take}
use lib.Seq.{take_at}
use borrow.Author.Tests.{le-leb, leb-true}
use Rattle.answer.specs.Result.{accepted, refused, and_then, Check, fine, require}
use Rattle.answer.specs.Bytes.{filled}
use Rattle.answer.specs.Buffer.{Buffer, buffer}
use Rattle.answer.proofs.Filling.{filled_as}
use Rattle.answer.proofs.Lowest.{fine_first, fine_second}
use Rattle.answer.proofs.Results.{require_fine, required, never_both}
use Rattle.formula.specs.Limits.{max_nodes, max_untils, rule_bytes}
use Rattle.formula.specs.Rule.{node_count, release_kind, syntax_check, untils, until_check}
use Rattle.formula.proofs.Untils.{untils_most}
use Rattle.normalform.specs.Normalize.{rule_room, rule_stored}
use Rattle.merge.specs.Merge.{conjoined, merged_count, merge_check, merges}
use Rattle.merge.proofs.Conjoined.{merged_length, merged_untils}

-- two rules that may be merged
pub record Mergeable (first second : List ℕ) : Type 0 where
  pub passes : syntax_check release_kind first ≡ fine
  pub passes_too : syntax_check release_kind second ≡ fine
  pub few : merged_count first second ≤ max_nodes
  pub untils_few : until_check (conjoined first second) ≡ fine

-- 7 of the merged rule by the untils of both
pub untils_checked : (first second : List ℕ) → fine ≡ syntax_check release_kind first
    → fine ≡ syntax_check release_kind second → until_check (conjoined first second)
    ≡ require (leb (length (untils first (node_count first)) + length (untils second (node_count second))) max_untils)
    7 0
unfolding until_check
untils_checked first second passes passes_too = rw (merged_untils first second (sym passes) (sym passes_too))

-- what the checks in the code take: this one, and that a rule's untils are no more than its nodes
pub ruleset merging = (untils_checked, untils_most)

-- a buffer that 25 lets pass
pub room_enough : (merged : List ℕ) → rule_room merged ≡ fine → rule_bytes ≤ length merged
room_enough merged e = leb-true rule_bytes (length merged) (require_fine _ 25 0 e)

module _ (first second : List ℕ) where
  -- ---- the checks

  pub merge_fine : merge_check first second ≡ fine → Mergeable first second
  unfolding merge_check
  merge_fine e =
      let after_first = fine_second (syntax_check release_kind first) _ e in
      let after-second = fine_second (syntax_check release_kind second) _ after_first in
      let size = required (leb (merged_count first second) max_nodes) 27 0 _ after-second in
      record {
        passes = fine_first (syntax_check release_kind first) _ e;
        passes_too = fine_first (syntax_check release_kind second) _ after_first;
        few = leb-true (merged_count first second) max_nodes size.0;
        untils_few = size.1;
      }

  -- ---- the call

  module _ (merged : List ℕ) where
    module _ (room : rule_bytes ≤ length merged) where
      pub merged_stored : (written after : List ℕ) → merge_check first second ≡ fine → length written ≡ length merged
          → take (merged_count first second * 3) written ≡ conjoined first second
          → after ≡ filled written (take (merged_count first second * 3) written)
          → buffer (accepted (merged_count first second * 3)) after ≡ merges first second merged
      unfolding merges
      merged_stored written after e same is put =
          let may = merge_fine e in
          let long = merged_length first second may.passes may.passes_too in
          let filled_up =
          filled_as merged written after (conjoined first second) (merged_count first second * 3) is same put in
          rw (le-leb rule_bytes (length merged) room, e, filled_up)
          (ap (λ (x : ℕ). buffer (accepted x) (filled merged (conjoined first second))) (sym long))

    -- what an accepted answer n and the buffer say: the rules may be merged, and the merged rule is at the buffer's
    -- start
    pub record Merged (n : ℕ) (after : List ℕ) : Type 0 where
      pub may : Mergeable first second
      pub size : n ≡ merged_count first second * 3
      pub is : take n after ≡ conjoined first second

    pub merged_at : (n : ℕ) (after : List ℕ) → merges first second merged ≡ buffer (accepted n) after → Merged n after
    unfolding merges
    merged_at n after e = go (rule_room merged) (merge_check first second) refl e
      where
        go : (room check : Check) → merge_check first second ≡ check
            → rule_stored (and_then room (λ _. and_then check (λ _. accepted (conjoined first second)))) merged
            ≡ buffer (accepted n) after
            → Merged n after
        go (accepted u) (accepted v) known is =
            let size : length (conjoined first second) ≡ n = cc (ap (λ (o : Buffer). o.answer) is) in
            let bytes : filled merged (conjoined first second) ≡ after = ap (λ (o : Buffer). o.bytes) is in
            let may = merge_fine known in
            record {
              may = may;
              size = sym size ∙ merged_length first second may.passes may.passes_too;
              is = ap (take n) (sym bytes) ∙ take_at (conjoined first second) _ n size;
            }
        go (accepted u) (refused number place) known is = never_both (ap (λ (o : Buffer). o.answer) is)
        go (refused number place) check known is = never_both (ap (λ (o : Buffer). o.answer) is)
