-- The calls normalize and check_form, answer by answer: 25, 1 to 6, 26, and what stands in the buffer; then 7.
-- Assumes nothing.
use Prim.Native.Nat.{ℕ, ◌+◌, ◌-◌, ◌*◌, ◌≤◌}
use mathlib.Core.Path.{◌≡◌, refl, sym, ◌∙◌, ap}
use mathlib.Core.Bool.{Bool, true, false}
use mathlib.Core.List.{List}
use native.Mathlib.Omega.{arith}
use lib.ListN.{length, take, replicate, length-append}
use lib.Seq.{take_at}
use lib.Dec.{leb}
use borrow.Author.Tests.{le-leb, leb-true}
use Rattle.std.specs.Prelude.{Ok}
use Rattle.answer.specs.Result.{Result, accepted, refused, require, passes, fine}
use Rattle.answer.specs.Bytes.{filled}
use Rattle.answer.specs.Buffer.{Buffer, buffer}
use Rattle.answer.proofs.Results.{never_both, require_fine}
use Rattle.formula.specs.Limits.{max_nodes, rule_bytes}
use Rattle.formula.specs.Rule.{node_count, until_check, checked}
use Rattle.normalform.specs.Written.{written_check}
use Rattle.normalform.specs.NormalForm.{rank, code_end, size, normal_bytes, sized, normal_form}
use Rattle.normalform.specs.NormalForm.{written_checked}
use Rattle.normalform.specs.Normalize.{rule_stored, normalizes}
use Rattle.normalform.specs.Memory.{code_places, Added, node_walk, flagged, Numbered, Flags, Ready, Forms}
use Rattle.normalform.proofs.Fitting.{passed_rule}
use Rattle.normalform.proofs.Flags.{root_flags}
use Rattle.normalform.proofs.Walking.{few_codes}
use Rattle.normalform.proofs.Writing.{flags_rank}
use Rattle.normalform.proofs.Passes.{result_length, normal_form_checked}

-- ---- a rule that 1 to 6 let pass

module _ (rule : List ℕ) (passed : passes (written_check rule) ≡ true) {n : ℕ} (en : n ≡ node_count rule)
    {flags : List Bool} {numbers : List ℕ} {count : ℕ}
    (walked : Added (replicate code_places false) flags (node_walk rule (n - 1) false))
    (numbered : Numbered (take (n * 2 + 2) flags) numbers count) where
  abbrev needed : List Bool
  needed = take (n * 2 + 2) flags

  flagged_codes : Flags rule needed
  flagged_codes = rw en (root_flags rule flags (few_codes rule passed) (rw en at walked))

  pub sizes : count ≡ size rule
  unfolding size
  sizes =
      numbered.size ∙ ap (rank (flagged needed)) flagged_codes.size
      ∙ flags_rank flagged_codes (code_end rule) (omega arith)

  module _ (form : List ℕ) where
    pub too_large : {number place : ℕ} → refused number place ≡ require (leb count max_nodes) 26 0
        → buffer (refused number place) form ≡ rule_stored (sized rule) form
    too_large e = rw (← sizes, ← e) refl

    module _ (few : fine ≡ require (leb count max_nodes) 26 0) where
      most : leb count max_nodes ≡ true
      most = require_fine (leb count max_nodes) 26 0 (sym few)

      pub readied : rule_bytes ≤ length form → length numbers ≡ code_places → Ready rule needed numbers form
      readied room places = record {
        flags = flagged_codes;
        numbered = numbered.each;
        numbers_room = places;
        room = omega (arith, leb-true count max_nodes most, sizes);
      }

      pub form_stored : (written after : List ℕ) → length written ≡ length form
          → take (size rule * 3) written ≡ normal_bytes rule
          → after ≡ filled written (take (count * 3) written)
          → buffer (accepted (count * 3)) after ≡ rule_stored (sized rule) form
      form_stored written after same is put =
          let long : length (normal_bytes rule) ≡ count * 3 =
          result_length rule (passed_rule rule passed) ∙ ap (λ (x : ℕ). x * 3) (sym sizes) in
          let filled_up : after ≡ filled form (normal_bytes rule) = put ∙ rw (sizes, is, same) in
          rw (← sizes, most, filled_up)
          (ap (λ (x : ℕ). buffer (accepted x) (filled form (normal_bytes rule))) (sym long))

-- ---- any bytes

module _ (rule form : List ℕ) where
  module _ (room : rule_bytes ≤ length form) where
    -- what the answer and the buffer say of the normal form
    module _ (after : List ℕ) {told : Result ℕ} (normalized : buffer told after ≡ normalizes rule form) where
      stores : buffer told after ≡ rule_stored (normal_form rule) form
      unfolding normalizes
      stores = normalized ∙ rw (le-leb rule_bytes (length form) room)

      pub form_refused : {number place : ℕ} → told ≡ refused number place → written_checked rule ≡ refused number place
      unfolding written_checked
      form_refused {number} {place} e = go (normal_form rule) refl stores
        where
          go : (r : Result (List ℕ)) → normal_form rule ≡ r → buffer told after ≡ rule_stored r form
              → written_checked rule ≡ refused number place
          go (accepted out) known is = never_both (sym e ∙ ap (λ (o : Buffer). o.answer) is)
          go (refused n p) known is =
              let same : ◌≡◌ {A = Result ℕ} (refused n p) (refused number place) =
              sym (ap (λ (o : Buffer). o.answer) is) ∙ e in
              let same_number : n ≡ number = cc in
              let same_place : p ≡ place = cc in
              rw (known, same_number, same_place)

      module _ (n : ℕ) (accepts : told ≡ accepted n) where
        -- the normal form stands at the buffer's start
        record Made : Type 0 where
          inside : n ≤ length after
          is : normal_form rule ≡ accepted (take n after)

        made : Made
        made = go (normal_form rule) refl stores
          where
            go : (r : Result (List ℕ)) → normal_form rule ≡ r → buffer told after ≡ rule_stored r form → Made
            go (accepted out) known is =
                let size : length out ≡ n = cc (ap (λ (o : Buffer). o.answer) is) in
                let bytes : after ≡ filled form out = ap (λ (o : Buffer). o.bytes) is in
                record {
                  inside = omega (arith, ap length bytes, length-append out (replicate (length form - length out) 0));
                  is = known ∙ ap accepted (sym (ap (take n) bytes ∙ take_at out _ n size));
                }
            go (refused number place) known is = never_both (sym (ap (λ (o : Buffer). o.answer) is) ∙ accepts)

        pub form_inside : n ≤ length after
        form_inside = made.inside

        pub untils_refused : {number place : ℕ} → refused number place ≡ until_check (take n after)
            → written_checked rule ≡ refused number place
        unfolding written_checked
        untils_refused e = rw (made.is, ← e)

        pub form_passes : fine ≡ until_check (take n after)
            → (normal_form rule ≡ accepted (take n after)) × (checked (take n after) ≡ fine) × (n ≤ length after)
        form_passes e = (made.is, normal_form_checked rule (take n after) made.is ∙ sym e, made.inside)

-- what check_form's answer says of the rule alone
pub form_accepted : (rule form : List ℕ) (n : ℕ) → Forms rule (Ok n) form → fine ≡ written_checked rule
unfolding written_checked
form_accepted rule form n (is, passes, inside) =
    rw is (sym (sym (normal_form_checked rule (take n form) is) ∙ passes))
