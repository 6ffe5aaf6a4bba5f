-- A rule that 29 lets pass has no until in its normal form; and the call translate by its answers. Assumes nothing.
use Prim.Native.Nat.{ℕ, zero, suc, ◌<◌}
use mathlib.Core.Path.{◌≡◌, refl, sym, ◌∙◌, ap}
use mathlib.Core.List.{List, []}
use mathlib.Core.Bool.{Bool, true, not}
use native.Mathlib.Omega.{arith}
use lib.ListN.{length}
use lib.Dec.{eqb}
use borrow.Author.Tests.{not-true}
use Rattle.answer.specs.Result.{Result, accepted, refused, and_then, Check, fine, require, reason_number}
use Rattle.answer.proofs.Lowest.{lowest_each, fine_first, fine_second}
use Rattle.answer.proofs.Results.{require_fine, never_both, then_accepted}
use Rattle.formula.specs.Rule.{node_count, kind_at, untils, until_check, checked}
use Rattle.normalform.specs.NormalForm.{normal_form, written_checked}
use Rattle.normalform.proofs.Passes.{normal_form_checked}
use Rattle.automaton.specs.Automaton.{Automaton}
use Rattle.automaton.specs.Tables.{Counts, Outcome, outcome, table_check, lengths_fit}
use Rattle.translation.specs.Degeneralized.{translation}
use Rattle.std.specs.Prelude.{Err}
use Rattle.answer.specs.declared.Refusal.{Refusal}
use Rattle.translation.specs.Translate.{written_translation, stored, unless, translated}
use Rattle.translation.specs.Conflicts.{written_conflicts, Carried, told_with}
use Rattle.profile.specs.Profile.{until_at, no_untils, profile_checked, profile_translation}
use Rattle.profile.specs.Profile.{profile_translated, profile_conflicts, profile_translates}
use Rattle.profile.specs.Memory.{form_translates}

-- ---- no until
none_below : (form : List ℕ) (n : ℕ) → ((k : ℕ) → k < n → not (eqb (kind_at form k) 7) ≡ true) → untils form n ≡ []
unfolding untils
none_below form zero h = refl
none_below form (suc n) h =
    rw (none_below form n (λ k l. h k (omega arith)), not-true (eqb (kind_at form n) 7) (h n (omega arith))) refl

none_of : (form : List ℕ) → no_untils form ≡ fine → untils form (node_count form) ≡ []
unfolding no_untils
none_of form e =
    none_below form (node_count form) (λ k l. require_fine _ 29 k (lowest_each (until_at form) (node_count form) e k l))

-- a rule that the profile takes: its automaton is that of a normal form with no until
module _ (rule : List ℕ) where
  pub record Taken (a : Automaton) : Type 0 where
    pub form : List ℕ
    pub normal : normal_form rule ≡ accepted form
    pub translates : translation form ≡ accepted a
    pub free : untils form (node_count form) ≡ []

  pub profile_taken : (a : Automaton) → profile_translation rule ≡ accepted a → Taken a
  unfolding profile_translation profile_checked written_translation
  profile_taken a e =
      let (_, passed, wrote) = then_accepted (profile_checked rule) _ e in
      let (form, normal, rest) = then_accepted (normal_form rule) _ passed in
      let (other, again, translates) = then_accepted (normal_form rule) translation wrote in
      let same : other ≡ form = cc in
      record {
        form = form;
        normal = normal;
        translates = rw same at translates;
        free = none_of form (fine_second (until_check form) (no_untils form) rest);
      }

  -- what the profile lets pass, translate lets pass
  pub written_passed : profile_checked rule ≡ fine → written_checked rule ≡ fine
  unfolding profile_checked written_checked
  written_passed e =
      let (form, normal, rest) = then_accepted (normal_form rule) _ e in
      rw normal (fine_first (until_check form) (no_untils form) rest)

  -- what translate refuses before 20, the profile refuses alike
  written_refused : {number place : ℕ} → written_checked rule ≡ refused number place
      → profile_checked rule ≡ refused number place
  unfolding profile_checked written_checked
  written_refused {number} {place} e = go (normal_form rule) e
    where
      last : (c : Check) → c ≡ refused number place → (next : Check) → and_then c (λ _. next) ≡ refused number place
      last c e next = rw e refl

      go : (r : Result (List ℕ)) → and_then r until_check ≡ refused number place
          → and_then r (λ form. and_then (until_check form) (λ _. no_untils form)) ≡ refused number place
      go (accepted form) e = last (until_check form) e (no_untils form)
      go (refused n p) e = let q : ◌≡◌ {A = Check} (refused n p) (refused number place) = cc in q

-- ---- any bytes
module _ (rule s t i : List ℕ) where
  -- 25 is asked of the lengths as the code does
  module _ {fits : Bool} (as_told : fits ≡ lengths_fit (length s) (length t) (length i)) where
    room_check : require fits 25 0 ≡ table_check s t i
    unfolding table_check
    room_check = rw as_told refl

    pub short_refused : (r : Refusal) → refused (reason_number r.reason) r.place ≡ require fits 25 0
        → told_with (Err r) s t i ≡ profile_translates rule s t i
    unfolding profile_translated profile_conflicts
    short_refused r e = rw (sym room_check ∙ sym e)

    module _ (room : fine ≡ require fits 25 0) where
      roomy : table_check s t i ≡ fine
      roomy = sym room_check ∙ sym room

      pub form_refused : (r : Refusal) → written_checked rule ≡ refused (reason_number r.reason) r.place
          → told_with (Err r) s t i ≡ profile_translates rule s t i
      unfolding profile_translated profile_conflicts
      form_refused r e = rw (roomy, written_refused rule e)

      pub form_translated : {done : Carried} (form : List ℕ) → normal_form rule ≡ accepted form → checked form ≡ fine
          → done ≡ form_translates form s t i → done ≡ profile_translates rule s t i
      unfolding profile_translated profile_conflicts profile_checked written_translation written_conflicts
      form_translated form made passes e =
          e ∙ rw (roomy, made, sym (normal_form_checked rule form made) ∙ passes)

  -- what an accepted answer says: the profile takes the rule, and translate accepts it alike
  pub profile_accepted : (s' t' i' : List ℕ) (c : Counts)
      → outcome (accepted c) s' t' i' ≡ profile_translated rule s t i
      → (profile_checked rule ≡ fine) × (outcome (accepted c) s' t' i' ≡ translated rule s t i)
  unfolding profile_translated translated
  profile_accepted s' t' i' c e = go (and_then (table_check s t i) (λ _. profile_checked rule)) refl e
    where
      go : (check : Check) → and_then (table_check s t i) (λ _. profile_checked rule) ≡ check
          → outcome (accepted c) s' t' i' ≡ unless check (stored (written_translation rule) s t i) s t i
          → (profile_checked rule ≡ fine)
          × (outcome (accepted c) s' t' i' ≡ unless (and_then (table_check s t i) (λ _. written_checked rule))
          (stored (written_translation rule) s t i) s t i)
      go (accepted u) known is =
          let passed = fine_second (table_check s t i) (profile_checked rule) known in (
            passed,
            is ∙ rw (fine_first (table_check s t i) (profile_checked rule) known, written_passed rule passed)
                refl,
          )
      go (refused number place) known is = never_both (sym (ap (λ (o : Outcome). o.answer) is))
