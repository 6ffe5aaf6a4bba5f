-- The call translate, answer by answer: 25, 1 to 7 and 26, 20, 21 to 23, what the second walk comes to, and the
-- conflicts that an acceptance carries. Assumes nothing.
use mathlib.Core.Path.{◌≡◌, sym, ◌∙◌}
use mathlib.Core.List.{List}
use mathlib.Core.Bool.{Bool, true, false, true≢false}
use Prim.Native.Nat.{ℕ}
use lib.ListN.{length}
use lib.Bits.{bit_or}
use Rattle.std.specs.Prelude.{Result as Returned, Ok, Err}
use Rattle.std.specs.Result.{is_err}
use Rattle.answer.specs.declared.Refusal.{Refusal}
use Rattle.answer.specs.Result.{Result, accepted, refused, fine, require, lowest, reason_number}
use Rattle.answer.specs.Bytes.{zeros}
use Rattle.formula.specs.Rule.{node_count}
use Rattle.formula.specs.Rule
use Rattle.formula.specs.Formula.{formula}
use Rattle.normalform.specs.NormalForm.{normal_form, written_checked}
use Rattle.normalform.proofs.Passes.{normal_form_checked}
use Rattle.term.specs.Term.{conflicts}
use Rattle.term.specs.Size.{size_check, sizes_checked}
use Rattle.generalized.specs.Generalized.{generalized, walk_conflicts}
use Rattle.automaton.specs.Tables.{lengths_fit, table_check}
use Rattle.translation.specs.declared.Translated.{Translated}
use Rattle.translation.specs.Degeneralized.{translation}
use Rattle.translation.specs.Translate.{written_translation, stored, translated}
use Rattle.translation.specs.Conflicts.{rule_conflicts, written_conflicts, translated_conflicts, carried, told_with}
use Rattle.translation.specs.Conflicts.{translates}
use Rattle.translation.specs.Memory.{Filled, FilledAll, FillsAll, Builds}

pub sizes_are : (rule : List ℕ) {a : Result (Unit {0})} → Rule.checked rule ≡ fine
    → lowest (size_check rule) (node_count rule) ≡ a → sizes_checked rule ≡ a
unfolding sizes_checked
sizes_are rule bytes e = rw bytes e

-- ---- a rule that 1 to 7 let pass

module _ (rule : List ℕ) where
  pub size_refused : {number place : ℕ} → sizes_checked rule ≡ refused number place
      → translation rule ≡ refused number place
  unfolding translation
  size_refused e = rw e

  pub first_refused : {number place : ℕ} → sizes_checked rule ≡ fine → generalized rule ≡ refused number place
      → translation rule ≡ refused number place
  unfolding translation
  first_refused passed e = rw (passed, e)

  pub filled_all : {states : List ℕ} {of_nodes of_states : ℕ} → generalized rule ≡ accepted states
      → of_nodes ≡ conflicts (formula rule) → of_states ≡ walk_conflicts rule states
      → {done : Translated} → done.conflicts ≡ bit_or of_nodes of_states → {s t i s' t' i' : List ℕ}
      → Filled (translation rule) done.counts s t i s' t' i' → FilledAll rule done s t i s' t' i'
  unfolding rule_conflicts
  filled_all found nodes walk are filled = record {
    filled = filled;
    conflicts = rw (filled.are, found, are, nodes, walk);
  }

  module _ (s t i s' t' i' : List ℕ) where
    -- an acceptance leaves the tables as they are
    pub builds_done : (r : Returned Translated Refusal) → FillsAll rule r s t i s' t' i' → is_err r ≡ false
        → Builds rule r s t i s' t' i'
    unfolding stored
    builds_done (Ok done) all _ = record {
      tables = all.filled.tables ∙ rw all.filled.are;
      conflicts = sym all.conflicts;
    }
    builds_done (Err r) all e = absurd (true≢false e)

    -- a refusal is left with zeros
    pub builds_none : (r : Returned Translated Refusal) → FillsAll rule r s t i s' t' i' → is_err r ≡ true
        → {x y z : List ℕ} → x ≡ zeros s' → y ≡ zeros t' → z ≡ zeros i'
        → length s' ≡ length s → length t' ≡ length t → length i' ≡ length i → Builds rule r s t i x y z
    unfolding stored rule_conflicts
    builds_none (Ok done) all e ex ey ez es et ei = absurd (true≢false (sym e))
    builds_none (Err r) all _ ex ey ez es et ei = record {
      tables = rw (all, ex, ey, ez, es, et, ei);
      conflicts = rw all;
    }

-- ---- any bytes

module _ (rule s t i : List ℕ) where
  module _ {fit : Bool} (is : fit ≡ lengths_fit (length s) (length t) (length i)) where
    pub tables_fine : fine ≡ require fit 25 0 → table_check s t i ≡ fine
    unfolding table_check
    tables_fine e = rw (← is) (sym e)

    pub short_refused : (e : Refusal) → refused (reason_number e.reason) e.place ≡ require fit 25 0
        → told_with (Err e) s t i ≡ translates rule s t i
    unfolding translated translated_conflicts table_check
    short_refused e refuses = rw (← is, ← refuses)

  module _ (fine_tables : table_check s t i ≡ fine) where
    pub form_refused : (e : Refusal) → written_checked rule ≡ refused (reason_number e.reason) e.place
        → told_with (Err e) s t i ≡ translates rule s t i
    unfolding translated translated_conflicts
    form_refused e refuses = rw (fine_tables, refuses)

    pub built : {r : Returned Translated Refusal} {s' t' i' : List ℕ} (form : List ℕ)
        → normal_form rule ≡ accepted form → Rule.checked form ≡ fine → Builds form r s t i s' t' i'
        → told_with r s' t' i' ≡ translates rule s t i
    unfolding translated written_translation written_checked translated_conflicts written_conflicts
    built form made passes done =
        (λ k. carried (done.tables k) (done.conflicts k))
        ∙ rw (fine_tables, made, ← normal_form_checked rule form made, passes)
