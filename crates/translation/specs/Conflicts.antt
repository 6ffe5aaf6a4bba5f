-- R-8: the propositions that a rule demands both ways. An accepted translation carries them, a bit each.
use Rattle.std.specs.Prelude.{ℕ, List}
use Rattle.std.specs.Int.Bits.{bit_or}
use Rattle.answer.specs.Result.{Result, accepted, refused, and_then, reason_number}
use Rattle.formula.specs.Formula.{formula}
use Rattle.term.specs.Term.{conflicts}
use Rattle.generalized.specs.Generalized.{generalized, walk_conflicts}
use Rattle.automaton.specs.Tables.{Counts, Outcome, outcome, table_check}
use Rattle.normalform.specs.NormalForm.{normal_form, written_checked}
use Rattle.translation.specs.declared.Translated.{Translated}
use Rattle.std.specs.Prelude.{Result as Returned, Ok, Err}
use Rattle.answer.specs.declared.Refusal.{Refusal}
use Rattle.translation.specs.Degeneralized.{translation}
use Rattle.translation.specs.Translate.{translated}

-- the propositions for which some join is dropped, over the terms of all nodes of a rule and the partial products of all
-- states of its first walk; a refused translation carries none (R-8, sentences 4 and 5)
unfoldable pub rule_conflicts : List ℕ → Result ℕ
rule_conflicts rule =
    and_then (translation rule)
    (λ _. and_then (generalized rule)
    (λ states. accepted (bit_or (conflicts (formula rule)) (walk_conflicts rule states))))

-- of a written rule: those of its negation normal form
unfoldable pub written_conflicts : List ℕ → Result ℕ
written_conflicts rule = and_then (normal_form rule) rule_conflicts

-- what the call carries, or its refusal: 25, then 1 to 6, 26 and 7, then 20 to 24
unfoldable pub translated_conflicts : (rule states transitions initial : List ℕ) → Result ℕ
translated_conflicts rule s t i =
    and_then (and_then (table_check s t i) (λ _. written_checked rule)) (λ _. written_conflicts rule)

-- ---- the call translate

-- the counts of an answer of translate, and its conflicts
abbrev pub told_counts : Returned Translated Refusal → Result Counts
told_counts (Ok t) = accepted t.counts
told_counts (Err r) = refused (reason_number r.reason) r.place

abbrev pub told_conflicts : Returned Translated Refusal → Result ℕ
told_conflicts (Ok t) = accepted t.conflicts
told_conflicts (Err r) = refused (reason_number r.reason) r.place

-- an answer with the three tables afterwards, and the conflicts that it carries
pub record Carried : Type 0 where
  pub tables : Outcome
  pub conflicts : Result ℕ

abbrev pub carried : Outcome → Result ℕ → Carried
carried tables conflicts = record { tables = tables; conflicts = conflicts }

-- what an answer of translate tells, with the tables afterwards
abbrev pub told_with : Returned Translated Refusal → (states transitions initial : List ℕ) → Carried
told_with r s t i = carried (outcome (told_counts r) s t i) (told_conflicts r)

-- what the call comes to: its answer, its place and every lent byte, and the conflicts that it carries
abbrev pub translates : (rule states transitions initial : List ℕ) → Carried
translates rule s t i = carried (translated rule s t i) (translated_conflicts rule s t i)
