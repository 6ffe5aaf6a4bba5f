-- The correctness of the translation: the automaton of an accepted rule is that of its normal form, which says what the
-- rule says; and a form's automaton has an accepting pass exactly on the lassos that satisfy the form, since the first
-- walk's transitions represent each state's terms. Assumes nothing.
use Prim.Native.Nat.{ℕ, ◌<◌}
use mathlib.Core.Path.{◌≡◌, sym, ◌∙◌}
use mathlib.Core.Logic.Iff
use mathlib.Core.Logic.{◌↔◌}
use mathlib.Core.List.{List}
use lib.ListN.{length}
use Rattle.answer.specs.Result.{accepted}
use Rattle.answer.proofs.Results.{then_accepted}
use Rattle.lasso.specs.Lasso.{remaining, letter}
use Rattle.formula.specs.Satisfaction.{Satisfies}
use Rattle.normalform.specs.Written.{SatisfiesWritten}
use Rattle.normalform.specs.NormalForm.{normal_form}
use Rattle.normalform.proofs.Holds.{normal_form_holds}
use Rattle.term.specs.Term.{Term}
use Rattle.generalized.specs.Generalized.{transitions}
use Rattle.automaton.specs.Automaton.{Automaton, AcceptingPass, Recognizes}
use Rattle.translation.specs.Degeneralized.{translation}
use Rattle.translation.specs.Translate.{written_translation}
use Rattle.lasso.proofs.Letters.{letter_round}
use Rattle.automaton.proofs.Passes.{pass_iff}
use Rattle.correctness.proofs.Runs.{Represents}
use Rattle.correctness.proofs.Counting.{endless_iff_holds}
use Rattle.correctness.proofs.Numbering.{pass_iff_endless}
use Rattle.correctness.proofs.Listing.{Listed, automaton_by, translation_by, translated, translation_by_lem}
use Rattle.correctness.proofs.Walks.{numbering}
use Rattle.correctness.proofs.Represented.{transitions_represent}

-- a first-edition rule, as every normal form is, translated by any listing that represents a state's terms
pub pass_iff_satisfied_by : (rule stem cycle : List ℕ) (listing : ℕ → List Term) → Represents rule (Listed listing)
    → (a : Automaton) → translation_by rule listing ≡ accepted a → 0 < length cycle
    → AcceptingPass a stem cycle ↔ Satisfies rule stem cycle
unfolding Satisfies
pass_iff_satisfied_by rule stem cycle listing represents a e pos =
    let round = letter_round stem cycle in
    translated rule listing (λ x. AcceptingPass x stem cycle ↔ Satisfies rule stem cycle)
    (λ passed states first pairs second. Iff.trans (pass_iff (automaton_by rule listing states pairs) stem cycle)
    (Iff.trans
    (pass_iff_endless (letter stem cycle) (numbering rule listing passed states first pairs second)
    (length stem) (length cycle) pos round)
    (endless_iff_holds rule (Listed listing) represents (letter stem cycle) (length stem) (length cycle) pos round)))
    a e

-- the same, translated by the first walk's transitions
pub form_pass_iff_satisfied : (rule stem cycle : List ℕ) (a : Automaton) → translation rule ≡ accepted a
    → 0 < length cycle
    → AcceptingPass a stem cycle ↔ Satisfies rule stem cycle
form_pass_iff_satisfied rule stem cycle a e pos =
    pass_iff_satisfied_by rule stem cycle (transitions rule) (transitions_represent rule) a
    (sym (translation_by_lem rule) ∙ e) pos

-- The demand on the translation: on a lasso of any length whose cycle is not empty, the automaton a of an accepted
-- written rule has an accepting pass if and only if the lasso satisfies the rule as it is written. A rule is accepted if
-- it has a translation: none of 1 to 7, 26 and 20 to 24 refuses it (01, Numbers that come from the input, last sentence;
-- R-3).
pub accepting_pass_iff_satisfied : (rule stem cycle : List ℕ) (a : Automaton) → written_translation rule ≡ accepted a
    → 0 < length cycle → AcceptingPass a stem cycle ↔ SatisfiesWritten rule stem cycle
unfolding written_translation
accepting_pass_iff_satisfied rule stem cycle a e pos =
    let (form, known, translates) = then_accepted (normal_form rule) translation e in
    Iff.trans (form_pass_iff_satisfied form stem cycle a translates pos)
    (normal_form_holds rule form stem cycle known pos)

-- the same of all lassos at once
pub written_recognizes : (rule : List ℕ) (a : Automaton) → written_translation rule ≡ accepted a
    → Recognizes (SatisfiesWritten rule) a
written_recognizes rule a e stem cycle pos = accepting_pass_iff_satisfied rule stem cycle a e pos

-- the same of a lasso as it is lent, of any length, of whose cycle a letter remains: accepting passes, and what
-- satisfies the rule, are over the letters that remain (R-9)
pub remaining_pass_iff_satisfied : (rule stem cycle : List ℕ) (a : Automaton) → written_translation rule ≡ accepted a
    → 0 < length (remaining cycle)
    → AcceptingPass a (remaining stem) (remaining cycle) ↔ SatisfiesWritten rule (remaining stem) (remaining cycle)
remaining_pass_iff_satisfied rule stem cycle a e some =
    written_recognizes rule a e (remaining stem) (remaining cycle) some
