-- Dropping transitions changes no verdict: a rule's automaton, with dropping as without, has an accepting pass exactly
-- on the lassos that satisfy the rule. Assumes nothing.
use Prim.Native.Nat.{ℕ, ◌<◌}
use mathlib.Core.Path.{◌≡◌}
use mathlib.Core.Logic.Iff
use mathlib.Core.Logic.{◌↔◌}
use mathlib.Core.List.{List}
use lib.ListN.{length}
use Rattle.answer.specs.Result.{Result, accepted}
use Rattle.generalized.specs.Generalized.{state_terms}
use Rattle.automaton.specs.Automaton.{Automaton, AcceptingPass}
use Rattle.translation.specs.Degeneralized.{translation}
use Rattle.correctness.proofs.Listing.{translation_by}
use Rattle.correctness.proofs.Represented.{terms_represent}
use Rattle.correctness.proofs.AcceptingPass.{pass_iff_satisfied_by, form_pass_iff_satisfied}

-- the translation without R-1's dropping: a state's transitions are all terms of its last partial product
abbrev pub undropped : List ℕ → Result Automaton
undropped rule = translation_by rule (state_terms rule)

-- Dropping changes no verdict (R-1): on a lasso (document 01: plan) of any length whose cycle is not empty, the automaton
-- a of a first-edition rule, as every normal form is, has an accepting pass if and only if b has one, the automaton of
-- the rule without dropping. So a plan keeps the same rules as before dropping, where both translations are accepted.
pub dropping_changes_no_verdict : (rule stem cycle : List ℕ) (a b : Automaton)
    → translation rule ≡ accepted a → undropped rule ≡ accepted b → 0 < length cycle
    → AcceptingPass a stem cycle ↔ AcceptingPass b stem cycle
dropping_changes_no_verdict rule stem cycle a b dropped whole pos =
    Iff.trans (form_pass_iff_satisfied rule stem cycle a dropped pos)
    (Iff.symm
    (pass_iff_satisfied_by rule stem cycle (state_terms rule) (terms_represent rule) b whole pos))
