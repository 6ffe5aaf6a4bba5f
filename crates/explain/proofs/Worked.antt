-- R-11's definitions computed on bytes: what is told, and the part that is handed back, for plans that document 01
-- calls kept or broken, for skipped letters, a clause under an "and", and refusals. Assumes nothing.
use Prim.Native.Nat.{ℕ}
use mathlib.Core.Path.{◌≡◌, refl}
use mathlib.Core.List.{List, [], ◌∷◌, map}
use Rattle.answer.specs.Result.{Result, accepted, refused, lowest}
use Rattle.sets.specs.Sets.{any_below}
use Rattle.lasso.specs.Lasso.{remaining, letter, after, lasso_check}
use Rattle.place.specs.Place.{place_in, place_of}
use Rattle.formula.specs.Rule.{left_operand, one_child, right_operand, length_check, node_check, places, place_check}
use Rattle.formula.specs.Rule.{syntax_check, untils, until_check, checked}
use Rattle.formula.specs.Formula.{trees}
use Rattle.evaluate.specs.Truth.{sweep, truth, true_at}
use Rattle.explain.specs.Explain.{clauses_of, clauses, first_failing, first_broken, first_from, release_break}
use Rattle.explain.specs.Explain.{until_break, break_at, Explanation, kept, broken, never_comes, explanation, part_from}
use Rattle.explain.specs.Call.{explain_check, explained, broken_part}

-- eventually 0, always 0, 0 until 1, 0 release 1 (rows P4, P5, P7 and P8), 0 and next 1, and not 0 as it is written
abbrev eventually : List ℕ
eventually = 1 ∷ 0 ∷ 0 ∷ 2 ∷ 0 ∷ 0 ∷ 7 ∷ 0 ∷ 1 ∷ []

abbrev always : List ℕ
always = 0 ∷ 0 ∷ 0 ∷ 2 ∷ 0 ∷ 0 ∷ 8 ∷ 0 ∷ 1 ∷ []

abbrev until : List ℕ
until = 2 ∷ 0 ∷ 0 ∷ 2 ∷ 1 ∷ 0 ∷ 7 ∷ 0 ∷ 1 ∷ []

abbrev release : List ℕ
release = 2 ∷ 0 ∷ 0 ∷ 2 ∷ 1 ∷ 0 ∷ 8 ∷ 0 ∷ 1 ∷ []

abbrev now_and_next : List ℕ
now_and_next = 2 ∷ 0 ∷ 0 ∷ 2 ∷ 1 ∷ 0 ∷ 6 ∷ 1 ∷ 0 ∷ 4 ∷ 0 ∷ 2 ∷ []

abbrev written : List ℕ
written = 2 ∷ 0 ∷ 0 ∷ 9 ∷ 0 ∷ 0 ∷ []

record Case : Type 0 where
  rule : List ℕ
  stem : List ℕ
  cycle : List ℕ
  tells : Result Explanation
  part : List ℕ

abbrev of : (rule stem cycle : List ℕ) (tells : Result Explanation) (part : List ℕ) → Case
of rule stem cycle tells part = record { rule = rule; stem = stem; cycle = cycle; tells = tells; part = part }

abbrev cases : List Case
cases =
    of eventually (1 ∷ []) (0 ∷ []) (accepted kept) []
    ∷ of eventually [] (0 ∷ []) (accepted (never_comes 2)) []
    ∷ of always [] (1 ∷ []) (accepted kept) []
    ∷ of always (0 ∷ []) (1 ∷ []) (accepted (broken 2 0)) (0 ∷ [])
    ∷ of until (1 ∷ 1 ∷ []) (2 ∷ []) (accepted kept) []
    ∷ of until [] (1 ∷ []) (accepted (never_comes 2)) []
    ∷ of until (1 ∷ 0 ∷ []) (2 ∷ []) (accepted (broken 2 1)) (0 ∷ [])
    ∷ of release [] (2 ∷ []) (accepted kept) []
    ∷ of release (3 ∷ []) (0 ∷ []) (accepted kept) []
    ∷ of release (2 ∷ []) (1 ∷ []) (accepted (broken 2 1)) (1 ∷ [])
    ∷ of release (129 ∷ 2 ∷ []) (131 ∷ 1 ∷ 2 ∷ []) (accepted (broken 2 3)) (1 ∷ 2 ∷ [])
    ∷ of now_and_next (128 ∷ []) (129 ∷ 1 ∷ []) (accepted (broken 2 2)) (1 ∷ [])
    ∷ of written [] (0 ∷ []) (refused 3 1) []
    ∷ of always (0 ∷ []) [] (refused 8 0) []
    ∷ of always (0 ∷ []) (128 ∷ []) (refused 28 0) []
    ∷ []

pub told_of_cases : map (λ c. explained c.rule c.stem c.cycle) cases ≡ map (λ c. c.tells) cases
unfolding lowest any_below remaining letter after lasso_check place_in place_of left_operand one_child right_operand
    length_check
    node_check places place_check syntax_check untils until_check checked trees sweep truth true_at clauses_of clauses
    first_failing first_broken first_from release_break until_break break_at explanation explain_check explained
told_of_cases = refl

pub parts_of_cases : map (λ c. broken_part c.rule c.stem c.cycle) cases ≡ map (λ c. c.part) cases
unfolding lowest any_below remaining letter after lasso_check place_in place_of left_operand one_child right_operand
    length_check
    node_check places place_check syntax_check untils until_check checked trees sweep truth true_at clauses_of clauses
    first_failing first_broken first_from release_break until_break break_at explanation part_from explain_check
    explained
    broken_part
parts_of_cases = refl
