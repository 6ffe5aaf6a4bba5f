-- Every refusal of the calls has a number that a byte holds and that is not 0, and a place of at most 12,288: so does
-- each check, and what follows a check is looked at only where it passed. Assumes nothing.
use Prim.Native.Nat.{ℕ, zero, suc, ◌+◌, ◌≤◌, ◌<◌}
use mathlib.Core.Path.{◌≡◌, refl, sym, subst₂}
use mathlib.Core.Bool.{Bool, true, false, ◌&&◌, and-eq-true_iff}
use mathlib.Core.List.{List, [], ◌∷◌, ◌++◌}
use native.Mathlib.Omega.{arith}
use lib.ListN.{get_or, length}
use lib.Dec.{leb, ltb}
use borrow.Author.Tests.{leb-true, ltb-true}
use Rattle.answer.specs.Result.{Result, accepted, refused, and_then, Check, fine, require, lowest}
use Rattle.formula.specs.Rule.{node_count, release_kind, length_check, node_check, place_check, syntax_check}
use Rattle.formula.specs.Rule.{until_check}
use Rattle.formula.specs.Limits.{rule_bytes}
use Rattle.formula.specs.Rule
use Rattle.formula.proofs.Accepted.{formed_fine}
use Rattle.answer.proofs.Lowest.{fine_first}
use Rattle.answer.proofs.Results.{never_both, require_fine, required}
use Rattle.normalform.specs.Written.{written_check}
use Rattle.normalform.specs.NormalForm.{normal_form, written_checked}
use Rattle.normalform.proofs.Passes.{normal_form_passes}
use Rattle.normalform.specs.Normalize.{rule_room, rule_stored, normalizes}
use Rattle.merge.specs.Merge.{conjoined, merge_check, merges}
use Rattle.term.specs.Size.{size_check, sizes_checked}
use Rattle.generalized.specs.Explore.{find, meet, Numbering, meet_all, Walk, explore}
use Rattle.generalized.specs.Generalized.{product_check, generalized}
use Rattle.translation.specs.Degeneralized.{degeneralized, translation}
use Rattle.automaton.specs.Limits.{max_transitions}
use Rattle.automaton.specs.Tables.{Counts, table_check}
use Rattle.translation.specs.Translate.{written_translation, stored, unless, translated}
use Rattle.image.specs.Memory.{Small}
use Rattle.image.specs.Reader.{counts_at, counts_fit, contents_check, state_check, state_pass, states_check}
use Rattle.image.specs.Reader.{rest_check, rests_check, transition_record_check, initial_check, records_check}
use Rattle.image.specs.Reader.{read_tables, read_image}
use Rattle.automaton.specs.Automaton.{State}
use Rattle.image.specs.Calls.{buffer_check, written, read_counted, writes, loaded, read_into}
use Rattle.image.proofs.Tests.{counts_small}
use Rattle.image.proofs.Contents.{contents_fine}
use Rattle.image.proofs.OnePass.{one_pass}
use Rattle.lasso.specs.Lasso.{lasso_check}
use Rattle.sameword.specs.Words.{of_second, lassos_check, compared}
use Rattle.judge.specs.Judge.{judgeable, judged_by, judged}
use Rattle.explain.specs.Call.{explain_check, explained}
use Rattle.explain.specs.Satisfied.{satisfied}
use Rattle.field.specs.Calls.{watchable, unless_refused, begins, advances, started, stepped}
use Rattle.profile.specs.Profile.{no_untils, profile_checked, profile_translated}
use Rattle.demands.specs.Demand.{room_check, input_check, concluded, decided_by, decided}

-- a number that a byte holds, and not 0, ZIMBORALO_ACCEPTED; a place at most the number of an automaton's transitions
pub record Refusal (number place : ℕ) : Type 0 where
  pub some : 0 < number
  pub byte : number < 256
  pub near : place ≤ max_transitions

numbered : {number place : ℕ} → (ltb 0 number && ltb number 256) ≡ true → place ≤ max_transitions → Refusal number place
numbered {number} e le =
    let tests = (and-eq-true_iff (ltb 0 number) (ltb number 256)).0 e in
    record { some = ltb-true 0 number tests.0; byte = ltb-true number 256 tests.1; near = le }

at_most : {place : ℕ} → leb place max_transitions ≡ true → place ≤ max_transitions
at_most {place} e = leb-true place max_transitions e

nearer : {k n : ℕ} → k < n → n ≤ max_transitions → k ≤ max_transitions
nearer lt le = omega arith

-- an answer that is refused in no other way
pub record Proper {A : Type 0} (answer : Result A) : Type 0 where
  pub refusal : (number place : ℕ) → answer ≡ refused number place → Refusal number place

accepts : {A : Type 0} {a : A} → Proper (accepted a)
accepts = record { refusal = λ number place e. never_both (sym e) }

refuses : {A : Type 0} {number place : ℕ} → Refusal number place → Proper {A = A} (refused number place)
refuses {number = number} {place = place} h = record {
  refusal = λ n p e.
      let same_number : number ≡ n = cc in
      let same_place : place ≡ p = cc in
      subst₂ Refusal same_number same_place h;
}

then_proper : {A B : Type 0} (r : Result A) (next : A → Result B) → Proper r
    → ((a : A) → r ≡ accepted a → Proper (next a)) → Proper (and_then r next)
then_proper (accepted a) next p q = q a refl
then_proper (refused number place) next p q = refuses (p.refusal number place refl)

require_proper : (test : Bool) (number place : ℕ) → Refusal number place → Proper (require test number place)
require_proper true number place h = accepts
require_proper false number place h = refuses h

-- an answer by cases on another, whose refusal it keeps
cases_proper : {A B : Type 0} (answer : Result A → Result B) (r : Result A) → Proper r
    → ((a : A) → Proper (answer (accepted a)))
    → ((number place : ℕ) → answer (refused number place) ≡ refused number place) → Proper (answer r)
cases_proper answer (accepted a) p q keeps = q a
cases_proper answer (refused number place) p q keeps =
    rw (keeps number place) (refuses (p.refusal number place refl))

either_proper : {A : Type 0} (test : Bool) (r s : Result A) → Proper r → Proper s
    → Proper {A = A} (elim test [ true ↦ r | false ↦ s ])
either_proper true r s p q = p
either_proper false r s p q = q

lowest_proper : (check : ℕ → Check) (n : ℕ) → ((k : ℕ) → k < n → Proper (check k)) → Proper (lowest check n)
unfolding lowest
lowest_proper check zero each = accepts
lowest_proper check (suc n) each =
    then_proper (lowest check n) (λ _. check n) (lowest_proper check n (λ k lt. each k (omega arith)))
    (λ _ _. each n (omega arith))

-- how a walk numbers
module _ {A : Type 0} (n : Numbering A) (over : (place : ℕ) → place ≤ max_transitions → Refusal n.full place)
    (each-is : (place count : ℕ) → place ≤ max_transitions → Proper (n.each place count)) where
  meet_proper : (place : ℕ) (x : A) (xs : List A) → place ≤ max_transitions
      → Proper (meet n.same n.limit n.full place x xs)
  unfolding meet
  meet_proper place x xs le =
      either_proper (ltb (find n.same x xs) (length xs)) (accepted xs) _ accepts
      (either_proper (ltb (length xs) n.limit) (accepted (xs ++ (x ∷ []))) (refused n.full place) accepts
      (refuses (over place le)))

  meet_all_proper : (place : ℕ) (targets : List A) (count : ℕ) (xs : List A) → place ≤ max_transitions
      → Proper (meet_all n place targets count xs)
  unfolding meet_all
  meet_all_proper place [] count xs le = accepts
  meet_all_proper place (y ∷ ys) count xs le =
      then_proper (n.each place count) _ (each-is place count le)
      (λ _ _. then_proper (meet n.same n.limit n.full place y xs) _ (meet_proper place y xs le)
      (λ more _. meet_all_proper place ys (suc count) more le))

-- a walk, which takes at most its fuel of states
module _ {A : Type 0} (w : Walk A) (over : (place : ℕ) → place ≤ max_transitions → Refusal w.numbering.full place)
    (each-is : (place count : ℕ) → place ≤ max_transitions → Proper (w.numbering.each place count))
    (before-is : (place : ℕ) (x : A) → place ≤ max_transitions → Proper (w.before place x)) where
  explore_proper : (fuel place count : ℕ) (xs : List A) → fuel + place ≤ max_transitions
      → Proper (explore w fuel place count xs)
  unfolding explore
  explore_proper zero place count xs le = accepts
  explore_proper (suc fuel) place count xs le =
      let here = get_or xs place w.none in
      let near : place ≤ max_transitions = omega arith in
      let next : fuel + suc place ≤ max_transitions = omega arith in
      let targets = w.targets here in
      either_proper (ltb place (length xs)) _ (accepted xs)
      (then_proper (w.before place here) _ (before-is place here near)
      (λ _ _. then_proper (meet_all w.numbering place targets count xs) _
      (meet_all_proper w.numbering over each-is place targets count xs near)
      (λ more _. explore_proper fuel (suc place) (count + length targets) more next)))
      accepts

-- the closure laws, for search: a numeral is a refusal's number, or a place, by computation
ruleset proper = (accepts, then_proper, require_proper, lowest_proper, numbered, at_most, nearer, refl)

-- 1 and 2
length_proper : (rule : List ℕ) → Proper (length_check rule)
unfolding length_check
length_proper rule = search proper

-- a rule that 1 lets pass has few nodes
few_nodes : (rule : List ℕ) → length_check rule ≡ fine → node_count rule ≤ max_transitions
unfolding length_check
few_nodes rule e = omega (arith, leb-true (length rule) rule_bytes (required _ 1 0 _ e).0)

-- 3 to 5
node_proper : (highest : ℕ) (rule : List ℕ) (n : ℕ) → n ≤ max_transitions → Proper (node_check highest rule n)
unfolding node_check
node_proper highest rule n le = search proper

-- 6
place_proper : (rule : List ℕ) (n : ℕ) → n ≤ max_transitions → Proper (place_check rule n)
unfolding place_check
place_proper rule n le = search proper

-- 1 to 6
syntax_proper : (highest : ℕ) (rule : List ℕ) → Proper (syntax_check highest rule)
unfolding syntax_check
syntax_proper highest rule =
    then_proper (length_check rule) _ (length_proper rule)
    (λ u e. let few : node_count rule ≤ max_transitions = few_nodes rule e in search (proper, node_proper, place_proper)
    depth 7)

-- 1 to 6 of a written rule, and 26
form_proper : (rule : List ℕ) → Proper (normal_form rule)
unfolding normal_form written_check
form_proper rule = search (proper, syntax_proper)

-- and 7 of its normal form
untils_proper : (rule : List ℕ) → Proper (until_check rule)
unfolding until_check
untils_proper rule = search proper

written_proper : (rule : List ℕ) → Proper (written_checked rule)
unfolding written_checked
written_proper rule = then_proper (normal_form rule) until_check (form_proper rule) (λ form _. untils_proper form)

-- 25, 1 to 6 and 26
pub normalizes_proper : (rule form : List ℕ) → Proper (normalizes rule form).answer
unfolding normalizes
normalizes_proper rule form =
    cases_proper (λ r. (rule_stored r form).answer) (and_then (rule_room form) (λ _. normal_form rule))
    (search (proper, form_proper)) (λ bytes. accepts) (λ number place. refl)

-- 1 to 6 of two rules, 27, and 7 of the merged one
merge_proper : (first second : List ℕ) → Proper (merge_check first second)
unfolding merge_check
merge_proper first second = search (proper, syntax_proper, untils_proper) depth 7

-- 25 first
pub merges_proper : (first second merged : List ℕ) → Proper (merges first second merged).answer
unfolding merges
merges_proper first second merged =
    cases_proper (λ r. (rule_stored r merged).answer)
    (and_then (rule_room merged) (λ _. and_then (merge_check first second) (λ _. accepted (conjoined first second))))
    (search (proper, merge_proper)) (λ bytes. accepts) (λ number place. refl)

-- 1 to 7
rule_proper : (rule : List ℕ) → Proper (Rule.checked rule)
unfolding Rule.checked until_check
rule_proper rule = search (proper, syntax_proper)

-- 20
size_proper : (rule : List ℕ) (n : ℕ) → n ≤ max_transitions → Proper (size_check rule n)
unfolding size_check
size_proper rule n le = search proper

sizes_proper : (rule : List ℕ) → Proper (sizes_checked rule)
unfolding sizes_checked Rule.checked syntax_check
sizes_proper rule =
    then_proper (Rule.checked rule) _ (rule_proper rule)
    (λ u e. let few : node_count rule ≤ max_transitions = few_nodes rule
    (fine_first (length_check rule) _ (fine_first (syntax_check release_kind rule) _ e)) in search
    (proper, size_proper))

-- 21
product_proper : (rule : List ℕ) (place state : ℕ) → place ≤ max_transitions → Proper (product_check rule place state)
unfolding product_check
product_proper rule place state le = search proper

-- 21 to 23
generalized_proper : (rule : List ℕ) → Proper (generalized rule)
unfolding generalized
generalized_proper rule = search (proper, explore_proper, product_proper)

-- 24
degeneralized_proper : (rule states : List ℕ) → Proper (degeneralized rule states)
unfolding degeneralized
degeneralized_proper rule states = search (proper, explore_proper)

-- 1 to 7 and 20 to 24
translation_proper : (rule : List ℕ) → Proper (translation rule)
unfolding translation
translation_proper rule = search (proper, sizes_proper, generalized_proper, degeneralized_proper) depth 7

-- of a written rule: 1 to 7, 26 and 20 to 24
written_translation_proper : (rule : List ℕ) → Proper (written_translation rule)
unfolding written_translation
written_translation_proper rule =
    then_proper (normal_form rule) translation (form_proper rule) (λ form _. translation_proper form)

-- 25, of three tables
tables_proper : (s t i : List ℕ) → Proper (table_check s t i)
unfolding table_check
tables_proper s t i = search proper

-- 20 to 24 of a written rule behind a check
stored_proper : (rule s t i : List ℕ) (check : Check) → Proper check
    → Proper (unless check (stored (written_translation rule) s t i) s t i).answer
unfolding stored
stored_proper rule s t i check first =
    let rest = cases_proper (λ r. (stored r s t i).answer) (written_translation rule) (written_translation_proper rule)
    (λ a. accepts) (λ number place. refl) in
    cases_proper (λ c. (unless c (stored (written_translation rule) s t i) s t i).answer) check first
    (λ u. rest) (λ number place. refl)

-- 25, 1 to 7, 26 and 20 to 24
pub translated_proper : (rule s t i : List ℕ) → Proper (translated rule s t i).answer
unfolding translated
translated_proper rule s t i =
    stored_proper rule s t i (and_then (table_check s t i) (λ _. written_checked rule))
    (search (proper, tables_proper, written_proper))

-- 29 of a normal form
none_proper : (form : List ℕ) → node_count form ≤ max_transitions → Proper (no_untils form)
unfolding no_untils
none_proper form few = search proper

-- 1 to 6 of a written rule, 26, 7 and 29
profile_proper : (rule : List ℕ) → Proper (profile_checked rule)
unfolding profile_checked
profile_proper rule =
    then_proper (normal_form rule) _ (form_proper rule)
    (λ form e. then_proper (until_check form) _ (untils_proper form) (λ _ _. none_proper form (few form e)))
  where
    few : (form : List ℕ) → normal_form rule ≡ accepted form → node_count form ≤ max_transitions
    few form e = omega (arith, (formed_fine release_kind form (normal_form_passes rule form e)).most)

-- 25, 1 to 7, 26, 29 and 20 to 24
pub profile_translated_proper : (rule s t i : List ℕ) → Proper (profile_translated rule s t i).answer
unfolding profile_translated
profile_translated_proper rule s t i =
    stored_proper rule s t i (and_then (table_check s t i) (λ _. profile_checked rule))
    (search (proper, tables_proper, profile_proper))

-- 11
state_proper : (s : List ℕ) (k : ℕ) → k ≤ max_transitions → Proper (state_check s k)
unfolding state_check
state_proper s k le = search proper

pass_proper : (s : List ℕ) (n : ℕ) → n ≤ max_transitions → Proper (state_pass s n)
pass_proper s n le = rw (one_pass s n) (search (proper, state_proper))

rest_proper : (read : List State) (s : List ℕ) (k : ℕ) → k ≤ max_transitions → Proper (rest_check read s k)
unfolding rest_check
rest_proper read s k le = search proper

-- 12
transition_proper : (states : ℕ) (t : List ℕ) (k : ℕ) → k ≤ max_transitions
    → Proper (transition_record_check states t k)
unfolding transition_record_check
transition_proper states t k le = search proper

-- 13
initial_proper : (states : ℕ) (i : List ℕ) (k : ℕ) → k ≤ max_transitions → Proper (initial_check states i k)
unfolding initial_check
initial_proper states i zero le = search proper
initial_proper states i (suc k) le = search proper

-- 11 to 13, of counts that 10 lets pass
records_proper : (c : Counts) (s t i : List ℕ) → Small c → Proper (read_tables c s t i)
unfolding read_tables records_check states_check rests_check
records_proper c s t i small =
    let states : c.states ≤ max_transitions = omega (arith, small.states) in
    let initial : c.initial ≤ max_transitions = omega (arith, small.initial) in
    search (proper, pass_proper, rest_proper, transition_proper, initial_proper, small.transitions) depth 8

-- 10
contents_proper : (image : List ℕ) → Proper (contents_check image)
unfolding contents_check
contents_proper image = search proper

-- 10 to 13
image_proper : (image : List ℕ) → Proper (read_image image)
unfolding read_image
image_proper image =
    then_proper (contents_check image) _ (contents_proper image)
    (λ u e. records_proper (counts_at image) _ _ _ (contents_fine image e).small)

-- 25 and 10 to 13
pub reads_proper : (image s t i : List ℕ) → Proper (read_into image s t i).answer
unfolding read_into
reads_proper image s t i =
    cases_proper (λ r. (loaded r s t i).answer) (and_then (table_check s t i) (λ _. read_image image))
    (search (proper, tables_proper, image_proper)) (λ a. accepts) (λ number place. refl)

-- 25 and 10 to 13, of the field unit
watchable_proper : (image set : List ℕ) → Proper (watchable image set)
unfolding watchable
watchable_proper image set = search (proper, image_proper)

pub started_proper : (image set : List ℕ) → Proper (started image set).answer
unfolding started
started_proper image set =
    cases_proper (λ r. (unless_refused r (λ a. begins a set) set).answer) (watchable image set)
    (watchable_proper image set) (λ a. accepts) (λ number place. refl)

pub stepped_proper : (image set : List ℕ) (x : ℕ) → Proper (stepped image set x).answer
unfolding stepped
stepped_proper image set x =
    cases_proper (λ r. (unless_refused r (λ a. advances a set x) set).answer) (watchable image set)
    (watchable_proper image set) (λ a. accepts) (λ number place. refl)

-- 10 of counts alone, and 11 to 13
counted_proper : (c : Counts) (s t i : List ℕ) → Proper (read_counted c s t i)
counted_proper c s t i =
    then_proper (require (counts_fit c) 10 0) _ (search proper)
    (λ u e. records_proper c s t i (counts_small c (require_fine (counts_fit c) 10 0 e)))

-- 25 and 10 to 13
pub writes_proper : (c : Counts) (s t i image : List ℕ) → Proper (writes c s t i image).answer
unfolding writes
writes_proper c s t i image =
    cases_proper (λ r. (written r image).answer)
    (and_then (table_check s t i) (λ _. and_then (buffer_check image) (λ _. read_counted c s t i)))
    (search (proper, tables_proper, counted_proper) depth 7) (λ a. accepts) (λ number place. refl)

-- 8, 9 and 28
lasso_proper : (stem cycle : List ℕ) → Proper (lasso_check stem cycle)
unfolding lasso_check
lasso_proper stem cycle = search proper

-- 8, 9 and 28, of two lassos
second_proper : (check : Check) → Proper check → Proper (of_second check)
second_proper (accepted u) p = accepts
second_proper (refused number place) p =
    let h = p.refusal number place refl in
    refuses (record { some = h.some; byte = h.byte; near = omega arith })

pub compared_proper : (stem cycle otherStem otherCycle : List ℕ) → Proper (compared stem cycle otherStem otherCycle)
unfolding compared lassos_check
compared_proper stem cycle otherStem otherCycle = search (proper, lasso_proper, second_proper) depth 7

-- 1 to 7, 8, 9 and 28
pub explained_proper : (rule stem cycle : List ℕ) → Proper (explained rule stem cycle)
unfolding explained explain_check
explained_proper rule stem cycle = search (proper, rule_proper, lasso_proper) depth 7

-- of a written rule: 1 to 7, 26, 8, 9 and 28
pub satisfied_proper : (rule stem cycle : List ℕ) → Proper (satisfied rule stem cycle)
unfolding satisfied
satisfied_proper rule stem cycle =
    then_proper (normal_form rule) _ (form_proper rule)
    (λ form _. then_proper (explained form stem cycle) _ (explained_proper form stem cycle) (λ _ _. accepts))

-- 25, 10 to 13, 8, 9 and 28
pub judged_proper : (image stem cycle work : List ℕ) → Proper (judged image stem cycle work).answer
unfolding judged judgeable
judged_proper image stem cycle work =
    cases_proper (λ r. (judged_by r stem cycle work).answer) (judgeable image stem cycle work)
    (search (proper, image_proper, lasso_proper) depth 7) (λ a. accepts) (λ number place. refl)

-- 25, 1 to 9, 26, 28 and 20 to 24
pub decided_proper : (rule stem cycle s t i image work : List ℕ)
    → Proper (decided rule stem cycle s t i image work).answer
unfolding decided input_check room_check table_check
decided_proper rule stem cycle s t i image work =
    let made = concluded (written_translation rule) stem cycle s t i image work in
    let rest = cases_proper (λ r. (concluded r stem cycle s t i image work).answer) (written_translation rule)
    (written_translation_proper rule) (λ a. accepts) (λ number place. refl) in
    cases_proper (λ check. (decided_by check made s t i image work).answer)
    (input_check rule stem cycle s t i image work) (search (proper, written_proper, lasso_proper) depth 7)
    (λ u. rest) (λ number place. refl)
