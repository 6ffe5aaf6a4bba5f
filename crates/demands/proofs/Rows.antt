-- The rows P1 to P9 of 01, Watchers to hold against the definitions, four of R-3 and two of R-8 under one theorem: normal
-- form, first walk, conflicts, automaton, given images, verdicts and numbers of pairs of each, computed from the
-- definitions; some lassos have skipped letters (R-9). Assumes nothing.
use Prim.Native.Nat.{ℕ, ◌≤◌}
use mathlib.Core.Path.{◌≡◌, refl, sym, ◌∙◌, ap}
use mathlib.Core.Logic.{inl, inr}
use mathlib.Core.List.{List, [], ◌∷◌, map}
use mathlib.Core.Bool.{Bool, true, false}
use lib.ListN.{length}
use lib.Bits.{bit_or}
use Rattle.sets.specs.Sets.{insert, union, insert_join, insert_joins, insert_product, join_conflicts, product_conflicts}
use Rattle.sets.specs.Sets.{any, In}
use Rattle.answer.specs.Result.{Result, accepted, and_then, fine, lowest}
use Rattle.formula.specs.Rule.{left_operand, one_child, right_operand, length_check, node_check, places, place_check}
use Rattle.formula.specs.Rule.{syntax_check, untils, until_check}
use Rattle.formula.specs.Rule
use Rattle.formula.specs.Formula.{trees, tree, formula}
use Rattle.normalform.specs.Written.{written_check, written_tree}
use Rattle.normalform.specs.NormalForm.{code, below, member, rank, emit, size, normal_bytes, normal_form}
use Rattle.normalform.specs.NormalForm
use Rattle.lasso.specs.Lasso.{remaining, letter, after, lasso_check}
use Rattle.term.specs.Term.{cover, terms, conflicts}
use Rattle.term.specs.Size.{size_check, sizes_checked}
use Rattle.generalized.specs.Explore.{find, meet, meet_all, explore}
use Rattle.acceptance.specs.Acceptance.{shows, fulfils, bits_of, fulfilment}
use Rattle.domination.specs.Domination.{dominates, sift}
use Rattle.generalized.specs.Generalized.{partial_product, transitions, product_check, targets, generalized}
use Rattle.generalized.specs.Generalized.{partial_conflicts, walk_conflicts}
use Rattle.generalized.specs.Memory.{all_transitions}
use Rattle.automaton.specs.Automaton.{Transition, State, Automaton, at_rest}
use Rattle.translation.specs.Degeneralized.{climb, next_level, numbers, initial_numbers, pair_transitions, target}
use Rattle.translation.specs.Degeneralized.{degeneralized, state_of, translation}
use Rattle.translation.specs.Translate.{written_translation}
use Rattle.translation.specs.Conflicts.{rule_conflicts, written_conflicts}
use Rattle.automaton.specs.Records.{records, numbered, state_record, transition_record, state_records}
use Rattle.automaton.specs.Records.{transition_records}
use Rattle.automaton.specs.Records.{initial_records}
use Rattle.answer.specs.Bytes.{two_bytes}
use Rattle.automaton.specs.Tables.{transition_count}
use Rattle.sets.proofs.Members.{All}
use Rattle.image.specs.Image.{entry, contents, image_bytes}
use Rattle.rest.specs.Search
use Rattle.rest.specs.Rest.{up_to, taken, rest_taken, pairs_taken}
use Rattle.judge.specs.Search.{has_accepting_pass}
use Rattle.judge.specs.Judge.{work_bytes, Verdict, kept, broken, Finding, finding, verdict, found, Judgement, judged}
use Rattle.judge.proofs.VerdictIff.{image_judged}
use Rattle.correctness.proofs.WellFormed.{written_well_formed}

-- a lasso and what judging finds: the verdict and how many pairs are taken
pub record Case : Type 0 where
  pub stem : List ℕ
  pub cycle : List ℕ
  pub finds : Finding

-- a rule as it is written, its negation normal form, the obligation sets of the form's first walk and the count of its
-- transitions, the propositions demanded both ways, the automaton, its image if one is given, and what judging finds by it
pub record Row : Type 0 where
  pub rule : List ℕ
  pub form : List ℕ
  pub sets : List ℕ
  pub count : ℕ
  pub conflicts : ℕ
  pub automaton : Automaton
  pub images : List (List ℕ)
  pub cases : List Case

-- what a row says; what judging finds is its answer on the automaton's image, with working bytes enough
pub record Right (row : Row) : Type 0 where
  pub formed : normal_form row.rule ≡ accepted row.form
  pub walked : generalized row.form ≡ accepted row.sets
  pub counted : length (all_transitions row.form row.sets) ≡ row.count
  pub carried : written_conflicts row.rule ≡ accepted row.conflicts
  pub translated : written_translation row.rule ≡ accepted row.automaton
  pub imaged : All (λ image. image_bytes row.automaton ≡ image) row.images
  pub judges : All
      (λ c. (work : List ℕ) → work_bytes ≤ length work
      → (judged (image_bytes row.automaton) c.stem c.cycle work).answer ≡ accepted c.finds)
      row.cases

on : (stem cycle : List ℕ) → Verdict → (pairs : ℕ) → Case
on stem cycle verdict pairs = record { stem = stem; cycle = cycle; finds = finding verdict pairs }

state : Bool → List Transition → State
state accepting ts = record { accepting = accepting; transitions = ts }

transition : (must must_not target : ℕ) → Transition
transition must must_not target = record { must = must; must_not = must_not; target = target }

-- the row of another rule with the same form, so with all else the same
written_as : List ℕ → Row → Row
written_as rule row = record {
  rule = rule;
  form = row.form;
  sets = row.sets;
  count = row.count;
  conflicts = row.conflicts;
  automaton = row.automaton;
  images = row.images;
  cases = row.cases;
}

-- ---- P1 to P9: P1 to P8 are their own forms; P9 has its false at node 3, and in its form the false comes first

p1 : Row
p1 = record {
  rule = 0 ∷ 0 ∷ 0 ∷ [];
  form = 0 ∷ 0 ∷ 0 ∷ [];
  sets = [];
  count = 0;
  conflicts = 0;
  automaton = record { states = []; initial = [] };
  images = [];
  cases = on [] (0 ∷ []) broken 0 ∷ [];
}

p2 : Row
p2 = record {
  rule = 1 ∷ 0 ∷ 0 ∷ [];
  form = 1 ∷ 0 ∷ 0 ∷ [];
  sets = 0 ∷ [];
  count = 1;
  conflicts = 0;
  automaton = record { states = state true (transition 0 0 0 ∷ []) ∷ []; initial = 0 ∷ [] };
  images = [];
  cases = [];
}

p3 : Row
p3 = record {
  rule = 2 ∷ 0 ∷ 0 ∷ [];
  form = 2 ∷ 0 ∷ 0 ∷ [];
  sets = 1 ∷ 0 ∷ [];
  count = 2;
  conflicts = 0;
  automaton = record {
    states = state true (transition 1 0 1 ∷ []) ∷ state true (transition 0 0 1 ∷ []) ∷ [];
    initial =
        0 ∷ [];
  };
  images = (1 ∷ 0 ∷ 2 ∷ 0 ∷ 18 ∷ 0 ∷ 2 ∷ 0 ∷ 2 ∷ 0 ∷ 26 ∷ 0 ∷ 3 ∷ 0 ∷ 1 ∷ 0 ∷ 34 ∷ 0
      ∷ 1 ∷ 0 ∷ 1 ∷ 0 ∷ 1 ∷ 0 ∷ 1 ∷ 1 ∷ 1 ∷ 0 ∷ 1 ∷ 0 ∷ 0 ∷ 0 ∷ 1 ∷ 0 ∷ 0 ∷ 0 ∷ []) ∷ [];
  cases = [];
}

p4 : Row
p4 = record {
  rule = 1 ∷ 0 ∷ 0 ∷ 2 ∷ 0 ∷ 0 ∷ 7 ∷ 0 ∷ 1 ∷ [];
  form = 1 ∷ 0 ∷ 0 ∷ 2 ∷ 0 ∷ 0 ∷ 7 ∷ 0 ∷ 1 ∷ [];
  sets = 4 ∷ 0 ∷ [];
  count = 3;
  conflicts = 0;
  automaton = record {
    states = state false (transition 1 0 1 ∷ transition 0 0 0 ∷ []) ∷ state true
        (transition 0 0 1 ∷ []) ∷ [];
    initial = 0 ∷ [];
  };
  images = [];
  -- then the same two with skipped letters, whatever their other bits (R-9)
  cases =
      on (1 ∷ []) (0 ∷ []) kept 2 ∷ on [] (0 ∷ []) broken 1
      ∷ on (128 ∷ 1 ∷ []) (255 ∷ 0 ∷ []) kept 2 ∷ on (129 ∷ []) (0 ∷ []) broken 1 ∷ [];
}

p5 : Row
p5 = record {
  rule = 0 ∷ 0 ∷ 0 ∷ 2 ∷ 0 ∷ 0 ∷ 8 ∷ 0 ∷ 1 ∷ [];
  form = 0 ∷ 0 ∷ 0 ∷ 2 ∷ 0 ∷ 0 ∷ 8 ∷ 0 ∷ 1 ∷ [];
  sets = 4 ∷ [];
  count = 1;
  conflicts = 0;
  automaton = record { states = state true (transition 1 0 0 ∷ []) ∷ []; initial = 0 ∷ [] };
  images = [];
  cases = on [] (1 ∷ []) kept 1 ∷ on (0 ∷ []) (1 ∷ []) broken 1 ∷ [];
}

p6 : Row
p6 = record {
  rule = 2 ∷ 0 ∷ 0 ∷ 6 ∷ 0 ∷ 0 ∷ [];
  form = 2 ∷ 0 ∷ 0 ∷ 6 ∷ 0 ∷ 0 ∷ [];
  sets = 2 ∷ 1 ∷ 0 ∷ [];
  count = 3;
  conflicts = 0;
  automaton = record {
    states = state true (transition 0 0 1 ∷ []) ∷ state true (transition 1 0 2 ∷ []) ∷ state true
        (transition 0 0 2 ∷ []) ∷ [];
    initial = 0 ∷ [];
  };
  images = [];
  -- then the same two with skipped letters, which take no place (R-9)
  cases =
      on [] (1 ∷ []) kept 3 ∷ on [] (1 ∷ 0 ∷ []) broken 2
      ∷ on (128 ∷ []) (128 ∷ 1 ∷ []) kept 3 ∷ on [] (1 ∷ 129 ∷ 0 ∷ []) broken 2 ∷ [];
}

p7 : Row
p7 = record {
  rule = 2 ∷ 0 ∷ 0 ∷ 2 ∷ 1 ∷ 0 ∷ 7 ∷ 0 ∷ 1 ∷ [];
  form = 2 ∷ 0 ∷ 0 ∷ 2 ∷ 1 ∷ 0 ∷ 7 ∷ 0 ∷ 1 ∷ [];
  sets = 4 ∷ 0 ∷ [];
  count = 3;
  conflicts = 0;
  automaton = record {
    states = state false (transition 2 0 1 ∷ transition 1 0 0 ∷ []) ∷ state true
        (transition 0 0 1 ∷ []) ∷ [];
    initial = 0 ∷ [];
  };
  images = [];
  cases = on (1 ∷ 1 ∷ []) (2 ∷ []) kept 4 ∷ on [] (1 ∷ []) broken 1 ∷ [];
}

p8 : Row
p8 = record {
  rule = 2 ∷ 0 ∷ 0 ∷ 2 ∷ 1 ∷ 0 ∷ 8 ∷ 0 ∷ 1 ∷ [];
  form = 2 ∷ 0 ∷ 0 ∷ 2 ∷ 1 ∷ 0 ∷ 8 ∷ 0 ∷ 1 ∷ [];
  sets = 4 ∷ 0 ∷ [];
  count = 3;
  conflicts = 0;
  automaton = record {
    states = state true (transition 3 0 1 ∷ transition 2 0 0 ∷ []) ∷ state true
        (transition 0 0 1 ∷ []) ∷ [];
    initial = 0 ∷ [];
  };
  images = [];
  cases = on [] (2 ∷ []) kept 1 ∷ on (3 ∷ []) (0 ∷ []) kept 2 ∷ on (2 ∷ []) (1 ∷ []) broken 2 ∷ [];
}

p9 : Row
p9 = record {
  rule = 1 ∷ 0 ∷ 0 ∷ 2 ∷ 0 ∷ 0 ∷ 7 ∷ 0 ∷ 1 ∷ 0 ∷ 0 ∷ 0 ∷ 8 ∷ 3 ∷ 2 ∷ [];
  form = 0 ∷ 0 ∷ 0 ∷ 1 ∷ 0 ∷ 0 ∷ 2 ∷ 0 ∷ 0 ∷ 7 ∷ 1 ∷ 2 ∷ 8 ∷ 0 ∷ 3 ∷ [];
  sets = 16 ∷ 24 ∷ [];
  count = 4;
  conflicts = 0;
  automaton = record {
    states =
        state false (transition 1 0 1 ∷ transition 0 0 2 ∷ []) ∷ state true (transition 1 0 1 ∷ transition 0 0 2 ∷ [])
        ∷ state false (transition 1 0 1 ∷ transition 0 0 2 ∷ []) ∷ [];
    initial = 0 ∷ [];
  };
  images = [];
  cases = [];
}

-- ---- rows of R-3: none is its own form

-- eventually proposition 0, always it, and always eventually it
p4_written : Row
p4_written = written_as (2 ∷ 0 ∷ 0 ∷ 12 ∷ 0 ∷ 0 ∷ []) p4

p5_written : Row
p5_written = written_as (2 ∷ 0 ∷ 0 ∷ 11 ∷ 0 ∷ 0 ∷ []) p5

p9_written : Row
p9_written = written_as (2 ∷ 0 ∷ 0 ∷ 12 ∷ 0 ∷ 0 ∷ 11 ∷ 1 ∷ 0 ∷ []) p9

-- always, if proposition 0 then proposition 1 (if open then padded): a false comes first, then proposition 0 negated,
-- proposition 1 as it stands, their or, and the release
if_open_padded : Row
if_open_padded = record {
  rule = 2 ∷ 0 ∷ 0 ∷ 2 ∷ 1 ∷ 0 ∷ 10 ∷ 0 ∷ 1 ∷ 11 ∷ 2 ∷ 0 ∷ [];
  form = 0 ∷ 0 ∷ 0 ∷ 3 ∷ 0 ∷ 0 ∷ 2 ∷ 1 ∷ 0 ∷ 5 ∷ 1 ∷ 2 ∷ 8 ∷ 0 ∷ 3 ∷ [];
  sets = 16 ∷ [];
  count = 2;
  conflicts = 0;
  automaton = record { states = state true (transition 0 1 0 ∷ transition 2 0 0 ∷ []) ∷ []; initial = 0 ∷ [] };
  images = (1 ∷ 0 ∷ 1 ∷ 0 ∷ 18 ∷ 0 ∷ 2 ∷ 0 ∷ 2 ∷ 0 ∷ 22 ∷ 0 ∷ 3 ∷ 0 ∷ 1 ∷ 0 ∷ 30 ∷ 0
      ∷ 2 ∷ 0 ∷ 1 ∷ 0 ∷ 0 ∷ 1 ∷ 0 ∷ 0 ∷ 2 ∷ 0 ∷ 0 ∷ 0 ∷ 0 ∷ 0 ∷ []) ∷ [];
  cases = on [] (0 ∷ []) kept 1 ∷ on (0 ∷ 3 ∷ []) (2 ∷ 0 ∷ []) kept 4 ∷ on (1 ∷ []) (3 ∷ []) broken 1
      ∷ on (0 ∷ []) (3 ∷ 1 ∷ []) broken 3 ∷ [];
}

-- ---- rows of R-8: proposition 0 is demanded and forbidden

-- at once: the one state has no transition
both_ways : Row
both_ways = record {
  rule = 2 ∷ 0 ∷ 0 ∷ 3 ∷ 0 ∷ 0 ∷ 4 ∷ 0 ∷ 1 ∷ [];
  form = 2 ∷ 0 ∷ 0 ∷ 3 ∷ 0 ∷ 0 ∷ 4 ∷ 0 ∷ 1 ∷ [];
  sets = 3 ∷ [];
  count = 0;
  conflicts = 1;
  automaton = record { states = state true [] ∷ []; initial = 0 ∷ [] };
  images = [];
  cases = on [] (0 ∷ []) broken 1 ∷ on [] (1 ∷ []) broken 1 ∷ [];
}

-- at the next letter: no node joins the two, the second state's product does
both_ways_next : Row
both_ways_next = record {
  rule = 2 ∷ 0 ∷ 0 ∷ 6 ∷ 0 ∷ 0 ∷ 3 ∷ 0 ∷ 0 ∷ 6 ∷ 2 ∷ 0 ∷ 4 ∷ 1 ∷ 3 ∷ [];
  form = 2 ∷ 0 ∷ 0 ∷ 6 ∷ 0 ∷ 0 ∷ 3 ∷ 0 ∷ 0 ∷ 6 ∷ 2 ∷ 0 ∷ 4 ∷ 1 ∷ 3 ∷ [];
  sets = 10 ∷ 5 ∷ [];
  count = 1;
  conflicts = 1;
  automaton = record { states = state true (transition 0 0 1 ∷ []) ∷ state true [] ∷ []; initial = 0 ∷ [] };
  images = [];
  cases = on [] (1 ∷ []) broken 2 ∷ [];
}

pub table : List Row
table = p1 ∷ p2 ∷ p3 ∷ p4 ∷ p5 ∷ p6 ∷ p7 ∷ p8 ∷ p9 ∷ p4_written ∷ p5_written ∷ p9_written ∷ if_open_padded
    ∷ both_ways ∷ both_ways_next ∷ []

-- ---- the whole table, computed

forms : map (λ row. normal_form row.rule) table ≡ map (λ row. accepted row.form) table
unfolding on state transition written_as table p1 p2 p3 p4 p5 p6 p7 p8 p9 p4_written p5_written p9_written
    if_open_padded
    both_ways both_ways_next
    lowest left_operand one_child right_operand length_check node_check places place_check syntax_check trees
    written_check
    written_tree code below NormalForm.entry member rank emit size normal_bytes normal_form
forms = refl

walks : map (λ row. generalized row.form) table ≡ map (λ row. accepted row.sets) table
unfolding on state transition written_as table p1 p2 p3 p4 p5 p6 p7 p8 p9 p4_written p5_written p9_written
    if_open_padded
    both_ways both_ways_next
    insert union insert_join insert_joins insert_product any lowest untils trees tree formula cover terms shows fulfils
    bits_of fulfilment dominates sift find meet meet_all explore partial_product transitions product_check targets
    generalized all_transitions
walks = refl

counts : map (λ row. length (all_transitions row.form row.sets)) table ≡ map (λ row. row.count) table
unfolding on state transition written_as table p1 p2 p3 p4 p5 p6 p7 p8 p9 p4_written p5_written p9_written
    if_open_padded
    both_ways both_ways_next
    insert union insert_join insert_joins insert_product any lowest untils trees tree formula cover terms shows fulfils
    bits_of fulfilment dominates sift find meet meet_all explore partial_product transitions product_check targets
    generalized all_transitions
counts = refl

sets_clash : map (λ row. bit_or (conflicts (formula row.form)) (walk_conflicts row.form row.sets)) table
    ≡ map (λ row. row.conflicts) table
unfolding on state transition written_as table p1 p2 p3 p4 p5 p6 p7 p8 p9 p4_written p5_written p9_written
    if_open_padded
    both_ways both_ways_next
    insert union insert_join insert_joins insert_product join_conflicts product_conflicts trees tree formula cover terms
    conflicts partial_product partial_conflicts walk_conflicts
sets_clash = refl

translations : map (λ row. translation row.form) table ≡ map (λ row. accepted row.automaton) table
unfolding on state transition written_as table p1 p2 p3 p4 p5 p6 p7 p8 p9 p4_written p5_written p9_written
    if_open_padded
    both_ways both_ways_next
    insert union insert_join insert_joins insert_product any lowest left_operand one_child right_operand length_check
    node_check
    places place_check syntax_check untils until_check Rule.checked trees tree formula cover terms size_check
    sizes_checked
    find meet meet_all explore partial_product transitions product_check targets generalized shows fulfils bits_of
    fulfilment dominates sift climb next_level numbers initial_numbers pair_transitions target degeneralized state_of
    translation
translations = refl

images : map (λ row. map (λ image. image_bytes row.automaton) row.images) table ≡ map (λ row. map (λ image. image) row.images) table
unfolding on state transition written_as table p1 p2 p3 p4 p5 p6 p7 p8 p9 p4_written p5_written p9_written
    if_open_padded
    both_ways both_ways_next
    any at_rest transition_count records numbered two_bytes state_record transition_record state_records
    transition_records
    initial_records
    entry contents image_bytes
images = refl

fits : map (λ row. map (λ c. lasso_check c.stem c.cycle) row.cases) table ≡ map (λ row. map (λ c. fine) row.cases) table
unfolding on state transition written_as table p1 p2 p3 p4 p5 p6 p7 p8 p9 p4_written p5_written p9_written
    if_open_padded
    both_ways both_ways_next
    remaining lasso_check
fits = refl

findings :
    map (λ row. map (λ c. found row.automaton (remaining c.stem) (remaining c.cycle)) row.cases) table
    ≡ map (λ row. map (λ c. c.finds) row.cases) table
unfolding on state transition written_as table p1 p2 p3 p4 p5 p6 p7 p8 p9 p4_written p5_written p9_written
    if_open_padded
    both_ways both_ways_next
    remaining letter any at_rest Search.visit Search.visit_all Search.read_targets after Search.onward Search.reach
    Search.reached_from Search.starts up_to taken rest_taken pairs_taken has_accepting_pass verdict
findings = refl

-- ---- each row by itself

same_each : {A B : Type 0} (f g : A → B) (xs : List A) → map f xs ≡ map g xs → (x : A) → In x xs → f x ≡ g x
same_each f g [] e x m = absurd m
same_each f g (y ∷ ys) e x (inl q) =
    let first : f y ≡ g y = cc in
    ap f q ∙ first ∙ ap g (sym q)
same_each f g (y ∷ ys) e x (inr m) =
    let rest : map f ys ≡ map g ys = cc in
    same_each f g ys rest x m

pub rows : All Right table
rows row m = record {
  formed = formed;
  walked = same_each _ _ table walks row m;
  counted = same_each _ _ table counts row m;
  carried = carried;
  translated = translated;
  imaged = same_each _ _ row.images (same_each _ _ table images row m);
  judges = λ c n work enough.
      let fit = same_each _ _ row.cases (same_each _ _ table fits row m) c n in
      ap (λ (j : Judgement). j.answer)
      (image_judged row.automaton (written_well_formed row.rule row.automaton translated) c.stem c.cycle work fit
      enough)
      ∙ ap accepted (same_each _ _ row.cases (same_each _ _ table findings row m) c n);
}
  where
    formed : normal_form row.rule ≡ accepted row.form
    formed = same_each _ _ table forms row m

    made : translation row.form ≡ accepted row.automaton
    made = same_each _ _ table translations row m

    translated : written_translation row.rule ≡ accepted row.automaton
    translated = unfold written_translation in
        ap (λ (form : Result (List ℕ)). and_then form translation) formed ∙ made

    carried : written_conflicts row.rule ≡ accepted row.conflicts
    carried = unfold written_conflicts rule_conflicts in
        rw (formed, made, same_each _ _ table walks row m, same_each _ _ table sets_clash row m)
