-- The second walk over codes is the second walk over pairs, and the records made of the codes are the automaton's.
-- Assumes nothing.
use mathlib.Core.Path.{◌≡◌, refl, sym, ap, ◌∙◌}
use mathlib.Core.Logic.{inl, inr}
use mathlib.Core.List.{List, [], ◌∷◌, map, map-map, append-nil}
use mathlib.Core.Bool.{Bool, false, ◌&&◌}
use Prim.Native.Nat.{ℕ, suc, ◌+◌, ◌*◌, ◌/◌, ◌%◌, ◌≤◌, ◌<◌}
use native.Mathlib.Decide.{ℕ_discrete}
use native.Mathlib.Omega.{arith}
use lib.ListN.{length, get_or, take, length-map}
use lib.Dec.{eqb}
use borrow.Author.Tests.{eqb-true, eq-eqb, ne_eqb}
use Rattle.answer.specs.Result.{accepted, refused, fine}
use Rattle.answer.specs.Bytes.{two_bytes, filled}
use Rattle.sets.specs.Sets.{In, any}
use Rattle.sets.proofs.Members.{at_in, any_map}
use Rattle.formula.specs.Limits.{max_untils}
use Rattle.term.specs.Term.{Term}
use Rattle.term.specs.Size.{sizes_checked}
use Rattle.generalized.specs.Explore.{find, walked}
use Rattle.generalized.specs.Generalized.{transitions}
use Rattle.acceptance.specs.Acceptance.{until_count}
use Rattle.automaton.specs.Automaton.{Transition, State, Automaton, free_to, at_rest}
use Rattle.automaton.specs.Limits.{max_states}
use Rattle.automaton.specs.Records.{records, numbered, numbered_records, state_bytes, state_record, transition_record}
use Rattle.automaton.specs.Records.{state_records, transition_records, initial_records}
use Rattle.automaton.specs.Tables.{transition_count, counts, outcome}
use Rattle.automaton.proofs.Records.{transitions_count}
use Rattle.translation.specs.Degeneralized.{Pair, pair, same_pair, numbers, initial_numbers, next_level}
use Rattle.translation.specs.Degeneralized.{pair_transitions, target, pair_walk, degeneralized, transition_of, state_of}
use Rattle.translation.specs.Degeneralized.{translation}
use Rattle.generalized.specs.Memory.{kept, kept_target}
use Rattle.generalized.proofs.Kept.{Parts}
use Rattle.translation.specs.Memory.{row, level_places, code_of, pair_of, target_n, targets_n, code_numbering}
use Rattle.translation.specs.Memory.{code_walk}
use Rattle.translation.specs.Memory.{stays_n, pair_bytes, transition_n, row_n, rows_n, FirstWalk, Within, PairRows}
use Rattle.translation.specs.Memory.{AddsRecords, AddedRows, Filled}
use Rattle.translation.proofs.Levels.{target_state, target_level, next_level_is}
use Rattle.generalized.proofs.Explored.{find_at, Explored, walk_explored}
use Rattle.generalized.proofs.Passed.{initial_few}
use Rattle.acceptance.proofs.Gathering.{untils_few}
use Rattle.term.proofs.Sizes.{bytes_fine}
use Rattle.translation.proofs.Mapped.{mapped, find_map, explore_map}
use Rattle.translation.proofs.FirstWalk.{count_is, rows_of, row_is, parts_of, row_leads, initial_states}
use Rattle.translation.proofs.Pairing.{targets_within}
use Rattle.translation.proofs.Codes.{numbers_length, starts, starts_within, starts_once}
use Rattle.answer.proofs.Filling.{filled_as}

-- the state and the level of a code
abbrev state_n : ℕ → ℕ
state_n code = code / level_places

abbrev level_n : ℕ → ℕ
level_n code = code % level_places

-- two codes are the same where their pairs are
same_codes : (x y : ℕ) → same_pair (pair_of x) (pair_of y) ≡ eqb x y
same_codes x y = pick (ℕ_discrete x y)
  where
    pick : Dec (x ≡ y) → eqb (state_n x) (state_n y) && eqb (level_n x) (level_n y) ≡ eqb x y
    pick (yes e) = rw (e, eq-eqb (state_n y) (state_n y) refl, eq-eqb (level_n y) (level_n y) refl, eq-eqb y y refl)
    pick (no n) = rw (ne_eqb x y n) (states (ℕ_discrete (state_n x) (state_n y)))
      where
        states : Dec (state_n x ≡ state_n y) → eqb (state_n x) (state_n y) && eqb (level_n x) (level_n y) ≡ false
        states (yes e) =
            rw (eq-eqb (state_n x) (state_n y) e) (ne_eqb (level_n x) (level_n y) (λ f. n (omega arith)))
        states (no m) = rw (ne_eqb (state_n x) (state_n y) m)

-- records of the same bytes
records_same : {A B : Type 0} (f : A → List ℕ) (g : B → List ℕ) (h : A → B) (ys : List A)
    → ((x : A) → In x ys → f x ≡ g (h x)) → records f ys ≡ records g (map h ys)
unfolding records
records_same f g h [] same = refl
records_same f g h (x ∷ ys) same = rw (same x (inl refl), records_same f g h ys (λ y m. same y (inr m)))

-- and where each knows its number
numbered_same : {A B : Type 0} (f : ℕ → A → List ℕ) (g : ℕ → B → List ℕ) (h : A → B) (none : A) (from : ℕ)
    (ys : List A)
    → ((i : ℕ) → i < length ys → f (from + i) (get_or ys i none) ≡ g (from + i) (h (get_or ys i none)))
    → numbered_records f from ys ≡ numbered_records g from (map h ys)
unfolding records numbered
numbered_same f g h none from [] same = refl
numbered_same f g h none from (x ∷ ys) same =
    let first : from + 0 ≡ from = omega arith in
    let next : (i : ℕ) → from + suc i ≡ suc from + i = λ i. omega arith in
    let later = numbered_same f g h none (suc from) ys (λ i l. rw (← next i) (same (suc i) (omega arith))) in
    rw (rw first at (same 0 (omega arith)), later)

map_same : {A B : Type 0} (f g : A → B) (ys : List A) → ((x : A) → In x ys → f x ≡ g x) → map f ys ≡ map g ys
map_same f g [] same = refl
map_same f g (x ∷ ys) same = rw (same x (inl refl), map_same f g ys (λ y m. same y (inr m)))

starts_are : (ns : List ℕ) → map (λ i. pair i 0) ns ≡ map pair_of (map (λ i. code_of i 0) ns)
starts_are [] = refl
starts_are (i ∷ ns) =
    let s : state_n (code_of i 0) ≡ i = omega arith in
    let l : level_n (code_of i 0) ≡ 0 = omega arith in
    rw (s, l, starts_are ns)

-- ---- the first walk's tables, and what the code has found when the walk over the pairs begins

pub record Begun (rule : List ℕ) (initial : ℕ) (kepts ends : List ℕ) (r : ℕ) (first : List ℕ) : Type 0 where
  pub passed : sizes_checked rule ≡ fine
  pub walked_first : FirstWalk rule initial kepts ends
  pub levels : r ≡ until_count rule
  pub start : first ≡ starts initial

module _ {rule : List ℕ} {initial : ℕ} {kepts ends : List ℕ} {r : ℕ} {first : List ℕ}
    (b : Begun rule initial kepts ends r first) where
  abbrev states : List ℕ
  states = b.walked_first.states

  abbrev n : ℕ
  n = length b.walked_first.states

  few_untils : r ≤ max_untils
  few_untils = rw b.levels (untils_few rule (bytes_fine rule b.passed))

  closed_are : (s : ℕ) → s < n → (x : ℕ) → In x (row ends kepts s) → kept_target x < n
  closed_are s lt = row_leads rule b.passed b.walked_first s lt

  rows_over : (codes : List ℕ) → Within n codes → PairRows ends kepts r codes
  rows_over codes within = record {
    listed = record { states = n; rows = rows_of rule b.passed b.walked_first; within = within };
    size = b.walked_first.room;
    levels = few_untils;
    closed = closed_are;
  }

  module _ (code : ℕ) (lt : state_n code < n) where
    abbrev own : List Term
    own = transitions rule (get_or states (state_n code) 0)

    own_row : row ends kepts (state_n code) ≡ map (kept rule states) own
    own_row = row_is rule b.passed b.walked_first (state_n code) lt

    -- the code of the pair that the transition t leads to
    abbrev target_of : Term → ℕ
    target_of t = target_n r (level_n code) (kept rule states t)

    module _ (t : Term) (h : In t own) where
      parts : Parts rule states t
      parts = parts_of rule b.passed b.walked_first (state_n code) lt t h

      target_is : pair_of (target_of t) ≡ target rule states (pair_of code) t
      unfolding target
      target_is =
          let s : state_n (target_of t) ≡ find eqb t.obligations states =
          target_state r (level_n code) (kept rule states t) few_untils ∙ parts.target in
          let l : level_n (target_of t) ≡ next_level rule (level_n code) t =
          target_level r (level_n code) (kept rule states t) few_untils
          ∙ rw (parts.untils, b.levels) (next_level_is rule t (level_n code)) in
          rw (s, l)

    targets_are : (pair_walk rule states).targets (pair_of code) ≡ map pair_of (targets_n ends kepts r code)
    unfolding pair_transitions
    targets_are =
        sym (map_same (λ t. pair_of (target_of t)) (target rule states (pair_of code)) own target_is)
        ∙ sym (map-map (λ x. pair_of (target_n r (level_n code) x)) (kept rule states) own)
        ∙ ap (map (λ x. pair_of (target_n r (level_n code) x))) (sym own_row)
        ∙ sym (map-map pair_of (target_n r (level_n code)) (row ends kepts (state_n code)))

    keeps_within : Within n (targets_n ends kepts r code)
    keeps_within = targets_within ends kepts r n few_untils closed_are code lt

  first_within : Within n first
  first_within =
      let least = initial_states rule b.passed b.walked_first in
      rw b.start (starts_within initial n (omega (arith, b.walked_first.begun, least)))

  first_few : length first ≤ max_states
  first_few =
      let size = length-map (numbers initial) (λ i. code_of i 0) ∙ numbers_length initial in
      rw b.start (omega (arith, size, b.walked_first.begun, initial_few rule b.passed))

  pub first_rows : PairRows ends kepts r first
  first_rows = rows_over first first_within

  walk_is : degeneralized rule states ≡ mapped pair_of (walked (code_walk ends kepts r) first)
  unfolding degeneralized initial_numbers
  walk_is =
      rw (← b.walked_first.begun, starts_are (numbers initial), ← b.start)
      (explore_map code_numbering same_pair pair_of same_codes 0 (λ code. state_n code < n) (targets_n ends kepts r)
      (pair_walk rule states).targets targets_are keeps_within max_states 0 0 first first_within)

  -- ---- what the walk over the pairs comes to

  pub walk_stopped : {number at : ℕ} → walked (code_walk ends kepts r) first ≡ refused number at
      → translation rule ≡ refused number at
  unfolding translation
  walk_stopped full = rw (b.passed, b.walked_first.found, walk_is, full)

  -- the walk is done: codes are numbered, and the records of written transitions are in the table that was t
  module _ {t : List ℕ} {written : ℕ} {codes table : List ℕ}
      (done : AddedRows (walked (code_walk ends kepts r) first) (rows_n ends kepts r) t 0 written codes table) where
    whole : Explored (code_walk ends kepts r) 0 first codes
    whole = walk_explored (code_walk ends kepts r) eqb-true (λ x. eq-eqb x x refl) first_few done.are

    codes_within : Within n codes
    codes_within = whole.every (λ code. state_n code < n) keeps_within first_within

    pub all_rows : PairRows ends kepts r codes
    all_rows = rows_over codes codes_within

    -- the pairs by number, and each of them as a state of the automaton
    abbrev pairs_are : List Pair
    pairs_are = map pair_of codes

    abbrev made : ℕ → State
    made code = state_of rule states pairs_are (pair_of code)

    -- a transition of the pair that has a code: its record, by what the first walk kept of it, and as the automaton's
    abbrev bytes : (code : ℕ) → Term → List ℕ
    bytes code u = transition_n codes r (level_n code) (kept rule states u)

    abbrev moved : (code : ℕ) → Term → Transition
    moved code = transition_of rule states pairs_are (pair_of code)

    number_is : (code : ℕ) (inside : state_n code < n) (u : Term) → In u (own code inside)
        → find eqb (target_of code inside u) codes ≡ (moved code u).target
    number_is code inside u h =
        sym (find_map code_numbering same_pair pair_of same_codes (target_of code inside u) codes)
        ∙ rw (target_is code inside u h)

    row_bytes : (code : ℕ) → In code codes
        → row_n ends kepts r codes code ≡ records transition_record (made code).transitions
    unfolding state_of pair_transitions transition_record
    row_bytes code m =
        ap (records (transition_n codes r (level_n code))) (own_row code inside)
        ∙ sym (records_same (bytes code) (transition_n codes r (level_n code)) (kept rule states) own_terms
        (λ u _. refl))
        ∙ records_same (bytes code) transition_record (moved code) own_terms each
      where
        inside : state_n code < n
        inside = codes_within code m

        own_terms : List Term
        own_terms = own code inside

        each : (u : Term) → In u (own code inside) → bytes code u ≡ transition_record (moved code u)
        each u h =
            rw ((parts code inside u h).must, (parts code inside u h).must_not, number_is code inside u h)

    -- a pair leads to itself where it leads to its own number
    own_number : (i : ℕ) → i < length codes → (x : ℕ) → eqb x (get_or codes i 0) ≡ eqb (find eqb x codes) i
    own_number i lt x = pick (ℕ_discrete x (get_or codes i 0))
      where
        pick : Dec (x ≡ get_or codes i 0) → eqb x (get_or codes i 0) ≡ eqb (find eqb x codes) i
        pick (yes e) =
            let number = ap (λ (y : ℕ). find eqb y codes) e ∙ whole.once (rw b.start (starts_once initial)) i lt in
            rw (eq-eqb x (get_or codes i 0) e) (sym (eq-eqb (find eqb x codes) i number))
        pick (no ne) =
            rw (ne_eqb x (get_or codes i 0) ne)
            (sym (ne_eqb (find eqb x codes) i
            (λ e. ne (sym (find_at eqb eqb-true 0 x codes (rw e lt)) ∙ ap (λ (k : ℕ). get_or codes k 0) e))))

    -- what is free and stays in the code's eyes is so in the automaton's
    stays_is : (i : ℕ) → i < length codes → (inside : state_n (get_or codes i 0) < n) (u : Term)
        → In u (own (get_or codes i 0) inside)
        → stays_n r (get_or codes i 0) (kept rule states u) ≡ free_to i (moved (get_or codes i 0) u)
    stays_is i lt inside u h =
        let code = get_or codes i 0 in
        rw (
          (parts code inside u h).must,
          (parts code inside u h).must_not,
          own_number i lt (target_of code inside u),
          number_is code inside u h,
        )

    state_is : (i : ℕ) → i < length codes
        → pair_bytes ends kepts r i (get_or codes i 0) ≡ state_record i (made (get_or codes i 0))
    unfolding state_record state_of pair_transitions at_rest
    state_is i lt =
        let code = get_or codes i 0 in
        let inside = codes_within code (at_in 0 codes i lt) in
        let own_terms = own code inside in
        let free : Term → Bool = λ u. free_to i (moved code u) in
        let stays = any_map (kept rule states) (stays_n r code) free own_terms (stays_is i lt inside) in
        let frees = any_map (moved code) (free_to i) free own_terms (λ u _. refl) in
        rw (
          own_row code inside,
          count_is rule b.passed b.walked_first (state_n code) inside,
          length-map,
          stays,
          frees,
        ) (ap (λ (q : ℕ). state_bytes (length own_terms) (eqb (level_n code) q)
        (eqb (level_n code) q && any free own_terms))
        b.levels)

    abbrev automaton : Automaton
    automaton = record { states = map (state_of rule states pairs_are) pairs_are; initial = initial_numbers rule }

    walk_accepted : translation rule ≡ accepted automaton
    unfolding translation
    walk_accepted = rw (b.passed, b.walked_first.found, walk_is, done.are)

    states_are : numbered_records (pair_bytes ends kepts r) 0 codes ≡ state_records automaton
    unfolding state_records
    states_are =
        rw (map-map (state_of rule states pairs_are) pair_of codes)
        (numbered_same (pair_bytes ends kepts r) state_record made 0 0 codes
        (λ i l. let e : 0 + i ≡ i = omega arith in rw e (state_is i l)))

    transitions_are : records (row_n ends kepts r codes) codes ≡ transition_records automaton
    unfolding transition_records
    transitions_are =
        rw (map-map (state_of rule states pairs_are) pair_of codes)
        (records_same (row_n ends kepts r codes) (λ s. records transition_record s.transitions) made codes row_bytes)

    initial_is : records two_bytes (numbers initial) ≡ initial_records automaton
    unfolding initial_records initial_numbers
    initial_is = rw b.walked_first.begun

    transitions_total : length (transition_records automaton) ≡ transition_count automaton.states * 4
    unfolding transition_records
    transitions_total = transitions_count automaton.states

    rows_written : AddsRecords t 0 (transition_records automaton) table written
    rows_written = rw (← transitions_are) (rw append-nil at (done.written []))

    counted : {count : ℕ} → count ≡ length codes
        → record { states = count; transitions = written; initial = initial } ≡ counts automaton
    unfolding initial_numbers
    counted {count} codes_many =
        let states_many =
        codes_many ∙ sym (length-map pairs_are (state_of rule states pairs_are) ∙ length-map codes pair_of) in
        let many : written ≡ transition_count automaton.states =
        omega (arith, rows_written.count, transitions_total) in
        let initial_many : initial ≡ length automaton.initial =
        sym (rw (← b.walked_first.begun) (numbers_length initial)) in
        λ k. record { states = states_many k; transitions = many k; initial = initial_many k }

    -- tables filled with these records have the automaton
    pub written_is : length table ≡ length t → {given : List ℕ} → given ≡ codes → {s i s' t' i' : List ℕ}
        → s' ≡ filled s (numbered_records (pair_bytes ends kepts r) 0 given)
        → t' ≡ filled table (take (written * 4) table)
        → i' ≡ filled i (records two_bytes (numbers initial))
        → Filled (translation rule) (record { states = length given; transitions = written; initial = initial })
        s t i s' t' i'
    written_is same given_is {s} {i} {s'} {t'} {i'} es et ei =
        let bytes = transition_records automaton in
        let states_stored = rw given_is at es ∙ ap (filled s) states_are in
        let transitions_stored = filled_as t table t' bytes (written * 4) rows_written.front same et in
        let initial_stored = ei ∙ ap (filled i) initial_is in
        let all = counted (ap length given_is) in
        record {
          automaton = automaton;
          are = walk_accepted;
          tables = λ k. outcome (accepted (all k)) (states_stored k) (transitions_stored k) (initial_stored k);
        }
