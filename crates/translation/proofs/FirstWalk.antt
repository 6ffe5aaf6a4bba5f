-- The first walk's tables, as the second walk reads them: the row of each state, its transitions and their parts.
-- Assumes nothing.
use mathlib.Core.Path.{◌≡◌, refl, sym, ap, ◌∙◌}
use mathlib.Core.Logic.{inl}
use mathlib.Core.List.{List, [], ◌∷◌, ◌++◌, map, map-append, append_assoc}
use Prim.Native.Nat.{ℕ, zero, suc, ◌+◌, ◌≤◌, ◌<◌}
use native.Mathlib.Omega.{arith}
use lib.ListN.{length, get_or, take, drop, length-append, length-map, take-append-drop}
use lib.Seq.{take-append_seam, drop-append_seam, length-take-le}
use lib.Dec.{eqb}
use borrow.Author.Tests.{eqb-true, eq-eqb}
use Rattle.answer.specs.Result.{fine}
use Rattle.sets.specs.Sets.{In}
use Rattle.sets.proofs.Members.{in_map, map_in, in_append}
use Rattle.formula.specs.Formula.{formula}
use Rattle.term.specs.Term.{Term, cover}
use Rattle.term.specs.Size.{sizes_checked}
use Rattle.generalized.specs.Limits.{max_generalized_states, max_generalized_transitions}
use Rattle.generalized.specs.Explore.{find}
use Rattle.generalized.specs.Generalized.{transitions, targets, state_walk, generalized}
use Rattle.generalized.specs.Memory.{kept, kept_target, all_transitions, Tables}
use Rattle.generalized.proofs.Passed.{initial_few, few_transitions}
use Rattle.generalized.proofs.Explored.{Explored, walk_explored, extends_longer}
use Rattle.generalized.proofs.Walking.{all_append, all_one}
use Rattle.generalized.proofs.Kept.{Parts, kept_parts}
use Rattle.translation.specs.Memory.{row_start, row_count, row, FirstWalk, Ends}

-- ---- the transitions of a list of states

-- those of the state s, with those before and after them
all_split : (rule xs : List ℕ) (s : ℕ) → s < length xs
    → all_transitions rule xs
    ≡ (all_transitions rule (take s xs) ++ transitions rule (get_or xs s 0)) ++ all_transitions rule (drop (suc s) xs)
all_split rule xs s lt =
    ap (all_transitions rule) (sym (take-append-drop (suc s) xs))
    ∙ all_append rule (take (suc s) xs) (drop (suc s) xs)
    ∙ rw (all_one rule xs s lt)

-- a part of a list, by what stands before and after it
part_is : {A : Type 0} (xs pre mid post : List A) → xs ≡ (pre ++ mid) ++ post
    → take (length mid) (drop (length pre) xs) ≡ mid
part_is xs pre mid post e =
    let behind : drop (length pre) xs ≡ mid ++ post =
    rw (e, append_assoc pre mid post) (drop-append_seam pre (mid ++ post)) in
    rw behind (take-append_seam mid post)

-- ---- the tables that the walk leaves

-- what the walk's tables hand over
pub handed : {rule : List ℕ} {initial n m dropped : ℕ} {states kepts ends : List ℕ}
    → length states ≡ max_generalized_states
    → length kepts ≡ max_generalized_transitions → length ends ≡ max_generalized_states
    → Tables rule initial n m dropped states kepts ends → FirstWalk rule initial kepts ends
handed {rule} {n = n} {states = states} size room ends_room t =
    let counted = t.counted in
    record {
      states = take n states;
      found = t.are;
      begun = t.begun;
      room = room;
      ends_room = ends_room;
      most = omega (arith, counted, t.fits);
      listed = rw (← counted) t.listed;
      ending = λ s lt. t.ending s (omega (arith, length-take-le n states (omega (arith, t.few))));
    }

module _ (rule : List ℕ) (passed : sizes_checked rule ≡ fine) {initial : ℕ} {kepts ends : List ℕ}
    (w : FirstWalk rule initial kepts ends) where
  abbrev pub xs : List ℕ
  xs = w.states

  abbrev pub ts : List Term
  ts = all_transitions rule xs

  pub whole : Explored (state_walk rule) 0 (cover (formula rule)) xs
  unfolding generalized
  whole =
      walk_explored (state_walk rule) eqb-true (λ x. eq-eqb x x refl) (omega (arith, initial_few rule passed)) w.found

  -- the initial states are the first
  pub initial_states : length (cover (formula rule)) ≤ length xs
  initial_states = extends_longer whole.extends

  -- the transitions of the states before s, and of s
  abbrev earlier : ℕ → List Term
  earlier s = all_transitions rule (take s xs)

  abbrev own : ℕ → List Term
  own s = transitions rule (get_or xs s 0)

  end_is : (s : ℕ) → s < length xs → get_or ends s 0 ≡ length (earlier s) + length (own s)
  end_is s lt = w.ending s lt ∙ rw (all_one rule xs s lt) (length-append (earlier s) (own s))

  start_is : (s : ℕ) → s < length xs → row_start ends s ≡ length (earlier s)
  unfolding all_transitions
  start_is zero lt = refl
  start_is (suc s) lt = w.ending s (omega arith)

  module _ (s : ℕ) (lt : s < length xs) where
    pub count_is : row_count ends s ≡ length (own s)
    count_is = omega (arith, start_is s lt, end_is s lt)

    pub end_inside : get_or ends s 0 ≤ length ts
    end_inside =
        let later = all_transitions rule (drop (suc s) xs) in
        let whole_length = ap length (all_split rule xs s lt) ∙ length-append (earlier s ++ own s) later in
        omega (arith, end_is s lt, whole_length, length-append (earlier s) (own s))

  pub rows_of : Ends ends (length xs)
  rows_of = record {
    size = w.ends_room;
    states = whole.small;
    rising = λ s lt. omega (arith, start_is s lt, end_is s lt);
    inside = λ s lt. omega (arith, end_inside s lt, w.most);
    few = λ s lt.
        let most = few_transitions rule passed s (get_or xs s 0) (whole.taken s (omega arith) lt).passed in
        omega (arith, count_is s lt, most);
  }

  -- the row of a state has its transitions
  module _ (s : ℕ) (lt : s < length xs) where
    pub row_is : row ends kepts s ≡ map (kept rule xs) (own s)
    row_is =
        let K = kept rule xs in
        let pre = earlier s in
        let post = all_transitions rule (drop (suc s) xs) in
        let front : take (length ts) kepts ≡ (map K pre ++ map K (own s)) ++ map K post =
        w.listed
        ∙ ap (map K) (all_split rule xs s lt)
        ∙ map-append K (pre ++ own s) post
        ∙ ap (λ (l : List ℕ). l ++ map K post) (map-append K pre (own s)) in
        let all : kepts ≡ (map K pre ++ map K (own s)) ++ (map K post ++ drop (length ts) kepts) =
        sym (take-append-drop (length ts) kepts)
        ∙ ap (λ (l : List ℕ). l ++ drop (length ts) kepts) front
        ∙ append_assoc (map K pre ++ map K (own s)) (map K post) (drop (length ts) kepts) in
        let start : row_start ends s ≡ length (map K pre) = start_is s lt ∙ sym (length-map pre K) in
        let count : row_count ends s ≡ length (map K (own s)) = count_is s lt ∙ sym (length-map (own s) K) in
        rw (count, start) (part_is kepts (map K pre) (map K (own s)) _ all)

    -- a transition of the state: its parts in the table, and that its target has a number
    module _ (t : Term) (h : In t (own s)) where
      pub parts_of : Parts rule xs t
      unfolding all_transitions
      parts_of = kept_parts rule passed (get_or xs s 0 ∷ []) xs t (in_append t (own s) [] (inl h))

      pub target_found : find eqb t.obligations xs < length xs
      unfolding targets
      target_found =
          let met = in_map (λ u. u.obligations) t (own s) h in
          (whole.numbered t.obligations ((whole.taken s (omega arith) lt).closed t.obligations met)).0

    pub row_leads : (x : ℕ) → In x (row ends kepts s) → kept_target x < length xs
    row_leads x h =
        let (t, m, e) = map_in (kept rule xs) x (own s) (rw row_is at h) in
        rw (e, (parts_of t m).target) (target_found t m)
