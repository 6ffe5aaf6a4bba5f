-- The automaton of an accepted rule, by any listing of a state's transitions, numbers the automaton that counts levels
-- over obligation sets: the first walk numbers the sets, the second the pairs of such a number and a level. Assumes
-- that both walks are accepted.
use Prim.Native.Nat.{ℕ, zero, suc, ◌<◌}
use mathlib.Core.Path.{◌≡◌, refl, sym, ◌∙◌, ap, subst}
use mathlib.Core.Logic.{◌↔◌}
use mathlib.Core.List.{List, [], ◌∷◌, ◌++◌, map}
use mathlib.Core.Bool.{true, and-eq-true_iff}
use native.Mathlib.Omega.{arith}
use native.Mathlib.Decide.{ℕ_discrete}
use lib.ListN.{get_or, length, length-map, get_or-map, get_or-append}
use lib.Seq.{get_or-append_seam}
use lib.Dec.{eqb}
use borrow.Author.Tests.{eqb-true, eq-eqb}
use Rattle.answer.specs.Result.{accepted, fine}
use Rattle.formula.specs.Formula.{formula}
use Rattle.term.specs.Term.{Term, cover}
use Rattle.term.specs.Size.{sizes_checked}
use Rattle.generalized.specs.Explore.{find}
use Rattle.generalized.proofs.Passed.{initial_few}
use Rattle.generalized.proofs.Explored.{Explored, walk_explored, extends_longer, extends_at}
use Rattle.automaton.specs.Automaton.{Transition, State, no_state, reads, Step}
use Rattle.sets.specs.Sets.{In}
use Rattle.acceptance.specs.Acceptance.{until_count}
use Rattle.translation.specs.Degeneralized.{next_level, Pair, pair, same_pair, numbers, initial_numbers, target}
use Rattle.translation.specs.Degeneralized.{transition_of}
use Rattle.translation.proofs.Codes.{numbers_length}
use Rattle.sets.proofs.Members.{All, at_in, in_at, map_in, in_map, map_at}
use Rattle.correctness.proofs.Runs.{Reads}
use Rattle.correctness.proofs.Tests.{reads_iff}
use Rattle.automaton.proofs.Passes.{numbered}
use Rattle.correctness.proofs.Counting.{Counted, counting}
use Rattle.correctness.proofs.Numbering.{Numbering}
use Rattle.correctness.proofs.Listing.{Listed, state_walk_by, generalized_by, pair_transitions_by, pair_walk_by}
use Rattle.correctness.proofs.Listing.{degeneralized_by, state_by, automaton_by}

-- the numbers below n
pub numbers_at : (n k : ℕ) → k < n → get_or (numbers n) k 0 ≡ k
unfolding numbers
numbers_at zero k l = absurd (omega arith)
numbers_at (suc n) k l = go (numbers_at n k) (ℕ_discrete (length (numbers n)) k)
  where
    go : (k < n → get_or (numbers n) k 0 ≡ k) → Dec (length (numbers n) ≡ k) → get_or (numbers n ++ (n ∷ [])) k 0 ≡ k
    go ih (yes e) =
        subst (λ (j : ℕ). get_or (numbers n ++ (n ∷ [])) j 0 ≡ j) e
        (get_or-append_seam (numbers n) n [] 0 ∙ sym (numbers_length n))
    go ih (no e) =
        let l : k < length (numbers n) = omega (arith, numbers_length n) in get_or-append (numbers n) (n ∷ []) 0 k l ∙
        ih (omega (arith, numbers_length n))

numbers_in : (n k : ℕ) → In k (numbers n) → k < n
numbers_in n k h =
    let (i, l, q) = in_at 0 k (numbers n) h in omega
    (arith, numbers_length n, numbers_at n i (omega (arith, numbers_length n)))

in_numbers : (n k : ℕ) → k < n → In k (numbers n)
in_numbers n k l =
    subst (λ (x : ℕ). In x (numbers n)) (numbers_at n k l) (at_in 0 (numbers n) k (omega (arith, numbers_length n)))

-- two pairs are the same exactly if they are equal
same_equal : (x y : Pair) → same_pair x y ≡ true → x ≡ y
same_equal x y e =
    let (a, b) = (and-eq-true_iff (eqb x.state y.state) _).0 e in
    let p = eqb-true x.state y.state a in
    let q = eqb-true x.level y.level b in
    λ i. record { state = p i; level = q i }

same_self : (x : Pair) → same_pair x x ≡ true
same_self x = (and-eq-true_iff (eqb x.state x.state) _).1 (eq-eqb x.state x.state refl, eq-eqb x.level x.level refl)

module _ (states : List ℕ) (pairs : List Pair) where
  abbrev pair_at : ℕ → Pair
  pair_at k = get_or pairs k (pair 0 0)

  -- number k of the second walk stands for this set and level
  abbrev means : ℕ → Counted
  means k = record { obligations = get_or states (pair_at k).state 0; level = (pair_at k).level }

  -- it is a number of the second walk, and its pair has a number of the first
  pub record Valid (k : ℕ) : Type 0 where
    pub inside : k < length pairs
    pub known : (pair_at k).state < length states

module _ (rule : List ℕ) (listing : ℕ → List Term) (accepted-rule : sizes_checked rule ≡ fine)
    (states : List ℕ) (first : generalized_by rule listing ≡ accepted states)
    (pairs : List Pair) (second : degeneralized_by rule listing states ≡ accepted pairs) where
  abbrev count : ℕ
  count = length (cover (formula rule))

  abbrev at : ℕ → Pair
  at k = pair_at states pairs k

  -- the transitions of number k
  abbrev listed_at : ℕ → List Term
  listed_at k = pair_transitions_by rule listing states (at k)

  pub first_walked : Explored (state_walk_by rule listing) 0 (cover (formula rule)) states
  first_walked =
      walk_explored (state_walk_by rule listing) eqb-true (λ x. eq-eqb x x refl)
      (omega (arith, initial_few rule accepted-rule)) first

  initial_count : length (map (λ i. pair i 0) (numbers count)) ≡ count
  initial_count = length-map (numbers count) (λ i. pair i 0) ∙ numbers_length count

  pub second_walked : Explored (pair_walk_by rule listing states) 0 (map (λ i. pair i 0) (numbers count)) pairs
  unfolding initial_numbers
  second_walked =
      walk_explored (pair_walk_by rule listing states) same_equal same_self
      (omega (arith, initial_few rule accepted-rule, initial_count)) second

  -- the first numbers are the initial ones
  initial_at_lem : (k : ℕ) → k < count → at k ≡ pair k 0
  initial_at_lem k l =
      extends_at second_walked.extends (pair 0 0) k (omega (arith, initial_count))
      ∙ get_or-map (λ i. pair i 0) (numbers count) k 0
      ∙ ap (λ (i : ℕ). pair i 0) (numbers_at count k l)

  pub initial_valid : (k : ℕ) → k < count → Valid states pairs k
  initial_valid k l = record {
    inside = omega (arith, extends_longer second_walked.extends, initial_count);
    known = subst (λ (x : Pair). x.state < length states) (sym (initial_at_lem k l))
        (omega (arith, extends_longer first_walked.extends));
  }

  initial_means : (k : ℕ) → k < count
      → means states pairs k ≡ record { obligations = get_or (cover (formula rule)) k 0; level = 0 }
  initial_means k l =
      let o = ap (λ (x : Pair). get_or states x.state 0) (initial_at_lem k l) ∙ extends_at first_walked.extends 0 k l in
      λ i. record { obligations = o i; level = (initial_at_lem k l i).level }

  -- the target of a known state's transition is known
  target_known : (state : ℕ) → state < length states → (t : Term) → In t (listing (get_or states state 0))
      → (find eqb t.obligations states < length states) × (get_or states (find eqb t.obligations states) 0 ≡ t.obligations)
  target_known state l t m =
      first_walked.numbered t.obligations
      ((first_walked.taken state (omega arith) l).closed t.obligations
      (in_map (λ t. t.obligations) t (listing (get_or states state 0)) m))

  -- the pairs' states are numbers of the first walk
  pub pairs_known : All (λ x. x.state < length states) pairs
  unfolding target
  pairs_known = second_walked.every (λ x. x.state < length states) step start
    where
      start : All (λ x. x.state < length states) (map (λ i. pair i 0) (numbers count))
      start x h =
          let (i, m, e) = map_in (λ i. pair i 0) x (numbers count) h in
          let q : x.state ≡ i = ap (λ (y : Pair). y.state) e in
          omega (arith, numbers_in count i m, extends_longer first_walked.extends)

      step : (x : Pair) → x.state < length states
          → All (λ y. y.state < length states) (map (target rule states x) (pair_transitions_by rule listing states x))
      step x l y h =
          let (t, m, e) = map_in (target rule states x) y (pair_transitions_by rule listing states x) h in
          subst (λ (z : Pair). z.state < length states) (sym e) (target_known x.state l t m).0

  -- number j stands for what the term t leads to from number k
  pub record Lands (k j : ℕ) (t : Term) : Type 0 where
    pub valid : Valid states pairs j
    is : means states pairs j ≡ record { obligations = t.obligations; level = next_level rule (at k).level t }

  abbrev leads : ℕ → Term → ℕ
  leads k t = find same_pair (target rule states (at k) t) pairs

  pub lands : (k : ℕ) → Valid states pairs k → (t : Term) → In t (listed_at k) → Lands k (leads k t) t
  unfolding target
  lands k v t m =
      let (a, e) = target_known (at k).state v.known t m in
      let (b, f) = second_walked.numbered (target rule states (at k) t)
      ((second_walked.taken k (omega arith) v.inside).closed (target rule states (at k) t)
      (in_map (target rule states (at k)) t (listed_at k) m)) in
      let o = ap (λ (x : Pair). get_or states x.state 0) f ∙ e in
      record {
        valid = record { inside = b; known = subst (λ (x : Pair). x.state < length states) (sym f) a };
        is = λ i. record { obligations = o i; level = (f i).level };
      }

  state_at_lem : (k : ℕ) → Valid states pairs k
      → get_or (automaton_by rule listing states pairs).states k no_state ≡ state_by rule listing states pairs (at k)
  state_at_lem k v = map_at (state_by rule listing states pairs) (pair 0 0) no_state pairs k v.inside

  step_iff : (k letter j : ℕ) → Valid states pairs k → Step (automaton_by rule listing states pairs) k letter j
      ↔ ((t : Term) × In t (listed_at k) × Reads t letter × (j ≡ leads k t))
  step_iff k letter j v = (there, back)
    where
      transition : Term → Transition
      transition = transition_of rule states pairs (at k)

      there : Step (automaton_by rule listing states pairs) k letter j
          → (t : Term) × In t (listed_at k) × Reads t letter × (j ≡ leads k t)
      there (u, m, r, e) =
          let (t, l, q) =
          map_in transition u (listed_at k) (subst (λ (s : State). In u s.transitions) (state_at_lem k v) m) in (
            t,
            l,
            (reads_iff t (leads k t) letter).0 (subst (λ (x : Transition). reads x letter ≡ true) q r),
            e ∙ ap
                (λ (x : Transition). x.target) q,
          )

      back : (t : Term) × In t (listed_at k) × Reads t letter × (j ≡ leads k t)
          → Step (automaton_by rule listing states pairs) k letter j
      back (t, l, r, e) = (
        transition t,
        subst (λ (s : State). In (transition t) s.transitions) (sym (state_at_lem k v))
            (in_map transition t (listed_at k) l),
        (reads_iff t (leads k t) letter).1 r,
        e,
      )

  pub numbering : Numbering (counting rule (Listed listing)) (numbered (automaton_by rule listing states pairs))
      (length pairs) (Valid states pairs) (means states pairs)
  unfolding initial_numbers
  numbering = record {
    small = λ k v. v.inside;
    initial_valid = λ k h. initial_valid k (numbers_in count k h);
    initial_means = λ k h.
        let l = numbers_in count k h in
        subst (counting rule (Listed listing)).Initial (sym (initial_means k l))
        (at_in 0 (cover (formula rule)) k l, refl);
    initial_has = λ x (m, z).
        let (k, l, q) = in_at 0 x.obligations (cover (formula rule)) m in
        (k, in_numbers count k l, initial_means k l ∙ sym (λ i. record { obligations = sym q i; level = z i }));
    step_valid = λ k letter j v s. let (t, l, r, e) = (step_iff k letter j v).0 s in subst (Valid states pairs) (sym e)
        (lands k v t l).valid;
    step_means = λ k letter j v s.
        let (t, l, r, e) = (step_iff k letter j v).0 s in
        let q = ap (means states pairs) e ∙ (lands k v t l).is in
        (t, l, r, ap (λ (x : Counted). x.obligations) q, ap (λ (x : Counted). x.level) q);
    step_has = λ k letter x v (t, l, r, o, p). (
      leads k t,
      (step_iff k letter (leads k t) v).1 (t, l, r, refl),
      (lands k v t l).is ∙ sym (λ i. record { obligations = o i; level = p i }),
    );
    accepting_means = λ k v c. eqb-true (at k).level (until_count rule)
        (subst (λ (s : State). s.accepting ≡ true) (state_at_lem k v) c);
    accepting_has = λ k v c. subst (λ (s : State). s.accepting ≡ true) (sym (state_at_lem k v))
        (eq-eqb (at k).level (until_count rule) c);
  }
