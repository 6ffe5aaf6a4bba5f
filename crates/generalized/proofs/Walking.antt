-- The first walk, state by state: what the walk of one state comes to, and the tables after it.
-- Assumes nothing.
use mathlib.Core.Path.{◌≡◌, refl, sym, ap, ◌∙◌}
use mathlib.Core.List.{List, [], ◌∷◌, ◌++◌, map, append-nil, append_assoc}
use Prim.Native.Nat.{ℕ, suc, ◌+◌, ◌-◌, ◌≤◌, ◌<◌}
use native.Mathlib.Numerals.{add-one}
use native.Mathlib.Omega.{arith}
use lib.ListN.{length, get_or, take, set, length-append, length-map, length-set, length-take}
use lib.Seq.{get_or-take, length-take-le, take-append-le, take_all, take-add, take-suc, get_or-set_same}
use lib.Seq.{get_or-set_other}
use lib.Bits.{bit_or, or_zero_r}
use borrow.Author.Count.{below_more}
use Rattle.answer.specs.Result.{Result, accepted, refused, and_then, fine}
use Rattle.answer.proofs.Results.{then_accepted}
use Rattle.sets.proofs.Bits.{or_assoc}
use Rattle.formula.specs.Formula.{formula}
use Rattle.term.specs.Limits.{max_terms}
use Rattle.term.specs.Term.{Term, cover}
use Rattle.term.specs.Size.{sizes_checked}
use Rattle.domination.specs.Memory.{Drops}
use Rattle.generalized.specs.Limits.{max_product, max_generalized_states}
use Rattle.generalized.specs.declared.Extent.{Extent}
use Rattle.std.specs.Prelude.{Result as Returned, Ok, Err}
use Rattle.answer.specs.declared.Refusal.{Refusal}
use Rattle.answer.specs.Result.{reason_number}
use Rattle.term.specs.Memory.{pack}
use Rattle.generalized.specs.Generalized.{state_terms}
use Rattle.generalized.specs.Memory.{Tables}
use Rattle.generalized.specs.Explore.{explore}
use Rattle.generalized.specs.Generalized.{transitions, product_check, targets, state_numbering, state_walk, generalized}
use Rattle.generalized.specs.Generalized.{state_conflicts, walk_conflicts}
use Rattle.generalized.specs.Memory.{ProductRoom, ListedKept, WalkRoom, meet_targets, Added, AddsTransitions}
use Rattle.generalized.specs.Memory.{Told}
use Rattle.generalized.specs.Memory.{MeetsAll, all_transitions, WalkPlaces}
use Rattle.generalized.proofs.Exploring.{explore_next, explore_refused, explore_ends}
use Rattle.generalized.proofs.Explored.{Extends, extends_longer, all_grows}
use Rattle.generalized.proofs.Sifting.{left_are, left_told}
use Rattle.generalized.proofs.Numbers.{listed_on, listed_none, listed_both}

-- the transitions of the state at place among xs
abbrev transitions_of : (rule xs : List ℕ) (place : ℕ) → List Term
transitions_of rule xs place = transitions rule (get_or xs place 0)

-- the walk of the state at place, when count transitions and the states xs are there
abbrev walk_state : (rule : List ℕ) (place count : ℕ) (xs : List ℕ) → Result (List ℕ)
walk_state rule place count xs =
    and_then (product_check rule place (get_or xs place 0))
    (λ _. meet_targets place (transitions_of rule xs place) count xs)

-- the state at place
module _ (rule states : List ℕ) (place : ℕ) (before : Extent) (lt : place < before.states) where
  state_refused : ((at : ℕ) → product_check rule at (get_or states place 0) ≡ refused 21 at)
      → walk_state rule place before.transitions (take before.states states) ≡ refused 21 place
  state_refused over = rw (get_or-take before.states states place 0 lt, over place)

  -- whose terms are ts: what is left of them once they are sifted
  module _ (passed : sizes_checked rule ≡ fine) (checked : product_check rule place (get_or states place 0) ≡ fine)
      {ts bytes : List ℕ} (are : ts ≡ map pack (state_terms rule (get_or states place 0))) (told : Told rule ts bytes)
      {ts' bytes' : List ℕ} {n : ℕ} (drops : Drops ts bytes (length ts) ts' bytes' n) where
    state_adds : (transitions₀ : List ℕ) (step : Returned Extent Refusal) (states' transitions' : List ℕ)
        → MeetsAll (take n ts') (take n bytes') place before states transitions₀ step states' transitions'
        → AddsTransitions rule (transitions_of rule states place) before.transitions transitions₀
        (walk_state rule place before.transitions (take before.states states)) step states' transitions'
    state_adds transitions₀ step states' transitions' turn =
        let left = left_are rule passed (get_or states place 0) are told drops in
        let own = left_told rule passed (get_or states place 0) are told drops in
        rw (get_or-take before.states states place 0 lt, checked) (rw left at (turn rule own))

-- the walk of a state only adds states
state_extends : (rule : List ℕ) (place total : ℕ) (xs ys : List ℕ) → walk_state rule place total xs ≡ accepted ys
    → Extends xs ys
state_extends rule place total xs ys e =
    let met = (then_accepted (product_check rule place (get_or xs place 0)) _ e).2 in
    (all_grows state_numbering place _ total xs ys met).extends

-- the transitions of a list of states
module _ (rule : List ℕ) where
  pub all_append : (xs ys : List ℕ)
      → all_transitions rule (xs ++ ys) ≡ all_transitions rule xs ++ all_transitions rule ys
  unfolding all_transitions
  all_append [] ys = refl
  all_append (x ∷ xs) ys = rw (all_append xs ys) (sym (append_assoc (transitions rule x) (all_transitions rule xs) _))

  all_last : (xs : List ℕ) (x : ℕ)
      → all_transitions rule (xs ++ (x ∷ [])) ≡ all_transitions rule xs ++ transitions rule x
  unfolding all_transitions
  all_last xs x = rw (all_append xs (x ∷ []), append-nil (transitions rule x))

  pub all_one : (xs : List ℕ) (s : ℕ) → s < length xs
      → all_transitions rule (take (suc s) xs) ≡ all_transitions rule (take s xs) ++ transitions rule (get_or xs s 0)
  all_one xs s lt = rw (take-suc xs s 0 lt) (all_last (take s xs) (get_or xs s 0))

  -- and their conflicts
  conflicts_last : (xs : List ℕ) (x : ℕ)
      → walk_conflicts rule (xs ++ (x ∷ [])) ≡ bit_or (walk_conflicts rule xs) (state_conflicts rule x)
  unfolding walk_conflicts
  conflicts_last [] x = or_zero_r (state_conflicts rule x)
  conflicts_last (y ∷ xs) x =
      rw (conflicts_last xs x) (sym (or_assoc (state_conflicts rule y) (walk_conflicts rule xs)
      (state_conflicts rule x)))

-- the states that are numbered
abbrev numbered : Extent → List ℕ → List ℕ
numbered size states = take size.states states

-- what is left of the walk at place, when count transitions and the states xs are there
abbrev rest : (rule : List ℕ) (place count : ℕ) (xs : List ℕ) → Result (List ℕ)
rest rule place count xs = explore (state_walk rule) (max_generalized_states - place) place count xs

-- the walk that stands at place: what is left of it comes to the whole, and the states before place are in the tables
pub record Walking (rule : List ℕ) (initial : ℕ) (states transitions ends : List ℕ) (size : Extent)
    (dropped place : ℕ) : Type 0 where
  pub within : place ≤ size.states
  pub begun : initial ≡ length (cover (formula rule))
  pub room : WalkRoom size states transitions
  pub ends_room : length ends ≡ max_generalized_states
  pub counted : size.transitions ≡ length (all_transitions rule (take place (numbered size states)))
  pub left : generalized rule ≡ rest rule place size.transitions (numbered size states)
  pub listed : ListedKept rule (numbered size states) (all_transitions rule (take place (numbered size states)))
      (take size.transitions transitions)
  pub ending : (k : ℕ) → k < place
      → get_or ends k 0 ≡ length (all_transitions rule (take (suc k) (numbered size states)))
  pub conflicts : dropped ≡ walk_conflicts rule (take place (numbered size states))

-- the arrays that the walk works in
pub record Space (product next bytes : List ℕ) : Type 0 where
  pub products : ProductRoom product next
  pub bytes_room : length bytes ≡ max_product

pub walk_begins : {rule : List ℕ} (states transitions ends : List ℕ) (n : ℕ) → take n states ≡ cover (formula rule)
    → n ≤ max_terms → WalkPlaces states transitions ends
    → Walking rule n states transitions ends (record { states = n; transitions = 0 }) 0 0
unfolding generalized all_transitions walk_conflicts
walk_begins states transitions ends n is le room = record {
  within = omega arith;
  begun = sym (length-take-le n states (omega arith)) ∙ ap length is;
  room = record {
    states_room = room.states_room;
    few = omega arith;
    transitions_room = room.transitions_room;
    fits = omega arith;
  };
  ends_room = room.ends_room;
  counted = refl;
  left = rw is;
  listed = listed_none;
  ending = λ k lt. absurd (omega arith);
  conflicts = refl;
}

-- the walk that stands at place
module _ {rule : List ℕ} {initial : ℕ} {states transitions ends : List ℕ} {size : Extent} {dropped place : ℕ}
    (inv : Walking rule initial states transitions ends size dropped place) where
  abbrev total : ℕ
  total = size.transitions

  abbrev xs : List ℕ
  xs = numbered size states

  count : length xs ≡ size.states
  count = length-take-le size.states states (omega (arith, inv.room.few, inv.room.states_room))

  pub walk_ends : size.states ≤ place
      → Tables rule initial size.states total dropped states transitions ends
  walk_ends ge =
      let all : take place xs ≡ xs = take_all place xs (omega (arith, count)) in
      record {
        are = inv.left ∙ explore_ends (state_walk rule) (max_generalized_states - place) place total xs
            (omega (arith, count));
        few = inv.room.few;
        begun = inv.begun;
        counted = rw all at inv.counted;
        fits = inv.room.fits;
        listed = rw all at inv.listed.numbers;
        ending = λ k lt. inv.ending k (omega arith);
        conflicts = rw all at inv.conflicts;
      }

  -- it goes on with the state there
  module _ (lt : place < size.states) where
    fuel : max_generalized_states - place ≡ suc (max_generalized_states - suc place)
    fuel = omega (arith, inv.room.few)

    inside : place < length xs
    inside = rw count lt

    refused_here : {number at : ℕ} → walk_state rule place total xs ≡ refused number at
        → generalized rule ≡ refused number at
    unfolding targets
    refused_here e =
        inv.left
        ∙ rw fuel
        (explore_refused (state_walk rule) (max_generalized_states - suc place) place total xs inside e)

    pub walk_over : ((at : ℕ) → product_check rule at (get_or states place 0) ≡ refused 21 at)
        → generalized rule ≡ refused 21 place
    walk_over over = refused_here (state_refused rule states place size lt over)

    module _ (passed : sizes_checked rule ≡ fine) (checked : product_check rule place (get_or states place 0) ≡ fine)
        {terms bytes : List ℕ} (are : terms ≡ map pack (state_terms rule (get_or states place 0)))
        (told : Told rule terms bytes) {terms' bytes' : List ℕ} {n : ℕ}
        (drops : Drops terms bytes (length terms) terms' bytes' n) (states' transitions' : List ℕ) where
      -- the transitions that are left, met
      abbrev Turn : Returned Extent Refusal → Type 0
      Turn step = MeetsAll (take n terms') (take n bytes') place size states transitions step states' transitions'

      pub walk_refused : (r : Refusal) → Turn (Err r) → generalized rule ≡ refused (reason_number r.reason) r.place
      walk_refused r turn =
          refused_here (state_adds rule states place size lt passed checked are told drops transitions (Err r) states'
          transitions' turn)

      module _ (e : Extent) (turn : Turn (Ok e)) where
        abbrev met : ℕ
        met = e.states

        abbrev end : ℕ
        end = e.transitions

        abbrev ts : List Term
        ts = transitions_of rule states place

        abbrev ys : List ℕ
        ys = take met states'

        added : Added rule ts total transitions (walk_state rule place total xs) met end states' transitions'
        added =
            state_adds rule states place size lt passed checked are told drops transitions (Ok e) states' transitions'
            turn

        grown : Extends xs ys
        grown = state_extends rule place total xs ys added.are

        -- the first states stay
        stay : (k : ℕ) → k ≤ size.states → take k ys ≡ take k xs
        stay k le = ap (take k) grown.are ∙ take-append-le k xs grown.more (rw count le)

        first : take (length xs) ys ≡ xs
        first = rw count (stay size.states (omega arith) ∙ take_all size.states xs (omega (arith, count)))

        with_state : take (suc place) ys ≡ take place xs ++ (get_or states place 0 ∷ [])
        with_state = stay (suc place) lt ∙ take-suc xs place 0 inside ∙ rw (get_or-take size.states states place 0 lt)

        all_now : all_transitions rule (take (suc place) ys) ≡ all_transitions rule (take place xs) ++ ts
        all_now = ap (all_transitions rule) with_state ∙ all_last rule (take place xs) (get_or states place 0)

        end_is : end ≡ length (all_transitions rule (take (suc place) ys))
        end_is = rw (all_now, length-append) (omega (arith, added.counted, inv.counted))

        count_is : total + length (targets rule (get_or states place 0)) ≡ end
        unfolding targets
        count_is = omega (arith, added.counted, length-map ts (λ t. t.obligations))

        left_now : generalized rule ≡ rest rule (suc place) end ys
        unfolding targets
        left_now =
            let next =
            explore_next (state_walk rule) (max_generalized_states - suc place) place total xs inside added.are in
            inv.left ∙ rw (fuel, next, get_or-take size.states states place 0 lt, count_is)

        listed_now : ListedKept rule ys (all_transitions rule (take (suc place) ys)) (take end transitions')
        listed_now =
            rw (all_now, added.counted, take-add total (length ts) transitions', added.same)
            (listed_both (listed_on _ _ first inv.listed) added.listed)

        pub walk_steps : length states' ≡ length states → length transitions' ≡ length transitions → {ends' : List ℕ}
            → ends' ≡ set ends place end → {own : ℕ} → own ≡ state_conflicts rule (get_or states place 0)
            → Walking rule initial states' transitions' ends' e
            (bit_or dropped own) (place + 1)
        walk_steps same-states same-transitions stored is = record {
          within = omega (arith, inside, extends_longer grown, length-take met states');
          begun = inv.begun;
          room = record {
            states_room = same-states ∙ inv.room.states_room;
            few = added.few;
            transitions_room = same-transitions ∙ inv.room.transitions_room;
            fits = added.fits;
          };
          ends_room = rw stored (length-set ends place end ∙ inv.ends_room);
          counted = rw add-one end_is;
          left = rw add-one left_now;
          listed = rw add-one listed_now;
          ending = rw stored
              (below_more _ place
              (λ k l. get_or-set_other ends place k end 0 (λ s. omega arith)
              ∙ inv.ending k l
              ∙ ap length (ap (all_transitions rule) (sym (stay (suc k) (omega arith)))))
              (get_or-set_same ends place end 0 (omega (arith, inv.room.few, inv.ends_room)) ∙ end_is));
          conflicts = rw (
            add-one,
            with_state,
            conflicts_last rule (take place xs) (get_or states place 0),
            inv.conflicts,
            is,
          );
        }
