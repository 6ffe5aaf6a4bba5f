-- How the first walk lies in memory: the states' obligation sets by number, the transitions of all states one after
-- another, each as one number, and where each state's end.
use Rattle.std.specs.Prelude.{ℕ, suc, ◌+◌, ◌*◌, ◌/◌, ◌%◌, ◌<◌, ◌≤◌, ◌≡◌, List, [], ◌∷◌, ◌++◌, map, length, get_or, take}
use Rattle.std.specs.Prelude.{drop, eqb}
use Rattle.sets.specs.declared.Joined.{Joined}
use Rattle.sets.specs.Sets.{In, insert_product_n, product_conflicts_n}
use Rattle.answer.specs.Result.{Result, accepted, refused, fine, reason_number}
use Rattle.formula.specs.Formula.{formula}
use Rattle.term.specs.Limits.{row_places}
use Rattle.term.specs.Term.{Term, cover}
use Rattle.term.specs.Memory.{pack, unpack, row_of}
use Rattle.acceptance.specs.Acceptance.{fulfilment}
use Rattle.generalized.specs.Limits.{max_product, max_generalized_transitions, max_generalized_states}
use Rattle.generalized.specs.declared.Extent.{Extent}
use Rattle.generalized.specs.declared.Met.{Met}
use Rattle.generalized.specs.declared.Walked.{Walked}
use Rattle.std.specs.Prelude.{Result as Returned, Ok, Err}
use Rattle.answer.specs.declared.Refusal.{Refusal}
use Rattle.std.specs.Prelude.{Option, Some, None}
use Rattle.generalized.specs.Explore.{find, meet, meet_all}
use Rattle.generalized.specs.Generalized.{state_terms, transitions, product_check, state_numbering, generalized}
use Rattle.generalized.specs.Generalized.{state_conflicts, walk_conflicts}

-- ---- the transitions of a state

-- row k of the table of terms as a factor: it lies within the table, a product has places for it, and it is itself
-- the product with the term that asks and owes nothing, from which no join is dropped
pub record Factor (table : List ℕ) (k : ℕ) : Type 0 where
  pub inside : k * row_places + 1 + get_or table (k * row_places) 0 ≤ length table
  pub few : get_or table (k * row_places) 0 ≤ max_product
  pub alone : insert_product_n (0 ∷ []) (row_of table k) [] ≡ row_of table k
  pub apart : product_conflicts_n (0 ∷ []) (row_of table k) ≡ 0

-- product and next have a place for each term that a product may have
pub record ProductRoom (product next : List ℕ) : Type 0 where
  pub room : length product ≡ max_product
  pub beside : length next ≡ max_product

-- the first r.count of items are ws, with these conflicts
pub record Multiplied (items : List ℕ) (r : Joined) (ws : List ℕ) (bits : ℕ) : Type 0 where
  pub count : r.count ≡ length ws
  pub few : r.count ≤ max_product
  pub are : take r.count items ≡ ws
  pub conflicts : r.conflicts ≡ bits

-- that, or ws are more than a product may have
abbrev pub Multiplies : Option Joined → (items ws : List ℕ) (bits : ℕ) → Type 0
Multiplies (Some r) items ws bits = Multiplied items r ws bits
Multiplies None items ws bits = max_product < length ws

-- the first r.count of items are a state's terms, with the state's conflicts
pub record Product (rule : List ℕ) (state : ℕ) (items : List ℕ) (r : Joined) : Type 0 where
  pub few : r.count ≤ max_product
  pub checked : (place : ℕ) → product_check rule place state ≡ fine
  pub terms : take r.count items ≡ map pack (state_terms rule state)
  pub conflicts : r.conflicts ≡ state_conflicts rule state

-- that, or a partial product is too large
abbrev pub StateProduct : (rule : List ℕ) (state : ℕ) → Option Joined → (items : List ℕ) → Type 0
StateProduct rule state (Some r) items = Product rule state items r
StateProduct rule state None items = (place : ℕ) → product_check rule place state ≡ refused 21 place

-- ---- a transition in the table

-- four bytes, from the top: the number of its target, the untils that it fulfils, must and must_not
abbrev pub kept_n : (target untils must must_not : ℕ) → ℕ
kept_n target untils must must_not = ((target * 256 + untils) * 256 + must) * 256 + must_not

-- t when the states are numbered
abbrev pub kept : (rule states : List ℕ) → Term → ℕ
kept rule states t = kept_n (find eqb t.obligations states) (fulfilment rule t) t.must t.must_not

-- the parts of such a number
abbrev pub kept_target : ℕ → ℕ
kept_target x = x / 16777216

abbrev pub kept_untils : ℕ → ℕ
kept_untils x = x / 65536 % 256

abbrev pub kept_must : ℕ → ℕ
kept_must x = x / 256 % 256

abbrev pub kept_must_not : ℕ → ℕ
kept_must_not x = x % 256

-- ts in the table when the states xs are numbered: ns are their numbers, and each leads to one of xs
pub record ListedKept (rule xs : List ℕ) (ts : List Term) (ns : List ℕ) : Type 0 where
  pub numbers : ns ≡ map (kept rule xs) ts
  pub found : (t : Term) → In t ts → find eqb t.obligations xs < length xs

-- ---- a state walked

-- k, where it is a place of items, is the number of the one there: it stands nowhere before
abbrev pub OwnNumber : (k : ℕ) (items : List ℕ) → Type 0
OwnNumber k items = k < length items → k ≡ find eqb (get_or items k 0) items

-- the number of x among items, or none where it is not among them
abbrev pub Finds : (x : ℕ) (items : List ℕ) → Option ℕ → Type 0
Finds x items (Some k) = (k ≡ find eqb x items) × (k < length items)
Finds x items None = length items ≤ find eqb x items

-- x, met when xs were there: its number, and that count are in items then, xs the first of them
pub record NumberedState (x : ℕ) (xs : List ℕ) (met : Result (List ℕ)) (number count : ℕ) (items : List ℕ)
    : Type 0 where
  pub are : met ≡ accepted (take count items)
  pub fits : count ≤ length items
  pub first : take (length xs) (take count items) ≡ xs
  pub found : number ≡ find eqb x (take count items)
  pub inside : number < count

-- what a meeting comes to: x has its number, or it is one too many
abbrev pub Meets : (full place x : ℕ) (xs : List ℕ) (met : Result (List ℕ)) → Option Met → (items : List ℕ)
    → Type 0
Meets full place x xs met (Some m) items = NumberedState x xs met m.number m.count items
Meets full place x xs met None items = met ≡ refused full place

-- x met when the first n of items are there, for any refusal where items has no place for one more
abbrev pub MeetsState : (x n : ℕ) (items : List ℕ) → Option Met → (after : List ℕ) → Type 0
MeetsState x n items met after =
    (full place : ℕ) → Meets full place x (take n items) (meet eqb (length items) full place x (take n items)) met after

-- places for all states and transitions, of which those of size are taken
pub record WalkRoom (size : Extent) (states transitions : List ℕ) : Type 0 where
  pub states_room : length states ≡ max_generalized_states
  pub few : size.states ≤ max_generalized_states
  pub transitions_room : length transitions ≡ max_generalized_transitions
  pub fits : size.transitions ≤ max_generalized_transitions

-- the targets of the transitions ts of the state at place, met when count transitions and the states xs are there
abbrev pub meet_targets : (place : ℕ) (ts : List Term) (count : ℕ) (xs : List ℕ) → Result (List ℕ)
meet_targets place ts count xs = meet_all state_numbering place (map (λ t. t.obligations) ts) count xs

-- ts added to the total transitions that were in the table before: n states and m transitions are there then
pub record Added (rule : List ℕ) (ts : List Term) (total : ℕ) (before : List ℕ) (met : Result (List ℕ))
    (n m : ℕ) (states after : List ℕ) : Type 0 where
  pub are : met ≡ accepted (take n states)
  pub few : n ≤ max_generalized_states
  pub counted : m ≡ total + length ts
  pub fits : m ≤ max_generalized_transitions
  pub same : take total after ≡ take total before
  pub listed : ListedKept rule (take n states) ts (take (length ts) (drop total after))

-- what walking a state comes to: ts are added, or the refusal
abbrev pub AddsTransitions : (rule : List ℕ) (ts : List Term) (total : ℕ) (before : List ℕ) (met : Result (List ℕ))
    → Returned Extent Refusal → (states after : List ℕ) → Type 0
AddsTransitions rule ts total before met (Ok e) states after =
    Added rule ts total before met e.states e.transitions states after
AddsTransitions rule ts total before met (Err r) states after = met ≡ refused (reason_number r.reason) r.place

-- the bytes tell which untils of a rule ts fulfil
abbrev pub Told : (rule ts bytes : List ℕ) → Type 0
Told rule ts bytes = bytes ≡ map (fulfilment rule) (map unpack ts)

-- ts, transitions of the state at place of a rule whose untils the bytes tell, met one after another and added to the
-- states and transitions before
abbrev pub MeetsAll : (ts bytes : List ℕ) (place : ℕ) (before : Extent) (states transitions : List ℕ)
    → Returned Extent Refusal → (states' transitions' : List ℕ) → Type 0
MeetsAll ts bytes place before states transitions step states' transitions' =
    (rule : List ℕ) → Told rule ts bytes
    → AddsTransitions rule (map unpack ts) before.transitions transitions
    (meet_targets place (map unpack ts) before.transitions (take before.states states))
    step states' transitions'

-- ---- the whole walk

-- the caller's tables have a place for each state, each transition, and the end of each state's transitions
pub record WalkPlaces (states transitions ends : List ℕ) : Type 0 where
  pub states_room : length states ≡ max_generalized_states
  pub transitions_room : length transitions ≡ max_generalized_transitions
  pub ends_room : length ends ≡ max_generalized_states

-- the transitions of the states xs, one after another
unfoldable pub all_transitions : (rule xs : List ℕ) → List Term
all_transitions rule [] = []
all_transitions rule (x ∷ xs) = transitions rule x ++ all_transitions rule xs

-- the tables of a walk that has n states, the first of them initial ones, and m transitions, and its conflicts
pub record Tables (rule : List ℕ) (initial n m bits : ℕ) (states transitions ends : List ℕ) : Type 0 where
  pub are : generalized rule ≡ accepted (take n states)
  pub few : n ≤ max_generalized_states
  pub begun : initial ≡ length (cover (formula rule))
  pub counted : m ≡ length (all_transitions rule (take n states))
  pub fits : m ≤ max_generalized_transitions
  pub listed : take m transitions ≡ map (kept rule (take n states)) (all_transitions rule (take n states))
  pub ending : (k : ℕ) → k < n → get_or ends k 0 ≡ length (all_transitions rule (take (suc k) (take n states)))
  pub conflicts : bits ≡ walk_conflicts rule (take n states)

-- the first walk's answer: how many states and transitions there are, and its conflicts, with the tables, or the
-- refusal
abbrev pub Walks : (rule : List ℕ) → Returned Walked Refusal → (states transitions ends : List ℕ) → Type 0
Walks rule (Ok w) states transitions ends =
    Tables rule w.initial w.states w.transitions w.conflicts states transitions ends
Walks rule (Err r) states transitions ends = generalized rule ≡ refused (reason_number r.reason) r.place
