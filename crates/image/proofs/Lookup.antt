-- The records of an image, and the states, transitions and initial numbers that they stand for, entry by entry. Assumes
-- nothing.
use Prim.Native.Nat.{ℕ, zero, suc, ◌+◌, ◌-◌, ◌*◌, ◌<◌, ◌≤◌}
use mathlib.Core.Path.{◌≡◌, refl, sym, ◌∙◌, ap, subst}
use mathlib.Core.List.{List, [], ◌∷◌, ◌++◌}
use mathlib.Core.Bool.{true}
use mathlib.Core.Logic.{◌⊎◌, inl, inr}
use native.Mathlib.Omega.{arith}
use native.Mathlib.Nat.{add_assoc}
use native.Mathlib.Numerals.{add-one}
use native.Mathlib.Decide.{ℕ_discrete, dec_lt}
use lib.ListN.{length, get_or, drop, get_or-eq_default}
use lib.Seq.{get_or-drop, drop-drop}
use lib.Dec.{eqb}
use borrow.Author.Tests.{eqb-true, eq-eqb}
use Rattle.automaton.specs.Automaton.{Transition, State, no_state, reads, Step, Accepts}
use Rattle.automaton.specs.Tables.{Counts}
use Rattle.sets.specs.Sets.{In}
use Rattle.image.specs.Image.{transitions_at, initial_at, contents_bytes, accepting_at}
use Rattle.image.specs.Image.{states_body, transitions_body, initial_body}
use Rattle.answer.specs.Bytes.{number_at}
use Rattle.image.specs.Reader.{counts_at, count_sum, transitions_from, states_from, numbers_from, automaton_from}
use Rattle.image.specs.Memory.{state_at}
use Rattle.image.proofs.Tables.{sum_first, states_length}
use Rattle.image.specs.Lookup.{image_automaton, AcceptingByte, record_at, records_at, transition_count_of, Readable}

pub number_drop : (d : ℕ) (bytes : List ℕ) (i : ℕ) → number_at (drop d bytes) i ≡ number_at bytes (d + i)
number_drop d bytes i = simp (get_or-drop, add_assoc)

pub record_drop : (d : ℕ) (bytes : List ℕ) (i : ℕ) → record_at (drop d bytes) i ≡ record_at bytes (d + i)
record_drop d bytes i = simp (get_or-drop, add_assoc)

-- ---- lists of records

-- a list of entries, one every `step` bytes
record Every {A : Type 0} (step : ℕ) (at : List ℕ → ℕ → A) (list_from : ℕ → List ℕ → List A) : Type 0 where
  pub none : (bytes : List ℕ) → list_from 0 bytes ≡ []
  pub more : (n : ℕ) (bytes : List ℕ) → list_from (suc n) bytes ≡ at bytes 0 ∷ list_from n (drop step bytes)
  pub shift : (d : ℕ) (bytes : List ℕ) (i : ℕ) → at (drop d bytes) i ≡ at bytes (d + i)

every_record : Every 4 record_at transitions_from
unfolding transitions_from
every_record = record { none = λ bytes. refl; more = λ n bytes. refl; shift = record_drop }

every_number : Every 2 number_at numbers_from
unfolding numbers_from
every_number = record { none = λ bytes. refl; more = λ n bytes. refl; shift = number_drop }

module _ {A : Type 0} {step : ℕ} {at : List ℕ → ℕ → A} {list_from : ℕ → List ℕ → List A}
    (every : Every step at list_from) where
  next_entry : (bytes : List ℕ) (i : ℕ) → at (drop step bytes) (step * i) ≡ at bytes (step * suc i)
  next_entry bytes i =
      let m : step + step * i ≡ step * suc i = omega arith in
      every.shift step bytes (step * i) ∙ ap (at bytes) m

  first_entry : (bytes : List ℕ) → at bytes 0 ≡ at bytes (step * 0)
  first_entry bytes = ap (at bytes) (omega arith)

  listed_entry : (n : ℕ) (bytes : List ℕ) (x : A) → In x (list_from n bytes)
      → (i : ℕ) × (i < n) × (x ≡ at bytes (step * i))
  listed_entry zero bytes x h = absurd (subst (In x) (every.none bytes) h)
  listed_entry (suc n) bytes x h = go (subst (In x) (every.more n bytes) h) (λ h. listed_entry n (drop step bytes) x h)
    where
      next : (i : ℕ) × (i < n) × (x ≡ at (drop step bytes) (step * i))
          → (i : ℕ) × (i < suc n) × (x ≡ at bytes (step * i))
      next (i, lt, e) = (suc i, omega arith, e ∙ next_entry bytes i)

      go : (x ≡ at bytes 0) ⊎ In x (list_from n (drop step bytes))
          → (In x (list_from n (drop step bytes)) → (i : ℕ) × (i < n) × (x ≡ at (drop step bytes) (step * i)))
          → (i : ℕ) × (i < suc n) × (x ≡ at bytes (step * i))
      go (inl e) below = (0, omega arith, e ∙ first_entry bytes)
      go (inr h) below = next (below h)

  entry_listed : (n : ℕ) (bytes : List ℕ) (i : ℕ) → i < n → In (at bytes (step * i)) (list_from n bytes)
  entry_listed zero bytes i lt = absurd (omega arith)
  entry_listed (suc n) bytes zero lt =
      subst (In (at bytes (step * 0))) (sym (every.more n bytes)) (inl (sym (first_entry bytes)))
  entry_listed (suc n) bytes (suc i) lt =
      subst (In (at bytes (step * suc i))) (sym (every.more n bytes))
      (inr (subst (λ (x : A). In x (list_from n (drop step bytes))) (next_entry bytes i)
      (entry_listed n (drop step bytes) i (omega arith))))

  -- the entry behind the first n
  last_entry : (n : ℕ) (bytes : List ℕ) → list_from (suc n) bytes ≡ list_from n bytes ++ (at bytes (step * n) ∷ [])
  last_entry zero bytes =
      every.more 0 bytes ∙ ap (λ (xs : List A). at bytes 0 ∷ xs) (every.none (drop step bytes))
      ∙ ap (λ (x : A). x ∷ []) (first_entry bytes)
      ∙ ap (λ (xs : List A). xs ++ (at bytes (step * 0) ∷ [])) (sym (every.none bytes))
  last_entry (suc n) bytes =
      every.more (suc n) bytes
      ∙ ap (λ (xs : List A). at bytes 0 ∷ xs) (last_entry n (drop step bytes)
      ∙ ap (λ (x : A). list_from n (drop step bytes) ++ (x ∷ [])) (next_entry bytes n))
      ∙ ap (λ (xs : List A). xs ++ (at bytes (step * suc n) ∷ [])) (sym (every.more n bytes))

  last_from : (n d : ℕ) (bytes : List ℕ)
      → list_from (suc n) (drop d bytes) ≡ list_from n (drop d bytes) ++ (at bytes (d + step * n) ∷ [])
  last_from n d bytes =
      last_entry n (drop d bytes)
      ∙ ap (λ (x : A). list_from n (drop d bytes) ++ (x ∷ [])) (every.shift d bytes (step * n))

-- one record more, and one initial number more, from byte d on
pub records_more : (n d : ℕ) (bytes : List ℕ)
    → transitions_from (suc n) (drop d bytes) ≡ transitions_from n (drop d bytes) ++ (record_at bytes (d + 4 * n) ∷ [])
records_more n d bytes = last_from every_record n d bytes

pub numbers_more : (n d : ℕ) (bytes : List ℕ)
    → numbers_from (suc n) (drop d bytes) ≡ numbers_from n (drop d bytes) ++ (number_at bytes (d + 2 * n) ∷ [])
numbers_more n d bytes = last_from every_number n d bytes

-- ---- states

pub count_up : (states : List ℕ) (q n : ℕ) → q ≤ n → count_sum states q ≤ count_sum states n
unfolding count_sum
count_up states q zero le =
    let e : q ≡ 0 = omega arith in
    rw e (omega arith)
count_up states q (suc n) le = pick (ℕ_discrete q (suc n)) (λ le. count_up states q n le)
  where
    pick : Dec (q ≡ suc n) → (q ≤ n → count_sum states q ≤ count_sum states n)
        → count_sum states q ≤ count_sum states n + number_at states (4 * n)
    pick (yes e) below = rw e (omega arith)
    pick (no e) below = omega (arith, below (omega arith))

-- state q among the first n is state q by itself
pub state_at_lem : (n : ℕ) (states transitions : List ℕ) (q : ℕ) → q < n
    → get_or (states_from n states transitions) q no_state ≡ state_at states transitions q
unfolding states_from count_sum
state_at_lem zero states transitions q lt = absurd (omega arith)
state_at_lem (suc n) states transitions zero lt = refl
state_at_lem (suc n) states transitions (suc q) lt =
    let m : 4 + 4 * q ≡ 4 * suc q = omega arith in
    let k : 4 + (4 * q + 2) ≡ 4 * suc q + 2 = omega arith in
    let c : 4 * number_at states 0 + 4 * count_sum (drop 4 states) q ≡ 4 * count_sum states (suc q) =
    omega (arith, sum_first states q) in
    state_at_lem n (drop 4 states) (drop (4 * number_at states 0) transitions) q (omega arith)
    ∙ same (get_or-drop 4 states (4 * q + 2) 0 ∙ ap (λ (i : ℕ). get_or states i 0) k)
    (number_drop 4 states (4 * q) ∙ ap (number_at states) m)
    (drop-drop (4 * count_sum (drop 4 states) q) (4 * number_at states 0) transitions ∙ ap
    (λ (i : ℕ). drop i transitions) c)
  where
    same : {b b' c c' : ℕ} {d d' : List ℕ} → b ≡ b' → c ≡ c' → d ≡ d'
        → ◌≡◌ {A = State} (record { accepting = eqb b 1; transitions = transitions_from c d }) (record { accepting = eqb b' 1; transitions = transitions_from c' d' })
    same e f g = rw (e, f, g)

module _ (image : List ℕ) where
  abbrev counted : Counts
  counted = counts_at image

  abbrev count : ℕ
  count = counted.states

  abbrev states : List ℕ
  states = states_body image

  abbrev transitions : List ℕ
  transitions = transitions_body counted image

  automaton_state : (q : ℕ) → q < count
      → get_or (image_automaton image).states q no_state ≡ state_at states transitions q
  unfolding automaton_from
  automaton_state q lt = state_at_lem count states transitions q lt

  pub automaton_transitions : (q : ℕ) → q < count
      → (get_or (image_automaton image).states q no_state).transitions
      ≡ transitions_from (transition_count_of image q) (drop (records_at image q) image)
  automaton_transitions q lt =
      let e = number_drop contents_bytes image (4 * q) in
      let f = drop-drop (4 * count_sum states q) (transitions_at counted) image in
      ap (λ (s : State). s.transitions) (automaton_state q lt) ∙ (λ i. transitions_from (e i) (f i))

  pub automaton_states : length (image_automaton image).states ≡ count
  unfolding automaton_from
  automaton_states = states_length count states transitions

  automaton_none : (q : ℕ) → count ≤ q → get_or (image_automaton image).states q no_state ≡ no_state
  automaton_none q le = get_or-eq_default (image_automaton image).states no_state (omega (arith, automaton_states))

  -- what does not hold of no state holds only of states
  inside : (P : State → Type 0) → (P no_state → ⊥) → (q : ℕ) → P (get_or (image_automaton image).states q no_state)
      → q < count
  inside P none q h = go (dec_lt q count)
    where
      go : Dec (q < count) → q < count
      go (yes l) = l
      go (no l) = absurd (none (subst P (automaton_none q (omega arith)) h))

  -- a transition of state q that reads x and leads to t, as a record among those of q
  pub record Taken (q x t : ℕ) : Type 0 where
    pub index : ℕ
    pub below : index < transition_count_of image q
    pub takes : reads (record_at image (records_at image q + 4 * index)) x ≡ true
    pub reaches : t ≡ number_at image (records_at image q + 4 * index + 2)

  abbrev records_of : ℕ → List ℕ
  records_of q = drop (4 * count_sum states q) transitions

  record_offset : (q i : ℕ) → record_at (records_of q) (4 * i) ≡ record_at image (records_at image q + 4 * i)
  record_offset q i =
      record_drop (4 * count_sum states q) transitions (4 * i)
      ∙ record_drop (transitions_at counted) image (4 * count_sum states q + 4 * i)
      ∙ ap (record_at image) (omega arith)

  pub step_inside : (q x t : ℕ) → Step (image_automaton image) q x t → q < count
  step_inside q x t (s, h, r, e) = inside (λ st. In s st.transitions) (λ none. none) q h

  pub step_taken : (q x t : ℕ) → Step (image_automaton image) q x t → Taken q x t
  step_taken q x t step = go step (step_inside q x t step)
    where
      made : (s : Transition) → reads s x ≡ true → t ≡ s.target
          → (i : ℕ) × (i < number_at states (4 * q)) × (s ≡ record_at (records_of q) (4 * i)) → Taken q x t
      made s r e (i, lt, f) =
          let g : s ≡ record_at image (records_at image q + 4 * i) = f ∙ record_offset q i in
          record {
            index = i;
            below = rw (number_drop contents_bytes image (4 * q)) at lt;
            takes = subst (λ (s : Transition). reads s x ≡ true) g r;
            reaches = e ∙ ap (λ (s : Transition). s.target) g;
          }

      go : Step (image_automaton image) q x t → q < count → Taken q x t
      go (s, h, r, e) lt =
          let among = subst (λ (st : State). In s st.transitions) (automaton_state q lt) h in
          made s r e (listed_entry every_record _ _ s among)

  pub taken_step : (q x t : ℕ) → q < count → Taken q x t → Step (image_automaton image) q x t
  taken_step q x t lt h =
      let s = record_at image (records_at image q + 4 * h.index) in
      let below : h.index < number_at states (4 * q) = rw (number_drop contents_bytes image (4 * q)) h.below in
      let among = rw (record_offset q h.index) at
      (entry_listed every_record (number_at states (4 * q)) (records_of q) h.index below) in
      (s, subst (λ (st : State). In s st.transitions) (sym (automaton_state q lt)) among, h.takes, h.reaches)

  -- where the records of the first state and of the next one begin
  pub records_begin : (n : ℕ) → n ≡ count → contents_bytes + 4 * n ≡ records_at image 0
  unfolding count_sum
  records_begin n e = omega arith

  pub records_next : (q : ℕ) {at n : ℕ} → at ≡ records_at image q → n ≡ transition_count_of image q
      → at + 4 * n ≡ records_at image (q + 1)
  unfolding count_sum
  records_next q {at} {n} ea en =
      let e : n ≡ number_at (drop contents_bytes image) (4 * q) = en ∙ sym (number_drop contents_bytes image (4 * q)) in
      rw (add-one q) (omega arith)

  -- the accepting byte of state q
  byte_offset : (q : ℕ) → get_or states (4 * q + 2) 0 ≡ get_or image (accepting_at + 4 * q) 0
  byte_offset q = get_or-drop contents_bytes image (4 * q + 2) 0 ∙ ap (λ (i : ℕ). get_or image i 0) (omega arith)

  pub accepts_inside : (q : ℕ) → Accepts (image_automaton image) q → q < count
  accepts_inside q h = inside (λ st. st.accepting ≡ true) (λ e. let z : ◌≡◌ {A = ℕ} 0 1 = cc in omega arith) q h

  pub accepts_byte : (q : ℕ) → Accepts (image_automaton image) q → AcceptingByte image q
  accepts_byte q h =
      let here = subst (λ (st : State). st.accepting ≡ true) (automaton_state q (accepts_inside q h)) h in
      sym (byte_offset q) ∙ eqb-true (get_or states (4 * q + 2) 0) 1 here

  pub byte_accepts : (q : ℕ) → q < count → AcceptingByte image q → Accepts (image_automaton image) q
  byte_accepts q lt e =
      let here = eq-eqb (get_or states (4 * q + 2) 0) 1 (byte_offset q ∙ e) in
      subst (λ (st : State). st.accepting ≡ true) (sym (automaton_state q lt)) here

  -- the initial numbers
  abbrev initial : List ℕ
  initial = initial_body counted image

  abbrev InitialAt : ℕ → Type 0
  InitialAt q = (i : ℕ) × (i < counted.initial) × (q ≡ number_at image (initial_at counted + 2 * i))

  initial_number : (q : ℕ) → In q (image_automaton image).initial → InitialAt q
  unfolding automaton_from
  initial_number q h = go (listed_entry every_number counted.initial initial q h)
    where
      go : (i : ℕ) × (i < counted.initial) × (q ≡ number_at initial (2 * i)) → InitialAt q
      go (i, lt, e) = (i, lt, e ∙ number_drop (initial_at counted) image (2 * i))

  -- what the checks say of these bytes
  module _ (fine : Readable image) where
    -- a record of state q lies among all records, and its target is a state
    pub record_inside : (q i : ℕ) → q < count → i < transition_count_of image q
        → count_sum states q + i < counted.transitions
    unfolding count_sum
    record_inside q i lq li =
        omega (arith, count_up states (suc q) count lq, fine.sum, number_drop contents_bytes image (4 * q))

    pub records_end : (q : ℕ) → q < count → records_at image q + 4 * transition_count_of image q ≤ length image
    unfolding count_sum
    records_end q lq =
        omega (arith, count_up states (suc q) count lq, fine.sum, fine.size, number_drop contents_bytes image (4 * q))

    pub target_inside : (q i : ℕ) → q < count → i < transition_count_of image q
        → number_at image (records_at image q + 4 * i + 2) < count
    target_inside q i lq li =
        let k = count_sum states q + i in
        let e : transitions_at counted + (4 * k + 2) ≡ records_at image q + 4 * i + 2 = omega arith in
        let below = fine.targets k (record_inside q i lq li) in
        subst (λ (j : ℕ). number_at image j < count) e
        (rw (number_drop (transitions_at counted) image (4 * k + 2)) at below)

    pub step_target : (q x t : ℕ) → Step (image_automaton image) q x t → t < count
    step_target q x t step =
        let h = step_taken q x t step in
        rw h.reaches (target_inside q h.index (step_inside q x t step) h.below)

    -- the initial numbers are the image's last
    pub initial_offset : (n : ℕ) → n ≡ counted.initial → length image - 2 * n ≡ initial_at counted
    initial_offset n e = omega (arith, fine.size)

    pub initial_inside : (i : ℕ) → i < counted.initial → number_at image (initial_at counted + 2 * i) < count
    initial_inside i lt = rw (number_drop (initial_at counted) image (2 * i)) at (fine.starts i lt)

    pub initial_state : (q : ℕ) → In q (image_automaton image).initial → q < count
    initial_state q h = go (initial_number q h)
      where
        go : InitialAt q → q < count
        go (i, lt, e) = rw e (initial_inside i lt)
