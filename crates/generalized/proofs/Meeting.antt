-- A loop that meets the targets of a state one after another and puts its transitions into the table.
-- Assumes nothing.
use mathlib.Core.Path.{◌≡◌, refl, sym, ap, ◌∙◌}
use mathlib.Core.List.{List, [], ◌∷◌, map, map-append}
use Prim.Native.Nat.{ℕ, suc, ◌+◌, ◌≤◌, ◌<◌}
use native.Mathlib.Nat.{add-zero}
use native.Mathlib.Numerals.{add-one}
use native.Mathlib.Omega.{arith}
use lib.ListN.{length, get_or, take, drop, set, length-drop, length-map, length-set, drop_of_length-le}
use lib.Seq.{length-take-le, take_all, take-suc, take-suc-set, take-set-le, drop-cons, drop-set-add}
use lib.Dec.{eqb}
use borrow.Author.Tests.{eq-eqb, eqb-true, ltb-true}
use Rattle.answer.proofs.Results.{require_fine}
use Rattle.answer.specs.Result.{Result, refused, fine}
use Rattle.sets.proofs.Members.{map_at}
use Rattle.term.specs.Term.{term}
use Rattle.term.specs.Memory.{obligations_n, unpack}
use Rattle.acceptance.specs.Acceptance.{fulfilment}
use Rattle.generalized.specs.Limits.{max_generalized_states, max_generalized_transitions}
use Rattle.generalized.specs.declared.Extent.{Extent}
use Rattle.generalized.specs.declared.Met.{Met}
use Rattle.std.specs.Prelude.{Some, None, Ok}
use Rattle.generalized.specs.Explore.{find, meet}
use Rattle.generalized.specs.Generalized.{transition_check, state_numbering}
use Rattle.generalized.specs.Memory.{kept_n, kept, ListedKept, OwnNumber, NumberedState, MeetsState}
use Rattle.generalized.specs.Memory.{WalkRoom, meet_targets, Told, MeetsAll}
use Rattle.generalized.proofs.Exploring.{all_refused, all_full, all_next, all_met}
use Rattle.generalized.proofs.Explored.{find_at}
use Rattle.generalized.proofs.Numbers.{listed_on, listed_none, listed_one, listed_both}

-- a loop over ts that stands at i: the rest of them, met now, comes to what all come to, and those before i are in the
-- table behind the total that were there before; last is the number of the one met last
pub record Meeting (ts bytes : List ℕ) (place : ℕ) (before : Extent) (states₀ transitions₀ states transitions : List ℕ)
    (seen last i : ℕ) : Type 0 where
  pub within : i ≤ length ts
  pub room : WalkRoom (record { states = seen; transitions = before.transitions + i }) states transitions
  pub own : OwnNumber last (take seen states)
  pub left : meet_targets place (map unpack (drop i ts)) (before.transitions + i) (take seen states)
      ≡ meet_targets place (map unpack ts) before.transitions (take before.states states₀)
  pub same : take before.transitions transitions ≡ take before.transitions transitions₀
  pub listed : (rule : List ℕ) → Told rule ts bytes
      → ListedKept rule (take seen states) (map unpack (take i ts)) (take i (drop before.transitions transitions))

-- whatever stands first has the number 0
own_first : (items : List ℕ) → OwnNumber 0 items
unfolding find
own_first [] lt = refl
own_first (x ∷ xs) lt = rw (eq-eqb x x refl, find)

-- the number with which x was met
own_met : (x : ℕ) {xs : List ℕ} {met : Result (List ℕ)} (number n : ℕ) (items : List ℕ)
    → NumberedState x xs met number n items → OwnNumber number (take n items)
own_met x number n items m lt =
    let found = find_at eqb eqb-true 0 x (take n items) (rw m.found at lt) in
    let is : get_or (take n items) number 0 ≡ x = rw m.found found in
    rw is m.found

pub meeting_begins : {ts bytes : List ℕ} {place : ℕ} {before : Extent} {states₀ transitions₀ : List ℕ}
    → WalkRoom before states₀ transitions₀
    → Meeting ts bytes place before states₀ transitions₀ states₀ transitions₀ before.states 0 0
meeting_begins {before = before} {states₀ = states₀} room = record {
  within = omega arith;
  room = rw add-zero room;
  own = own_first (take before.states states₀);
  left = rw add-zero;
  same = refl;
  listed = λ rule told. listed_none;
}

module _ {ts bytes : List ℕ} {place : ℕ} {before : Extent} {states₀ transitions₀ states transitions : List ℕ}
    {seen last i : ℕ}
    (inv : Meeting ts bytes place before states₀ transitions₀ states transitions seen last i) where
  abbrev total : ℕ
  total = before.transitions

  -- what all come to
  abbrev whole : Result (List ℕ)
  whole = meet_targets place (map unpack ts) total (take before.states states₀)

  pub meeting_ends : length ts ≤ i
      → MeetsAll ts bytes place before states₀ transitions₀
      (Ok (record { states = seen; transitions = total + length ts })) states transitions
  meeting_ends ge rule told =
      let same : i ≡ length ts = omega (arith, inv.within) in
      let none : drop i ts ≡ [] = drop_of_length-le ts {i = i} ge in
      let left = rw none at inv.left in
      let listed = rw (same, take_all (length ts) ts (omega arith)) at (inv.listed rule told) in
      record {
        are = sym left ∙ all_met state_numbering place (total + i) (take seen states);
        few = inv.room.few;
        counted = rw (length-map ts unpack);
        fits = omega (arith, inv.room.fits);
        same = inv.same;
        listed = rw (length-map ts unpack) listed;
      }

  module _ (lt : i < length ts) where
    abbrev t : ℕ
    t = get_or ts i 0

    left_is : meet_targets place (unpack t ∷ map unpack (drop (suc i) ts)) (total + i) (take seen states) ≡ whole
    left_is = rw (drop-cons ts i 0 lt) at inv.left

    pub meeting_late : {number at : ℕ} → refused number at ≡ transition_check place (total + i)
        → whole ≡ refused number at
    meeting_late e =
        sym left_is ∙ all_refused state_numbering place _ _ (total + i) (take seen states) (sym e)

    module _ (in_time : transition_check place (total + i) ≡ fine) (after : List ℕ) where
      free : total + i < max_generalized_transitions
      free = ltb-true (total + i) max_generalized_transitions (require_fine _ 22 place in_time)

      pub meeting_full : MeetsState (obligations_n t) seen states None after → whole ≡ refused 23 place
      meeting_full meets =
          sym left_is
          ∙ all_full state_numbering place _ _ (total + i) (take seen states) in_time
          (rw inv.room.states_room at (meets 23 place))

      module _ (m : Met) (meets : MeetsState (obligations_n t) seen states (Some m) after) where
        met : NumberedState (obligations_n t) (take seen states)
            (meet eqb (length states) 23 place (obligations_n t) (take seen states)) m.number m.count after
        met = meets 23 place

        module _ (same : length after ≡ length states) where
          pub target_small : m.number < max_generalized_states
          target_small = omega (arith, met.inside, met.fits, inv.room.states_room)

          byte_is : (rule : List ℕ) → Told rule ts bytes → get_or bytes i 0 ≡ fulfilment rule (unpack t)
          byte_is rule told =
              let none = term 0 0 0 in
              ap (λ (xs : List ℕ). get_or xs i 0) told
              ∙ map_at (fulfilment rule) none 0 (map unpack ts) i (omega (arith, length-map ts unpack))
              ∙ ap (fulfilment rule) (map_at unpack 0 none ts i lt)

          pub meeting_steps : {x : ℕ} → x ≡ kept_n m.number (get_or bytes i 0) (unpack t).must (unpack t).must_not
              → Meeting ts bytes place before states₀ transitions₀
              after (set transitions (total + i) x) m.count m.number (i + 1)
          meeting_steps {x} e =
              let up : total + (i + 1) ≡ suc (total + i) = omega arith in
              let here : length (take m.count after) ≡ m.count = length-take-le m.count after met.fits in
              let known = rw inv.room.states_room at met.are in
              let stored = take-suc-set (drop total transitions) i x
              (omega (arith, free, length-drop total transitions, inv.room.transitions_room)) in
              record {
                within = omega arith;
                room = record {
                  states_room = same ∙ inv.room.states_room;
                  few = omega (arith, met.fits, inv.room.states_room);
                  transitions_room = length-set transitions (total + i) x ∙ inv.room.transitions_room;
                  fits = omega (arith, free);
                };
                own = own_met (obligations_n t) m.number m.count after met;
                left = rw (up, add-one)
                    (sym (all_next state_numbering place _ _ _ _ in_time known) ∙ left_is);
                same = take-set-le total transitions (total + i) x (omega arith) ∙ inv.same;
                listed = λ rule told.
                    let is : x ≡ kept rule (take m.count after) (unpack t) =
                    e ∙ rw (met.found, byte_is rule told) in
                    let one = listed_one {rule = rule} {xs = take m.count after} (unpack t)
                    (omega (arith, here, met.found, met.inside)) in
                    let taken = take-suc ts i 0 (omega arith) in
                    let both = map-append unpack (take i ts) (t ∷ []) in
                    rw (add-one, drop-set-add total transitions i x, stored, taken, both, is)
                    (listed_both (listed_on _ _ met.first (inv.listed rule told)) one);
              }
