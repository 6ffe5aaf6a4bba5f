-- The root's cover, put into the table as the first states.
-- Assumes nothing.
use mathlib.Core.Path.{◌≡◌, refl, sym, ap, ◌∙◌}
use mathlib.Core.List.{List, [], ◌∷◌, map, map-append}
use Prim.Native.Nat.{ℕ, ◌+◌, ◌≤◌, ◌<◌}
use native.Mathlib.Numerals.{add-one}
use native.Mathlib.Omega.{arith}
use lib.ListN.{length, get_or, take, set, length-map, length-set}
use lib.Seq.{take-suc, take-suc-set, take_all}
use Rattle.term.specs.declared.Terms.{Terms}
use Rattle.term.specs.Limits.{max_terms}
use Rattle.term.specs.Memory.{pack_set, obligations_n, IsCover}
use Rattle.term.proofs.Carries.{carried}
use Rattle.generalized.specs.Limits.{max_generalized_states}

unpacked : (cs : List ℕ) → map obligations_n (map pack_set cs) ≡ cs
unpacked [] = refl
unpacked (c ∷ cs) =
    let e : obligations_n (pack_set c) ≡ c = omega arith in
    rw (e, unpacked cs)

-- a loop that puts the cover cs, packed in sets, into states and stands at i
pub record Covering (cs sets states : List ℕ) (i : ℕ) : Type 0 where
  pub within : i ≤ length sets
  pub few : length sets ≤ max_terms
  pub is : sets ≡ map pack_set cs
  pub room : length states ≡ max_generalized_states
  pub listed : take i states ≡ map obligations_n (take i sets)

pub cover_few : (cs : List ℕ) (sets : Terms) → IsCover sets cs → length cs ≤ max_terms → sets.count ≤ max_terms
cover_few cs sets is few = omega (arith, is.count, length-map cs pack_set)

pub cover_begins : {cs : List ℕ} (sets : Terms) {states : List ℕ} → IsCover sets cs → length cs ≤ max_terms
    → length states ≡ max_generalized_states → Covering cs (take sets.count sets.items) states 0
cover_begins {cs} sets is few room =
    let same = carried is (cover_few cs sets is few) in
    record { within = omega arith; few = rw (same, length-map) few; is = same; room = room; listed = refl }

module _ {cs sets states : List ℕ} {i : ℕ} (inv : Covering cs sets states i) where
  pub cover_steps : i < length sets → Covering cs sets (set states i (obligations_n (get_or sets i 0))) (i + 1)
  cover_steps lt =
      let x = obligations_n (get_or sets i 0) in
      let stored = take-suc-set states i x (omega (arith, inv.few, inv.room)) in
      let taken = take-suc sets i 0 lt in
      record {
        within = omega arith;
        few = inv.few;
        is = inv.is;
        room = length-set states i x ∙ inv.room;
        listed = rw (add-one, stored, inv.listed, taken)
            (sym (map-append obligations_n (take i sets) (get_or sets i 0 ∷ [])));
      }

  pub cover_ends : length sets ≤ i → take (length sets) states ≡ cs
  cover_ends ge =
      let same : i ≡ length sets = omega (arith, inv.within) in
      (rw (same, take_all (length sets) sets (omega arith)) at inv.listed) ∙ ap (map obligations_n) inv.is ∙ unpacked cs
