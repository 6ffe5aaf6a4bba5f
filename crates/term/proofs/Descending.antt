-- What a descent finds of a node, from what it finds of the children: a count above max_terms is handed on.
-- Assumes nothing.
use mathlib.Core.Path.{◌≡◌, refl, sym, ◌∙◌}
use mathlib.Core.List.{List, map}
use Prim.Native.Nat.{ℕ, suc, ◌≤◌, ◌<◌}
use native.Mathlib.Decide.{dec_lt}
use native.Mathlib.Omega.{arith}
use lib.ListN.{length, length-map}
use Rattle.answer.specs.Result.{fine, lowest}
use Rattle.formula.specs.Rule.{node_count, root, kind_at, left_at, right_at}
use Rattle.formula.specs.Rule
use Rattle.formula.specs.Formula.{tree, formula}
use Rattle.answer.proofs.Lowest.{lowest_below}
use Rattle.formula.proofs.Accepted.{accepted_fine}
use Rattle.term.specs.declared.Terms.{Terms}
use Rattle.term.specs.Limits.{max_terms}
use Rattle.term.specs.Term.{terms, cover, conflicts}
use Rattle.term.specs.Size.{size_check, sizes_checked}
use Rattle.term.specs.Memory.{IsPacked, IsTerms, IsCover, pack, pack_set, FromChildren}
use Rattle.term.specs.Memory.{Over, Found, FoundTerms, FoundCover, FoundConflicts}
use Rattle.term.proofs.ByKind.{of_next}
use Rattle.term.proofs.Sizes.{Ready, ready_in_range, left_lower, right_lower, of_pair, bytes_fine}
use Rattle.term.proofs.Sizes.{sizes_fine, over_above, over_many}

module _ (rule : List ℕ) (n : ℕ) where
  many_terms : max_terms < length (map pack (terms (tree rule n))) → Over rule n
  many_terms many = over_many rule n (λ few. omega (arith, few.terms, length-map (terms (tree rule n)) pack))

  many_sets : max_terms < length (map pack_set (cover (tree rule n))) → Over rule n
  many_sets many = over_many rule n (λ few. omega (arith, few.cover, length-map (cover (tree rule n)) pack_set))

  module _ {r : Terms} {ws : List ℕ} (many : max_terms < length ws → Over rule n) where
    found : IsPacked r ws → Found rule n r ws
    found is = record { within = λ _. is; over = λ lt. many (omega (arith, is.count)) }

    -- by the values a and b of nodes below n
    found_pair : (k l : ℕ) → k < n → l < n → {a b : Terms} {us vs : List ℕ} → Found rule k a us → Found rule l b vs
        → (r.count ≤ max_terms → (a.count ≤ max_terms) × (b.count ≤ max_terms))
        → (a.count ≤ max_terms → b.count ≤ max_terms → IsPacked a us → IsPacked b vs → IsPacked r ws)
        → Found rule n r ws
    found_pair k l below-k below_l {a} {b} {us} {vs} fa fb both made = record {
      within = λ le. let (p, q) = both le in made p q (fa.within p) (fb.within q);
      over = λ lt. pick lt (dec_lt max_terms a.count) (dec_lt max_terms b.count);
    }
      where
        pick : max_terms < r.count → Dec (max_terms < a.count) → Dec (max_terms < b.count) → Over rule n
        pick lt (yes p) d = over_above rule n k (omega arith) (fa.over p)
        pick lt (no p) (yes q) = over_above rule n l (omega arith) (fb.over q)
        pick lt (no p) (no q) =
            many (omega (
              arith,
              (made (omega arith) (omega arith) (fa.within (omega arith))
                  (fb.within (omega arith))).count,
            ))

  module _ {r : Terms} where
    pub found_terms : IsTerms r (terms (tree rule n)) → FoundTerms rule n r
    found_terms is = found many_terms is

    pub found_cover : IsCover r (cover (tree rule n)) → FoundCover rule n r
    found_cover is = found many_sets is

-- no node up to n is a 20
module _ (rule : List ℕ) (n : ℕ) {r : Terms} {ws : List ℕ} (fine-to : lowest (size_check rule) (suc n) ≡ fine)
    (found : Found rule n r ws) where
  found_few : r.count ≤ max_terms
  found_few = pick (dec_lt max_terms r.count)
    where
      pick : Dec (max_terms < r.count) → r.count ≤ max_terms
      pick (yes over) = absurd (found.over over fine-to)
      pick (no few) = omega arith

  pub found_fine : IsPacked r ws
  found_fine = found.within found_few

-- an inner node n by its children l and m
module _ {rule : List ℕ} {n kind l : ℕ} (ready : Ready rule n) (ek : kind ≡ kind_at rule n) (el : l ≡ left_at rule n)
  where
    pub conflicts_next : kind ≡ 6 → {dropped : ℕ} → FoundConflicts rule l dropped → FoundConflicts rule n dropped
    unfolding conflicts
    conflicts_next e below fine-to =
        let operand : conflicts (tree rule n) ≡ conflicts (tree rule l) =
        of_pair ready ek (λ g. conflicts g ≡ conflicts (tree rule l)) el refl (omega arith) (rw e) in
        let lower = left_lower ready ek el (omega arith) in
        below (lowest_below (size_check rule) (suc n) fine-to (suc l) (omega arith)) ∙ sym operand

    -- whose value is r
    module _ {r : Terms} where
      pub terms_next : kind ≡ 6 → FoundCover rule l r → FoundTerms rule n r
      terms_next e f =
          let same : map pack (terms (tree rule n)) ≡ map pack_set (cover (tree rule l)) =
          of_pair ready ek (λ g. map pack (terms g) ≡ map pack_set (cover (tree rule l))) el refl (omega arith)
          (of_next n _ _ _ kind e) in
          record {
            within = λ le. rw same (f.within le);
            over = λ lt. over_above rule n l (omega (arith, left_lower ready ek el (omega arith))) (f.over lt);
          }

      module _ {m : ℕ} (em : m ≡ right_at rule n) (inner : 3 < kind) {a b : Terms} (made : FromChildren kind n a b r)
        where
          below_l : l < n
          below_l = left_lower ready ek el inner

          below_m : m < n
          below_m = right_lower ready ek em inner

          pub terms_pair : FoundTerms rule l a → FoundTerms rule m b → FoundTerms rule n r
          terms_pair fa fb =
              found_pair rule n (many_terms rule n) l m below_l below_m fa fb made.handed_on
              (λ p q x y.
              of_pair ready ek (λ f. IsTerms r (terms f)) el em inner
              (made.has_terms p q l _ _ (ready_in_range ready l (omega (arith, below_l)))
              (ready_in_range ready m (omega (arith, below_m))) x y))

          pub conflicts_pair : FoundTerms rule l a → FoundTerms rule m b → FoundConflicts rule l a.conflicts
              → FoundConflicts rule m b.conflicts
              → FoundConflicts rule n r.conflicts
          conflicts_pair fa fb ca cb fine-to =
              let fine-l = lowest_below (size_check rule) (suc n) fine-to (suc l) (omega (arith, below_l)) in
              let fine-m = lowest_below (size_check rule) (suc n) fine-to (suc m) (omega (arith, below_m)) in
              of_pair ready ek (λ f. r.conflicts ≡ conflicts f) el em inner
              (made.has_conflicts (found_few rule l fine-l fa) (found_few rule m fine-m fb) l _ _
              (ready_in_range ready l (omega (arith, below_l))) (ready_in_range ready m (omega (arith, below_m)))
              (record { packed = found_fine rule l fine-l fa; conflicts = ca fine-l })
              (record { packed = found_fine rule m fine-m fb; conflicts = cb fine-m }))

          pub cover_pair : kind < 6 → FoundCover rule l a → FoundCover rule m b → FoundCover rule n r
          cover_pair low fa fb =
              found_pair rule n (many_sets rule n) l m below_l below_m fa fb made.handed_on
              (λ p q x y. of_pair ready ek (λ f. IsCover r (cover f)) el em inner (made.is_cover p q low l _ _ x y))

-- of the root, where no node is a 20
module _ (rule : List ℕ) (bytes : Rule.checked rule ≡ fine) (sizes : lowest (size_check rule) (node_count rule) ≡ fine)
  where
    root_fine : lowest (size_check rule) (suc (root rule)) ≡ fine
    root_fine =
        let some = (accepted_fine rule bytes).some in
        lowest_below (size_check rule) (node_count rule) sizes (suc (root rule)) (omega arith)

    pub root_conflicts : {dropped : ℕ} → FoundConflicts rule (root rule) dropped → dropped ≡ conflicts (formula rule)
    unfolding formula
    root_conflicts found = found root_fine

pub root_found : (rule : List ℕ) → sizes_checked rule ≡ fine → {r : Terms} → FoundCover rule (root rule) r
    → IsCover r (cover (formula rule))
unfolding formula
root_found rule passed found =
    found_fine rule (root rule) (root_fine rule (bytes_fine rule passed) (sizes_fine rule passed)) found
