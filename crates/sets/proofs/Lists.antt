-- An element put at a place of a list. Assumes nothing.
use mathlib.Core.Path.{◌≡◌, refl, ap, ◌∙◌}
use mathlib.Core.List.{List, [], ◌∷◌, ◌++◌}
use Prim.Native.Nat.{ℕ, zero, suc, ◌+◌, ◌<◌}
use native.Mathlib.Omega.{arith}
use native.Mathlib.Nat.{not-suc-le-zero, le_of_suc-le-suc}
use lib.ListN.{length, take, drop, set}
use lib.Seq.{length-take-le, take_all}
use Rattle.std.proofs.lemmas.List.{take-append-le}
use Rattle.sets.specs.Sets.{insert_at}

module _ {A : Type 0} where
  -- what stands from i to n is copied one place on, and t put at i
  pub shift_put : (i n m : ℕ) (t : A) (xs zs : List A) → n ≡ i + m → n < length xs
      → take (suc n) (set (take (suc i) xs ++ take m (drop i xs) ++ zs) i t) ≡ insert_at i t (take n xs)
  unfolding insert_at
  shift_put i n m t [] zs e lt = absurd (not-suc-le-zero lt)
  shift_put zero n m t (x ∷ xs) zs e lt =
      let same : m ≡ n = omega arith in
      let long = length-take-le n (x ∷ xs) (omega arith) in
      rw same (ap {B = List A} (λ r. t ∷ r) (
      take-append-le n (take n (x ∷ xs)) zs (omega arith)
      ∙ take_all n (take n (x ∷ xs)) (omega arith)
      ))
  shift_put (suc i) zero m t (x ∷ xs) zs e lt = absurd (omega arith)
  shift_put (suc i) (suc n) m t (x ∷ xs) zs e lt =
      ap {B = List A} (λ r. x ∷ r) (shift_put i n m t xs zs (omega arith) (le_of_suc-le-suc lt))

  pub length_put : (i : ℕ) (t : A) (xs : List A) → length (insert_at i t xs) ≡ suc (length xs)
  unfolding insert_at
  length_put zero t xs = refl
  length_put (suc i) t [] = refl
  length_put (suc i) t (x ∷ xs) = ap suc (length_put i t xs)
