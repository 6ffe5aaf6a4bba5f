-- The bits for which joins are dropped: there are none where 0 is joined to consistent numbers. Assumes nothing.
use mathlib.Core.Path.{◌≡◌, refl}
use mathlib.Core.List.{List, [], ◌∷◌}
use Prim.Native.Nat.{ℕ, suc}
use borrow.Author.Tests.{eqb-true}
use Rattle.sets.specs.Sets.{join_conflicts, product_conflicts, conflict_n, join_conflicts_n, product_conflicts_n}
use Rattle.sets.proofs.Rising.{Rising, Consistent}

joins_apart : (low : ℕ) (ys : List ℕ) → Rising Consistent low ys → join_conflicts_n 0 ys ≡ 0
unfolding join_conflicts
joins_apart low [] r = refl
joins_apart low (y ∷ ys) r = rw (eqb-true (conflict_n y) 0 r.1, joins_apart (suc y) ys r.2)

pub product_apart : (low : ℕ) (ys : List ℕ) → Rising Consistent low ys → product_conflicts_n (0 ∷ []) ys ≡ 0
unfolding product_conflicts
product_apart low ys r = rw (joins_apart low ys r)
