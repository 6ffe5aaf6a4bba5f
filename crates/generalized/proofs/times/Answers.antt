-- `generalized::times` meets its contract: a copied row is the product with the one term 0, else the product is worked
-- out beside and copied back. Assumes nothing.
use native.Mathlib.Omega.{arith}
use mathlib.Core.Path.{◌≡◌, refl, ◌∙◌}
use mathlib.Core.List.{List, [], ◌∷◌, ◌++◌}
use Prim.Native.Nat.{ℕ, suc, ◌+◌, ◌-◌, ◌*◌, ◌≤◌, ◌<◌}
use lib.ListN.{length, get_or, take, drop, length-drop}
use lib.Seq.{take-suc, take_at, length-take-le}
use Rattle.sets.specs.declared.Joined.{Joined}
use Rattle.sets.specs.Sets.{Stores, Joins, insert_product_n, product_conflicts_n}
use Rattle.sets.proofs.Stores.{empty, items_are}
use Rattle.term.specs.Limits.{row_places}
use Rattle.term.specs.Memory.{row_of}
use Rattle.generalized.specs.Limits.{max_product}
use Rattle.generalized.specs.Memory.{Factor, Multiplied}
use Rattle.generalized.proofs.times.Goals as goal

module _ {table : List ℕ} {k n : ℕ} (factor : Factor table k) (is : n ≡ get_or table (k * row_places) 0) where
  abbrev part : List ℕ
  part = take (k * row_places + 1 + n - (k * row_places + 1)) (drop (k * row_places + 1) table)

  row : part ≡ row_of table k
  row =
      let from : k * row_places + 1 ≡ suc (k * row_places) = omega arith in
      let same : k * row_places + 1 + n - (k * row_places + 1) ≡ n = omega arith in
      rw (same, from, is)

  row_size : length part ≡ n
  row_size =
      let left = length-drop (suc (k * row_places)) table in
      rw (row, is) (length-take-le (get_or table (k * row_places) 0) _ (omega (arith, factor.inside, left)))

  module _ (product : List ℕ) (count : ℕ) where
    -- the product with the row, and its conflicts
    abbrev times : List ℕ
    times = insert_product_n (take count product) (row_of table k) []

    abbrev dropped : ℕ
    dropped = product_conflicts_n (take count product) (row_of table k)

    alone : {after : List ℕ} → 1 ≤ length product → count ≡ 1 → get_or product 0 0 ≡ 0
        → after ≡ part ++ drop (length part) product
        → Multiplied after (record { count = n; conflicts = 0 }) times dropped
    alone some one zero e =
        let first : take 1 product ≡ 0 ∷ [] = take-suc product 0 0 some ∙ rw zero in
        let same : times ≡ part = rw (one, first, factor.alone, row) in
        record {
          count = rw same (rw row_size);
          few = omega (arith, factor.few);
          are = rw (same, e) (take_at part _ n row_size);
          conflicts = rw (one, first, factor.apart);
        }

    module _ {before next : List ℕ} {r : Joined} (room : length next ≡ max_product)
        (joins : Joins before 0 next r (insert_product_n (take count product) part)
        (product_conflicts_n (take count product) part)) where
      stored : Stores next r.count times
      stored = rw row at (joins.updates [] (empty before))

      over : max_product < r.count → max_product < length times
      over lt = omega (arith, stored.count)

      back : r.count ≤ max_product → {after : List ℕ}
          → after ≡ take r.count next ++ drop (length (take r.count next)) product → Multiplied after r times dropped
      back le e =
          let taken = length-take-le r.count next (omega arith) in
          record {
            count = omega (arith, stored.count);
            few = le;
            are = rw e (take_at (take r.count next) _ r.count taken ∙ items_are stored (omega arith));
            conflicts = rw (← row) joins.conflicts;
          }

pub returns-then-product-eq0 : goal.returns-then-product-eq0
returns-then-product-eq0 c =
    alone c.requires.2 refl c.args.product.now c.args.count (omega (arith, c.requires.3.room)) c.if-count-eq1.true
    (omega arith) c.copy.ensures

pub returns-then-joined-gt-MAX_PRODUCT : goal.returns-then-joined-gt-MAX_PRODUCT
returns-then-joined-gt-MAX_PRODUCT c =
    over c.requires.2 refl c.args.product.now c.args.count (c.product-joined.auto.items ∙ c.requires.3.beside)
    c.product-joined.ensures c.if-joined-gt-MAX_PRODUCT.true

pub returns : goal.returns
returns c =
    back c.requires.2 refl c.args.product.now c.args.count (c.product-joined.auto.items ∙ c.requires.3.beside)
    c.product-joined.ensures c.if-joined-gt-MAX_PRODUCT.false c.copy-2.ensures
