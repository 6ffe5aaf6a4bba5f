-- A pass backwards as a loop that counts down over a row of the table. Assumes nothing.
use Prim.Native.Nat.{ℕ, zero, suc, ◌+◌, ◌-◌, ◌≤◌, ◌<◌}
use mathlib.Core.Path.{◌≡◌, refl, sym, ◌∙◌, ap, ap₂}
use mathlib.Core.List.{List, ◌∷◌}
use mathlib.Core.Bool.{Bool, false}
use native.Mathlib.Omega.{arith}
use lib.ListN.{get_or, length, take, drop, set, length-set}
use lib.Seq.{take-set-le, drop-set-lt, drop-cons, get_or-set_same, lt-length-set, take-take, get_or-take}
use Rattle.lasso.specs.Lasso.{letter, after}
use Rattle.lasso.proofs.Letters.{after_small}
use Rattle.evaluate.specs.Truth.{sweep}
use Rattle.evaluate.proofs.Sweeps.{sweep_turn}
use Rattle.evaluate.specs.Memory.{leaf_here, pair_here, round_here, pair_step, round_step, Swept}

module _ (f : ℕ → Bool → Bool) (at end : ℕ) (v : Bool) (xs : List Bool) where
  pub sweep_begins : Swept f at end v xs xs end
  unfolding sweep
  sweep_begins =
      let z : end - end ≡ 0 = omega arith in
      record {
        within = omega arith;
        size = refl;
        row = ap (λ (k : ℕ). take k (drop (at + end) xs)) z ∙ sym (ap (λ (k : ℕ). sweep f end k v) z);
        kept = refl;
      }

  -- the flag at j is stored behind those from i = j + 1 on
  pub sweep_steps : (ys : List Bool) (i j : ℕ) (x : Bool) → i ≡ suc j → at + end ≤ length xs
      → x ≡ f j (get_or (sweep f i (end - i) v) 0 v)
      → Swept f at end v xs ys i → Swept f at end v xs (set ys (at + j) x) j
  sweep_steps ys i j x e l q inv = record {
    within = omega (arith, inv.within);
    size = length-set ys (at + j) x ∙ inv.size;
    row =
        ap (λ (zs : List Bool). take (end - j) zs)
        (drop-cons (set ys (at + j) x) (at + j) false (lt-length-set ys (at + j) x inside))
        ∙ ap (λ (k : ℕ). take k (get_or (set ys (at + j) x) (at + j) false ∷ drop (suc (at + j)) (set ys (at + j) x)))
        more
        ∙ ap₂ (λ (y : Bool) (zs : List Bool). y ∷ zs) (get_or-set_same ys (at + j) x false inside ∙ made)
        (ap (take (end - suc j)) (drop-set-lt (suc (at + j)) ys (at + j) x (omega arith)) ∙ rest)
        ∙ sym (sweep_turn f v end j lt);
    kept =
        take-set-le (at + j) ys (at + j) x (omega arith) ∙ sym (take-take (at + j) (at + i) ys (omega arith))
        ∙ ap (take (at + j)) inv.kept ∙ take-take (at + j) (at + i) xs (omega arith);
  }
    where
      lt : j < end
      lt = omega (arith, inv.within)

      inside : at + j < length ys
      inside = omega (arith, inv.size, lt)

      more : end - j ≡ suc (end - suc j)
      more = omega (arith, lt)

      up : suc (at + j) ≡ at + i
      up = omega arith

      rest : take (end - suc j) (drop (suc (at + j)) ys) ≡ sweep f (suc j) (end - suc j) v
      rest =
          ap (λ (k : ℕ). take (end - suc j) (drop k ys)) up
          ∙ ap (λ (k : ℕ). take (end - k) (drop (at + i) ys)) (sym e)
          ∙ inv.row
          ∙ ap (λ (k : ℕ). sweep f k (end - k) v) e

      made : x ≡ f j (get_or (sweep f (suc j) (end - suc j) v) 0 v)
      made = q ∙ ap (λ (k : ℕ). f j (get_or (sweep f k (end - k) v) 0 v)) e

  -- places before the row are as they were
  pub before_row : (ys : List Bool) (i k : ℕ) → k < at → Swept f at end v xs ys i
      → get_or ys k false ≡ get_or xs k false
  before_row ys i k l inv =
      sym (get_or-take (at + i) ys k false (omega arith)) ∙ ap (λ (zs : List Bool). get_or zs k false) inv.kept
      ∙ get_or-take (at + i) xs k false (omega arith)

-- passes by rules that agree
pub sweep_agree : (f g : ℕ → Bool → Bool) (v : Bool) (count i : ℕ)
    → ((p : ℕ) (r : Bool) → i ≤ p → p < i + count → f p r ≡ g p r) → sweep f i count v ≡ sweep g i count v
unfolding sweep
sweep_agree f g v zero i h = refl
sweep_agree f g v (suc count) i h =
    let t = sweep_agree f g v count (suc i) (λ p r a b. h p r (omega arith) (omega arith)) in
    ap₂ (λ (y : Bool) (zs : List Bool). y ∷ zs)
    (ap (λ (zs : List Bool). f i (get_or zs 0 v)) t ∙ h i (get_or (sweep g (suc i) count v) 0 v) (omega arith)
    (omega arith)) t

-- ---- the flag that is stored, by what is read

pub leaf_flag : (kind p : ℕ) (stem cycle : List ℕ) (j : ℕ) (x : Bool) (y : ℕ) → x ≡ leaf_here kind p y
    → y ≡ letter stem cycle j → x ≡ leaf_here kind p (letter stem cycle j)
leaf_flag kind p stem cycle j x y e f = e ∙ ap (λ (z : ℕ). leaf_here kind p z) f

module _ (kind a b at total : ℕ) (v : Bool) (f : ℕ → Bool → Bool) (xs ys : List Bool)
    (left : a + total ≤ at) (right : b + total ≤ at) where
  pub pair_flag : (stem cycle : List ℕ) → total ≡ length stem + length cycle → 0 < length cycle
      → (j i next : ℕ) (x r : Bool) → i ≡ suc j → Swept f at total v xs ys i → next ≡ after stem cycle j
      → x ≡ pair_here kind (get_or ys (a + j) false) (get_or ys (b + j) false) (get_or ys (a + next) false)
      → x ≡ pair_step kind xs a b stem cycle j r
  pair_flag stem cycle et pos j i next x r e inv n q =
      let w = inv.within in
      let m : next < total = omega (arith, after_small stem cycle pos j) in
      let p = before_row f at total v xs ys i (a + j) (omega arith) inv in
      let o = before_row f at total v xs ys i (b + j) (omega arith) inv in
      let t =
      before_row f at total v xs ys i (a + next) (omega arith) inv ∙ ap (λ (k : ℕ). get_or xs (a + k) false) n in
      q ∙ ap (λ (z : Bool). pair_here kind z (get_or ys (b + j) false) (get_or ys (a + next) false)) p
      ∙ ap (λ (z : Bool). pair_here kind (get_or xs (a + j) false) z (get_or ys (a + next) false)) o
      ∙ ap (λ (z : Bool). pair_here kind (get_or xs (a + j) false) (get_or xs (b + j) false) z) t

  pub round_flag : (j i : ℕ) (x next : Bool) → i ≡ suc j → Swept f at total v xs ys i
      → x ≡ round_here kind (get_or ys (a + j) false) (get_or ys (b + j) false) next → x ≡ round_step kind xs a b j next
  round_flag j i x next e inv q =
      let w = inv.within in
      let p = before_row f at total v xs ys i (a + j) (omega arith) inv in
      let o = before_row f at total v xs ys i (b + j) (omega arith) inv in
      q ∙ ap (λ (z : Bool). round_here kind z (get_or ys (b + j) false) next) p
      ∙ ap (λ (z : Bool). round_here kind (get_or xs (a + j) false) z next) o

-- ---- a pass that carries its last flag

-- it goes down to position `from` and stands at i, where the flag is `next`
pub record Carrying (f : ℕ → Bool → Bool) (at end : ℕ) (v : Bool) (before after : List Bool) (from i : ℕ) (next : Bool)
    : Type 0 where
  pub flag : next ≡ get_or (sweep f i (end - i) v) 0 v
  pub swept : Swept f at end v before after i
  pub above : from ≤ i

module _ (f : ℕ → Bool → Bool) (at end : ℕ) (v : Bool) (xs : List Bool) (from : ℕ) where
  pub carry_begins : from ≤ end → Carrying f at end v xs xs from end v
  unfolding sweep
  carry_begins l =
      let z : end - end ≡ 0 = omega arith in
      record {
        flag = sym (ap (λ (k : ℕ). get_or (sweep f end k v) 0 v) z);
        swept = sweep_begins f at end v xs;
        above = l;
      }

  pub carry_steps : (ys : List Bool) (i j : ℕ) (x next : Bool) → i ≡ suc j → from < i → at + end ≤ length xs
      → x ≡ f j next → Carrying f at end v xs ys from i next → Carrying f at end v xs (set ys (at + j) x) from j x
  carry_steps ys i j x next e l fits q inv =
      let lt : j < end = omega (arith, inv.swept.within) in
      let made : x ≡ f j (get_or (sweep f i (end - i) v) 0 v) = q ∙ ap (f j) inv.flag in
      record {
        flag = made ∙ ap (λ (k : ℕ). f j (get_or (sweep f k (end - k) v) 0 v)) e
            ∙ sym (ap (λ (zs : List Bool). get_or zs 0 v) (sweep_turn f v end j lt));
        swept = sweep_steps f at end v xs ys i j x e fits made inv.swept;
        above = omega arith;
      }
