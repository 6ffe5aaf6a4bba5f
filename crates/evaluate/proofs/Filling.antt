-- A row that is filled is the row of its node. Assumes that the rule is accepted.
use Prim.Native.Nat.{ℕ, zero, suc, ◌+◌, ◌-◌, ◌*◌, ◌≤◌, ◌<◌}
use mathlib.Core.Path.{◌≡◌, refl, sym, ◌∙◌, ap, ap₂, subst}
use mathlib.Core.List.{List, [], ◌∷◌}
use mathlib.Core.Bool.{Bool, true, false, ◌&&◌, ◌||◌}
use native.Mathlib.Omega.{arith}
use native.Mathlib.Decide.{ℕ_discrete}
use lib.ListN.{get_or, length, take, drop}
use lib.Seq.{take-nil, take-take, get_or-take, get_or-drop}
use Rattle.answer.specs.Result.{fine}
use Rattle.formula.specs.Limits.{max_nodes, propositions}
use Rattle.formula.specs.Rule.{node_count, kind_at, left_at, right_at, release_kind, checked}
use Rattle.formula.specs.Formula.{trees}
use Rattle.formula.proofs.Accepted.{Node, accepted_fine, accepted_kind, accepted_few}
use Rattle.formula.proofs.Trees.{of_parts, of_children}
use Rattle.lasso.specs.Lasso.{after, max_letters}
use Rattle.lasso.proofs.Letters.{after_small}
use Rattle.evaluate.specs.Truth.{sweep, rounds, at, row, row_of, truth}
use Rattle.evaluate.specs.Memory.{leaf_step, pair_step, round_here, round_step, opening, Swept, RowStored, Filled}
use Rattle.evaluate.specs.Memory.{Room}
use Rattle.evaluate.proofs.Sweeping.{before_row, sweep_agree}

-- ---- parts of a table

part : (d m : ℕ) (xs : List Bool) → take m (drop d xs) ≡ drop d (take (d + m) xs)
part zero m xs = let e : m ≡ 0 + m = omega arith in ap (λ (k : ℕ). take k xs) e
part (suc d) m [] = take-nil m ∙ sym (ap (drop (suc d)) (take-nil (suc d + m)))
part (suc d) m (x ∷ xs) =
    let e : suc (d + m) ≡ suc d + m = omega arith in part d m xs ∙ ap (λ (k : ℕ). drop (suc d) (take k (x ∷ xs))) e

part_kept : (d m at : ℕ) (xs ys : List Bool) → d + m ≤ at → take at ys ≡ take at xs
    → take m (drop d ys) ≡ take m (drop d xs)
part_kept d m at xs ys l e =
    part d m ys
    ∙ ap (drop d) (sym (take-take (d + m) at ys l) ∙ ap (take (d + m)) e ∙ take-take (d + m) at xs l)
    ∙ sym (part d m xs)

part_at : (d m i : ℕ) (xs : List Bool) → i < m → at (take m (drop d xs)) i ≡ get_or xs (d + i) false
part_at d m i xs l = get_or-take m (drop d xs) i false l ∙ get_or-drop d xs i false

-- a pass down to position 0 leaves a row
swept_stored : (f : ℕ → Bool → Bool) (at total : ℕ) (v : Bool) (xs ys : List Bool) → Swept f at total v xs ys 0
    → RowStored at total (sweep f 0 total v) xs ys
swept_stored f at total v xs ys inv =
    let a : total ≡ total - 0 = omega arith in
    let b : at ≡ at + 0 = omega arith in
    record {
      size = inv.size;
      row = ap₂ (λ (m d : ℕ). take m (drop d ys)) a b ∙ inv.row ∙ ap (λ (m : ℕ). sweep f 0 m v) (sym a);
      kept = ap (λ (d : ℕ). take d ys) b ∙ inv.kept ∙ ap (λ (d : ℕ). take d xs) (sym b);
    }

-- two passes leave the row of two rounds
pub rounds_stored : (kind a b at total : ℕ) (stem cycle : List ℕ) (xs ys zs : List Bool) (v first : Bool)
    → v ≡ opening kind → total ≡ length stem + length cycle → a + total ≤ at → b + total ≤ at
    → first ≡ get_or (sweep (round_step kind xs a b) (length stem) (total - length stem) v) 0 v
    → Swept (round_step kind xs a b) at total v xs ys (length stem)
    → Swept (round_step kind ys a b) at total first ys zs 0
    → RowStored at (length stem + length cycle) (rounds stem cycle (round_step kind xs a b) (opening kind)) xs zs
rounds_stored kind a b at total stem cycle xs ys zs v first o t p q e one two =
    let h = swept_stored (round_step kind ys a b) at total first ys zs two in
    let l : total - length stem ≡ length cycle = omega arith in
    record {
      size = h.size ∙ one.size;
      row =
          ap (λ (m : ℕ). take m (drop at zs)) (sym t) ∙ h.row
          ∙ sweep_agree (round_step kind ys a b) (round_step kind xs a b) first total 0
          (λ i r x y. same i r (omega arith))
          ∙ ap₂ (λ (m : ℕ) (x : Bool). sweep (round_step kind xs a b) 0 m x) t
          (e ∙ ap₂ (λ (m : ℕ) (x : Bool). get_or (sweep (round_step kind xs a b) (length stem) m x) 0 x) l o);
      kept =
          h.kept ∙ sym (take-take at (at + length stem) ys (omega arith)) ∙ ap (take at) one.kept
          ∙ take-take at (at + length stem) xs (omega arith);
    }
  where
    same : (i : ℕ) (r : Bool) → i < total → round_step kind ys a b i r ≡ round_step kind xs a b i r
    same i r m =
        ap₂ (λ (x y : Bool). round_here kind x y r)
        (before_row (round_step kind xs a b) at total v xs ys (length stem) (a + i) (omega arith) one)
        (before_row (round_step kind xs a b) at total v xs ys (length stem) (b + i) (omega arith) one)

-- ---- the rows of a node's kind

module _ (stem cycle : List ℕ) (some : 0 < length cycle) where
  abbrev total : ℕ
  total = length stem + length cycle

  leaf_row : (kind p : ℕ) (a b : List Bool) → kind < 4
      → sweep (leaf_step kind p stem cycle) 0 total false ≡ row stem cycle kind p a b
  leaf_row zero p a b l = refl
  leaf_row (suc zero) p a b l = refl
  leaf_row (suc (suc zero)) p a b l = refl
  leaf_row (suc (suc (suc zero))) p a b l = refl
  leaf_row (suc (suc (suc (suc kind)))) p a b l = absurd (omega arith)

  module _ (left a b : ℕ) (xs : List Bool) where
    abbrev A : List Bool
    A = take total (drop a xs)

    abbrev B : List Bool
    B = take total (drop b xs)

    abbrev pair_of : ℕ → List Bool
    pair_of kind = sweep (pair_step kind xs a b stem cycle) 0 total false

    pair_row : (kind : ℕ) → 3 < kind → kind < 7 → pair_of kind ≡ row stem cycle kind left A B
    pair_row zero l m = absurd (omega arith)
    pair_row (suc zero) l m = absurd (omega arith)
    pair_row (suc (suc zero)) l m = absurd (omega arith)
    pair_row (suc (suc (suc zero))) l m = absurd (omega arith)
    pair_row (suc (suc (suc (suc zero)))) l m =
        sweep_agree _ _ false total 0
        (λ p r x y. ap₂ (λ (u v : Bool). u && v) (sym (part_at a total p xs (omega arith)))
        (sym (part_at b total p xs (omega arith))))
    pair_row (suc (suc (suc (suc (suc zero))))) l m =
        sweep_agree _ _ false total 0
        (λ p r x y. ap₂ (λ (u v : Bool). u || v) (sym (part_at a total p xs (omega arith)))
        (sym (part_at b total p xs (omega arith))))
    pair_row (suc (suc (suc (suc (suc (suc zero)))))) l m =
        sweep_agree _ _ false total 0
        (λ p r x y. sym (part_at a total (after stem cycle p) xs (after_small stem cycle some p)))
    pair_row (suc (suc (suc (suc (suc (suc (suc kind))))))) l m = absurd (omega arith)

    abbrev round_of : ℕ → List Bool
    round_of kind = rounds stem cycle (round_step kind xs a b) (opening kind)

    round_row : (kind : ℕ) (g : ℕ → Bool → Bool) (v : Bool) → opening kind ≡ v
        → ((p : ℕ) (r : Bool) → p < total → round_step kind xs a b p r ≡ g p r) → round_of kind ≡ rounds stem cycle g v
    round_row kind g v o h =
        let f = round_step kind xs a b in
        ap (λ (x : Bool). rounds stem cycle f x) o
        ∙ sweep_agree f g (get_or (sweep f (length stem) (length cycle) v) 0 v) total 0 (λ p r x y. h p r (omega arith))
        ∙ ap (λ (zs : List Bool). sweep g 0 total (get_or zs 0 v))
        (sweep_agree f g v (length cycle) (length stem) (λ p r x y. h p r y))

    until_row : round_of 7 ≡ row stem cycle 7 left A B
    until_row =
        round_row 7 _ false refl
        (λ p r l. ap₂ (λ (x y : Bool). y || (x && r)) (sym (part_at a total p xs l)) (sym (part_at b total p xs l)))

    release_row : round_of 8 ≡ row stem cycle 8 left A B
    release_row =
        round_row 8 _ true refl
        (λ p r l. ap₂ (λ (x y : Bool). y && (x || r)) (sym (part_at a total p xs l)) (sym (part_at b total p xs l)))

    either_row : (kind : ℕ) → 6 < kind → kind ≤ 8 → round_of kind ≡ row stem cycle kind left A B
    either_row kind l m = go (ℕ_discrete kind 7)
      where
        go : Dec (kind ≡ 7) → round_of kind ≡ row stem cycle kind left A B
        go (yes e) = subst (λ (k : ℕ). round_of k ≡ row stem cycle k left A B) (sym e) until_row
        go (no e) =
            let f : 8 ≡ kind = omega arith in subst (λ (k : ℕ). round_of k ≡ row stem cycle k left A B) f release_row

-- ---- one row more

-- node k of an accepted rule, with the bytes that are read of it, where the rows below it are filled
pub record AtNode (rule stem cycle : List ℕ) (xs : List Bool) (k kind left : ℕ) : Type 0 where
  pub fine_rule : checked rule ≡ fine
  pub inside : k < node_count rule
  pub is_kind : kind ≡ kind_at rule k
  pub is_left : left ≡ left_at rule k
  pub room : Room rule stem cycle xs
  pub done : Filled rule stem cycle xs k

module _ {rule stem cycle : List ℕ} {xs : List Bool} {k kind left : ℕ}
    (node : AtNode rule stem cycle xs k kind left) where
  accepted : Node rule k
  accepted = (accepted_fine rule node.fine_rule).nodes k node.inside

  pub few : k < max_nodes
  few = accepted_few rule node.fine_rule k node.inside

  pub proposition_known : kind < 4 → 1 < kind → left < propositions
  proposition_known l m =
      omega (arith, accepted.proposition (omega (arith, node.is_kind)) (omega (arith, node.is_kind)), node.is_left)

  pub left_low : 4 ≤ kind → left < k
  left_low l = omega (arith, accepted.left (omega (arith, node.is_kind)), node.is_left)

  module _ (ys : List Bool) where
    one_more : (flags : List Bool) → RowStored (k * max_letters) (length stem + length cycle) flags xs ys
        → flags ≡ get_or (truth rule stem cycle) k [] → Filled rule stem cycle ys (k + 1)
    one_more flags h e = record { rows = λ j l. go j l (ℕ_discrete j k) }
      where
        go : (j : ℕ) → j < k + 1 → Dec (j ≡ k)
            → take (length stem + length cycle) (drop (j * max_letters) ys) ≡ get_or (truth rule stem cycle) j []
        go j l (yes q) =
            subst
            (λ (i : ℕ). take (length stem + length cycle) (drop (i * max_letters) ys) ≡ get_or (truth rule stem cycle)
            i []) (sym q) (h.row ∙ e)
        go j l (no q) =
            part_kept (j * max_letters) (length stem + length cycle) (k * max_letters) xs ys
            (omega (arith, node.room.few)) h.kept
            ∙ node.done.rows j (omega arith)

    -- a leaf's row does not look at any other
    pub leaf_done : kind < 4
        → Swept (leaf_step kind left stem cycle) (k * max_letters) (length stem + length cycle) false xs ys 0
        → Filled rule stem cycle ys (k + 1)
    unfolding truth
    leaf_done l inv =
        one_more _ (swept_stored _ (k * max_letters) (length stem + length cycle) false xs ys inv)
        (leaf_row stem cycle node.room.some kind left (below (left_at rule k)) (below (right_at rule k)) l
        ∙ rw (node.is_kind, node.is_left) (sym (of_parts [] (row_of stem cycle) rule k node.inside)))
      where
        below : ℕ → List Bool
        below x = get_or (take k (trees [] (row_of stem cycle) [] rule)) x []

  module _ {right : ℕ} (is_right : right ≡ right_at rule k) where
    pub right_low : 4 ≤ kind → right < k
    right_low l = omega (arith, accepted.right (omega (arith, node.is_kind)))

    -- the row of an inner node from those of its children
    from_children : 4 ≤ kind
        → row stem cycle kind left (take (length stem + length cycle) (drop (left * max_letters) xs))
        (take (length stem + length cycle) (drop (right * max_letters) xs)) ≡ get_or (truth rule stem cycle) k []
    unfolding truth
    from_children l =
        let x = left_low l in
        let y = right_low l in
        ap₂ (row stem cycle kind left) (node.done.rows left x) (node.done.rows right y)
        ∙ rw (node.is_kind, node.is_left, is_right)
        (sym (of_children [] (row_of stem cycle) rule k node.inside (omega (arith, node.is_left)) (omega arith)))

    pub pair_done : (ys : List Bool) → 4 ≤ kind → kind < 7
        → Swept (pair_step kind xs (left * max_letters) (right * max_letters) stem cycle) (k * max_letters)
        (length stem + length cycle) false xs ys 0 → Filled rule stem cycle ys (k + 1)
    pair_done ys l m inv =
        one_more ys _ (swept_stored _ (k * max_letters) (length stem + length cycle) false xs ys inv)
        (pair_row stem cycle node.room.some left (left * max_letters) (right * max_letters) xs kind (omega arith) m
        ∙ from_children l)

    pub round_done : (ys : List Bool) → 7 ≤ kind
        → RowStored (k * max_letters) (length stem + length cycle)
        (rounds stem cycle (round_step kind xs (left * max_letters) (right * max_letters)) (opening kind)) xs ys
        → Filled rule stem cycle ys (k + 1)
    round_done ys l h =
        let m : kind ≤ release_kind =
        omega (arith, accepted_kind rule node.fine_rule k node.inside, node.is_kind) in
        one_more ys _ h
        (either_row stem cycle node.room.some left (left * max_letters) (right * max_letters) xs kind (omega arith) m
        ∙ from_children (omega arith))
