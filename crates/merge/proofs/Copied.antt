-- A rule whose nodes stand in another one, moved up: 3 to 5 let them pass there too, each is a child at as many places,
-- and as many are untils, by induction on the nodes. Assumes nothing.
use Prim.Native.Nat.{ℕ, zero, suc, ◌+◌, ◌≤◌, ◌<◌}
use mathlib.Core.Path.{◌≡◌, refl, sym, ◌∙◌}
use mathlib.Core.Bool.{true, cond}
use mathlib.Core.List.{List}
use native.Mathlib.Decide.{ℕ_discrete, dec_lt}
use native.Mathlib.Nat.{add-zero, add-suc}
use native.Mathlib.Omega.{arith}
use lib.Dec.{eqb}
use lib.ListN.{length}
use borrow.Author.Tests.{le-leb, lt-ltb, ltb-true, eq-eqb, ne_eqb}
use Rattle.answer.specs.Result.{fine}
use Rattle.answer.proofs.Lowest.{not_fine}
use Rattle.formula.specs.declared.Operand.{Operand}
use Rattle.formula.specs.declared.Operand.TheVariants.{Unused, Proposition, Child}
use Rattle.formula.specs.Rule.{node_count, kind_at, left_at, right_at, root, left_operand, right_operand, byte_fits}
use Rattle.formula.specs.Rule.{child_fits}
use Rattle.formula.specs.Rule.{node_check, ChildrenBelow, is_child, places, place_check, untils}
use Rattle.formula.proofs.Accepted.{kind_known}
use Rattle.formula.proofs.Untils.{untils_more, untils_most}
use Rattle.formula.proofs.Checks.{tested, place_none, place_once, place_leaf, place_twice}
use Rattle.merge.specs.Merge.{moved}

-- the nodes of the part stand in the whole from node up on, moved up
pub record Copied (whole part : List ℕ) (up : ℕ) : Type 0 where
  pub inside : up + node_count part ≤ node_count whole
  pub kinds : (n : ℕ) → n < node_count part → kind_at whole (up + n) ≡ kind_at part n
  pub lefts : (n : ℕ) → n < node_count part
      → left_at whole (up + n) ≡ moved (left_operand (kind_at part n)) up (left_at part n)
  pub rights : (n : ℕ) → n < node_count part
      → right_at whole (up + n) ≡ moved (right_operand (kind_at part n)) up (right_at part n)

-- ---- one byte

moved_fits : (operand : Operand) (up byte : ℕ) → byte_fits operand byte ≡ true
    → byte_fits operand (moved operand up byte) ≡ true
moved_fits Unused up byte e = e
moved_fits Proposition up byte e = e
moved_fits Child up byte e = e

moved_below : (operand : Operand) (up byte n : ℕ) → child_fits operand byte n ≡ true
    → child_fits operand (moved operand up byte) (up + n) ≡ true
moved_below Unused up byte n e = e
moved_below Proposition up byte n e = e
moved_below Child up byte n e = lt-ltb (up + byte) (up + n) (omega (arith, ltb-true byte n e))

-- a byte is the child k where it was, and is none of the nodes before
pub moved_child : (operand : Operand) (up byte k : ℕ)
    → is_child operand (moved operand up byte) (up + k) ≡ is_child operand byte k
moved_child Unused up byte k = refl
moved_child Proposition up byte k = refl
moved_child Child up byte k = go (ℕ_discrete byte k)
  where
    go : Dec (byte ≡ k) → is_child Child (up + byte) (up + k) ≡ is_child Child byte k
    go (yes e) = rw (eq-eqb byte k e, eq-eqb (up + byte) (up + k) (omega arith))
    go (no e) = rw (ne_eqb byte k e, ne_eqb (up + byte) (up + k) (λ f. e (omega arith)))

moved_past : (operand : Operand) (up byte k : ℕ) → k < up → is_child operand (moved operand up byte) k ≡ 0
moved_past Unused up byte k lt = refl
moved_past Proposition up byte k lt = refl
moved_past Child up byte k lt = rw (ne_eqb (up + byte) k (λ e. omega arith))

-- a child of a node is no node from that one on
child_below : (operand : Operand) (byte n k : ℕ) → child_fits operand byte n ≡ true → n ≤ k
    → is_child operand byte k ≡ 0
child_below Unused byte n k e le = refl
child_below Proposition byte n k e le = refl
child_below Child byte n k e le = rw (ne_eqb byte k (λ f. omega (arith, ltb-true byte n e)))

-- so a node is no child among the nodes up to it
pub no_places : (rule : List ℕ) (n k : ℕ) → ChildrenBelow rule n → n ≤ suc k → places rule n k ≡ 0
unfolding places
no_places rule zero k below le = refl
no_places rule (suc n) k below le =
    let lower : ChildrenBelow rule n =
    record { lefts = λ i l. below.lefts i (omega arith); rights = λ i l. below.rights i (omega arith) } in
    let left =
    child_below (left_operand (kind_at rule n)) (left_at rule n) n k (below.lefts n (omega arith)) (omega arith) in
    let right =
    child_below (right_operand (kind_at rule n)) (right_at rule n) n k (below.rights n (omega arith)) (omega arith) in
    omega (arith, no_places rule n k lower (omega arith))

-- ---- the nodes

module _ (whole part : List ℕ) (up : ℕ) (copied : Copied whole part up) where
  pub copied_node : (highest n : ℕ) → n < node_count part → node_check highest part n ≡ fine
      → node_check highest whole (up + n) ≡ fine
  unfolding node_check
  copied_node highest n lt e =
      let node = tested highest part n e in
      let kind = kind_at part n in
      rw (
        copied.kinds n lt,
        copied.lefts n lt,
        copied.rights n lt,
        le-leb kind highest (kind_known highest part n e),
        moved_fits (left_operand kind) up (left_at part n) node.left_fits,
        moved_fits (right_operand kind) up (right_at part n) node.right_fits,
        moved_below (left_operand kind) up (left_at part n) n node.left_below,
        moved_below (right_operand kind) up (right_at part n) n node.right_below,
      ) refl

  -- the places of a node of the part, and of one before it, among the first n nodes of the part
  pub copied_places : (n k : ℕ) → n ≤ node_count part
      → places whole (up + n) (up + k) ≡ places whole up (up + k) + places part n k
  unfolding places
  copied_places zero k le = rw (add-zero up) (omega arith)
  copied_places (suc n) k le =
      let lt : n < node_count part = omega arith in
      rw (add-suc up n, copied.kinds n lt, copied.lefts n lt, copied.rights n lt)
      (omega (
        arith,
        copied_places n k (omega arith),
        moved_child (left_operand (kind_at part n)) up (left_at part n) k,
        moved_child (right_operand (kind_at part n)) up (right_at part n) k,
      ))

  pub places_before : (n k : ℕ) → n ≤ node_count part → k < up → places whole (up + n) k ≡ places whole up k
  unfolding places
  places_before zero k le low = rw (add-zero up)
  places_before (suc n) k le low =
      let lt : n < node_count part = omega arith in
      rw (add-suc up n, copied.kinds n lt, copied.lefts n lt, copied.rights n lt)
      (omega (
        arith,
        places_before n k (omega arith) low,
        moved_past (left_operand (kind_at part n)) up (left_at part n) k low,
        moved_past (right_operand (kind_at part n)) up (right_at part n) k low,
      ))

  -- 6 lets a node pass that is a child at the places where it was, and the part's root at one more
  module _ (k : ℕ) (lt : k < node_count part) (below : ChildrenBelow part (node_count part))
      (e : place_check part k ≡ fine)
      (count : places whole (node_count whole) (up + k) ≡ places part (node_count part) k + cond (eqb (root part) k) 1
      0) where
    abbrev own : ℕ
    own = places part (node_count part) k

    abbrev all : ℕ
    all = places whole (node_count whole) (up + k)

    root_place : root part ≡ k → place_check whole (up + k) ≡ fine
    root_place last =
        let none : own ≡ 0 = no_places part (node_count part) k below (omega arith) in
        let once : all ≡ 1 = count ∙ rw (none, eq-eqb (root part) k last) in
        sym (place_once whole (up + k) (λ z. omega arith) once)

    inner_place : (root part ≡ k → ⊥) → place_check whole (up + k) ≡ fine
    inner_place other = go (ℕ_discrete own 0) (ℕ_discrete own 1) (dec_lt 3 (kind_at part k))
      where
        same : all ≡ own
        same = count ∙ rw (ne_eqb (root part) k other) (omega arith)

        go : Dec (own ≡ 0) → Dec (own ≡ 1) → Dec (3 < kind_at part k) → place_check whole (up + k) ≡ fine
        go (yes none) b d = not_fine (place_none part k none (λ f. other (sym f)) ∙ e)
        go (no some) (yes once) d = sym (place_once whole (up + k) (λ z. some (sym same ∙ z)) (same ∙ once))
        go (no some) (no more) (yes inner) = not_fine (place_twice part k some more (omega arith) ∙ e)
        go (no some) (no more) (no leaf) =
            sym (place_leaf whole (up + k) (λ z. some (sym same ∙ z)) (omega (arith, copied.kinds k lt)))

    pub copied_place : place_check whole (up + k) ≡ fine
    copied_place = elim (ℕ_discrete (root part) k) [ yes last ↦ root_place last | no other ↦ inner_place other ]

  pub copied_untils : (n : ℕ) → n ≤ node_count part
      → length (untils whole (up + n)) ≡ length (untils whole up) + length (untils part n)
  copied_untils zero le = rw (add-zero up) (omega (arith, untils_most part 0))
  copied_untils (suc n) le =
      let same = rw (copied.kinds n (omega arith)) at (untils_more whole (up + n)) in
      rw (add-suc up n) (omega (arith, copied_untils n (omega arith), same, untils_more part n))
