-- R-3: a rule that 1 to 7 let pass as a first-edition rule is let pass as a written one. The walk comes to its nodes
-- only as they stand, so each needed code is some node's, whose kind its entry has; whatever kinds weigh, those of the
-- normal form weigh no more than the rule's, and so its nodes and its untils are no more. Assumes nothing.
use Prim.Native.Nat.{ℕ, zero, suc, ◌+◌, ◌≤◌, ◌<◌}
use mathlib.Core.Path.{◌≡◌, refl, ◌∙◌, ap, subst}
use mathlib.Core.Bool.{Bool, true, false, cond, false≢true}
use mathlib.Core.Logic.{◌⊎◌, inl, inr}
use mathlib.Core.List.{List, [], ◌∷◌, ◌++◌}
use native.Mathlib.Numerals.{add-one}
use native.Mathlib.Omega.{arith}
use native.Mathlib.Decide.{ℕ_discrete}
use lib.ListN.{get_or, length}
use borrow.Author.Tests.{le-leb}
use Rattle.answer.specs.Result.{fine}
use Rattle.answer.proofs.Lowest.{fine_first}
use Rattle.formula.specs.Limits.{max_nodes, max_untils}
use Rattle.formula.specs.Rule.{node_count, kind_at, left_at, right_at, root, release_kind, eventually_kind}
use Rattle.formula.specs.Rule.{syntax_check}
use Rattle.formula.specs.Rule.{untils, until_check, checked}
use Rattle.formula.proofs.Accepted.{kind_known, syntax_widens, formed_fine, accepted_fine}
use Rattle.formula.proofs.Untils.{untils_more}
use Rattle.normalform.specs.Written.{Written, build_written, written_tree, written_check}
use Rattle.normalform.specs.NormalForm.{bit, code, below, walk, entry, member, rank, is_needed, number, entry_of}
use Rattle.normalform.specs.NormalForm.{codes_of, code_end, size, normal_bytes, normal_form, written_checked}
use Rattle.normalform.proofs.Sums.{sum, over, one, member_sum}
use Rattle.normalform.proofs.Shape.{member_head, member_tail, member_cases, member_split, entry_code}
use Rattle.normalform.proofs.Fitting.{leaf_tree, inner_tree, fits_node, WellWritten, well_written}
use Rattle.normalform.proofs.Nodes.{kind_byte}
use Rattle.normalform.proofs.Passes.{result_length}

-- ---- sums
-- g at m - 1 down to 0
listed : (g : ℕ → ℕ) → ℕ → List ℕ
listed g zero = []
listed g (suc m) = g m ∷ listed g m

member_listed : (g : ℕ → ℕ) (m n : ℕ) → n < m → member (g n) (listed g m) ≡ true
unfolding listed
member_listed g zero n l = absurd (omega arith)
member_listed g (suc m) n l = go (ℕ_discrete n m) (λ l. member_listed g m n l)
  where
    go : Dec (n ≡ m) → (n < m → member (g n) (listed g m) ≡ true) → member (g n) (g m ∷ listed g m) ≡ true
    go (yes e) ih = rw e (member_head (g m) (listed g m))
    go (no e) ih = member_tail (g n) (g m) (listed g m) (ih (omega arith))

over_listed : (g f h : ℕ → ℕ) (m : ℕ) → ((n : ℕ) → n < m → f (g n) ≡ h n) → over f (listed g m) ≡ sum h m
unfolding listed over sum
over_listed g f h zero e = refl
over_listed g f h (suc m) e = omega (arith, over_listed g f h m (λ n l. e n (omega arith)), e m (omega arith))

-- what f sums up to over the numbers of the needed codes is at most what h does over the codes of a list with them all
step_most : (f : ℕ → ℕ) (n y : ℕ) (a b : Bool) → (a ≡ true → (b ≡ true) × (f n ≡ y))
    → sum f (n + bit a) ≤ sum f n + cond b y 0
unfolding sum
step_most f n y true b h = let (e, same) = h refl in rw (e, add-one n) (omega arith)
step_most f n y false b h = let z : n + 0 ≡ n = omega arith in rw z (omega arith)

rank_most : (need : ℕ → Bool) (xs : List ℕ) (f h : ℕ → ℕ) (e : ℕ)
    → ((c : ℕ) → need c ≡ true → (member c xs ≡ true) × (f (rank need c) ≡ h c))
    → sum f (rank need e) ≤ sum (λ c. cond (member c xs) (h c) 0) e
unfolding sum rank
rank_most need xs f h zero s = omega arith
rank_most need xs f h (suc e) s =
    omega (arith, step_most f (rank need e) (h e) (need e) (member e xs) (s e), rank_most need xs f h e s)

sum_ones : (n : ℕ) → sum (λ _. 1) n ≡ n
unfolding sum
sum_ones zero = refl
sum_ones (suc n) = omega (arith, sum_ones n)

-- how many untils there are, as a sum over the nodes
untils_sum : (rule : List ℕ) (n : ℕ) → length (untils rule n) ≡ sum (λ i. one 7 (kind_at rule i)) n
unfolding untils sum
untils_sum rule zero = refl
untils_sum rule (suc n) = omega (arith, untils_sum rule n, untils_more rule n)

-- ---- a first-edition node of kind k with the children a and b
-- c is on the walk of a child
abbrev InChild : (k : ℕ) (a b : Written) (c : ℕ) → Type 0
InChild k a b c = (3 < k) × ((member c (walk a false) ≡ true) ⊎ (member c (walk b false) ≡ true))

-- the entry of its tree t has its kind, and the walk below goes on in the children as they stand
record Stands (k : ℕ) (a b t : Written) : Type 0 where
  kind : (num : ℕ → ℕ) → get_or (entry num t false) 0 0 ≡ k
  child : (c : ℕ) → member c (below t false) ≡ true → InChild k a b c

module _ (a b : Written) where
  none : {k : ℕ} (c : ℕ) → member c [] ≡ true → InChild k a b c
  unfolding member
  none c e = absurd (false≢true e)

  both : {k : ℕ} (c : ℕ) → member c (walk a false ++ walk b false) ≡ true → InChild (suc (suc (suc (suc k)))) a b c
  both c e = (omega arith, member_split c (walk a false) (walk b false) e)

  stands : (k n l : ℕ) → k ≤ release_kind → Stands k a b (build_written k n l a b)
  unfolding entry below
  stands zero n l le = record { kind = λ _. refl; child = none }
  stands (suc zero) n l le = record { kind = λ _. refl; child = none }
  stands (suc (suc zero)) n l le = record { kind = λ _. refl; child = none }
  stands (suc (suc (suc zero))) n l le = record { kind = λ _. refl; child = none }
  stands (suc (suc (suc (suc zero)))) n l le = record { kind = λ _. refl; child = both }
  stands (suc (suc (suc (suc (suc zero))))) n l le = record { kind = λ _. refl; child = both }
  stands (suc (suc (suc (suc (suc (suc zero)))))) n l le =
      record { kind = λ _. refl; child = λ c e. (omega arith, inl e) }
  stands (suc (suc (suc (suc (suc (suc (suc zero))))))) n l le = record { kind = λ _. refl; child = both }
  stands (suc (suc (suc (suc (suc (suc (suc (suc zero)))))))) n l le = record { kind = λ _. refl; child = both }
  stands (suc (suc (suc (suc (suc (suc (suc (suc (suc k))))))))) n l le = absurd (omega arith)

-- ---- a first-edition rule
module _ (rule : List ℕ) (passed : syntax_check release_kind rule ≡ fine) where
  written : written_check rule ≡ fine
  unfolding written_check
  written = syntax_widens release_kind eventually_kind (omega arith) rule passed

  formed : WellWritten rule
  formed = well_written rule written

  abbrev look : ℕ → Written
  look = written_tree rule

  built_stands : (n : ℕ) (a b : Written) → n < node_count rule
      → look n ≡ build_written (kind_at rule n) n (left_at rule n) a b → Stands (kind_at rule n) a b (look n)
  built_stands n a b l same =
      let known = kind_known release_kind rule n ((formed_fine release_kind rule passed).each n l) in
      rw same (stands a b (kind_at rule n) n (left_at rule n) known)

  -- each code that the walk comes to is that of a node as it stands
  abbrev plain_code : ℕ → ℕ
  plain_code n = code (look n) false

  abbrev Plain : ℕ → Type 0
  Plain c = member c (listed plain_code (node_count rule)) ≡ true

  below_plain : (n c : ℕ) → n < node_count rule
      → ((k : ℕ) → k < n → member c (walk (look k) false) ≡ true → Plain c)
      → member c (below (look n) false) ≡ true → Plain c
  below_plain n c l ih e =
      let node = formed.nodes n l in
      let (a, b, same) = leaf_tree rule n node in
      let inner = ((built_stands n a b l same).child c e).0 in
      elim ((built_stands n _ _ l (inner_tree rule n node inner)).child c e).1 [
        | inl x ↦ ih (left_at rule n) (node.node.left inner) x
        | inr x ↦ ih (right_at rule n) (node.node.right inner) x
      ]

  walk_plain : (bound n c : ℕ) → n < bound → n < node_count rule → member c (walk (look n) false) ≡ true → Plain c
  walk_plain zero n c lt l e = absurd (omega arith)
  walk_plain (suc bound) n c lt l e = elim (member_cases c (plain_code n) (below (look n) false) e) [
    | inl f ↦ subst Plain f (member_listed plain_code (node_count rule) n l)
    | inr f ↦ below_plain n c l (λ k h x. walk_plain bound k c (omega arith) (omega arith) x) f
  ]

  -- ---- whatever kinds weigh
  module _ (w : ℕ → ℕ) where
    abbrev weight : ℕ → ℕ
    weight c = w (get_or (entry_of (codes_of rule) look c) 0 0)

    node_weight : (n : ℕ) → n < node_count rule → weight (plain_code n) ≡ w (kind_at rule n)
    node_weight n l =
        let num = number (codes_of rule) in
        let same = entry_code look num (look n) (suc n) false (fits_node rule formed.nodes n l) in
        let (a, b, built) = leaf_tree rule n (formed.nodes n l) in
        ap w (ap (λ (xs : List ℕ). get_or xs 0 0) same ∙ (built_stands n a b l built).kind num)

    -- the nodes of the result weigh no more than the rule's
    kinds_most : sum (λ i. w (kind_at (normal_bytes rule) i)) (size rule) ≤ sum (λ n. w (kind_at rule n)) (node_count rule)
    unfolding normal_bytes size
    kinds_most =
        let m = node_count rule in
        let xs = listed plain_code m in
        let last : root rule < m = omega (arith, formed.some) in
        let kind = kind_byte look (look (root rule)) m formed.fits in
        omega (
          arith,
          rank_most (is_needed (codes_of rule)) xs (λ i. w (kind_at (normal_bytes rule) i)) weight (code_end rule)
              (λ c e. (walk_plain m (root rule) c last last e, ap w (kind c e))),
          member_sum weight xs (code_end rule),
          over_listed plain_code weight (λ n. w (kind_at rule n)) m node_weight,
        )

-- ---- the theorems
-- the normal form of a first-edition rule that 1 to 6 let pass has no more nodes than the rule
pub first_edition_size : (rule : List ℕ) → syntax_check release_kind rule ≡ fine → size rule ≤ node_count rule
first_edition_size rule passed =
    omega (arith, kinds_most rule passed (λ _. 1), sum_ones (size rule), sum_ones (node_count rule))

-- a rule that 1 to 7 let pass as a first-edition rule is let pass as a written one: its normal form has no more nodes
-- and no more untils than the rule
pub first_edition_checked : (rule : List ℕ) → checked rule ≡ fine → written_checked rule ≡ fine
unfolding checked written_checked normal_form until_check
first_edition_checked rule e =
    let passed = fine_first (syntax_check release_kind rule) _ e in
    let before = accepted_fine rule e in
    let small : size rule ≤ max_nodes = omega (arith, first_edition_size rule passed) in
    let whole : node_count (normal_bytes rule) ≡ size rule = omega (arith, result_length rule (formed rule passed)) in
    let most = kinds_most rule passed (one 7) in
    let few : length (untils (normal_bytes rule) (size rule)) ≤ max_untils =
    omega (arith, untils_sum rule (node_count rule), untils_sum (normal_bytes rule) (size rule)) in
    rw (written rule passed, le-leb (size rule) max_nodes small, whole, le-leb _ max_untils few)
