-- The places of a result's nodes: as often as a node is a child there, the walk comes to its code below the root, by
-- induction on the trees; each but the root's comes there, and an operator's once, so 6 lets all pass. Assumes nothing.
use Prim.Native.Nat.{ℕ, zero, suc, ◌+◌, ◌*◌, ◌<◌, ◌≤◌}
use mathlib.Core.Path.{◌≡◌, refl, sym, ◌∙◌, ap, subst}
use mathlib.Core.Bool.{Bool, true, false, cond, not, false≢true}
use mathlib.Core.Logic.{◌⊎◌, inl, inr}
use mathlib.Core.List.{List, [], ◌∷◌, ◌++◌}
use native.Mathlib.Omega.{arith}
use native.Mathlib.Decide.{ℕ_discrete}
use lib.ListN.{get_or}
use Rattle.answer.specs.Result.{fine}
use Rattle.formula.specs.Rule.{node_count, kind_at, left_at, right_at, left_operand, one_child, right_operand, places}
use Rattle.formula.specs.Rule.{node_check, place_check, release_kind}
use Rattle.formula.proofs.Checks.{place_root, place_once, place_leaf}
use Rattle.normalform.specs.Written.{Connective, Written, constant, literal, negation, next, binary, future}
use Rattle.normalform.specs.NormalForm.{turned, bit, left_sense, connective_kind, left_constant, future_kind}
use Rattle.normalform.specs.NormalForm.{pair_code, code, below, walk, entry, member, rank, entry_of}
use Rattle.normalform.proofs.Ranks.{rank_needed, rank_same, unrank}
use Rattle.normalform.proofs.Sums.{sum, over, one, count, one_is, one_other, over_append, count_zero, count_some}
use Rattle.normalform.proofs.Sums.{over_some, sum_some, member_sum}
use Rattle.normalform.proofs.Shape.{member_cases, member_split, Fits, bit_small, pair_high, code_low}
use Rattle.normalform.proofs.Shape.{below_low, entry_code}
use Rattle.normalform.proofs.Counts.{nodes, byte_kids, walk_count}
use Rattle.normalform.proofs.Nodes.{Pair, four, five, seven, eight, result_pair, future_pair, needs, at, out}
use Rattle.normalform.proofs.Nodes.{out_length, walk_low, Within, root_within, own, within_negation, within_next}
use Rattle.normalform.proofs.Nodes.{within_left, within_right, within_constant, within_future, constant_within}
use Rattle.normalform.proofs.Nodes.{kind_byte, byte, kind_of, node_passes, root_last}

-- ---- the children in three bytes
abbrev bytes_kids : List ℕ → ℕ → ℕ
bytes_kids e x = byte_kids (get_or e 0 0) (get_or e 1 0) (get_or e 2 0) x

pair_kids : (k l r x : ℕ) → Pair k → bytes_kids (k ∷ (l ∷ (r ∷ []))) x ≡ one x l + one x r
unfolding left_operand one_child right_operand
pair_kids k l r x four = refl
pair_kids k l r x five = refl
pair_kids k l r x seven = refl
pair_kids k l r x eight = refl

constant_kids : (v : Bool) (l r x : ℕ) → bytes_kids (bit v ∷ (l ∷ (r ∷ []))) x ≡ 0
unfolding left_operand one_child right_operand
constant_kids true l r x = refl
constant_kids false l r x = refl

literal_kids : (v : Bool) (l r x : ℕ) → bytes_kids (cond v 2 3 ∷ (l ∷ (r ∷ []))) x ≡ 0
unfolding left_operand one_child right_operand
literal_kids true l r x = refl
literal_kids false l r x = refl

next_kids : (l r x : ℕ) → bytes_kids (6 ∷ (l ∷ (r ∷ []))) x ≡ one x l
unfolding left_operand one_child right_operand
next_kids l r x = omega arith

-- a tree with children
abbrev pub Inner : Written → Type 0
Inner (constant v) = ⊥
Inner (literal n v p) = ⊥
Inner (negation n a) = Unit {0}
Inner (next n a) = Unit {0}
Inner (binary n o a b) = Unit {0}
Inner (future n all a) = Unit {0}

module _ (look : ℕ → Written) (t : Written) (m : ℕ) (fits : Fits look t m) where
  abbrev need : ℕ → Bool
  need = needs look t m fits

  abbrev num : ℕ → ℕ
  num = at look t m fits

  abbrev res : List ℕ
  res = out look t m fits

  abbrev In : Written → Bool → Type 0
  In = Within look t m fits

  -- ---- what is said of every subtree that the walk comes to is said of every needed code
  module _ (P : ℕ → Type 0) (h : (a : Written) (l : ℕ) (s : Bool) → Fits look a l → In a s → P (code a s)) where
    pub visit : (a : Written) (l : ℕ) (s : Bool) → Fits look a l → In a s
        → (c : ℕ) → member c (walk a s) ≡ true → P c
    unfolding code below member
    visit (constant v) l s f w c e = elim (member_cases c (bit (turned v s)) [] e) [
      | inl g ↦ subst P g (h (constant v) l s f w)
      | inr g ↦ absurd (false≢true g)
    ]
    visit (literal n v p) l s f w c e = elim (member_cases c (pair_code n s) [] e) [
      | inl g ↦ subst P g (h (literal n v p) l s f w)
      | inr g ↦ absurd (false≢true g)
    ]
    visit (negation n a) l s f w c e = visit a n (not s) f.2 (within_negation look t m fits n a s w) c e
    visit (next n a) l s f w c e = elim (member_cases c (pair_code n s) (walk a s) e) [
      | inl g ↦ subst P g (h (next n a) l s f w)
      | inr g ↦ visit a n s f.2 (within_next look t m fits n a s w) c g
    ]
    visit (binary n o a b) l s f w c e =
        elim (member_cases c (pair_code n s) (walk a (left_sense o s) ++ walk b s) e) [
          | inl g ↦ subst P g (h (binary n o a b) l s f w)
          | inr g ↦ (elim (member_split c (walk a (left_sense o s)) (walk b s) g) [
            | inl x ↦ visit a n (left_sense o s) f.2 (within_left look t m fits n o a b s w) c x
            | inr x ↦ visit b n s f.3 (within_right look t m fits n o a b s w) c x
          ])
        ]
    visit (future n all a) l s f w c e =
        let v = left_constant all s in
        let first = constant_within look t m fits v (within_constant look t m fits n all a s w) in
        elim (member_cases c (pair_code n s) (bit v ∷ walk a s) e) [
          | inl g ↦ subst P g (h (future n all a) l s f w)
          | inr g ↦ (elim (member_cases c (bit v) (walk a s) g) [
            | inl x ↦ subst P x (h (constant v) 0 false tt first)
            | inr x ↦ visit a n s f.2 (within_future look t m fits n all a s w) c x
          ])
        ]

  -- ---- places by codes
  entry_kids : ℕ → ℕ → ℕ
  entry_kids x c = bytes_kids (entry_of (walk t false) look c) x

  abbrev needed_kids : ℕ → ℕ → ℕ
  needed_kids x c = cond (need c) (entry_kids x c) 0

  node_kids : (x c : ℕ) → need c ≡ true
      → byte_kids (kind_at res (num c)) (left_at res (num c)) (right_at res (num c)) x ≡ entry_kids x c
  unfolding entry_kids
  node_kids x c e =
      let left = byte look t m fits c 1 e (omega arith) in
      let right = byte look t m fits c 2 e (omega arith) in
      rw (kind_byte look t m fits c e, left, right)

  places_codes : (x e : ℕ) → places res (num e) x ≡ sum (needed_kids x) e
  unfolding places sum rank
  places_codes x zero = refl
  places_codes x (suc e) = go (need e) refl (places_codes x e)
    where
      go : (b : Bool) → need e ≡ b → places res (num e) x ≡ sum (needed_kids x) e
          → places res (num (suc e)) x ≡ sum (needed_kids x) e + needed_kids x e
      go true n ih = rw (rank_needed need e n, n) (omega (arith, ih, node_kids x e n))
      go false n ih =
          let z : num e + 0 ≡ num e = omega arith in
          rw (n, z) (omega (arith, ih))

  abbrev end : ℕ
  end = m * 2 + 2

  whole : node_count res ≡ num end
  whole = omega (arith, out_length look t m fits)

  places_all : (x : ℕ) → places res (node_count res) x ≡ sum (needed_kids x) end
  places_all x = rw whole (places_codes x end)

  module _ (k : ℕ) (nk : need k ≡ true) where
    one_rank : (c : ℕ) → need c ≡ true → one (num k) (num c) ≡ one k c
    one_rank c e = go (ℕ_discrete c k)
      where
        go : Dec (c ≡ k) → one (num k) (num c) ≡ one k c
        go (yes f) = one_is (num k) (num c) (ap num f) ∙ sym (one_is k c f)
        go (no f) = one_other (num k) (num c) (λ g. f (rank_same need c k e nk g)) ∙ sym (one_other k c f)

    kids_at_lem : (a : Written) (l : ℕ) (s : Bool) → Fits look a l
        → entry_kids (num k) (code a s) ≡ bytes_kids (entry num a s) (num k)
    unfolding entry_kids
    kids_at_lem a l s f = ap (λ (e : List ℕ). bytes_kids e (num k)) (entry_code look num a l s f)

    one_tree : (a : Written) (s : Bool) → In a s → one (num k) (num (code a s)) ≡ one k (code a s)
    one_tree a s w = one_rank (code a s) (own look t m fits a s w)

    constant_own : (v : Bool) (s : Bool) → entry_kids (num k) (bit (turned v s)) ≡ 0
    unfolding code entry
    constant_own v s = kids_at_lem (constant v) 0 s tt ∙ constant_kids (turned v s) 0 0 (num k)

    literal_own : (n : ℕ) (v : Bool) (p l : ℕ) (s : Bool) → Fits look (literal n v p) l
        → entry_kids (num k) (pair_code n s) ≡ 0
    unfolding code entry
    literal_own n v p l s f = kids_at_lem (literal n v p) l s f ∙ literal_kids (turned v s) p 0 (num k)

    next_own : (n : ℕ) (a : Written) (l : ℕ) (s : Bool) → Fits look (next n a) l → In (next n a) s
        → entry_kids (num k) (pair_code n s) ≡ one k (code a s)
    unfolding code entry
    next_own n a l s f w =
        kids_at_lem (next n a) l s f
        ∙ next_kids (num (code a s)) 0 (num k)
        ∙ one_tree a s (within_next look t m fits n a s w)

    binary_own : (n : ℕ) (o : Connective) (a b : Written) (l : ℕ) (s : Bool) → Fits look (binary n o a b) l
        → In (binary n o a b) s
        → entry_kids (num k) (pair_code n s) ≡ one k (code a (left_sense o s)) + one k (code b s)
    unfolding code entry
    binary_own n o a b l s f w =
        omega (
          arith,
          kids_at_lem (binary n o a b) l s f,
          pair_kids (connective_kind o s) (num (code a (left_sense o s))) (num (code b s)) (num k) (result_pair o s),
          one_tree a (left_sense o s) (within_left look t m fits n o a b s w),
          one_tree b s (within_right look t m fits n o a b s w),
        )

    future_own : (n : ℕ) (all : Bool) (a : Written) (l : ℕ) (s : Bool) → Fits look (future n all a) l
        → In (future n all a) s
        → entry_kids (num k) (pair_code n s) ≡ one k (bit (left_constant all s)) + one k (code a s)
    unfolding code entry
    future_own n all a l s f w =
        let v = left_constant all s in
        omega (
          arith,
          kids_at_lem (future n all a) l s f,
          pair_kids (future_kind v) (num (bit v)) (num (code a s)) (num k) (future_pair v),
          one_rank (bit v) (within_constant look t m fits n all a s w),
          one_tree a s (within_future look t m fits n all a s w),
        )

    -- the children of all that the walk comes to are what it comes to below its start
    walk_kids : (a : Written) (l : ℕ) (s : Bool) → Fits look a l → In a s
        → over (entry_kids (num k)) (walk a s) ≡ count k (below a s)
    unfolding over code below
    walk_kids (constant v) l s f w = omega (arith, constant_own v s)
    walk_kids (literal n v p) l s f w = omega (arith, literal_own n v p l s f)
    walk_kids (negation n a) l s f w = walk_kids a n (not s) f.2 (within_negation look t m fits n a s w)
    walk_kids (next n a) l s f w =
        omega (arith, next_own n a l s f w, walk_kids a n s f.2 (within_next look t m fits n a s w))
    walk_kids (binary n o a b) l s f w =
        omega (
          arith,
          binary_own n o a b l s f w,
          walk_kids a n (left_sense o s) f.2 (within_left look t m fits n o a b s w),
          walk_kids b n s f.3 (within_right look t m fits n o a b s w),
          over_append (entry_kids (num k)) (walk a (left_sense o s)) (walk b s),
          over_append (one k) (walk a (left_sense o s)) (walk b s),
        )
    walk_kids (future n all a) l s f w =
        omega (
          arith,
          future_own n all a l s f w,
          constant_own (left_constant all s) false,
          walk_kids a n s f.2 (within_future look t m fits n all a s w),
        )

    kids_whole : over (entry_kids (num k)) (walk t false) ≡ count k (below t false)
    kids_whole = walk_kids t m false fits (root_within look t m fits)

    places_most : places res (node_count res) (num k) ≤ count k (below t false)
    places_most = omega (arith, places_all (num k), member_sum (entry_kids (num k)) (walk t false) end, kids_whole)

    place_at : (c : ℕ) → need c ≡ true → 0 < entry_kids (num k) c → 0 < places res (node_count res) (num k)
    place_at c e l =
        let low : c < end = omega (arith, walk_low look t m fits c e, code_low look t m false fits) in
        let some = sum_some (needed_kids (num k)) end c low in
        let same : needed_kids (num k) c ≡ entry_kids (num k) c = rw e refl in
        omega (arith, places_all (num k))

    place_some : member k (below t false) ≡ true → 0 < places res (node_count res) (num k)
    place_some e =
        let some = count_some k (below t false) e in
        let (c, needed, l) = over_some (entry_kids (num k)) (walk t false) (omega (arith, kids_whole)) in
        place_at c needed l

  -- ---- the checks, node by node
  each : (P : ℕ → Type 0) → ((a : Written) (l : ℕ) (s : Bool) → Fits look a l → In a s → P (num (code a s)))
      → (i : ℕ) → i < node_count res → P i
  each P h i l =
      let (c, low, e, z) = unrank need end i (omega (arith, whole)) in
      subst P z (visit (λ c. P (num c)) h t m false fits (root_within look t m fits) c e)

  pub each_node : (i : ℕ) → i < node_count res → node_check release_kind res i ≡ fine
  each_node = each (λ x. node_check release_kind res x ≡ fine) (node_passes look t m fits)

  literal_leaf : (v : Bool) → cond v 2 3 < 4
  literal_leaf true = omega arith
  literal_leaf false = omega arith

  module _ (once : (n : ℕ) → n < m → Inner (look n) → count n (nodes t) ≤ 1) where
    pair_few : (n : ℕ) (s : Bool) → need (pair_code n s) ≡ true → Inner (look n)
        → count (pair_code n s) (walk t false) ≤ 1
    pair_few n s e i =
        let low : n < m =
        omega (arith, pair_high n s, walk_low look t m fits (pair_code n s) e, code_low look t m false fits) in
        omega (arith, walk_count n s t false, once n low i)

    -- a leaf, or once on the walk
    abbrev Few : ℕ → Type 0
    Few c = (kind_at res (num c) < 4) ⊎ (count c (walk t false) ≤ 1)

    few : (a : Written) (l : ℕ) (s : Bool) → Fits look a l → In a s → Few (code a s)
    unfolding code entry
    few (constant v) l s f w = inl (omega (arith, kind_of look t m fits (constant v) l s f w, bit_small (turned v s)))
    few (literal n v p) l s f w =
        inl (omega (arith, kind_of look t m fits (literal n v p) l s f w, literal_leaf (turned v s)))
    few (negation n a) l s f w = few a n (not s) f.2 (within_negation look t m fits n a s w)
    few (next n a) l s f w = inr (pair_few n s (own look t m fits (next n a) s w) (rw f.1 tt))
    few (binary n o a b) l s f w = inr (pair_few n s (own look t m fits (binary n o a b) s w) (rw f.1 tt))
    few (future n all a) l s f w = inr (pair_few n s (own look t m fits (future n all a) s w) (rw f.1 tt))

    root_count : (k : ℕ) → count k (walk t false) ≡ one k (code t false) + count k (below t false)
    unfolding over
    root_count k = refl

    place_passes : (c : ℕ) → need c ≡ true → Few c → place_check res (num c) ≡ fine
    place_passes c e h = elim (member_cases c (code t false) (below t false) e) [
      | inl g ↦ sym (place_root res (num c) (first g) (ap num (sym g) ∙ sym (root_last look t m fits)))
      | inr g ↦ (let some = place_some c e g in elim h [
        | inl leaf ↦ sym (place_leaf res (num c) (λ z. omega arith) leaf)
        | inr single ↦ sym (place_once res (num c) (λ z. omega arith) (omega (arith, places_most c e, root_count c)))
      ])
    ]
      where
        first : code t false ≡ c → places res (node_count res) (num c) ≡ 0
        first g =
            let none = count_zero c (below t false) (λ x. omega (arith, below_low look t m false fits c x)) in
            omega (arith, places_most c e)

    pub each_place : (i : ℕ) → i < node_count res → place_check res i ≡ fine
    each_place =
        each (λ x. place_check res x ≡ fine)
        (λ a l s f w. place_passes (code a s) (own look t m fits a s w) (few a l s f w))
