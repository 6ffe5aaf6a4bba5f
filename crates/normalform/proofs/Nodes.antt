-- The nodes of a result, by induction on the written trees that the walk comes to: each has the bytes of its code's
-- entry, 3 to 5 let it pass, its tree is the formula of the written tree, and the root is the last. Assumes nothing.
use Prim.Native.Nat.{ℕ, suc, ◌+◌, ◌*◌, ◌<◌, ◌≤◌}
use mathlib.Core.Path.{◌≡◌, refl, sym, ◌∙◌, ap, subst}
use mathlib.Core.Bool.{Bool, true, false, cond, not, ◌&&◌, false≢true}
use mathlib.Core.Logic.{inl, inr}
use mathlib.Core.List.{List, []}
use native.Mathlib.Omega.{arith}
use native.Mathlib.Decide.{dec_lt}
use lib.Dec.{leb}
use lib.ListN.{get_or, length}
use borrow.Author.Tests.{lt-ltb}
use Rattle.answer.specs.Result.{Check, fine, require, and_then}
use Rattle.formula.specs.Limits.{propositions}
use Rattle.formula.specs.Rule.{node_count, kind_at, left_at, right_at, root, left_operand, one_child, right_operand}
use Rattle.formula.specs.Rule.{byte_fits, child_fits, node_check, release_kind}
use Rattle.formula.specs.Formula.{Formula, bottom, build, tree}
use Rattle.formula.proofs.Accepted.{Node, node_fine}
use Rattle.formula.proofs.Trees.{leaf_in, pair_in}
use Rattle.normalform.specs.Written.{Connective, and, or, until, release, implies, Written, constant, literal}
use Rattle.normalform.specs.Written.{negation, next, binary, future}
use Rattle.normalform.specs.NormalForm.{turned, bit, left_sense, connective_kind, left_constant, future_kind}
use Rattle.normalform.specs.NormalForm.{pair_code, code, below, walk, entry, member, emit, is_needed, number}
use Rattle.normalform.specs.NormalForm.{entry_of}
use Rattle.normalform.proofs.Meaning.{form, constant_form}
use Rattle.normalform.proofs.Ranks.{rank_rises, rank_below, unrank, emit_length, emit_byte}
use Rattle.normalform.proofs.Shape.{member_head, member_tail, member_cases, member_left, member_right, Fits}
use Rattle.normalform.proofs.Shape.{bit_low, pair_high, code_low, below_low, entry_code, entry_length}

-- ---- 3 to 5, by a node's three bytes
abbrev bytes_check : (k l r n : ℕ) → Check
bytes_check k l r n =
    and_then (require (leb k release_kind) 3 n)
    (λ _. and_then (require (byte_fits (left_operand k) l && byte_fits (right_operand k) r) 4 n)
    (λ _. require (child_fits (left_operand k) l n && child_fits (right_operand k) r n) 5 n))

constant_passes : (v : Bool) (n : ℕ) → bytes_check (bit v) 0 0 n ≡ fine
unfolding left_operand one_child right_operand
constant_passes true n = refl
constant_passes false n = refl

literal_passes : (v : Bool) (p n : ℕ) → p < propositions → bytes_check (cond v 2 3) p 0 n ≡ fine
unfolding left_operand one_child right_operand
literal_passes true p n l = rw (lt-ltb p propositions l) refl
literal_passes false p n l = rw (lt-ltb p propositions l) refl

next_passes : (l n : ℕ) → l < n → bytes_check 6 l 0 n ≡ fine
unfolding left_operand one_child right_operand
next_passes l n h = rw (lt-ltb l n h) refl

-- the kinds of two children: and, or, until and release
pub data Pair : ℕ → Type 0 where
  four : Pair 4
  five : Pair 5
  seven : Pair 7
  eight : Pair 8

pair_passes : (k l r n : ℕ) → Pair k → l < n → r < n → bytes_check k l r n ≡ fine
unfolding left_operand one_child right_operand
pair_passes k l r n four a b = rw (lt-ltb l n a, lt-ltb r n b) refl
pair_passes k l r n five a b = rw (lt-ltb l n a, lt-ltb r n b) refl
pair_passes k l r n seven a b = rw (lt-ltb l n a, lt-ltb r n b) refl
pair_passes k l r n eight a b = rw (lt-ltb l n a, lt-ltb r n b) refl

pub result_pair : (o : Connective) (s : Bool) → Pair (connective_kind o s)
result_pair and true = five
result_pair and false = four
result_pair or true = four
result_pair or false = five
result_pair until true = eight
result_pair until false = seven
result_pair release true = seven
result_pair release false = eight
result_pair implies true = four
result_pair implies false = five

pub future_pair : (v : Bool) → Pair (future_kind v)
future_pair true = seven
future_pair false = eight

pub pair_inner : (k : ℕ) → Pair k → 3 < k
pair_inner k four = omega arith
pair_inner k five = omega arith
pair_inner k seven = omega arith
pair_inner k eight = omega arith

-- the left byte of such a node is no part of its tree, nor are the children of a leaf
pair_build : (k n l : ℕ) (f f' g g' : Formula) → Pair k → f ≡ f' → g ≡ g' → build k n l f g ≡ build k n 0 f' g'
pair_build k n l f f' g g' four p q = rw (p, q)
pair_build k n l f f' g g' five p q = rw (p, q)
pair_build k n l f f' g g' seven p q = rw (p, q)
pair_build k n l f f' g g' eight p q = rw (p, q)

literal_build : (v : Bool) (n p : ℕ) (f g : Formula)
    → build (cond v 2 3) n p f g ≡ build (cond v 2 3) n p bottom bottom
literal_build true n p f g = refl
literal_build false n p f g = refl

constant_build : (v : Bool) (n l : ℕ) (f g : Formula) → build (bit v) n l f g ≡ constant_form v
constant_build true n l f g = refl
constant_build false n l f g = refl

-- ---- the tree t of a table of m nodes: its needed codes, their numbers, and the bytes of the result
module _ (look : ℕ → Written) (t : Written) (m : ℕ) (fits : Fits look t m) where
  abbrev pub needs : ℕ → Bool
  needs = is_needed (walk t false)

  abbrev pub at : ℕ → ℕ
  at = number (walk t false)

  abbrev pub out : List ℕ
  out = emit needs (entry_of (walk t false) look) (m * 2 + 2)

  three : (c : ℕ) → length (entry_of (walk t false) look c) ≡ 3
  three c = entry_length look at _ _

  pub out_length : length out ≡ at (m * 2 + 2) * 3
  out_length = emit_length needs (entry_of (walk t false) look) three (m * 2 + 2)

  -- the root's is the highest needed code
  pub walk_low : (c : ℕ) → needs c ≡ true → c ≤ code t false
  walk_low c e = elim (member_cases c (code t false) (below t false) e) [
    | inl f ↦ omega arith
    | inr f ↦ omega (arith, below_low look t m false fits c f)
  ]

  -- the walk from a tree in a sense is a part of the whole walk
  abbrev pub Within : Written → Bool → Type 0
  Within a s = (c : ℕ) → member c (walk a s) ≡ true → needs c ≡ true

  pub root_within : Within t false
  root_within c e = e

  pub own : (a : Written) (s : Bool) → Within a s → needs (code a s) ≡ true
  own a s w = w (code a s) (member_head (code a s) (below a s))

  within_below : (a : Written) (s : Bool) → Within a s → (c : ℕ) → member c (below a s) ≡ true → needs c ≡ true
  within_below a s w c e = w c (member_tail c (code a s) (below a s) e)

  pub within_negation : (n : ℕ) (a : Written) (s : Bool) → Within (negation n a) s → Within a (not s)
  unfolding below code
  within_negation n a s w = w

  pub within_next : (n : ℕ) (a : Written) (s : Bool) → Within (next n a) s → Within a s
  unfolding below
  within_next n a s w = within_below (next n a) s w

  module _ (n : ℕ) (o : Connective) (a b : Written) (s : Bool) (w : Within (binary n o a b) s) where
    pub within_left : Within a (left_sense o s)
    unfolding below
    within_left c e = within_below (binary n o a b) s w c (member_left c (walk a (left_sense o s)) (walk b s) e)

    pub within_right : Within b s
    unfolding below
    within_right c e = within_below (binary n o a b) s w c (member_right c (walk a (left_sense o s)) (walk b s) e)

  module _ (n : ℕ) (all : Bool) (a : Written) (s : Bool) (w : Within (future n all a) s) where
    abbrev constant_bit : ℕ
    constant_bit = bit (left_constant all s)

    pub within_constant : needs (bit (left_constant all s)) ≡ true
    unfolding below
    within_constant = within_below (future n all a) s w constant_bit (member_head constant_bit (walk a s))

    pub within_future : Within a s
    unfolding below
    within_future c e = within_below (future n all a) s w c (member_tail c constant_bit (walk a s) e)

  pub constant_within : (v : Bool) → needs (bit v) ≡ true → Within (constant v) false
  unfolding code below member
  constant_within v e c f = elim (member_cases c (bit v) [] f) [
    | inl g ↦ subst (λ (x : ℕ). needs x ≡ true) g e
    | inr g ↦ absurd (false≢true g)
  ]

  -- ---- the bytes
  needed_low : (c : ℕ) → needs c ≡ true → c < m * 2 + 2
  needed_low c e = omega (arith, walk_low c e, code_low look t m false fits)

  pub byte : (c j : ℕ) → needs c ≡ true → j < 3
      → get_or out (at c * 3 + j) 0 ≡ get_or (entry_of (walk t false) look c) j 0
  byte c j e small = emit_byte needs (entry_of (walk t false) look) three (m * 2 + 2) c j (needed_low c e) e small

  pub kind_byte : (c : ℕ) → needs c ≡ true → kind_at out (at c) ≡ get_or (entry_of (walk t false) look c) 0 0
  kind_byte c e =
      let z : at c * 3 ≡ at c * 3 + 0 = omega arith in
      ap (λ (x : ℕ). get_or out x 0) z ∙ byte c 0 e (omega arith)

  module _ (a : Written) (l : ℕ) (s : Bool) (f : Fits look a l) (w : Within a s) where
    same_byte : (j : ℕ) → get_or (entry_of (walk t false) look (code a s)) j 0 ≡ get_or (entry at a s) j 0
    same_byte j = ap (λ (xs : List ℕ). get_or xs j 0) (entry_code look at a l s f)

    pub kind_of : kind_at out (at (code a s)) ≡ get_or (entry at a s) 0 0
    kind_of = kind_byte (code a s) (own a s w) ∙ same_byte 0

    pub left_of : left_at out (at (code a s)) ≡ get_or (entry at a s) 1 0
    left_of = byte (code a s) 1 (own a s w) (omega arith) ∙ same_byte 1

    pub right_of : right_at out (at (code a s)) ≡ get_or (entry at a s) 2 0
    right_of = byte (code a s) 2 (own a s w) (omega arith) ∙ same_byte 2

  pub inside : (a : Written) (s : Bool) → Within a s → at (code a s) < node_count out
  inside a s w =
      let low = needed_low (code a s) (own a s w) in
      omega (arith, out_length, rank_below needs (code a s) (m * 2 + 2) (own a s w) low)

  -- ---- the checks
  -- children have lower numbers
  child_low : (c n : ℕ) (s : Bool) → needs c ≡ true → c < n * 2 + 2 → at c < at (pair_code n s)
  child_low c n s e l = rank_below needs c (pair_code n s) e (omega (arith, pair_high n s))

  tree_low : (a : Written) (r : Bool) (n : ℕ) (s : Bool) → Fits look a n → Within a r
      → at (code a r) < at (pair_code n s)
  tree_low a r n s f w = child_low (code a r) n s (own a r w) (code_low look a n r f)

  entry_passes : (a : Written) (l : ℕ) (s : Bool) → Fits look a l → Within a s
      → bytes_check (get_or (entry at a s) 0 0) (get_or (entry at a s) 1 0) (get_or (entry at a s) 2 0) (at (code a s)) ≡ fine
  unfolding entry code
  entry_passes (constant v) l s f w = constant_passes (turned v s) _
  entry_passes (literal n v p) l s f w = literal_passes (turned v s) p _ f.2
  entry_passes (negation n a) l s f w = entry_passes a n (not s) f.2 (within_negation n a s w)
  entry_passes (next n a) l s f w =
      next_passes (at (code a s)) (at (pair_code n s)) (tree_low a s n s f.2 (within_next n a s w))
  entry_passes (binary n o a b) l s f w =
      pair_passes (connective_kind o s) _ _ (at (pair_code n s)) (result_pair o s)
      (tree_low a (left_sense o s) n s f.2 (within_left n o a b s w))
      (tree_low b s n s f.3 (within_right n o a b s w))
  entry_passes (future n all a) l s f w =
      let v = left_constant all s in
      pair_passes (future_kind v) _ _ (at (pair_code n s)) (future_pair v)
      (child_low (bit v) n s (within_constant n all a s w) (bit_low v n))
      (tree_low a s n s f.2 (within_future n all a s w))

  pub node_passes : (a : Written) (l : ℕ) (s : Bool) → Fits look a l → Within a s
      → node_check release_kind out (at (code a s)) ≡ fine
  unfolding node_check
  node_passes a l s f w = rw (kind_of a l s f w, left_of a l s f w, right_of a l s f w) (entry_passes a l s f w)

  -- ---- the trees
  module _ (a : Written) (l : ℕ) (s : Bool) (f : Fits look a l) (w : Within a s) where
    abbrev entry_byte : ℕ → ℕ
    entry_byte j = get_or (entry at a s) j 0

    abbrev place : ℕ
    place = at (code a s)

    node_of : Node out place
    node_of = node_fine release_kind out place (node_passes a l s f w)

    leaf_of : (x : Formula) → ((g h : Formula) → build (entry_byte 0) place (entry_byte 1) g h ≡ x) → tree out place ≡ x
    leaf_of x =
        leaf_in out place (inside a s w) node_of (λ y. y ≡ x) (entry_byte 0) (sym (kind_of a l s f w))
        (entry_byte 1) (sym (left_of a l s f w))

    inner_of : (x : Formula) → 3 < entry_byte 0
        → build (entry_byte 0) place (entry_byte 1) (tree out (entry_byte 1)) (tree out (entry_byte 2)) ≡ x
        → tree out place ≡ x
    inner_of x inner =
        pair_in out place (inside a s w) node_of (λ y. y ≡ x) (entry_byte 0) (sym (kind_of a l s f w))
        (entry_byte 1) (entry_byte 2) (sym (left_of a l s f w)) (sym (right_of a l s f w)) inner

  constant_tree : (v : Bool) → needs (bit v) ≡ true → tree out (at (bit v)) ≡ constant_form v
  unfolding code entry
  constant_tree v e =
      leaf_of (constant v) 0 false tt (constant_within v e) (constant_form v) (constant_build v (at (bit v)) 0)

  pub tree_form : (a : Written) (l : ℕ) (s : Bool) → Fits look a l → Within a s → tree out (at (code a s)) ≡ form at a s
  unfolding code entry
  tree_form (constant v) l s f w = constant_tree (turned v s) (own (constant v) s w)
  tree_form (literal n v p) l s f w =
      leaf_of (literal n v p) l s f w _ (literal_build (turned v s) (at (pair_code n s)) p)
  tree_form (negation n a) l s f w = tree_form a n (not s) f.2 (within_negation n a s w)
  tree_form (next n a) l s f w =
      inner_of (next n a) l s f w _ (omega arith)
      (ap (λ (g : Formula). build 6 (at (pair_code n s)) 0 g bottom) (tree_form a n s f.2 (within_next n a s w)))
  tree_form (binary n o a b) l s f w =
      inner_of (binary n o a b) l s f w _ (pair_inner (connective_kind o s) (result_pair o s))
      (pair_build (connective_kind o s) (at (pair_code n s)) _ _ _ _ _ (result_pair o s)
      (tree_form a n (left_sense o s) f.2 (within_left n o a b s w))
      (tree_form b n s f.3 (within_right n o a b s w)))
  tree_form (future n all a) l s f w =
      let v = left_constant all s in
      inner_of (future n all a) l s f w _ (pair_inner (future_kind v) (future_pair v))
      (pair_build (future_kind v) (at (pair_code n s)) _ _ _ _ _ (future_pair v)
      (constant_tree v (within_constant n all a s w))
      (tree_form a n s f.2 (within_future n all a s w)))

  -- ---- the root is the last: a number above its code's would be a higher needed code's
  pub root_last : root out ≡ at (code t false)
  root_last = go (dec_lt (suc (at (code t false))) (at (m * 2 + 2)))
    where
      go : Dec (suc (at (code t false)) < at (m * 2 + 2)) → root out ≡ at (code t false)
      go (yes more) =
          let (c, low, e, same) = unrank needs (m * 2 + 2) (suc (at (code t false))) more in
          absurd (omega (arith, same, rank_rises needs c (code t false) (walk_low c e)))
      go (no most) =
          let low = code_low look t m false fits in
          omega (arith, out_length, rank_below needs (code t false) (m * 2 + 2) (own t false root_within) low)
