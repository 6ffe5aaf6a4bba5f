-- R-3: normalizing a result gives the same bytes. The result, read as a written rule, has one needed code for each of
-- the rule's, in the same order and with the same entry, by induction on the trees and codes. Assumes nothing.
use Prim.Native.Nat.{ℕ, zero, suc, ◌+◌, ◌*◌, ◌<◌, ◌≤◌}
use mathlib.Core.Path.{◌≡◌, refl, sym, ◌∙◌, ap, subst}
use mathlib.Core.Bool.{Bool, true, false, cond, not, not-eq-not}
use mathlib.Core.Logic.{◌⊎◌, inl, inr}
use mathlib.Core.List.{List, [], ◌++◌, append-nil, map, map-append}
use native.Mathlib.Omega.{arith}
use native.Mathlib.Decide.{dec_lt}
use lib.Dec.{ltb}
use lib.ListN.{get_or}
use borrow.Author.Tests.{lt-ltb, le-ltb, le-leb}
use Rattle.answer.specs.Result.{accepted, fine}
use Rattle.formula.specs.Limits.{max_nodes}
use Rattle.formula.specs.Rule.{node_count, kind_at, left_at, root, release_kind, eventually_kind}
use Rattle.formula.proofs.Accepted.{node_widens, syntax_widens}
use Rattle.normalform.specs.Written.{Connective, and, or, until, release, Written, constant, literal}
use Rattle.normalform.specs.Written.{negation, next, binary, future, build_written, written_tree, written_check}
use Rattle.normalform.specs.NormalForm.{turned, bit, left_sense, connective_kind, left_constant, pair_code, code}
use Rattle.normalform.specs.NormalForm.{future_kind, below, walk, entry, member, rank, emit, entry_of, size}
use Rattle.normalform.specs.NormalForm.{normal_bytes}
use Rattle.normalform.specs.NormalForm.{normal_form}
use Rattle.normalform.proofs.Ranks.{rank_rises}
use Rattle.normalform.proofs.Shape.{member_map, member_from, Fits, pair_high, entry_code}
use Rattle.normalform.proofs.Fitting.{WrittenNode, written_node, leaf_built, inner_built, fits_node, WellWritten}
use Rattle.normalform.proofs.Nodes.{Pair, four, five, seven, eight, result_pair, future_pair, pair_inner, needs}
use Rattle.normalform.proofs.Nodes.{at, out, out_length, Within, root_within, own, within_negation, within_next}
use Rattle.normalform.proofs.Nodes.{within_left, within_right, within_constant, within_future, constant_within}
use Rattle.normalform.proofs.Nodes.{kind_of, left_of, right_of, inside, root_last}
use Rattle.normalform.proofs.Placed.{visit}
use Rattle.normalform.proofs.Holds.{normal}
use Rattle.normalform.proofs.Passes.{result_node, result_form}

-- ---- going up the codes, as rank and emit do
climb : {A : Type 0} → (ℕ → Bool) → (ℕ → A → A) → A → ℕ → A
climb need step start zero = start
climb need step start (suc c) = cond (need c) (step c (climb need step start c)) (climb need step start c)

add_bit : (b : Bool) (n : ℕ) → n + bit b ≡ cond b (suc n) n
add_bit true n = omega arith
add_bit false n = omega arith

rank_climb : (need : ℕ → Bool) (c : ℕ) → rank need c ≡ climb need (λ c x. suc x) 0 c
unfolding rank climb
rank_climb need zero = refl
rank_climb need (suc c) =
    add_bit (need c) (rank need c) ∙ ap (λ (x : ℕ). cond (need c) (suc x) x) (rank_climb need c)

append_if : (b : Bool) (xs ys : List ℕ) → xs ++ cond b ys [] ≡ cond b (xs ++ ys) xs
append_if true xs ys = refl
append_if false xs ys = append-nil xs

emit_climb : (need : ℕ → Bool) (entries : ℕ → List ℕ) (c : ℕ)
    → emit need entries c ≡ climb need (λ c xs. xs ++ entries c) [] c
unfolding emit climb
emit_climb need entries zero = refl
emit_climb need entries (suc c) =
    append_if (need c) (emit need entries c) (entries c)
    ∙ ap (λ (xs : List ℕ). cond (need c) (xs ++ entries c) xs) (emit_climb need entries c)

-- where nothing is needed, nothing is done
climb_flat : {A : Type 0} (need : ℕ → Bool) (step : ℕ → A → A) (start : A) (d e : ℕ) → d ≤ e
    → ((x : ℕ) → d ≤ x → x < e → need x ≡ false) → climb need step start e ≡ climb need step start d
unfolding climb
climb_flat need step start d zero le h = let z : d ≡ 0 = omega arith in rw z refl
climb_flat {A = A} need step start d (suc e) le h =
    go (dec_lt d (suc e)) (λ l. climb_flat need step start d e l (λ x a b. h x a (omega arith)))
  where
    go : Dec (d < suc e) → (d ≤ e → climb need step start e ≡ climb need step start d)
        → climb need step start (suc e) ≡ climb need step start d
    go (yes l) ih = rw (h e (omega arith) (omega arith)) (ih (omega arith))
    go (no l) ih = let z : d ≡ suc e = omega arith in rw z refl

bool_same : (a b : Bool) → (a ≡ true → b ≡ true) → (b ≡ true → a ≡ true) → a ≡ b
bool_same true true f g = refl
bool_same true false f g = sym (f refl)
bool_same false true f g = g refl
bool_same false false f g = refl

never : (b : Bool) → (b ≡ true → ⊥) → b ≡ false
never b h = not-eq-not.0 h

-- ---- the result's trees, as written ones
unfoldable joined : {k : ℕ} → Pair k → Connective
joined four = and
joined five = or
joined seven = until
joined eight = release

-- o is the connective of kind k, and stays so
record Kept (o : Connective) (k : ℕ) : Type 0 where
  plain : left_sense o false ≡ false
  kind : connective_kind o false ≡ k
  built : (i l : ℕ) (a b : Written) → build_written k i l a b ≡ binary i o a b

kept : {k : ℕ} (pair : Pair k) → Kept (joined pair) k
unfolding joined
kept four = record { plain = refl; kind = refl; built = λ i l a b. refl }
kept five = record { plain = refl; kind = refl; built = λ i l a b. refl }
kept seven = record { plain = refl; kind = refl; built = λ i l a b. refl }
kept eight = record { plain = refl; kind = refl; built = λ i l a b. refl }

pair_again : {k : ℕ} (pair : Pair k) (i l : ℕ) (a a' b b' : Written) → a ≡ a' → b ≡ b'
    → build_written k i l a b ≡ binary i (joined pair) a' b'
pair_again pair i l a a' b b' p q = (kept pair).built i l a b ∙ rw (p, q) refl

-- the tree of a result's node, by the written tree and the sense that it stands for; num has the numbers of the codes
abbrev again : (num : ℕ → ℕ) → Written → Bool → Written
again num (constant v) s = constant (turned v s)
again num (literal n v p) s = literal (num (pair_code n s)) (turned v s) p
again num (negation n a) s = again num a (not s)
again num (next n a) s = next (num (pair_code n s)) (again num a s)
again num (binary n o a b) s =
    binary (num (pair_code n s)) (joined (result_pair o s)) (again num a (left_sense o s)) (again num b s)
again num (future n all a) s =
    let v = left_constant all s in
    binary (num (pair_code n s)) (joined (future_pair v)) (constant v) (again num a s)

literal_built : (v : Bool) (i p : ℕ) (a b : Written) → build_written (cond v 2 3) i p a b ≡ literal i v p
literal_built true i p a b = refl
literal_built false i p a b = refl

constant_built : (v : Bool) (i p : ℕ) (a b : Written) → build_written (bit v) i p a b ≡ constant v
constant_built true i p a b = refl
constant_built false i p a b = refl

-- ---- the codes of the result's trees
module _ (num : ℕ → ℕ) where
  -- a constant's code stays; what stands for a pair is a node of the result, as it stands
  new_code : ℕ → ℕ
  new_code c = cond (ltb c 2) c (pair_code (num c) false)

  new_low : (c : ℕ) → c < 2 → new_code c ≡ c
  unfolding new_code
  new_low c l = rw (lt-ltb c 2 l) refl

  new_high : (c : ℕ) → 2 ≤ c → new_code c ≡ pair_code (num c) false
  unfolding new_code
  new_high c l = rw (le-ltb c 2 l) refl

  new_bit : (v : Bool) → new_code (bit v) ≡ bit v
  new_bit true = new_low 1 (omega arith)
  new_bit false = new_low 0 (omega arith)

  new_pair : (n : ℕ) (s : Bool) → new_code (pair_code n s) ≡ pair_code (num (pair_code n s)) false
  new_pair n s = new_high (pair_code n s) (omega (arith, pair_high n s))

  again_code : (a : Written) (s : Bool) → code (again num a s) false ≡ new_code (code a s)
  unfolding code
  again_code (constant v) s = sym (new_bit (turned v s))
  again_code (literal n v p) s = sym (new_pair n s)
  again_code (negation n a) s = again_code a (not s)
  again_code (next n a) s = sym (new_pair n s)
  again_code (binary n o a b) s = sym (new_pair n s)
  again_code (future n all a) s = sym (new_pair n s)

  again_below : (a : Written) (s : Bool) → below (again num a s) false ≡ map new_code (below a s)
  unfolding below code
  again_below (constant v) s = refl
  again_below (literal n v p) s = refl
  again_below (negation n a) s = again_below a (not s)
  again_below (next n a) s = rw (again_code a s, again_below a s) refl
  again_below (binary n o a b) s =
      rw (
        (kept (result_pair o s)).plain,
        again_code a (left_sense o s),
        again_below a (left_sense o s),
        again_code b s,
        again_below b s,
        map-append new_code (walk a (left_sense o s)) (walk b s),
      ) refl
  again_below (future n all a) s =
      let v = left_constant all s in
      rw ((kept (future_pair v)).plain, again_code a s, again_below a s, new_bit v) refl

module _ (look : ℕ → Written) (t : Written) (m : ℕ) (fits : Fits look t m) where
  -- the needed codes of the rule and, with a stroke, of its result
  abbrev wants : ℕ → Bool
  wants = needs look t m fits

  abbrev num : ℕ → ℕ
  num = at look t m fits

  abbrev codes : List ℕ
  codes = map (new_code num) (walk t false)

  abbrev wants' : ℕ → Bool
  wants' d = member d codes

  -- the code of the result's node under a pair's code
  abbrev up : ℕ → ℕ
  up c = pair_code (num c) false

  wants_in : (c : ℕ) → wants c ≡ true → wants' (new_code num c) ≡ true
  wants_in c e = member_map (new_code num) c (walk t false) e

  -- a needed code of the result is a constant's, or that of the number of a pair's
  abbrev Origin : ℕ → Type 0
  Origin d = ((d < 2) × (wants d ≡ true)) ⊎ ((c : ℕ) × (2 ≤ c) × (up c ≡ d))

  wants_out : (d : ℕ) → wants' d ≡ true → Origin d
  wants_out d e =
      let (c, n, f) = member_from (new_code num) d (walk t false) e in
      go c n f (dec_lt c 2)
    where
      go : (c : ℕ) → wants c ≡ true → new_code num c ≡ d → Dec (c < 2) → Origin d
      go c n f (yes l) =
          let z : c ≡ d = sym (new_low num c l) ∙ f in
          inl (omega arith, subst (λ (x : ℕ). wants x ≡ true) z n)
      go c n f (no l) = inr (c, omega arith, sym (new_high num c (omega arith)) ∙ f)

  low_same : (d : ℕ) → d < 2 → wants' d ≡ wants d
  low_same d l =
      bool_same (wants' d) (wants d) (λ e. elim (wants_out d e) [ inl x ↦ x.1 | inr x ↦ absurd (omega (arith, x.2)) ])
      (λ e. subst (λ (x : ℕ). wants' x ≡ true) (new_low num d l) (wants_in d e))

  odd_none : (x : ℕ) → wants' (pair_code x true) ≡ false
  odd_none x = never (wants' (pair_code x true)) (λ e. elim (wants_out (pair_code x true) e) [
    | inl y ↦ omega (arith, y.0)
    | inr y ↦ omega (arith, y.2)
  ])

  gap_none : (d : ℕ) → 2 ≤ d → d < up 2 → wants' d ≡ false
  gap_none d l h = never (wants' d) (λ e. elim (wants_out d e) [
    | inl y ↦ omega (arith, y.0)
    | inr y ↦ omega (arith, y.2, rank_rises wants 2 y.0 y.1)
  ])

  -- going up the codes of both walks with steps that agree
  module _ {A : Type 0} (step step' : ℕ → A → A) (start : A)
      (same : (c : ℕ) → wants c ≡ true → (x : A) → step' (new_code num c) x ≡ step c x) where
    abbrev F : ℕ → A
    F = climb wants step start

    abbrev F' : ℕ → A
    F' = climb wants' step' start

    low_step : (c : ℕ) → c < 2 → F' c ≡ F c → F' (suc c) ≡ F (suc c)
    unfolding climb
    low_step c l ih = rw (low_same c l) (go (wants c) refl)
      where
        go : (b : Bool) → wants c ≡ b → cond b (step' c (F' c)) (F' c) ≡ cond b (step c (F c)) (F c)
        go true e =
            ap (step' c) ih ∙ subst (λ (x : ℕ). step' x (F c) ≡ step c (F c)) (new_low num c l) (same c e (F c))
        go false e = ih

    climb_zero : F' 0 ≡ F 0
    unfolding climb
    climb_zero = refl

    climb_one : F' 1 ≡ F 1
    climb_one = low_step 0 (omega arith) climb_zero

    climb_two : F' 2 ≡ F 2
    climb_two = low_step 1 (omega arith) climb_one

    climb_up : (c : ℕ) → 2 ≤ c → F' (up c) ≡ F c → F' (up (suc c)) ≡ F (suc c)
    unfolding climb rank
    climb_up c l ih = go (wants c) refl
      where
        go : (b : Bool) → wants c ≡ b
            → F' (pair_code (num c + bit (wants c)) false) ≡ cond (wants c) (step c (F c)) (F c)
        go true e =
            let z : (num c + 1) * 2 + 2 + 0 ≡ suc (suc (up c)) = omega arith in
            let y : pair_code (num c) true ≡ suc (up c) = omega arith in
            let new = new_high num c l in
            let none : wants' (suc (up c)) ≡ false = subst (λ (x : ℕ). wants' x ≡ false) y (odd_none (num c)) in
            let some : wants' (up c) ≡ true = subst (λ (x : ℕ). wants' x ≡ true) new (wants_in c e) in
            rw (e, z, none, some)
            (ap (step' (up c)) ih ∙ subst (λ (x : ℕ). step' x (F c) ≡ step c (F c)) new (same c e (F c)))
        go false e =
            let z : num c + 0 ≡ num c = omega arith in
            rw (e, z) ih

    climb_high : (c : ℕ) → 2 ≤ c → F' (up c) ≡ F c
    climb_high zero l = absurd (omega arith)
    climb_high (suc zero) l = absurd (omega arith)
    climb_high (suc (suc zero)) l =
        climb_flat wants' step' start 2 (up 2) (omega arith) gap_none ∙ climb_two
    climb_high (suc (suc (suc c))) l = climb_up (suc (suc c)) (omega arith) (climb_high (suc (suc c)) (omega arith))

    climb_new : (c : ℕ) → F' (new_code num c) ≡ F c
    climb_new zero = rw (new_low num 0 (omega arith)) climb_zero
    climb_new (suc zero) = rw (new_low num 1 (omega arith)) climb_one
    climb_new (suc (suc c)) = rw (new_high num (suc (suc c)) (omega arith)) (climb_high (suc (suc c)) (omega arith))

  -- ---- the numbers
  num_new : (c : ℕ) → rank wants' (new_code num c) ≡ num c
  num_new c =
      rank_climb wants' (new_code num c)
      ∙ climb_new (λ c x. suc x) (λ c x. suc x) 0 (λ c e x. refl) c
      ∙ sym (rank_climb wants c)

  num_high : (c : ℕ) → 2 ≤ c → rank wants' (up c) ≡ num c
  num_high c l = ap (rank wants') (sym (new_high num c l)) ∙ num_new c

  num_bit : (v : Bool) → rank wants' (bit v) ≡ num (bit v)
  num_bit v = ap (rank wants') (sym (new_bit num v)) ∙ num_new (bit v)

  -- ---- the entries
  entry_again : (a : Written) (s : Bool) → entry (rank wants') (again num a s) false ≡ entry num a s
  unfolding entry code
  entry_again (constant v) s = refl
  entry_again (literal n v p) s = refl
  entry_again (negation n a) s = entry_again a (not s)
  entry_again (next n a) s = rw (again_code num a s, num_new (code a s)) refl
  entry_again (binary n o a b) s =
      let same = kept (result_pair o s) in
      let r = left_sense o s in
      rw (same.kind, same.plain, again_code num a r, again_code num b s, num_new (code a r), num_new (code b s)) refl
  entry_again (future n all a) s =
      let v = left_constant all s in
      let same = kept (future_pair v) in
      rw (same.kind, same.plain, again_code num a s, num_new (code a s), num_bit v) refl

  -- ---- the trees
  abbrev res : List ℕ
  res = out look t m fits

  abbrev In : Written → Bool → Type 0
  In = Within look t m fits

  module _ (nodes : (i : ℕ) → i < node_count res → WrittenNode res i) where
    abbrev look' : ℕ → Written
    look' = written_tree res

    -- the tree of a node by the bytes of its entry
    module _ (a : Written) (l : ℕ) (s : Bool) (f : Fits look a l) (w : In a s) where
      abbrev place : ℕ
      place = num (code a s)

      abbrev entry_byte : ℕ → ℕ
      entry_byte j = get_or (entry num a s) j 0

      node : WrittenNode res place
      node = nodes place (inside look t m fits a s w)

      kind : kind_at res place ≡ entry_byte 0
      kind = kind_of look t m fits a l s f w

      left : left_at res place ≡ entry_byte 1
      left = left_of look t m fits a l s f w

      leaf_again : (x : Written) → ((b d : Written) → build_written (entry_byte 0) place (entry_byte 1) b d ≡ x)
          → look' place ≡ x
      leaf_again = leaf_built res place node (entry_byte 0) (entry_byte 1) kind left

      inner_again : 3 < entry_byte 0
          → look' place ≡ build_written (entry_byte 0) place (entry_byte 1) (look' (entry_byte 1)) (look' (entry_byte 2))
      inner_again =
          inner_built res place node (entry_byte 0) (entry_byte 1) kind left
          (entry_byte 2) (right_of look t m fits a l s f w)

    constant_again : (v : Bool) → wants (bit v) ≡ true → look' (num (bit v)) ≡ constant v
    unfolding code entry
    constant_again v e =
        leaf_again (constant v) 0 false tt (constant_within look t m fits v e) _ (constant_built v (num (bit v)) 0)

    again_tree : (a : Written) (l : ℕ) (s : Bool) → Fits look a l → In a s → look' (num (code a s)) ≡ again num a s
    unfolding code entry
    again_tree (constant v) l s f w = constant_again (turned v s) (own look t m fits (constant v) s w)
    again_tree (literal n v p) l s f w =
        leaf_again (literal n v p) l s f w _ (literal_built (turned v s) (num (pair_code n s)) p)
    again_tree (negation n a) l s f w = again_tree a n (not s) f.2 (within_negation look t m fits n a s w)
    again_tree (next n a) l s f w =
        inner_again (next n a) l s f w (omega arith)
        ∙ ap (next (num (pair_code n s))) (again_tree a n s f.2 (within_next look t m fits n a s w))
    again_tree (binary n o a b) l s f w =
        inner_again (binary n o a b) l s f w (pair_inner (connective_kind o s) (result_pair o s))
        ∙ pair_again (result_pair o s) (num (pair_code n s)) _ _ _ _ _
        (again_tree a n (left_sense o s) f.2 (within_left look t m fits n o a b s w))
        (again_tree b n s f.3 (within_right look t m fits n o a b s w))
    again_tree (future n all a) l s f w =
        let v = left_constant all s in
        inner_again (future n all a) l s f w (pair_inner (future_kind v) (future_pair v))
        ∙ pair_again (future_pair v) (num (pair_code n s)) _ _ _ _ _
        (constant_again v (within_constant look t m fits n all a s w))
        (again_tree a n s f.2 (within_future look t m fits n all a s w))

    again_fits : (a : Written) (l : ℕ) (s : Bool) → Fits look a l → In a s
        → Fits look' (again num a s) (suc (num (code a s)))
    again_fits a l s f w =
        subst (λ (x : Written). Fits look' x (suc (num (code a s)))) (again_tree a l s f w)
        (fits_node res nodes (num (code a s)) (inside look t m fits a s w))

    entry_same : (a : Written) (l : ℕ) (s : Bool) → Fits look a l → In a s
        → entry_of codes look' (new_code num (code a s)) ≡ entry_of (walk t false) look (code a s)
    entry_same a l s f w =
        ap (entry_of codes look') (sym (again_code num a s))
        ∙ entry_code look' (rank wants') (again num a s) (suc (num (code a s))) false (again_fits a l s f w)
        ∙ entry_again a s
        ∙ sym (entry_code look num a l s f)

    entries_same : (c : ℕ) → wants c ≡ true → entry_of codes look' (new_code num c) ≡ entry_of (walk t false) look c
    entries_same c e =
        visit look t m fits (λ c. entry_of codes look' (new_code num c) ≡ entry_of (walk t false) look c) entry_same
        t m false fits (root_within look t m fits) c e

    codes_same : walk (look' (root res)) false ≡ codes
    codes_same =
        let e : look' (root res) ≡ again num t false =
        ap look' (root_last look t m fits) ∙ again_tree t m false fits (root_within look t m fits) in
        rw (e, again_code num t false, again_below num t false) refl

    -- ---- the bytes
    abbrev end : ℕ
    end = m * 2 + 2

    end_same : node_count res * 2 + 2 ≡ up end
    end_same = omega (arith, out_length look t m fits)

    emit_same : emit wants' (entry_of codes look') (up end) ≡ res
    emit_same =
        emit_climb wants' (entry_of codes look') (up end)
        ∙ climb_high (λ c xs. xs ++ entry_of (walk t false) look c) (λ c xs. xs ++ entry_of codes look' c) []
        (λ c e xs. ap (λ (ys : List ℕ). xs ++ ys) (entries_same c e)) end (omega arith)
        ∙ sym (emit_climb wants (entry_of (walk t false) look) end)

    result_same : normal_bytes res ≡ res
    unfolding normal_bytes
    result_same = rw (codes_same, end_same) emit_same

    size_same : size res ≡ num end
    unfolding size
    size_same = rw (codes_same, end_same) (num_high end (omega arith))

module _ (rule : List ℕ) (formed : WellWritten rule) where
  abbrev widens : release_kind ≤ eventually_kind
  widens = omega arith

  result_written : (i : ℕ) → i < node_count (normal_bytes rule) → WrittenNode (normal_bytes rule) i
  result_written i l =
      written_node (normal_bytes rule) i l
      (node_widens release_kind eventually_kind widens (normal_bytes rule) i (result_node rule formed i l))

  abbrev start : Written
  start = written_tree rule (root rule)

  again_result : normal_bytes (normal_bytes rule) ≡ normal_bytes rule
  unfolding normal_bytes
  again_result = result_same (written_tree rule) start (node_count rule) formed.fits result_written

  again_size : size (normal_bytes rule) ≡ size rule
  unfolding normal_bytes size
  again_size = size_same (written_tree rule) start (node_count rule) formed.fits result_written

  again_check : size rule ≤ max_nodes → written_check (normal_bytes rule) ≡ fine
  unfolding written_check
  again_check few = syntax_widens release_kind eventually_kind widens (normal_bytes rule) (result_form rule formed few)

  again_normal : size rule ≤ max_nodes → normal_form (normal_bytes rule) ≡ accepted (normal_bytes rule)
  unfolding normal_form
  again_normal few = rw (again_check few, again_size, le-leb (size rule) max_nodes few, again_result)

-- ---- the theorem
-- a normal form has a normal form, and that is itself
pub normal_form_again : (rule out : List ℕ) → normal_form rule ≡ accepted out → normal_form out ≡ accepted out
normal_form_again rule out e =
    let n = normal rule out e in
    subst (λ (x : List ℕ). normal_form x ≡ accepted x) n.same (again_normal rule n.formed n.few)
