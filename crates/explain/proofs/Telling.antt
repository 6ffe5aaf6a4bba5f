-- The searches over the table of a rule are those of the definitions. Assumes that the rule is accepted.
use Prim.Native.Nat.{ℕ, ◌+◌, ◌-◌, ◌*◌, ◌≤◌, ◌<◌}
use mathlib.Core.Path.{◌≡◌, refl, sym, ◌∙◌, ap, ap₂}
use mathlib.Core.Logic.{inl, inr}
use mathlib.Core.List.{List, [], ◌∷◌}
use Rattle.std.specs.Prelude.{Option, None as none, Some as some}
use mathlib.Core.Bool.{Bool, false, cond}
use native.Mathlib.Omega.{arith}
use lib.ListN.{get_or, length, take, drop, length-drop}
use lib.Seq.{get_or-take, get_or-drop, length-take-le}
use borrow.Author.Tests.{eq-eqb, ne_eqb}
use Rattle.formula.specs.Limits.{max_nodes}
use Rattle.lasso.specs.Lasso.{max_letters}
use Rattle.answer.specs.Result.{fine}
use Rattle.formula.specs.Rule.{node_count, kind_at, left_at, right_at, checked}
use Rattle.formula.proofs.Accepted.{accepted_fine, accepted_few}
use Rattle.sets.specs.Sets.{In}
use Rattle.evaluate.specs.Memory.{Filled, Room}
use Rattle.evaluate.specs.Truth.{truth, true_at}
use Rattle.explain.specs.Explain.{clauses_of, clauses, first_failing, first_broken, first_from, release_break}
use Rattle.explain.specs.Explain.{until_break}
use Rattle.explain.specs.Explain.{break_at, broken, never_comes, explanation}
use Rattle.explain.proofs.Clauses.{clause_node}
use Rattle.explain.proofs.Named.{named_node}
use Rattle.explain.specs.Memory.{first, exposed_at, both_fail_at}

-- the table of an accepted rule on a lasso within the limits
pub record Known (rule stem cycle : List ℕ) (table : List Bool) : Type 0 where
  pub fine_rule : checked rule ≡ fine
  pub room : Room rule stem cycle table
  pub done : Filled rule stem cycle table (node_count rule)

-- ---- tests that agree

failing_agree : (f g : ℕ → Bool) (cs : List ℕ) → ((c : ℕ) → In c cs → f c ≡ g c)
    → first_failing f cs ≡ first_failing g cs
unfolding first_failing
failing_agree f g [] h = refl
failing_agree f g (c ∷ cs) h =
    ap₂ (λ (b : Bool) (r : Option ℕ). cond b r (some c)) (h c (inl refl)) (failing_agree f g cs (λ x m. h x (inr m)))

module _ {rule stem cycle : List ℕ} {table : List Bool} (known : Known rule stem cycle table) where
  abbrev total : ℕ
  total = length stem + length cycle

  -- the flag of a node at position 0
  flag_first : (k : ℕ) → k < node_count rule → first table k ≡ true_at rule stem cycle k 0
  unfolding true_at
  flag_first k l =
      let e : k * max_letters ≡ k * max_letters + 0 = omega arith in
      ap (λ (j : ℕ). get_or table j false) e
      ∙ sym (get_or-take total (drop (k * max_letters) table) 0 false (omega (arith, known.room.some))
      ∙ get_or-drop (k * max_letters) table 0 false)
      ∙ ap (λ (flags : List Bool). get_or flags 0 false) (known.done.rows k l)

  -- the clause that is named
  pub named_is : {count : ℕ} {found : Option ℕ} → count ≡ node_count rule
      → found ≡ first_failing (first table) (clauses_of rule (count - 1)) → found ≡ first_broken rule stem cycle
  unfolding first_broken clauses
  named_is e h =
      h ∙ rw e refl
      ∙ failing_agree (first table) (λ c. true_at rule stem cycle c 0) (clauses rule)
      (λ c m. flag_first c (clause_node rule known.fine_rule c m).0)

  pub named_inside : (x : ℕ) → some x ≡ first_broken rule stem cycle → x < node_count rule
  named_inside x e = (named_node rule stem cycle known.fine_rule known.room.some x (sym e)).0

  -- where it is broken
  module _ {c kind : ℕ} (inside : c < node_count rule) (ek : kind ≡ kind_at rule c) where
    small : c < max_nodes
    small = accepted_few rule known.fine_rule c inside

    pub other_is : (kind ≡ 7 → ⊥) → (kind ≡ 8 → ⊥) → some 0 ≡ break_at rule stem cycle c
    unfolding break_at
    other_is u r = sym (rw (← ek, ne_eqb kind 8 r, ne_eqb kind 7 u) refl)

    module _ (high : 7 ≤ kind) where
      -- the rows of its sides lie in the table
      row_fits : (k : ℕ) → k < c → (k < max_nodes) × (k * max_letters + total ≤ length table)
      row_fits k l =
          let few = known.room.few in
          let places = known.room.places in
          (omega (arith, small), omega arith)

      left_low : {l : ℕ} → l ≡ left_at rule c → l < c
      left_low el = let x = ((accepted_fine rule known.fine_rule).nodes c inside).left (omega arith) in omega arith

      right_low : {r : ℕ} → r ≡ right_at rule c → r < c
      right_low er = let x = ((accepted_fine rule known.fine_rule).nodes c inside).right (omega arith) in omega arith

      pub left_fits : {l : ℕ} → l ≡ left_at rule c → (l < max_nodes) × (l * max_letters + total ≤ length table)
      left_fits {l} el = row_fits l (left_low el)

      pub right_fits : {r : ℕ} → r ≡ right_at rule c → (r < max_nodes) × (r * max_letters + total ≤ length table)
      right_fits {r} er = row_fits r (right_low er)

      row_full : {k : ℕ} {flags : List Bool} → k < c → flags ≡ take total (drop (k * max_letters) table)
          → length flags ≡ total
      row_full {k} l e =
          let fits = row_fits k l in
          ap length e ∙ length-take-le total (drop (k * max_letters) table)
          (omega (arith, length-drop (k * max_letters) table))

      -- the rows as they are read of the table
      module _ {l r : ℕ} (el : l ≡ left_at rule c) (er : r ≡ right_at rule c) {left right : List Bool}
          (row_l : left ≡ take total (drop (l * max_letters) table))
          (row_r : right ≡ take total (drop (r * max_letters) table)) where
        left_row : left ≡ get_or (truth rule stem cycle) (left_at rule c) []
        left_row =
            let low = left_low el in
            row_l ∙ known.done.rows l (omega arith) ∙ ap (λ (k : ℕ). get_or (truth rule stem cycle) k []) el

        right_row : right ≡ get_or (truth rule stem cycle) (right_at rule c) []
        right_row =
            let low = right_low er in
            row_r ∙ known.done.rows r (omega arith) ∙ ap (λ (k : ℕ). get_or (truth rule stem cycle) k []) er

        full : length right ≡ total
        full = row_full (right_low er) row_r

        pub same_length : length left ≡ length right
        same_length = row_full (left_low el) row_l ∙ sym full

        pub until_is : kind ≡ 7 → {found : Option ℕ} → found ≡ first_from (both_fail_at left right) 0 (length right)
            → found ≡ break_at rule stem cycle c
        unfolding break_at until_break true_at
        until_is e h =
            h ∙ rw (full, left_row, right_row)
            (sym (rw (← ek, ne_eqb kind 8 (λ f. omega arith), eq-eqb kind 7 e) refl))

        pub release_is : kind ≡ 8 → {found : Option ℕ} → found ≡ first_from (exposed_at left right) 0 (length right)
            → found ≡ break_at rule stem cycle c
        unfolding break_at release_break true_at
        release_is e h =
            h ∙ rw (full, left_row, right_row) (sym (rw (← ek, eq-eqb kind 8 e) refl))

-- ---- the answer

module _ (rule stem cycle : List ℕ) where
  module _ (c : ℕ) (e : some c ≡ first_broken rule stem cycle) where
    pub broken_is : (i : ℕ) → some i ≡ break_at rule stem cycle c → broken c i ≡ explanation rule stem cycle
    unfolding explanation
    broken_is i f = rw (← e, ← f) refl

    pub never_is : none ≡ break_at rule stem cycle c → never_comes c ≡ explanation rule stem cycle
    unfolding explanation
    never_is f = rw (← e, ← f) refl
