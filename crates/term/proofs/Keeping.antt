-- The rows of the table: what a store leaves of the other rows, and what a descent has kept.
-- Assumes nothing.
use mathlib.Core.Path.{◌≡◌, sym, ◌∙◌}
use mathlib.Core.Logic.{◌⊎◌, inl, inr}
use mathlib.Core.List.{List, [], ◌++◌, append-nil}
use Prim.Native.Nat.{ℕ, suc, ◌+◌, ◌-◌, ◌*◌, ◌≤◌, ◌<◌}
use native.Mathlib.Decide.{ℕ_discrete, dec_lt}
use native.Mathlib.Omega.{arith}
use lib.ListN.{length, get_or, take, drop, set, length-append, length-map}
use lib.ListN.{length-set, length-take, length-drop, drop_of_length-le, get_or-append}
use lib.Seq.{get_or-take, get_or-drop, get_or-set_same, get_or-set_other, ext_get_or, take_all}
use lib.Seq.{take_at, drop_at, drop-drop, length-take-le}
use borrow.Rule.Slice.PartMut.{mid_of, put_mid}
use Rattle.answer.specs.Result.{fine, lowest}
use Rattle.answer.proofs.Lowest.{lowest_below}
use Rattle.formula.specs.Rule.{node_count, kind_at, left_at, right_at}
use Rattle.formula.specs.Formula.{tree}
use Rattle.term.specs.declared.Terms.{Terms}
use Rattle.term.specs.Limits.{max_terms, row_places}
use Rattle.term.specs.Term
use Rattle.term.specs.Size.{size_check}
use Rattle.term.specs.Memory.{pack, TermRow, TableRoom, TermTable, Reaches, FoundTerms, FoundConflicts, Kept, StoresRow}
use Rattle.term.specs.Memory.{Keeps}
use Rattle.term.proofs.Carries.{carried}
use Rattle.term.proofs.Reached.{below_leaf, below_next, below_pair}

-- two lists that agree on m places from a on
same_part : (m a : ℕ) (xs ys : List ℕ) → length xs ≡ length ys
    → ((i : ℕ) → i < m → get_or xs (a + i) 0 ≡ get_or ys (a + i) 0) → take m (drop a xs) ≡ take m (drop a ys)
same_part m a xs ys size same =
    ext_get_or 0 _ _ (simp (length-take, length-drop) (omega arith))
    (λ i lt.
    let l : i < m = omega (arith, length-take m (drop a xs)) in
    get_or-take m (drop a xs) i 0 l
    ∙ get_or-drop a xs i 0
    ∙ same i l
    ∙ sym (get_or-take m (drop a ys) i 0 l ∙ get_or-drop a ys i 0))

-- ws, which are m, in the places of xs from a on
module _ (xs ws : List ℕ) (a m : ℕ) (l : length ws ≡ m) (fits : a + m ≤ length xs) where
  abbrev written : List ℕ
  written = take a xs ++ (ws ++ drop (a + m) xs)

  front : length (take a xs) ≡ a
  front = length-take-le a xs (omega arith)

  written_size : length written ≡ length xs
  written_size = simp (length-append, length-drop) (omega (arith, front))

  written_there : take m (drop a written) ≡ ws
  written_there = rw (drop_at (take a xs) _ a front) (take_at ws _ m l)

  written_behind : drop (a + m) written ≡ drop (a + m) xs
  written_behind = rw (← drop-drop m a written, drop_at (take a xs) _ a front) (drop_at ws _ m l)

  written_others : (i : ℕ) → (i < a) ⊎ (a + m ≤ i) → get_or written i 0 ≡ get_or xs i 0
  written_others i (inl lt) = get_or-append (take a xs) _ 0 i (omega (arith, front)) ∙ get_or-take a xs i 0 lt
  written_others i (inr ge) =
      let j : ℕ = i - (a + m) in
      let e : a + m + j ≡ i = omega arith in
      let same : get_or written (a + m + j) 0 ≡ get_or xs (a + m + j) 0 =
      rw (← get_or-drop (a + m) written j 0, written_behind) (get_or-drop (a + m) xs j 0) in
      rw e at same

  -- they came back at the start of the part from a on
  written_lent : {ys : List ℕ} → ys ≡ ws ++ drop m (mid_of a (length xs - a) xs)
      → put_mid a (length xs - a) xs ys ≡ written
  written_lent e =
      let k : ℕ = length xs - a in
      let part : mid_of a k xs ≡ drop a xs = take_all k (drop a xs) (omega (arith, length-drop a xs)) in
      let none : drop k (drop a xs) ≡ [] = drop_of_length-le (drop a xs) {i = k} (omega (arith, length-drop a xs)) in
      rw (e, part, none, append-nil, drop-drop m a xs)

-- table with the count of ts in the row of node n
abbrev counted : (table : List ℕ) (n : ℕ) → Terms → List ℕ
counted table n ts = set table (n * row_places) ts.count

-- the count goes in first, then the terms in the part behind it
module _ (before : List ℕ) (n : ℕ) (ts : Terms) (room : suc n * row_places ≤ length before) where
  first_stored : get_or (counted before n ts) (n * row_places) 0 ≡ ts.count
  first_stored = get_or-set_same before (n * row_places) ts.count 0 (omega arith)

  others_kept : (i : ℕ) → (i < n * row_places) ⊎ (suc n * row_places ≤ i)
      → get_or (counted before n ts) i 0 ≡ get_or before i 0
  others_kept i (inl below) = get_or-set_other before (n * row_places) i ts.count 0 (λ e. omega arith)
  others_kept i (inr above) = get_or-set_other before (n * row_places) i ts.count 0 (λ e. omega arith)

  counted_size : length (counted before n ts) ≡ length before
  counted_size = length-set before (n * row_places) ts.count

  module _ (few : ts.count ≤ max_terms) (full : length ts.items ≡ max_terms) (from : ℕ)
      (is : from ≡ suc (n * row_places)) where
    wider : (i : ℕ) → (i < n * row_places) ⊎ (suc n * row_places ≤ i) → (i < from) ⊎ (from + ts.count ≤ i)
    wider i (inl lt) = inl (omega arith)
    wider i (inr ge) = inr (omega arith)

    pub store_copied : {ys : List ℕ}
        → ys
        ≡ take ts.count ts.items
        ++ drop ts.count (mid_of from (length (counted before n ts) - from) (counted before n ts))
        → StoresRow before n ts (put_mid from (length (counted before n ts) - from) (counted before n ts) ys)
    store_copied e =
        let xs : List ℕ = counted before n ts in
        let ws : List ℕ = take ts.count ts.items in
        let l : length ws ≡ ts.count = length-take-le ts.count ts.items (omega arith) in
        let fits : from + ts.count ≤ length xs = omega (arith, counted_size) in
        rw (written_lent xs ws from ts.count l fits e)
        (record {
          size = written_size xs ws from ts.count l fits ∙ counted_size;
          count = written_others xs ws from ts.count l fits (n * row_places) (inl (omega arith)) ∙ first_stored;
          items = λ _. rw (← is) (written_there xs ws from ts.count l fits);
          others = λ i o. written_others xs ws from ts.count l fits i (wider i o) ∙ others_kept i o;
        })

-- another row stays
module _ (rule before : List ℕ) (n : ℕ) (ts : Terms) (after : List ℕ) (stored : StoresRow before n ts after) (k : ℕ)
    (other : k ≡ n → ⊥) where
  outside : (i : ℕ) → i < row_places → get_or after (k * row_places + i) 0 ≡ get_or before (k * row_places + i) 0
  outside i lt = pick (dec_lt k n)
    where
      pick : Dec (k < n) → get_or after (k * row_places + i) 0 ≡ get_or before (k * row_places + i) 0
      pick (yes below) = stored.others (k * row_places + i) (inl (omega arith))
      pick (no above) = stored.others (k * row_places + i) (inr (omega arith))

  first : get_or after (k * row_places) 0 ≡ get_or before (k * row_places) 0
  first =
      let e : k * row_places + 0 ≡ k * row_places = omega arith in
      rw e at (outside 0 (omega arith))

  row_stays : get_or before (k * row_places) 0 ≤ max_terms → TermRow rule before k → TermRow rule after k
  row_stays few row =
      let m : ℕ = length (Term.terms (tree rule k)) in
      let small : m ≤ max_terms = omega (arith, row.count) in
      record {
        count = first ∙ row.count;
        terms = same_part m (suc (k * row_places)) after before stored.size
            (λ i lt.
            let e : k * row_places + suc i ≡ suc (k * row_places) + i = omega arith in
            rw e at (outside (suc i) (omega arith)))
            ∙ row.terms;
      }

  kept_stays : Kept rule before k → Kept rule after k
  kept_stays kept = record {
    within = λ le. row_stays (omega (arith, first)) (kept.within (omega (arith, first)));
    over = λ lt. kept.over (omega (arith, first));
  }

-- the row of n itself
own_kept : (rule before : List ℕ) (n : ℕ) (ts : Terms) (after : List ℕ) → StoresRow before n ts after
    → FoundTerms rule n ts → Kept rule after n
own_kept rule before n ts after stored found = record {
  within = λ le. row (omega (arith, stored.count));
  over = λ lt. found.over (omega (arith, stored.count));
}
  where
    row : ts.count ≤ max_terms → TermRow rule after n
    row few =
        let is = found.within few in
        let e : ts.count ≡ length (Term.terms (tree rule n)) =
        omega (arith, is.count, length-map (Term.terms (tree rule n)) pack) in
        record {
          count = stored.count ∙ e;
          terms = rw (← e) (stored.items few ∙ carried is few);
        }

-- node n with r, whose row is stored last: into mid, that has the rows of the nodes below n
keeps : (rule : List ℕ) (n : ℕ) (before mid : List ℕ) (r : Terms) (after : List ℕ) → FoundTerms rule n r
    → FoundConflicts rule n r.conflicts → StoresRow mid n r after
    → ((k : ℕ) → Reaches rule n k → (k ≡ n → ⊥) → Kept rule mid k) → ((k : ℕ) → Kept rule before k → Kept rule mid k)
    → Keeps rule n before r after
keeps rule n before mid r after found dropped stored below stay = record {
  value = found;
  conflicts = dropped;
  reached = λ k reaches. pick k (ℕ_discrete k n) (below k reaches);
  stay = λ k kept. pick k (ℕ_discrete k n) (λ _. stay k kept);
}
  where
    pick : (k : ℕ) → Dec (k ≡ n) → ((k ≡ n → ⊥) → Kept rule mid k) → Kept rule after k
    pick k (yes e) kept = rw e (own_kept rule mid n r after stored found)
    pick k (no other) kept = kept_stays rule mid n r after stored k other (kept other)

-- by the kind of n
module _ (rule : List ℕ) (n : ℕ) {r : Terms} (found : FoundTerms rule n r) (dropped : FoundConflicts rule n r.conflicts)
    {before after : List ℕ} where
  pub keeps_leaf : kind_at rule n ≤ 3 → StoresRow before n r after → Keeps rule n before r after
  keeps_leaf leaf stored =
      keeps rule n before before r after found dropped stored
      (λ k reaches other. absurd (other (below_leaf rule n k leaf reaches))) (λ k kept. kept)

  module _ (l : ℕ) (is_left : l ≡ left_at rule n) {mid : List ℕ} {a : Terms} (first : Keeps rule l before a mid) where
    pub keeps_next : kind_at rule n ≡ 6 → StoresRow mid n r after → Keeps rule n before r after
    keeps_next next stored =
        keeps rule n before mid r after found dropped stored
        (λ k reaches other. first.reached k (below_next rule n k l is_left next reaches other)) first.stay

    pub keeps_pair : (m : ℕ) → m ≡ right_at rule n → {last : List ℕ} {b : Terms} → Keeps rule m mid b last
        → StoresRow last n r after → Keeps rule n before r after
    keeps_pair m is_right {last} {b} second stored =
        keeps rule n before last r after found dropped stored
        (λ k reaches other. pick k (below_pair rule n k l m is_left is_right reaches other))
        (λ k kept. second.stay k (first.stay k kept))
      where
        pick : (k : ℕ) → Reaches rule l k ⊎ Reaches rule m k → Kept rule last k
        pick k (inl reaches) = second.stay k (first.reached k reaches)
        pick k (inr reaches) = second.reached k reaches

-- the rows of all nodes, none of which is a 20
pub table_fine : (rule table : List ℕ) → TableRoom rule table → ((k : ℕ) → k < node_count rule → Kept rule table k)
    → lowest (size_check rule) (node_count rule) ≡ fine → TermTable rule table
table_fine rule table room kept e = record {
  room = room;
  rows = λ k lt. pick k lt (dec_lt max_terms (get_or table (k * row_places) 0));
}
  where
    pick : (k : ℕ) → k < node_count rule → Dec (max_terms < get_or table (k * row_places) 0) → TermRow rule table k
    pick k lt (yes over) = absurd ((kept k lt).over over (lowest_below (size_check rule) _ e (suc k) (omega arith)))
    pick k lt (no few) = (kept k lt).within (omega arith)
