-- How terms lie in memory: each as one number, those of a node as one value, those of all nodes in one table; and what
-- the functions that fill the table find on their way.
use Rattle.std.specs.Prelude.{ℕ, suc, ◌+◌, ◌*◌, ◌/◌, ◌%◌, ◌≤◌, min, ◌<◌, List, map, ◌⊎◌, ◌≡◌, take, length, get_or}
use Rattle.std.specs.Prelude.{drop}
use Rattle.answer.specs.Result.{fine, refused, lowest, reason_number}
use Rattle.formula.specs.Formula.{tree, formula, build, InRange, Formula, bottom, top, proposition}
use Rattle.formula.specs.Formula.{negated_proposition, conjunction, disjunction, next, until, release}
use Rattle.formula.specs.Rule.{node_count, kind_at, left_at, right_at}
use Rattle.term.specs.Limits.{max_terms, row_places}
use Rattle.term.specs.Size.{size_check}
use Rattle.term.specs.Term.{Term, term, cover, terms}
use Rattle.term.specs.declared.Terms.{Terms}
use Rattle.std.specs.Prelude.{Result as Returned, Ok, Err}
use Rattle.answer.specs.declared.Refusal.{Refusal}
use Rattle.term.specs.Term

-- ---- a term as one number, a node's terms as one value

-- obligations, must and must_not from the top: the order of terms is the order of their numbers
abbrev pub pack : Term → ℕ
pack t = t.obligations * 65536 + t.must * 256 + t.must_not

-- the obligations of a packed term, and the whole term
abbrev pub obligations_n : ℕ → ℕ
obligations_n t = t / 65536

abbrev pub unpack : ℕ → Term
unpack t = term (t / 256 % 256) (t % 256) (obligations_n t)

-- a cover set is packed as the term that asks it of the next letter
abbrev pub pack_set : ℕ → ℕ
pack_set c = c * 65536

-- the first n of places are the numbers ws, or n is one more than capacity and ws has more than that
pub record Carries (capacity : ℕ) (places : List ℕ) (n : ℕ) (ws : List ℕ) : Type 0 where
  pub count : n ≡ min (suc capacity) (length ws)
  pub items : length ws ≤ capacity → take n places ≡ ws

-- the value in which a node's terms, or its cover, are handed on: 64 places and how many of them are used (01,
-- Duties, covers and terms, sentence 10)
abbrev pub IsPacked : Terms → List ℕ → Type 0
IsPacked ts ws = Carries max_terms ts.items ts.count ws

abbrev pub IsTerms : Terms → List Term → Type 0
IsTerms r ts = IsPacked r (map pack ts)

abbrev pub IsCover : Terms → List ℕ → Type 0
IsCover r cs = IsPacked r (map pack_set cs)

-- such a value, and the conflicts of the joins on the way to it
pub record IsJoined (r : Terms) (ws : List ℕ) (bits : ℕ) : Type 0 where
  pub packed : IsPacked r ws
  pub conflicts : r.conflicts ≡ bits

-- the terms of a formula with its conflicts
abbrev pub IsNode : Terms → Formula → Type 0
IsNode r f = IsJoined r (map pack (terms f)) (Term.conflicts f)

-- r is made from a and b, the values of the two sides of node n of that kind: its terms and conflicts from theirs, and
-- of an and, an or its cover from theirs; if the count of a or b is above max_terms, then so is that of r
pub record FromChildren (kind n : ℕ) (a b r : Terms) : Type 0 where
  pub handed_on : r.count ≤ max_terms → (a.count ≤ max_terms) × (b.count ≤ max_terms)
  pub has_terms : a.count ≤ max_terms → b.count ≤ max_terms → (p : ℕ) (f g : Formula) → InRange f → InRange g
      → IsTerms a (terms f) → IsTerms b (terms g) → IsTerms r (terms (build kind n p f g))
  pub has_conflicts : a.count ≤ max_terms → b.count ≤ max_terms → (p : ℕ) (f g : Formula) → InRange f → InRange g
      → IsNode a f → IsNode b g → r.conflicts ≡ Term.conflicts (build kind n p f g)
  pub is_cover : a.count ≤ max_terms → b.count ≤ max_terms → kind < 6 → (p : ℕ) (f g : Formula)
      → IsCover a (cover f) → IsCover b (cover g) → IsCover r (cover (build kind n p f g))

-- ---- the terms of all nodes in one table, a row for each node, which begins with how many there are

-- the numbers in row k, as many as the row begins with
abbrev pub row_of : (table : List ℕ) (k : ℕ) → List ℕ
row_of table k = take (get_or table (k * row_places) 0) (drop (suc (k * row_places)) table)

-- the row of node k
pub record TermRow (rule table : List ℕ) (k : ℕ) : Type 0 where
  pub count : get_or table (k * row_places) 0 ≡ length (Term.terms (tree rule k))
  pub terms :
      take (length (Term.terms (tree rule k))) (drop (suc (k * row_places)) table) ≡ map pack (Term.terms (tree rule k))

-- the rows of the first n nodes
abbrev pub TermRows : (rule table : List ℕ) (n : ℕ) → Type 0
TermRows rule table n = (k : ℕ) → k < n → TermRow rule table k

-- the table has places for a row of each node; it may have more
abbrev pub TableRoom : (rule table : List ℕ) → Type 0
TableRoom rule table = node_count rule * row_places ≤ length table

-- a table with a row for each node, and in it the terms of all nodes
pub record TermTable (rule table : List ℕ) : Type 0 where
  pub room : TableRoom rule table
  pub rows : TermRows rule table (node_count rule)

-- ---- what a descent from a node to its children finds, and what it leaves in the table

-- node k is n or stands below n
pub data Reaches (rule : List ℕ) : (n k : ℕ) → Type 0 where
  here : (n : ℕ) → Reaches rule n n
  left : (n k : ℕ) → 3 < kind_at rule n → Reaches rule (left_at rule n) k → Reaches rule n k
  right : (n k : ℕ) → 3 < kind_at rule n → (kind_at rule n ≡ 6 → ⊥) → Reaches rule (right_at rule n) k
      → Reaches rule n k

-- a node up to n is a 20
abbrev pub Over : (rule : List ℕ) (n : ℕ) → Type 0
Over rule n = lowest (size_check rule) (suc n) ≡ fine → ⊥

-- r has the numbers ws of node n, or its count is above max_terms and a node up to n is a 20
pub record Found (rule : List ℕ) (n : ℕ) (r : Terms) (ws : List ℕ) : Type 0 where
  pub within : r.count ≤ max_terms → IsPacked r ws
  pub over : max_terms < r.count → Over rule n

abbrev pub FoundTerms : (rule : List ℕ) (n : ℕ) → Terms → Type 0
FoundTerms rule n r = Found rule n r (map pack (terms (tree rule n)))

abbrev pub FoundCover : (rule : List ℕ) (n : ℕ) → Terms → Type 0
FoundCover rule n r = Found rule n r (map pack_set (cover (tree rule n)))

-- the conflicts of node n, where no node up to n is a 20
abbrev pub FoundConflicts : (rule : List ℕ) (n bits : ℕ) → Type 0
FoundConflicts rule n bits = lowest (size_check rule) (suc n) ≡ fine → bits ≡ Term.conflicts (tree rule n)

-- the row of node k says the same of its terms
pub record Kept (rule table : List ℕ) (k : ℕ) : Type 0 where
  pub within : get_or table (k * row_places) 0 ≤ max_terms → TermRow rule table k
  pub over : max_terms < get_or table (k * row_places) 0 → Over rule k

-- after is before with ts in the row of node n
pub record StoresRow (before : List ℕ) (n : ℕ) (ts : Terms) (after : List ℕ) : Type 0 where
  pub size : length after ≡ length before
  pub count : get_or after (n * row_places) 0 ≡ ts.count
  pub items : ts.count ≤ max_terms → take ts.count (drop (suc (n * row_places)) after) ≡ take ts.count ts.items
  pub others : (i : ℕ) → (i < n * row_places) ⊎ (suc n * row_places ≤ i) → get_or after i 0 ≡ get_or before i 0

-- r has the terms of node n and its conflicts, and after the rows of n, of the nodes below it and of those that had
-- theirs before
pub record Keeps (rule : List ℕ) (n : ℕ) (before : List ℕ) (r : Terms) (after : List ℕ) : Type 0 where
  pub value : FoundTerms rule n r
  pub conflicts : FoundConflicts rule n r.conflicts
  pub reached : (k : ℕ) → Reaches rule n k → Kept rule after k
  pub stay : (k : ℕ) → Kept rule before k → Kept rule after k

-- a table that is filled: no node is a 20, and these are the conflicts of all
pub record Tabled (rule : List ℕ) (bits : ℕ) (table : List ℕ) : Type 0 where
  pub sizes : lowest (size_check rule) (node_count rule) ≡ fine
  pub terms : TermTable rule table
  pub conflicts : bits ≡ Term.conflicts (formula rule)

-- the answer: that, or 20 at the lowest node that is one
abbrev pub Tabulates : (rule : List ℕ) → Returned ℕ Refusal → (table : List ℕ) → Type 0
Tabulates rule (Ok conflicts) table = Tabled rule conflicts table
Tabulates rule (Err r) table = lowest (size_check rule) (node_count rule) ≡ refused (reason_number r.reason) r.place

-- ---- how many sets a cover has at most, without the sets

-- the most sets that the cover of a formula can have by those of its parts; all above max_terms are one more than that
unfoldable pub cover_bound : Formula → ℕ
cover_bound bottom = 1
cover_bound top = 1
cover_bound (proposition n p) = 1
cover_bound (negated_proposition n p) = 1
cover_bound (conjunction a b) = min (suc max_terms) (cover_bound a * cover_bound b)
cover_bound (disjunction a b) = min (suc max_terms) (cover_bound a + cover_bound b)
cover_bound (next n a) = 1
cover_bound (until n a b) = 1
cover_bound (release n a b) = 1

-- the bounds of the first n nodes
abbrev pub BoundedBelow : (rule : List ℕ) (n : ℕ) (bounds : List ℕ) → Type 0
BoundedBelow rule n bounds = (k : ℕ) → k < n → get_or bounds k 0 ≡ cover_bound (tree rule k)
