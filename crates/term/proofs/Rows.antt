-- A node's row in the table of terms: it has the node's terms, and it lies within the table.
-- Assumes nothing.
use mathlib.Core.Path.{◌≡◌, ap}
use mathlib.Core.List.{List, map}
use Prim.Native.Nat.{ℕ, suc, ◌+◌, ◌*◌, ◌≤◌, ◌<◌}
use native.Mathlib.Omega.{arith}
use lib.ListN.{length, get_or, drop, length-take, length-drop, length-map}
use Rattle.formula.specs.Rule.{node_count}
use Rattle.formula.specs.Formula.{tree}
use Rattle.term.specs.Limits.{row_places}
use Rattle.term.specs.Term.{terms}
use Rattle.term.specs.Memory.{pack, row_of, TermRow, TermTable}

pub row_is : {rule table : List ℕ} {k : ℕ} → TermRow rule table k → row_of table k ≡ map pack (terms (tree rule k))
row_is row = rw row.count row.terms

pub row_fits : {rule table : List ℕ} → TermTable rule table → (k : ℕ) → k < node_count rule
    → suc (k * row_places) + get_or table (k * row_places) 0 ≤ length table
row_fits {rule} {table} is k lt =
    let row = is.rows k lt in
    let ts = terms (tree rule k) in
    let behind = drop (suc (k * row_places)) table in
    let size = length-take (length ts) behind in
    let left = length-drop (suc (k * row_places)) table in
    omega (arith, is.room, row.count, ap length row.terms, size, left, length-map ts pack)
