-- What the code holds of a written rule on the way to its normal form: the needed codes as flags, and their numbers.
use Rattle.std.specs.Prelude.{ℕ, ◌+◌, ◌-◌, ◌*◌, ◌/◌, ◌<◌, ◌≤◌, ◌≡◌, Bool, false, cond, not, ◌||◌, List, [], ◌∷◌}
use Rattle.std.specs.Prelude.{get_or, length, take, eqb, ltb}
use Rattle.std.specs.Prelude.{Result as Returned, Ok, Err}
use Rattle.answer.specs.declared.Refusal.{Refusal}
use Rattle.answer.specs.Result.{accepted, refused, fine, reason_number}
use Rattle.formula.specs.Limits.{max_nodes}
use Rattle.formula.specs.Rule.{node_count, kind_at, checked}
use Rattle.normalform.specs.Written.{constant, build_written, written_tree}
use Rattle.normalform.specs.NormalForm.{turned, bit, left_constant, pair_code, code, walk, entry, subject, sense}
use Rattle.normalform.specs.NormalForm.{member, rank, is_needed, codes_of, code_end, size}
use Rattle.normalform.specs.NormalForm.{normal_form, written_checked}

-- a place for each code
abbrev pub code_places : ℕ
code_places = max_nodes * 2 + 2

-- a flag for each code, true where it is needed: those before, and these codes
pub record Added (before after : List Bool) (codes : List ℕ) : Type 0 where
  pub same : length after ≡ length before
  pub each : (c : ℕ) → get_or after c false ≡ (member c codes || get_or before c false)

-- the walk from node n, and the code that it begins with
abbrev pub node_walk : (rule : List ℕ) (n : ℕ) (s : Bool) → List ℕ
node_walk rule n s = walk (written_tree rule n) s

abbrev pub node_code : (rule : List ℕ) (n : ℕ) (s : Bool) → ℕ
node_code rule n s = code (written_tree rule n) s

-- the code of a node that is no not: a constant's, or its pair's
abbrev pub own_code : (kind n : ℕ) (s : Bool) → ℕ
own_code kind n s = cond (ltb kind 2) (bit (turned (eqb kind 1) s)) (pair_code n s)

-- the code of the constant on the left of what always and eventually become
abbrev pub constant_code : (kind : ℕ) (s : Bool) → ℕ
constant_code kind s = bit (left_constant (eqb kind 11) s)

-- the sense of the left side: not and implies negate it
abbrev pub left_turned : (kind : ℕ) (s : Bool) → Bool
left_turned kind s = cond (eqb kind 9 || eqb kind 10) (not s) s

-- the node's own codes on the walk: a leaf's; none for not; else its pair's, for always and eventually with the
-- constant's
abbrev pub own_codes : (kind n : ℕ) (s : Bool) → List ℕ
own_codes kind n s =
    cond (ltb kind 4) (own_code kind n s ∷ [])
    (cond (eqb kind 9) [] (pair_code n s ∷ cond (eqb kind 11 || eqb kind 12) (constant_code kind s ∷ []) []))

-- what the flags say of a code
abbrev pub flagged : List Bool → ℕ → Bool
flagged needed c = get_or needed c false

-- the flags of the walk from the root of a rule, one for each code of the rule
pub record Flags (rule : List ℕ) (needed : List Bool) : Type 0 where
  pub size : length needed ≡ code_end rule
  pub each : (c : ℕ) → c < code_end rule → flagged needed c ≡ is_needed (codes_of rule) c

-- each code that has a flag has its number, and count of them are needed
pub record Numbered (needed : List Bool) (numbers : List ℕ) (count : ℕ) : Type 0 where
  pub size : count ≡ rank (flagged needed) (length needed)
  pub each : (c : ℕ) → c < length needed → get_or numbers c 0 ≡ rank (flagged needed) c

-- a code's number, as it stands in memory
abbrev pub number_in : List ℕ → ℕ → ℕ
number_in numbers c = get_or numbers c 0

-- the kind of what stands for a node of a kind in a sense: the first of its bytes, whatever its children are
abbrev pub form_kind : (kind : ℕ) (s : Bool) → ℕ
form_kind kind s = get_or (entry (λ _. 0) (build_written kind 0 0 (constant false) (constant false)) s) 0 0

-- node n has a place of its own: it is no constant and no not
pub record OwnPlace (rule : List ℕ) (n : ℕ) : Type 0 where
  pub constant : 2 ≤ kind_at rule n
  pub negation : kind_at rule n ≡ 9 → ⊥

-- the bytes of a node in a sense, and of a code, with the numbers as they stand in memory
abbrev pub node_bytes : (rule numbers : List ℕ) (n : ℕ) (s : Bool) → List ℕ
node_bytes rule numbers n s = entry (number_in numbers) (written_tree rule n) s

abbrev pub code_bytes : (rule numbers : List ℕ) (c : ℕ) → List ℕ
code_bytes rule numbers c = entry (number_in numbers) (subject (written_tree rule) c) (sense c)

-- a code names false, true, or a node with a place of its own
abbrev pub Named : (rule : List ℕ) (c : ℕ) → Type 0
Named rule c = 2 ≤ c → ((c - 2) / 2 < node_count rule) × OwnPlace rule ((c - 2) / 2)

-- the needed codes of a rule and their numbers, and room for their bytes
pub record Ready (rule : List ℕ) (needed : List Bool) (numbers : List ℕ) (form : List ℕ) : Type 0 where
  pub flags : Flags rule needed
  pub numbered : (c : ℕ) → c < length needed → number_in numbers c ≡ rank (flagged needed) c
  pub numbers_room : length numbers ≡ code_places
  pub room : size rule * 3 ≤ length form

-- the answer of check_form, and what stands at the front of the buffer where it accepts
abbrev pub Forms : (rule : List ℕ) → Returned ℕ Refusal → (form : List ℕ) → Type 0
Forms rule (Ok n) form =
    (normal_form rule ≡ accepted (take n form)) × (checked (take n form) ≡ fine) × (n ≤ length form)
Forms rule (Err r) form = written_checked rule ≡ refused (reason_number r.reason) r.place
