-- How a rule's untils lie in memory, and the tests on packed terms that find which of them a term fulfils.
use Rattle.std.specs.Prelude.{ℕ, ◌≡◌, List, Bool, not, ◌&&◌, ◌||◌, take}
use Rattle.sets.specs.Sets.{any}
use Rattle.sets.specs.Bits.{has}
use Rattle.answer.specs.Result.{fine}
use Rattle.formula.specs.Rule.{node_count, checked, untils}
use Rattle.term.specs.Memory.{obligations_n, TermTable}
use Rattle.acceptance.specs.Acceptance.{within, until_count}

-- the first count of nodes are the untils of a rule
pub record IsUntils (rule nodes : List ℕ) (count : ℕ) : Type 0 where
  pub counted : count ≡ until_count rule
  pub gathered : take count nodes ≡ untils rule (node_count rule)

-- what the tests are worked out from: a rule that 1 to 7 let pass, with its table of terms and its untils
pub record Known (rule table nodes : List ℕ) (count : ℕ) : Type 0 where
  pub accepted : checked rule ≡ fine
  pub terms : TermTable rule table
  pub untils : IsUntils rule nodes count

-- packed, u shows that t fulfils f: u is within t, part by part, and f is not among its obligations
abbrev pub shows_n : (f t u : ℕ) → Bool
shows_n f t u = within u t && not (has (obligations_n u) f)

-- packed, t fulfils f, whose terms are us
abbrev pub fulfils_n : (f : ℕ) (us : List ℕ) (t : ℕ) → Bool
fulfils_n f us t = not (has (obligations_n t) f) || any (shows_n f t) us
