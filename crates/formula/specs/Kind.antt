-- The kinds of a node as the code names them, and the byte that each is read from.
use Rattle.std.specs.Prelude.{ℕ, ◌<◌, ◌≡◌, Result, MatchResult}
use Rattle.formula.specs.declared.kind.UnknownKind.{UnknownKind}
use Rattle.formula.specs.declared.kind.Kind.{Kind}
use Rattle.formula.specs.declared.kind.Kind.TheVariants.{False, True, Proposition, NegatedProposition, And, Or, Next}
use Rattle.formula.specs.declared.kind.Kind.TheVariants.{Until, Release, Not, Implies, Always, Eventually}
use Rattle.formula.specs.Rule.{eventually_kind}

-- the number of a kind (01, Rules and when a plan keeps one, the table of kinds; from 9 on R-3)
abbrev pub kind_number : Kind → ℕ
kind_number False = 0
kind_number True = 1
kind_number Proposition = 2
kind_number NegatedProposition = 3
kind_number And = 4
kind_number Or = 5
kind_number Next = 6
kind_number Until = 7
kind_number Release = 8
kind_number Not = 9
kind_number Implies = 10
kind_number Always = 11
kind_number Eventually = 12

-- what a byte is read as: the kind with its number, or unknown where it is above the highest
abbrev pub Decodes : (byte : ℕ) → Result Kind UnknownKind → Type 0
Decodes byte read =
    MatchResult read (λ kind. kind_number kind ≡ byte) (λ unknown. (unknown.0 ≡ byte) × (eventually_kind < byte))
