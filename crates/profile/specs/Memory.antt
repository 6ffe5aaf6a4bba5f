-- What the call translate comes to behind its first checks.
use Rattle.std.specs.Prelude.{ℕ, List}
use Rattle.answer.specs.Result.{and_then}
use Rattle.translation.specs.Degeneralized.{translation}
use Rattle.translation.specs.Translate.{stored, unless}
use Rattle.translation.specs.Conflicts.{rule_conflicts, Carried, carried}
use Rattle.profile.specs.Profile.{no_untils}

-- for a first-edition rule that 25 and 1 to 7 let pass: 29 leaves the tables as they were; then 20 to 24, or acceptance
abbrev pub form_translates : (form states transitions initial : List ℕ) → Carried
form_translates form s t i =
    carried (unless (no_untils form) (stored (translation form) s t i) s t i)
    (and_then (no_untils form) (λ _. rule_conflicts form))
