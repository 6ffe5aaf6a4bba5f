-- What parsing a rule tells: that it passes, or its refusal by 1 to 7.
use Rattle.std.specs.Prelude.{Result as Returned, Ok, Err}
use Rattle.answer.specs.Result.{Check, fine, refused, reason_number}
use Rattle.answer.specs.declared.Refusal.{Refusal}
use Rattle.formula.specs.declared.rule.Rule.{Rule}

abbrev pub parsed : Returned Rule Refusal → Check
parsed (Ok rule) = fine
parsed (Err r) = refused (reason_number r.reason) r.place
