-- What parsing a written rule tells: that it passes, or its refusal by 1 to 6.
use Rattle.std.specs.Prelude.{Result as Returned, Ok, Err}
use Rattle.answer.specs.Result.{Check, fine, refused, reason_number}
use Rattle.answer.specs.declared.Refusal.{Refusal}
use Rattle.normalform.specs.declared.written.Written.{Written}

abbrev pub parsed : Returned Written Refusal → Check
parsed (Ok rule) = fine
parsed (Err r) = refused (reason_number r.reason) r.place
