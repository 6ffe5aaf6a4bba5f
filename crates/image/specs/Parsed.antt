-- What parsing an image tells: its counts, or its refusal by 10 to 13.
use Rattle.std.specs.Prelude.{Result as Returned, Ok, Err}
use Rattle.answer.specs.Result.{Result, accepted, refused, reason_number}
use Rattle.answer.specs.declared.Refusal.{Refusal}
use Rattle.automaton.specs.Tables.{Counts}
use Rattle.image.specs.declared.readable.Image.{Image}

abbrev pub parsed : Returned Image Refusal → Result Counts
parsed (Ok image) = accepted image.counts
parsed (Err r) = refused (reason_number r.reason) r.place
