-- What the code answers where it asks for the truth of a scalar.
use Rattle.std.specs.Prelude.{Bool, Result, Ok, Err}
use Rattle.dm_meaning.specs.declared.cause.Cause.{Cause}
use Rattle.dm_meaning.specs.Operations.{Truth, holds, untold}

abbrev pub view_of_truth : Result Bool Cause → Truth
view_of_truth (Ok truth) = holds truth
view_of_truth (Err cause) = untold cause
