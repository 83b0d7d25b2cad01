-- What is known in the example of `src/examples.rt`: nothing of objects and functions, and both parameters are read late.
use Rattle.std.specs.Prelude.{true, false}
use Rattle.dm_late.specs.Late.{Judged}

abbrev pub judged : Judged
judged = record { closed = λ d. false; quiet = λ f. false; late = λ p. true; first = λ p. true; safe = λ tree. false }
