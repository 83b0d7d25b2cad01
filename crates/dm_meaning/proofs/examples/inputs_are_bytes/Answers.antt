-- 256 is no byte.
use Rattle.std.specs.Prelude.{◌<◌, []}
use Rattle.std.proofs.Common.{arith}
use Rattle.std.proofs.lemmas.List.Elements.{All-head}
use Rattle.dm_meaning.proofs.examples.inputs_are_bytes.Goals as goal

no_byte : 256 < 256 → ⊥
no_byte h = omega (arith, h)

pub returns-clause-beyond : goal.returns-clause-beyond
returns-clause-beyond c = λ state begins. no_byte (All-head (λ byte. byte < 256) 256 [] begins.0)
