use Rattle.std.specs.Prelude.{refl}
use Rattle.dm_ctok.specs.Joins.{joins}
use Rattle.dm_ctok.specs.Tokens.{ctokens_of, each}
use Rattle.dm_reading.specs.Syntax.{Stand}
use Rattle.dm_sound_reading.proofs.examples.empty_reading.Goals as goal

pub returns : goal.returns
unfolding Stand ctokens_of each joins
returns c = (refl, (_, (refl, refl)), (λ later begins. (_, refl, refl)))
