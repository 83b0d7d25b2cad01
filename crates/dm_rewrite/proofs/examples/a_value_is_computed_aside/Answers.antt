-- The trees and the two worlds meet each premise of the law.
use Rattle.std.specs.Prelude.{refl, []}
use Rattle.dm_meaning.specs.Operations.{designates}
use Rattle.dm_meaning.specs.Running.{filled_in}
use Rattle.dm_rewrite.specs.Aside.{Claims}
use Rattle.dm_rewrite.specs.Examples as examples
use Rattle.dm_rewrite.proofs.AsideLemmas.{claims_kept}
use Rattle.dm_rewrite.proofs.CountExample.{changes, places}
use Rattle.dm_rewrite.proofs.examples.a_value_is_computed_aside.Goals as goal

abbrev first : Claims examples.stage.scene (examples.world 5) examples.reading_x (filled_in examples.x_left_out examples.x_designated)
first = record { found = examples.x_read; is = refl; now = examples.x_read; is_now = refl; leads = record { result = refl; fewer = λ at k. k } }

pub returns-clause-first : goal.returns-clause-first
returns-clause-first c = first

pub returns-clause-kept : goal.returns-clause-kept
returns-clause-kept c =
    claims_kept examples.stage.scene (examples.world 5) (examples.world 6) changes.same_objects examples.reading_x
    (filled_in examples.x_left_out examples.x_designated) (refl, ((refl, tt), tt)) (refl, (refl, tt)) first places

pub returns-clause-foreseen : goal.returns-clause-foreseen
returns-clause-foreseen c = record { part = record { result = designates examples.x; reads = [] }; is = refl; claims = first }
