-- The bytes of a number are those of its content, which has their tokens.
use Rattle.std.proofs.Common.{ap, ◌∙◌}
use Rattle.dm_search.specs.Loaded.{Loaded, held_at}
use Rattle.dm_search.proofs.SoundLemmas.{readable-held}
use Rattle.dm_search.proofs.loader.Loader.held_are_readable.Goals as goal

pub returns : goal.returns
returns c = λ file bytes held. readable-held c.self.inside.contents.items file bytes c.self.invariant.read (ap (λ (v : Loaded). held_at v file) c.self.view_is ∙ held)
