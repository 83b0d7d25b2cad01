-- The built-in headers fit each other.
use Rattle.dm_search.proofs.SoundLemmas.{sound-fresh}
use Rattle.dm_search.proofs.loader.Loader.new.Goals as goal

pub invariant_of-result : goal.invariant_of-result
invariant_of-result c = sound-fresh c.in_ok-header_names.field-0.keys c.in_ok-header_contents.field-0.items c.in_ok-header_names.ensures c.in_ok-header_contents.ensures.held c.in_ok-header_contents.ensures.read
