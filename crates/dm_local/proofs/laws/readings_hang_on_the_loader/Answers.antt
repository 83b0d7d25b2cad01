use Rattle.dm_local.proofs.KeptLemmas.{files-held, read-again, alone-keeps}
use Rattle.dm_local.proofs.laws.readings_hang_on_the_loader.Goals as goal

pub returns : goal.returns
returns c files others unit known reading is of =
    let keeps = alone-keeps files others known reading.pp.files (λ file among. let held = files-held files unit known known of.0 of.1 reading.pp is.1 file among in (held.1, held.2)) in
    (is.0, read-again files others unit known known known of.0 of.1 reading.pp is.1 keeps, is.2)
