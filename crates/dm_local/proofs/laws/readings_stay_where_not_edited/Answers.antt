use Rattle.dm_search.specs.Loaded.{with_bytes}
use Rattle.dm_local.proofs.KeptLemmas.{files-held, read-again, edited-keeps}
use Rattle.dm_local.proofs.laws.readings_stay_where_not_edited.Goals as goal

pub returns : goal.returns
returns c files unit known reading file bytes is of held not_read =
    let keeps = edited-keeps files known file bytes held of.1 reading.pp.files not_read (λ other among. (files-held files unit known known of.0 of.1 reading.pp is.1 other among).1) in
    (is.0, read-again files files unit known known (with_bytes known file bytes) of.0 of.1 reading.pp is.1 keeps, is.2)
