use Rattle.dm_scoped.proofs.ExternalSpanLemmas.{externals-have-spans}
use Rattle.dm_scoped.proofs.laws.external_declarations_keep_their_spans.Goals as goal

pub returns : goal.returns
returns c = externals-have-spans
