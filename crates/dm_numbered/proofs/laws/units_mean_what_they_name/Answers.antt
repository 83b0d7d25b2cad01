use Rattle.dm_names.specs.Declarations.{source_of}
use Rattle.dm_numbered.proofs.PlainLemmas.{plain-tokens}
use Rattle.dm_numbered.proofs.UnitLemmas.{unit-meant}
use Rattle.dm_numbered.proofs.laws.units_mean_what_they_name.Goals as goal

pub returns : goal.returns
returns c shapes tokens externals known one syntax is plain = unit-meant shapes tokens externals one syntax (plain-tokens (source_of tokens one) tokens externals syntax plain) known is
