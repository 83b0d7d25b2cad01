-- The names are those of the definition's parameters.
use Rattle.std.proofs.Common.{subst}
use Rattle.dm_rules.specs.Words.{AreNames}
use Rattle.dm_meanings.proofs.capture.subject_in.Goals as goal

pub returns : goal.returns
returns c = record {
  names = subst (AreNames c.in_ok-parameters.parameters) c.names_of.ensures c.in_ok-parameters.ensures;
  behind = c.externals_behind.ensures;
}
