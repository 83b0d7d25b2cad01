-- The names are those of the reading.
use Rattle.dm_meanings.proofs.meanings.Meanings.of.Goals as goal

pub invariant_of-result-clause-has_names : goal.invariant_of-result-clause-has_names
invariant_of-result-clause-has_names c = ∣ c.requires.names ∣₁
