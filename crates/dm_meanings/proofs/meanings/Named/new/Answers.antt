-- The names are those of the reading.
use Rattle.dm_meanings.proofs.meanings.Named.new.Goals as goal

pub invariant_of-result : goal.invariant_of-result
invariant_of-result c = record { has_names = ∣ c.requires ∣₁ }
