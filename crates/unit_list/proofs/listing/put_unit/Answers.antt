-- The defines of the unit are no longer than a file.
use Rattle.unit_list.proofs.UnitLemmas.{lawful-short}
use Rattle.unit_list.proofs.listing.put_unit.Goals as goal

pub read_unit-requires-clause-short : goal.read_unit-requires-clause-short
read_unit-requires-clause-short g c = lawful-short c.args.unit c.requires
