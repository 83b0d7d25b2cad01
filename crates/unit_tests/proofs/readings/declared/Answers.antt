-- The types of the entries are numbered.
use Rattle.unit_tests.proofs.EntryLemmas.{have-types}
use Rattle.unit_tests.proofs.readings.declared.Goals as goal

pub invariant_of-made : goal.invariant_of-made
invariant_of-made c = record {
  entries = have-types c.args.reading.types c.args.reading.core.declared c.requires.known_in_entries;
}
