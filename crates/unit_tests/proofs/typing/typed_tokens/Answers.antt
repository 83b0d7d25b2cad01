-- The types of the entries are numbered.
use Rattle.unit_tests.proofs.EntryLemmas.{have-types}
use Rattle.unit_tests.proofs.typing.typed_tokens.Goals as goal

pub invariant_of-made : goal.invariant_of-made
invariant_of-made c = record {
  entries = have-types c.in_ok-given.given.1 c.in_ok-given.given.0.declared c.in_ok-given.ensures.numbered.entries;
}
