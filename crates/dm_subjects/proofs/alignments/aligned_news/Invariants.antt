-- The units so far are aligned, and what is known of their new readings is known.
use Rattle.std.proofs.Common.{◌≡◌, length}
use Rattle.dm_align.proofs.StepLemmas.{AreSoFar}
use Rattle.dm_meanings.specs.Named.{AreNamesOf}
use Rattle.dm_rules.specs.Indexes.{readings_of}
use Rattle.dm_rules.specs.Tables.{AreTables}
use Rattle.dm_subjects.specs.Alignments.{IsAligned}
use Rattle.dm_subjects.specs.Tables.{IsNew}
use Rattle.dm_subjects.proofs.alignments.aligned_news.Given as goal

abbrev pub invariant-loop-i : goal.invariant-loop-i
invariant-loop-i l = record {
  aligned : AreSoFar (IsAligned l.change) (readings_of l.kept) l.news l.i;
  tables : AreSoFar (IsNew AreTables) l.news l.tables.items l.i;
  names : AreSoFar (IsNew AreNamesOf) l.news l.names.items l.i;
  many : length l.tables.items ≡ l.i;
  named : length l.names.items ≡ l.i;
}
