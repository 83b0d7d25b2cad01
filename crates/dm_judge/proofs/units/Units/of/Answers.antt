-- Nothing is looked up yet.
use Rattle.std.proofs.Common.{List, Option, None, length, replicate, sym, ap, ◌∙◌, subst}
use Rattle.dm_meaning.specs.Replaced.{Zipped}
use Rattle.dm_reading.specs.declared.reading.Reading.{Reading}
use Rattle.dm_rules.specs.declared.index.Index.{Index}
use Rattle.dm_rules.specs.Indexes.{readings_of}
use Rattle.dm_meanings.specs.declared.meanings.Meanings.{Meanings}
use Rattle.dm_judge.specs.declared.notes.Notes.{Notes}
use Rattle.dm_judge.specs.Units.{IsMeant, IsNoted}
use Rattle.dm_judge.proofs.SlotLemmas.{none-meant, none-noted}
use Rattle.dm_judge.proofs.UnitLemmas.{mapped-count}
use Rattle.dm_judge.proofs.units.Units.of.Goals as goal

abbrev reading_of : Index → Reading
reading_of one = one.reading.now

pub returns-clause-whole : goal.returns-clause-whole
returns-clause-whole c =
    let indexes : List Index = c.args.indexes.now in
    let readings = readings_of indexes in
    let notes : List (Option Notes) = c.in_ok-notes.notes.items in
    record {
      typed = c.requires.typed;
      named = c.requires.named;
      meant =
          subst (λ (all : List (Option Meanings)). Zipped IsMeant readings all) (ap (λ n. replicate n None) (mapped-count reading_of indexes) ∙ sym c.in_ok-meanings.ensures)
          (none-meant readings);
      noted =
          subst (λ (all : List (Option Meanings)). Zipped IsNoted all notes) (sym c.in_ok-meanings.ensures)
          (subst (λ (all : List (Option Notes)). Zipped IsNoted (replicate (length indexes) None) all) (sym c.in_ok-notes.ensures) (none-noted (length indexes)));
      defined = c.in_ok-macros.ensures;
    }
