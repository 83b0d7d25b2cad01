-- How many files may still be open falls with each file that is entered. Of a file the parts that are left give what the
-- whole file gives.
use Rattle.std.proofs.Common.{◌≡◌, ◌+◌, ◌-◌, ◌*◌, ◌≤◌, None, drop, length}
use Rattle.dm_token.specs.Limits.{most_inclusions}
use Rattle.dm_unit.specs.Lines.{parts_of}
use Rattle.dm_unit.specs.States.{Setting, Outcome}
use Rattle.dm_unit.specs.Loaders.{shown, most_names}
use Rattle.dm_unit.specs.Readings.{ReadsParts, Enters, begun}
use Rattle.dm_unit.specs.Views.{state_of, IsHeld, Serves, Leaves, IsCounted, held_tokens}
use Rattle.dm_unit.proofs.+files.Given as goal

abbrev pub decreases-read_file : goal.decreases-read_file
decreases-read_file g l = 3 * l.more + 2

abbrev pub decreases-enter : goal.decreases-enter
decreases-enter g l = 3 * l.more

abbrev pub invariant-read_file-loop-at : goal.invariant-read_file-loop-at
invariant-read_file-loop-at g l = record {
  counted : IsCounted l.reader;
  few : l.reader.inclusions ≤ most_inclusions;
  rises : l.fn.reader.inclusions ≤ l.reader.inclusions;
  main : l.reader.main ≡ l.fn.reader.main;
  room : length l.loader.names ≤ most_names + l.reader.inclusions;
  held : IsHeld l.loader l.fn.file;
  same : held_tokens l.loader l.fn.file ≡ held_tokens l.fn.loader l.fn.file;
  inside : l.at ≤ length (held_tokens l.fn.loader l.fn.file);
  leads : (setting : Setting) (outcome : Outcome) → Serves (g.F.Folder.files l.fn.folder) l.fn.unit l.fn.reader.main l.fn.loader l.loader None setting
      → ReadsParts setting (Enters setting l.fn.more) l.fn.file (parts_of (drop l.at (held_tokens l.fn.loader l.fn.file))) (state_of l.reader (shown l.loader)) outcome
      → ReadsParts setting (Enters setting l.fn.more) l.fn.file (parts_of (held_tokens l.fn.loader l.fn.file)) (begun l.fn.file (state_of l.fn.reader (shown l.fn.loader))) outcome;
  leaves : Leaves (g.F.Folder.files l.fn.folder) (g.F.Folder.files l.folder) (g.F.Folder.room l.fn.folder) (g.F.Folder.room l.folder)
      (g.F.Folder.faults l.fn.folder) (g.F.Folder.faults l.folder) l.fn.loader l.loader None;
}

abbrev pub decreases-read_file-loop-at : goal.decreases-read_file-loop-at
decreases-read_file-loop-at g l = length (held_tokens l.fn.loader l.fn.file) - l.at

abbrev pub decreases-read_and_enter : goal.decreases-read_and_enter
decreases-read_and_enter g l = 3 * l.more + 1
