-- The map has the bytes of the file that is found.
use Rattle.std.proofs.Common.{Some, None, ap, ◌∙◌}
use Rattle.std.specs.Option.{option_copied}
use Rattle.dm_io.proofs.Shelves.{bytes_found}
use Rattle.dm_io.proofs.memory_folder.MemoryFolder.file.Goals as goal

pub returns-in_err-stored : goal.returns-in_err-stored
returns-in_err-stored c =
    ap option_copied c.from_residual.ensures
    ∙ bytes_found c.args.self.now.files.items c.deref.result.now c.args.name.now c.bytes.result.now None c.in_err-stored.ensures c.deref.ensures.value c.bytes.ensures

pub returns : goal.returns
returns c =
    ap Some c.bytes-2.ensures
    ∙ bytes_found c.args.self.now.files.items c.deref.result.now c.args.name.now c.bytes.result.now (Some c.in_ok-stored.stored.now) c.in_ok-stored.ensures c.deref.ensures.value c.bytes.ensures
