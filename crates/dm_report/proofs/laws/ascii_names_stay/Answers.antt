-- ASCII is UTF-8.
use Rattle.std.proofs.lemmas.Str.{IsUtf8-from_ascii, utf8_lossy-IsUtf8}
use Rattle.dm_report.proofs.laws.ascii_names_stay.Goals as goal

pub returns : goal.returns
returns c name ascii = utf8_lossy-IsUtf8 name (IsUtf8-from_ascii name ascii)
