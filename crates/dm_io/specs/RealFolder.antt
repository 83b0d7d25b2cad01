-- What a folder of real files shows.
use Rattle.std.specs.Prelude.{ℕ, Bool, true, false, Result, Ok, Err}
use Rattle.dm_token.specs.declared.stop.Memory.{Memory}
use Rattle.dm_io.specs.declared.folder.Got.{Got}
use Rattle.dm_io.specs.declared.folder.Got.TheVariants.{Bytes, Absent, Long, Failed}
use Rattle.dm_io.specs.declared.real_folder.RealFolder.{RealFolder}

-- how many errors there were
abbrev pub faults_of : {R F D : Type 0} → RealFolder R F D → ℕ
faults_of folder = folder.faults

-- whether a reading failed
abbrev pub has_failed : Result Got Memory → Bool
has_failed (Ok (Bytes bytes)) = false
has_failed (Ok Absent) = false
has_failed (Ok Long) = false
has_failed (Ok Failed) = true
has_failed (Err error) = false
