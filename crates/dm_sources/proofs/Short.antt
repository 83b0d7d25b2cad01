-- The defines of a lawful unit are no longer than a file.
use Rattle.std.proofs.Common.{Result, Ok, Err, IfOk}
use Rattle.dm_token.specs.declared.stop.Memory.{Memory}
use Rattle.dm_manifest.proofs.Short.{lawful-short}
use Rattle.dm_sources.specs.declared.project.Sources.{Sources}
use Rattle.dm_sources.specs.declared.project.Sources.TheVariants as sources
use Rattle.dm_sources.specs.declared.finding.Sought.{Sought}
use Rattle.dm_sources.specs.declared.finding.Sought.TheVariants.{Found, Missing}
use Rattle.dm_sources.specs.Sources.{AreLawful, AreShort, IsLawfulUnit, IsShortUnit}

pub short-sources : (result : Result Sources Memory) → IfOk result AreLawful → IfOk result AreShort
short-sources (Err error) lawful = tt
short-sources (Ok (sources.Missing why)) lawful = tt
short-sources (Ok (sources.Found units)) lawful = λ k d below. lawful-short _ (lawful k d below)

pub short-unit : (sought : Sought) → IsLawfulUnit sought → IsShortUnit sought
short-unit (Missing why) lawful = tt
short-unit (Found unit) lawful = lawful-short unit lawful
