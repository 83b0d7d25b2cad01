-- What is said where there are no units, or not the one that is asked for.
use Rattle.std.specs.Prelude.{ℕ, List, []}
use Rattle.dm_token.specs.LimitNumbers as limits
use Rattle.dm_manifest.specs.declared.fault.ManifestFault.{ManifestFault}
use Rattle.dm_manifest.specs.declared.fault.ManifestFault.TheVariants.{Memory, Json, Shape, Name, Define, Twice, TooMany}
use Rattle.dm_lines.specs.Lines.{manifest_line, limit_line, read_fault_line}
use Rattle.dm_lines.specs.ManifestFaults as manifest_faults
use Rattle.dm_lines.specs.Statuses as statuses
use Rattle.dm_sources.specs.declared.project.NoSources.{NoSources}
use Rattle.dm_sources.specs.declared.project.NoSources.TheVariants.{ProjectName, NoManifest, TooLong, ReadFault, Manifest}
use Rattle.dm_sources.specs.declared.finding.NoUnit.{NoUnit}
use Rattle.dm_sources.specs.declared.finding.NoUnit.TheVariants.{Unfound, Unlisted}

-- the line of a manifest's fault
abbrev pub line_of_fault : List ℕ → ManifestFault → List ℕ
line_of_fault project Memory = []
line_of_fault project Json = manifest_line manifest_faults.json project
line_of_fault project (Shape path) = manifest_line manifest_faults.shape path
line_of_fault project (Name path) = manifest_line manifest_faults.name path
line_of_fault project (Define path) = manifest_line manifest_faults.define path
line_of_fault project (Twice path) = manifest_line manifest_faults.twice path
line_of_fault project TooMany = limit_line limits.units project

abbrev pub status_of_fault : ManifestFault → ℕ
status_of_fault Memory = statuses.memory_wanted
status_of_fault Json = statuses.manifest_fault
status_of_fault (Shape path) = statuses.manifest_fault
status_of_fault (Name path) = statuses.manifest_fault
status_of_fault (Define path) = statuses.manifest_fault
status_of_fault (Twice path) = statuses.manifest_fault
status_of_fault TooMany = statuses.limit_passed

-- the line that says why a project has no units
abbrev pub line_without_sources : List ℕ → NoSources → List ℕ
line_without_sources project ProjectName = manifest_line manifest_faults.name project
line_without_sources project NoManifest = manifest_line manifest_faults.absent project
line_without_sources project TooLong = limit_line limits.file_bytes project
line_without_sources project ReadFault = read_fault_line project
line_without_sources project (Manifest fault) = line_of_fault project fault

-- and the status
abbrev pub status_without_sources : NoSources → ℕ
status_without_sources ProjectName = statuses.manifest_fault
status_without_sources NoManifest = statuses.manifest_fault
status_without_sources TooLong = statuses.limit_passed
status_without_sources ReadFault = statuses.read_fault
status_without_sources (Manifest fault) = status_of_fault fault

-- the line that says why there is no unit with this main file
abbrev pub line_without_unit : List ℕ → List ℕ → NoUnit → List ℕ
line_without_unit project file (Unfound why) = line_without_sources project why
line_without_unit project file Unlisted = manifest_line manifest_faults.unlisted file

-- and the status
abbrev pub status_without_unit : NoUnit → ℕ
status_without_unit (Unfound why) = status_without_sources why
status_without_unit Unlisted = statuses.manifest_fault
