-- The file that a program reads.
use Rattle.std.specs.Prelude.{◌≡◌, ◌≤◌, ◌⊎◌, ℕ, true, false, List, [], length, Option, Some, None}
use Rattle.dm_token.specs.Limits.{source_length_limit}
use Rattle.dm_token.specs.LimitNumbers.{file_bytes}
use Rattle.dm_token.specs.Names.{is_normal_name}
use Rattle.dm_io.specs.Files.{Files}
use Rattle.dm_io.specs.Faults.{Rose}
use Rattle.dm_lines.specs.Lines.{manifest_line, limit_line, read_fault_line}
use Rattle.dm_lines.specs.ManifestFaults as manifest_faults
use Rattle.dm_lines.specs.Outside.{HasText, IsAbsent, IsTooLong}
use Rattle.dm_lines.specs.Statuses as statuses
use Rattle.dm_running.specs.declared.input.Input.{Input}
use Rattle.dm_running.specs.declared.input.Input.TheVariants.{Found, Lacking}
use Rattle.dm_running.specs.declared.input.NoInput.{NoInput}
use Rattle.dm_running.specs.declared.input.NoInput.TheVariants.{Missing, TooLong, ReadFault}

-- the bytes of the input's file
abbrev pub HasInputFile : Option Files → List ℕ → List ℕ → Type 0
HasInputFile told name bytes = (is_normal_name name ≡ true) × HasText told name bytes × (length bytes ≤ source_length_limit)

-- the input: that of the file, where one is named
abbrev pub HasInput : Option Files → Option (List ℕ) → List ℕ → Type 0
HasInput told None bytes = bytes ≡ []
HasInput told (Some name) bytes = HasInputFile told name bytes

-- why a file is no input, between two counts of the folder's faults
abbrev pub IsNoInputFile : Option Files → List ℕ → ℕ → ℕ → NoInput → Type 0
IsNoInputFile told name before after Missing = (is_normal_name name ≡ false) ⊎ IsAbsent told name
IsNoInputFile told name before after TooLong = (is_normal_name name ≡ true) × IsTooLong told name
IsNoInputFile told name before after ReadFault = (is_normal_name name ≡ true) × Rose before after

abbrev pub HasNoInput : Option Files → Option (List ℕ) → ℕ → ℕ → NoInput → Type 0
HasNoInput told None before after why = ⊥
HasNoInput told (Some name) before after why = IsNoInputFile told name before after why

-- what is found
abbrev pub IsInputSought : Option Files → List ℕ → ℕ → ℕ → Input → Type 0
IsInputSought told name before after (Found bytes) = HasInputFile told name bytes
IsInputSought told name before after (Lacking why) = IsNoInputFile told name before after why

-- the line that says why there is none, and the status
abbrev pub line_of_no_input : List ℕ → NoInput → List ℕ
line_of_no_input name Missing = manifest_line manifest_faults.input name
line_of_no_input name TooLong = limit_line file_bytes name
line_of_no_input name ReadFault = read_fault_line name

abbrev pub line_without_input : Option (List ℕ) → NoInput → List ℕ
line_without_input None why = []
line_without_input (Some name) why = line_of_no_input name why

abbrev pub status_of_no_input : NoInput → ℕ
status_of_no_input Missing = statuses.manifest_fault
status_of_no_input TooLong = statuses.limit_passed
status_of_no_input ReadFault = statuses.read_fault
