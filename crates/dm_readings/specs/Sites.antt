-- What tells definitions apart.
use Rattle.std.specs.Prelude.{List, map, if◌then◌else◌}
use Rattle.dm_token.specs.declared.expansion.Definition.{Definition}
use Rattle.dm_definitions.specs.Counts.{is_in_file}
use Rattle.dm_readings.specs.Definitions.{once_more}
use Rattle.dm_readings.specs.declared.distinct.Site.{Site}

-- the file and the byte of the `#`
abbrev pub site_of : Definition → Site
site_of one = record { file = one.place.file; hash = one.hash }

abbrev pub sites_of : List Definition → List Site
sites_of found = map site_of found

-- definitions with a further one, if it is in a file and isn't among them
abbrev pub with_one : List Definition → Definition → List Definition
with_one found one = if is_in_file one.origin then once_more found one else found
