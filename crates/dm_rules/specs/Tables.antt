-- What an index knows of a reading, apart from it.
--     AreTables reading tables      these look definitions up in that reading
use Rattle.std.specs.Prelude.{◌≡◌, ℕ, ◌+◌, ◌<◌, ◌^◌, List, length, map}
use Rattle.std.specs.List.{range_with_len}
use Rattle.dm_token.specs.declared.expansion.Expansion.{Expansion}
use Rattle.dm_token.specs.declared.token.Token.{Token}
use Rattle.dm_token.specs.declared.unit.Read.{Read}
use Rattle.dm_tree.specs.declared.unit.CoreExternal.{CoreExternal}
use Rattle.dm_reading.specs.declared.reading.Reading.{Reading}
use Rattle.dm_mentions.specs.Tables as mentions
use Rattle.dm_runs.specs.Listings.{items_at, runs_at}
use Rattle.dm_runs.specs.Runs.{is_at, runs_of}
use Rattle.dm_runs.specs.Spans.{begun_before, positions}
use Rattle.dm_rules.specs.Listing.{is_expansion_at}
use Rattle.dm_rules.specs.Places.{AreBefore}
use Rattle.dm_rules.specs.declared.places.Counts.{Counts}
use Rattle.dm_rules.specs.declared.tables.Tables.{Tables}

-- how many tokens of phase 7, and how many external declarations, are before each token
pub record AreCounts (tokens : List Token) (externals : List CoreExternal) (counts : Counts) : Type 0 where
  pub positions : counts.positions.items ≡ map (begun_before tokens) (range_with_len 0 (length tokens + 1))
  pub before : AreBefore externals counts.before.items
  pub few : length externals < 2 ^ 32

pub record AreTables (reading : Reading) (tables : Tables) : Type 0 where
  pub runs : (file hash : ℕ) → runs_at tables.runs file hash ≡ runs_of reading.pp reading.tokens file hash
  pub mentions : mentions.AreTables reading.pp tables.mentions
  pub readings : (file hash : ℕ) → items_at tables.readings file hash ≡ positions (λ (one : Read). is_at file hash one.definition) 0 reading.pp.read
  pub expansions : (file hash : ℕ)
      → items_at tables.expansions file hash ≡ positions (λ (one : Expansion). is_expansion_at file hash reading.pp.read one) 0 reading.pp.expansions
  pub places : AreCounts reading.pp.tokens reading.core.externals tables.places
