-- Where a definition stands among the external declarations of a unit (6.9).
--     position pp n      the token of phase 7 behind the first n of phase 4
--     externals_before externals at      how many external declarations end before a token
--     is_inside externals at      the token stands inside an external declaration, and isn't its first
--     externals_behind definition reading      how many end before the definition
use Rattle.std.specs.Prelude.{ℕ, Bool, false, nat_le, nat_lt, ◌≡◌, List, length, find, slice_get, slice_index_or}
use Rattle.std.specs.List.{prefix_len}
use Rattle.std.specs.Option.{option_map_or}
use Rattle.dm_token.specs.declared.expansion.Definition.{Definition}
use Rattle.dm_token.specs.declared.unit.Read.{Read}
use Rattle.dm_token.specs.declared.unit.UnitTokens.{UnitTokens}
use Rattle.dm_tree.specs.declared.unit.CoreExternal.{CoreExternal}
use Rattle.dm_reading.specs.declared.reading.Reading.{Reading}
use Rattle.dm_runs.specs.Spans.{begun_before}
use Rattle.dm_rules.specs.Uses.{is_reading}

abbrev pub position : UnitTokens → ℕ → ℕ
position pp n = begun_before pp.tokens n

abbrev pub ends_before : ℕ → CoreExternal → Bool
ends_before at one = nat_le one.span.after at

abbrev pub externals_before : List CoreExternal → ℕ → ℕ
externals_before externals at = prefix_len (ends_before at) externals

-- The first one that ends behind the token begins before it.
abbrev pub is_inside : List CoreExternal → ℕ → Bool
is_inside externals at = option_map_or (λ (one : CoreExternal). nat_lt one.span.first at) (slice_get externals (externals_before externals at)) false

-- A unit that reads the definition several times has it where it reads it first.
abbrev pub externals_behind : Definition → Reading → ℕ
externals_behind definition reading =
    option_map_or (λ (read : Read). externals_before reading.core.externals (position reading.pp read.before)) (find (is_reading definition) reading.pp.read) 0

-- By a token before the end of some external declaration, how many end before it; behind the list all do.
abbrev pub AreBefore : List CoreExternal → List ℕ → Type 0
AreBefore externals before = (at : ℕ) → slice_index_or before at (length externals) ≡ externals_before externals at
