-- What is known of the names of a unit, apart from it.
--     AreTables pp tables      these look up the names of that unit
use Rattle.std.specs.Prelude.{◌≡◌, ℕ, List}
use Rattle.std.specs.List.{position_from}
use Rattle.std.specs.FinMap as finite
use Rattle.dm_token.specs.declared.unit.UnitTokens.{UnitTokens}
use Rattle.dm_mentions.specs.declared.tables.Tables.{Tables}
use Rattle.dm_mentions.specs.Mentions.{AreChains, events, is_mention, is_use}

pub record AreTables (pp : UnitTokens) (tables : Tables) : Type 0 where
  pub identifiers : (name : List ℕ) → finite.get tables.identifiers name ≡ position_from (is_mention name) 0 pp.tokens
  pub uses : (name : List ℕ) → finite.get tables.uses name ≡ position_from (is_use name) 0 pp.directive_uses
  pub all : tables.events.items ≡ events pp
  pub chains : AreChains pp 0 tables.events.items tables.chains.first tables.chains.next.items
