-- Where an expression stands alone: no struct is being read, no type name is, and no function is lacking.
use Rattle.std.specs.Prelude.{◌≡◌, ℕ, ◌<◌, ◌≤◌, false, is_some, List, [], ◌∷◌}
use Rattle.std.specs.FinMap as map
use Rattle.dm_token.specs.declared.place.Span.{Span}
use Rattle.dm_token.specs.declared.stop.Stop.{Stop}
use Rattle.dm_token.specs.declared.stop.Stop.TheVariants as stop
use Rattle.dm_token.specs.declared.token.CToken.{CToken}
use Rattle.dm_type.specs.declared.shape.Shape.{Shape}
use Rattle.dm_type.specs.Tables.{Table}
use Rattle.dm_scope.specs.Scopes.{Scopes, number_of}
use Rattle.dm_syn.specs.Sources.{Source}
use Rattle.dm_tree.specs.declared.unit.Declared.{Declared}
use Rattle.dm_tree.specs.Views.{entries_of}
use Rattle.dm_typing.specs.Known.{Known, Setting}
use Rattle.dm_typing.specs.Views.{table_over, refusal_at}

abbrev pub source_alone : List CToken → Source
source_alone tokens = record { tokens = tokens; outer = λ name. false }

-- one scope of names that no function has, which declares none
abbrev nothing_lacking : Scopes
nothing_lacking = map.empty ∷ []

abbrev pub setting_alone : List CToken → Setting
setting_alone tokens = record { source = source_alone tokens; lacks = λ name. is_some (number_of nothing_lacking name) }

abbrev pub known_alone : List Shape → Table → Scopes → List Declared → Known
known_alone later types scopes declared = record {
  types = table_over later types;
  scopes = scopes;
  declared = entries_of (table_over later types) declared;
  begun = [];
  constants = [];
}

-- what is refused is refused for a typing rule that is broken, at one of the tokens of the span. Only want of memory has no cause
abbrev pub RefusesWithin : Source → Span → Stop → Type 0
RefusesWithin source span stop.Memory = Unit {0}
RefusesWithin source span (stop.Refused refusal) = (rule : ℕ) × (at : ℕ) × (refusal ≡ refusal_at source rule at) × (span.first ≤ at) × (at < span.after)
RefusesWithin source span (stop.Limit limit) = ⊥
RefusesWithin source span (stop.ReadFault file) = ⊥
