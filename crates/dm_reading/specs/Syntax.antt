-- The syntax of a translation unit (6.9).
--     Stand tokens names at externals to known      the external declarations stand from a place to another, one behind the other
--     IsSyntax tokens externals      they are all that the tokens are
--     IsRefusedAt tokens at      no external declaration begins at the token behind those that stand before it
use Rattle.std.specs.Prelude.{◌≡◌, ◌<◌, ℕ, List, [], ◌∷◌, length, slice_get, MatchOption}
use Rattle.std.specs.FinMap as finite
use Rattle.dm_token.specs.declared.stop.Stop.{Stop}
use Rattle.dm_token.specs.declared.stop.Stop.TheVariants.{Memory, Refused, Limit, ReadFault}
use Rattle.dm_token.specs.declared.token.CToken.{CToken}
use Rattle.dm_syn.specs.Scopes.{external_declares}
use Rattle.dm_syn.specs.Spans.{external_span}
use Rattle.dm_syn.specs.Trees.{External}
use Rattle.dm_pexpr.specs.Answers.{source_with}
use Rattle.dm_pexpr.specs.NameMaps.{NameMap}
use Rattle.dm_pexpr.specs.Scoping.{known_with}
use Rattle.dm_pstmt.specs.Readings.{IsExternalAt}

-- the names that are known behind an external declaration (6.2.1p4)
abbrev pub names_behind : List CToken → NameMap → External → NameMap
names_behind tokens names it = known_with names (external_declares (source_with tokens names) it)

-- From a place up to another these external declarations stand, each read with the names that those before it declare.
unfoldable pub Stand : List CToken → NameMap → ℕ → List External → ℕ → NameMap → Type 0
Stand tokens names at [] to known = (at ≡ to) × (names ≡ known)
Stand tokens names at (it ∷ others) to known =
    IsExternalAt (source_with tokens names) [] at it × Stand tokens (names_behind tokens names it) (external_span it).after others to known

-- they are the unit
abbrev pub IsSyntax : List CToken → List External → Type 0
IsSyntax tokens externals = (known : NameMap) × Stand tokens finite.empty 0 externals (length tokens) known

-- the first token at which no external declaration begins
pub record IsRefusedAt (tokens : List CToken) (at : ℕ) : Type 0 where
  pub before : List External
  pub known : NameMap
  pub stand : Stand tokens finite.empty 0 before at known
  pub within : at < length tokens
  pub none : (it : External) → ¬ IsExternalAt (source_with tokens known) [] at it

-- what isn't the syntax of C is refused as 16 there
abbrev pub Refuses : List CToken → Stop → Type 0
Refuses tokens Memory = Unit {0}
Refuses tokens (Refused given) =
    (at : ℕ) × IsRefusedAt tokens at × MatchOption (slice_get tokens at) ⊥ (λ token. given ≡ record { number = 16; detail = 0; place = token.place })
Refuses tokens (Limit given) = ⊥
Refuses tokens (ReadFault file) = ⊥
