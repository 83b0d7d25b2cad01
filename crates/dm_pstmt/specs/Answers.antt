-- What is given for an external declaration.
use Rattle.std.specs.Prelude.{◌≡◌, ◌≤◌, ◌<◌, ℕ, [], length, slice_get, MatchOption}
use Rattle.dm_token.specs.Refusals.{syntax}
use Rattle.dm_token.specs.declared.stop.Stop.{Stop}
use Rattle.dm_token.specs.declared.stop.Stop.TheVariants.{Memory, Refused, Limit, ReadFault}
use Rattle.dm_syn.specs.declared.statement.External.{External}
use Rattle.dm_syn.specs.Sources.{Source}
use Rattle.dm_syn.specs.Trees as tree
use Rattle.dm_syn.specs.Views as view
use Rattle.dm_pexpr.specs.NameMaps.{NameMap}
use Rattle.dm_pexpr.specs.Parsing.{span_of}
use Rattle.dm_pstmt.specs.Readings.{IsExternalAt}

-- A well-formed external declaration that begins there, and where it ends: the tokens from the place up to there are its yield.
pub record IsExternalFound (source : Source) (at : ℕ) (found : External × ℕ) : Type 0 where
  pub formed : IsExternalAt source [] at (view.external found.0)
  pub spans : found.0.span ≡ span_of at found.1
  pub onward : at < found.1
  pub within : found.1 ≤ length source.tokens

-- the refusal of syntax at the token there, where no external declaration begins
abbrev pub Refuses : Source → ℕ → Stop → Type 0
Refuses source at Memory = Unit {0}
Refuses source at (Refused given) =
    ((it : tree.External) → ¬ IsExternalAt source [] at it)
    × MatchOption (slice_get source.tokens at) ⊥ (λ token. given ≡ record { number = syntax; detail = 0; place = token.place })
Refuses source at (Limit given) = ⊥
Refuses source at (ReadFault file) = ⊥

-- a refusal leaves the names as they were
abbrev pub Keeps : NameMap → NameMap → Stop → Type 0
Keeps before now (Refused given) = now ≡ before
Keeps before now other = Unit {0}
