-- The external declarations that stand at a place.
--     IsExternalAt source names at it      a well-formed external declaration begins there
--     external_at source names at      the external declaration that reading from left to right gives there
use Rattle.std.specs.Prelude.{◌≡◌, ℕ, List, Option}
use Rattle.dm_token.specs.Limits.{greatest_height}
use Rattle.dm_syn.specs.declared.declared.Declared.{Declared}
use Rattle.dm_syn.specs.Sources.{Source}
use Rattle.dm_syn.specs.Trees.{External}
use Rattle.dm_syn.specs.Spans.{external_span}
use Rattle.dm_syn.specs.Statements.{IsWellFormed}
use Rattle.dm_pstmt.specs.Parsing.{within, external_of}

-- a well-formed external declaration with a height of at most `greatest_height` that begins there
pub record IsExternalAt (source : Source) (names : List Declared) (at : ℕ) (it : External) : Type 0 where
  pub formed : IsWellFormed source names it
  pub begins : (external_span it).first ≡ at

-- the external declaration that reading from left to right gives at a place
abbrev pub external_at : Source → List Declared → ℕ → Option External
external_at source names at = external_of source (within source greatest_height) names at
