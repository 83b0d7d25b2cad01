-- Defines whose texts are tokens.
--     HasReadableDefines unit      the text of each define of a unit is one of tokens, whatever number its main file has
use Rattle.std.specs.Prelude.{ℕ, List, IfErr}
use Rattle.std.specs.List.{AllByRecursion}
use Rattle.dm_token.specs.declared.unit.Unit.{Unit as Source}
use Rattle.dm_unit.specs.Sources.{reading_of}
use Rattle.dm_unit.specs.Definitions.{define_text}

abbrev pub IsText : List ℕ → Type 0
IsText define = (main : ℕ) → IfErr (reading_of main (define_text define)) (λ refusal. ⊥)

abbrev pub HasReadableDefines : Source → Type 0
HasReadableDefines unit = AllByRecursion IsText unit.define
