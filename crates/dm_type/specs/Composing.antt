-- How a composite type is made step by step, without a call for each type inside.
--     composed table pair      the composite type of a pair of types
--     wanted table pairs      the composite types of pairs, that of the last one first
--     stacked table ids      the types of numbers, that of the last one first
--     applied table step made      what a step makes of the types made before it, the last of them first
--     carried_out table steps made      what steps make of them, the last of them first
use Rattle.std.specs.Prelude.{ℕ, nat_le, if◌then◌else◌, List, [], ◌∷◌, length, map, reverse, take, drop, Option, Some, None}
use Rattle.std.specs.List.{sum_by}
use Rattle.std.specs.Option.{option_and_then}
use Rattle.dm_type.specs.declared.compose.Step.{Step}
use Rattle.dm_type.specs.declared.compose.Step.TheVariants.{Is, Pointer, Array, Const, Function}
use Rattle.dm_type.specs.CTypes.{CType, pointer, array, function, all_of, with_const, bare}
use Rattle.dm_type.specs.Tables.{Table, type_of, IsId, IsLength}
use Rattle.dm_type.specs.Alike.{composite}
use Rattle.dm_type.specs.Writing.{work}

-- two numbers of types
abbrev pub IsPair : Table → ℕ × ℕ → Type 0
IsPair table pair = IsId table pair.0 × IsId table pair.1

abbrev pub composed : Table → ℕ × ℕ → CType
composed table pair = composite (type_of table pair.0) (type_of table pair.1)

abbrev pub wanted : Table → List (ℕ × ℕ) → List CType
wanted table pairs = reverse (map (composed table) pairs)

abbrev pub stacked : Table → List ℕ → List CType
stacked table ids = reverse (map (type_of table) ids)

-- the composite types of parameters, without the const of each
abbrev pub composites : List CType → List CType → List CType
composites [] others = []
composites (type ∷ types) [] = []
composites (type ∷ types) (other ∷ others) = composite (bare type) (bare other) ∷ composites types others

-- a function type of the types made, where there are so many
abbrev pub grouped : CType → ℕ → List CType → Option (List CType)
grouped result count made = if nat_le count (length made) then Some (function result (all_of (take count made)) ∷ drop count made) else None

abbrev pub applied : Table → Step → List CType → Option (List CType)
applied table (Is id) made = Some (type_of table id ∷ made)
applied table Pointer [] = None
applied table Pointer (type ∷ made) = Some (pointer type ∷ made)
applied table (Array length) [] = None
applied table (Array length) (type ∷ made) = Some (array type length ∷ made)
applied table Const [] = None
applied table Const (type ∷ made) = Some (with_const type ∷ made)
applied table (Function count) [] = None
applied table (Function count) (type ∷ made) = grouped type count made

abbrev pub carried_out : Table → List Step → List CType → Option (List CType)
carried_out table [] made = Some made
carried_out table (step ∷ steps) made = option_and_then (applied table step) (carried_out table steps made)

-- the step names a type of the table, or a length that an array can have
abbrev pub IsOver : Table → Step → Type 0
IsOver table (Is id) = IsId table id
IsOver table Pointer = Unit {0}
IsOver table (Array length) = IsLength length
IsOver table Const = Unit {0}
IsOver table (Function count) = Unit {0}

-- how many steps pairs take at most
abbrev pub work_of : Table → List (ℕ × ℕ) → ℕ
work_of table pairs = sum_by (λ pair. work (type_of table pair.0)) pairs
