-- How a type is written step by step, without a call for each function type inside.
--     written table visible type qualified declarator      the type round a declarator, unless a struct in it can't be named
--     finished table visible function next text      what a function type comes to, where a text has all up to a parameter
--     resumed table visible frames value      what all function types that are being written come to
--     work type      how many steps a type takes
use Rattle.std.specs.Prelude.{◌≡◌, ℕ, zero, suc, ◌+◌, Bool, false, ◌&&◌, if◌then◌else◌, List, [], ◌∷◌, ◌++◌, drop, Option, Some, None, codes}
use Rattle.std.specs.Option.{option_and_then}
use Rattle.dm_type.specs.declared.spell.Frame.{Frame}
use Rattle.dm_type.specs.declared.spell.Advance.{Advance}
use Rattle.dm_type.specs.declared.spell.Advance.TheVariants.{To, Done}
use Rattle.dm_type.specs.CTypes.{CType, CTypes, void, integer, pointer, array, struct, function, const, no_types, more_types, all_of, list_of}
use Rattle.dm_type.specs.Tables.{Table, type_of, IsId}
use Rattle.dm_type.specs.Spelling.{spelled, parameters_text, further_text, is_spellable, are_spellable}

abbrev pub written : Table → List ℕ → CType → Bool → List ℕ → Option (List ℕ)
written table visible type qualified declarator =
    if is_spellable table visible type then Some (spelled table type qualified declarator) else None

-- the parameters from the one of this number on
abbrev pub parameters_from : Table → ℕ → CTypes → List ℕ
parameters_from table zero types = parameters_text table types
parameters_from table (suc next) types = further_text table types

-- what stands before a parameter
abbrev pub between : ℕ → List ℕ
between zero = []
between (suc next) = codes ", "

-- what stands behind so many parameters
abbrev pub closing : ℕ → List ℕ
closing zero = codes "void)"
closing (suc next) = codes ")"

abbrev pub completed : Table → List ℕ → CType → CTypes → ℕ → List ℕ → Option (List ℕ)
completed table visible result types next text =
    if is_spellable table visible result && are_spellable table visible types
    then Some (spelled table result false (text ++ (parameters_from table next types ++ codes ")")))
    else None

abbrev pub finished : Table → List ℕ → CType → ℕ → List ℕ → Option (List ℕ)
finished table visible (function result parameters) next text = completed table visible result (all_of (drop next (list_of parameters))) next text
finished table visible type next text = None

-- the types of the parameters from the one of this number on
abbrev pub parameters_at : CType → ℕ → List CType
parameters_at (function result parameters) next = drop next (list_of parameters)
parameters_at type next = []

-- the innermost function type first
abbrev pub resumed : Table → List ℕ → List Frame → Option (List ℕ) → Option (List ℕ)
resumed table visible [] value = value
resumed table visible (frame ∷ frames) value =
    resumed table visible frames (option_and_then (λ text. finished table visible (type_of table frame.function) frame.next (frame.declarator ++ text)) value)

-- what is written in the end
abbrev pub Shows : Table → List ℕ → List Frame → Advance → Option (List ℕ) → Type 0
Shows table visible frames (To focus) value = value ≡ resumed table visible frames (written table visible (type_of table focus.id) focus.qualified focus.declarator)
Shows table visible frames (Done text) value = value ≡ text

abbrev mutual
  pub work : CType → ℕ
  work void = 1
  work (integer kind) = 1
  work (pointer type) = 1 + work type
  work (array type length) = 1 + work type
  work (struct number) = 1
  work (function result parameters) = 2 + (work result + works parameters)
  work (const type) = 1 + work type

  pub works : CTypes → ℕ
  works no_types = 0
  works (more_types type types) = 1 + (work type + works types)

abbrev pub work_behind : CType → ℕ → ℕ
work_behind (function result parameters) next = 1 + (work result + works (all_of (drop next (list_of parameters))))
work_behind type next = 1

abbrev pub work_of_frames : Table → List Frame → ℕ
work_of_frames table [] = 0
work_of_frames table (frame ∷ frames) = work_behind (type_of table frame.function) frame.next + work_of_frames table frames

abbrev pub work_left : Table → List Frame → Advance → ℕ
work_left table frames (To focus) = work (type_of table focus.id) + work_of_frames table frames
work_left table frames (Done text) = 0

-- what is to be written is a type of the table
abbrev pub IsStep : Table → Advance → Type 0
IsStep table (To focus) = IsId table focus.id
IsStep table (Done text) = Unit {0}
