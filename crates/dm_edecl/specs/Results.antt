-- What the functions give that a unit defines (6.9.1p3).
--     IsResult scene type      void, or a complete object type that is no array
--     DefinesResult scene form      the function that an external declaration defines, if it defines one, gives such a type
use Rattle.std.specs.Prelude.{not, IsTrue, ◌⊎◌}
use Rattle.dm_type.specs.CTypes.{CType, function as function_type, bare}
use Rattle.dm_tree.specs.Scenes.{Scene, Names, is_void, is_array, IsComplete}
use Rattle.dm_tree.specs.Units.{ExternalForm, declares, defines_function}

abbrev pub IsResult : Scene → CType → Type 0
IsResult scene type = IsTrue (not (is_array type)) × (IsTrue (is_void (bare type)) ⊎ IsComplete scene type)

-- the type is that of a function that gives such a type
abbrev pub GivesResult : Scene → CType → Type 0
GivesResult scene (function_type result parameters) = IsResult scene result
GivesResult scene type = ⊥

abbrev pub DefinesResult : Scene → ExternalForm → Type 0
DefinesResult scene (declares declarators trees) = Unit {0}
DefinesResult scene (defines_function f parameters body) = Names scene f (λ entry. GivesResult scene entry.kind)
