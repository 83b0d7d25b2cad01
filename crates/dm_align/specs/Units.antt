-- Two typed units agree, but for a declaration that is added and for what stands where runs of a macro stood (6.9).
--     Insertion      where the added declaration stands, and what it declares
--     moved put d      the new number of an old declaration
--     IsPutIn types new put      the added declaration stands there
--     AreAligned old_types new_types old new runs put      the units agree
use Rattle.std.specs.Prelude.{◌≡◌, ℕ, ◌+◌, ◌<◌, ◌≤◌, nat_lt, Bool, false, true, ◌&&◌, not, ◌==◌, IsTrue, List, [], ◌∷◌, ◌++◌, map, take, drop, Option, Some, None, slice_get, ℤ, if◌then◌else◌}
use Rattle.std.specs.List.{list_any, AllByRecursion}
use Rattle.std.specs.Option.{IsSomeAnd}
use Rattle.dm_token.specs.declared.place.Span.{Span}
use Rattle.dm_runs.specs.declared.run.Occurrence.{Occurrence}
use Rattle.dm_runs.specs.declared.run.Run.{Run}
use Rattle.dm_type.specs.CTypes.{CType, function as function_type, is_const, bare}
use Rattle.dm_type.specs.Structs.{AreSameStructs}
use Rattle.dm_type.specs.Tables.{Table}
use Rattle.dm_tree.specs.declared.unit.Sort.{Sort}
use Rattle.dm_tree.specs.declared.unit.Sort.TheVariants.{Object, Function, Enumerator}
use Rattle.dm_tree.specs.declared.unit.Linkage.{Linkage}
use Rattle.dm_tree.specs.declared.unit.Linkage.TheVariants.{Internal}
use Rattle.dm_tree.specs.Constants.{constant}
use Rattle.dm_tree.specs.Paths.{all_in_trees}
use Rattle.dm_tree.specs.Scenes.{is_void, is_function as is_function_type}
use Rattle.dm_tree.specs.Trees.{Label, sizeof_tree, sizeof_kind, full, return, Declarator, one_expression, Tree, node, no_trees, more_trees, label_of, trees_of, parts_of}
use Rattle.dm_tree.specs.Units.{Declaration, External, ExternalForm, declares, defines_function, TypedUnit}
use Rattle.dm_meaning.specs.Replaced.{renamed_declarator, Zipped}
use Rattle.dm_effect.specs.Entities.{nodes_of_unit}
use Rattle.dm_agree.specs.Standing.{stands}
use Rattle.dm_agree.specs.Agreement.{Added, nothing, added_function, added_enumerator, added_constant, Rewriting, AgreesWhole, AllAgreeWhole}

-- ---- what is put in

-- The position of the added external declaration; the first number and the count of what it declares, at any depth; and the name that it
-- declares at file scope.
pub record Insertion : Type 0 where
  pub external : ℕ
  pub first : ℕ
  pub count : ℕ
  pub name : List ℕ
  pub added : Added

-- a list without a part of it
abbrev pub without : {A : Type 0} → ℕ → ℕ → List A → List A
without from count items = take from items ++ drop (from + count) items

abbrev pub other_externals : Option Insertion → List External → List External
other_externals None externals = externals
other_externals (Some put) externals = without put.external 1 externals

abbrev pub other_entries : Option Insertion → List Declaration → List Declaration
other_entries None declared = declared
other_entries (Some put) declared = without put.first put.count declared

-- the numbers in front of the added ones stay
abbrev pub moved : Option Insertion → ℕ → ℕ
moved None d = d
moved (Some put) d = if nat_lt d put.first then d else d + put.count

abbrev pub added_by : Option Insertion → Added
added_by None = nothing
added_by (Some put) = put.added

-- ---- the added declaration (6.9)

-- a number of what is put in
abbrev pub IsPut : Insertion → ℕ → Type 0
IsPut put d = (put.first ≤ d) × (d < put.first + put.count)

abbrev pub are_different : List ℕ → Bool
are_different [] = true
are_different (d ∷ ds) = not (list_any (λ c. c == d) ds) && are_different ds

abbrev pub AreParameters : Insertion → List ℕ → Type 0
AreParameters put parameters = AllByRecursion (IsPut put) parameters × IsTrue (are_different parameters)

-- a number of what is put in has an entry with the name
abbrev pub Declares : TypedUnit → Insertion → ℕ → (Declaration → Type 0) → Type 0
Declares new put d Entry = IsPut put d × IsSomeAnd (slice_get new.declared d) (λ entry. (entry.name ≡ put.name) × Entry entry)

abbrev pub result_of : CType → CType
result_of (function_type result parameters) = bare result
result_of type = type

-- The body is one `return` of the expression, or where the result is void one expression statement (6.8.6.4, 6.8.3). A function returns no
-- function (6.7.6.3p1).
abbrev pub IsBodyOf : CType → Tree → List Tree → Type 0
IsBodyOf result body (node return kind spans (more_trees value no_trees) ∷ []) = (body ≡ value) × (is_void result ≡ false) × (is_function_type result ≡ false)
IsBodyOf result body (node full kind spans (more_trees value no_trees) ∷ []) = (body ≡ value) × (is_void result ≡ true)
IsBodyOf result body items = ⊥

-- the definition of a function with internal linkage (6.9.1)
abbrev pub DefinesAdded : TypedUnit → Insertion → ℕ → List ℕ → Tree → ExternalForm → Type 0
DefinesAdded new put f parameters body (declares declarators trees) = ⊥
DefinesAdded new put f parameters body (defines_function g others whole) =
    (f ≡ g) × (parameters ≡ others) × AreParameters put parameters
    × Declares new put f (λ entry. (entry.sort ≡ Function) × (entry.linkage ≡ Internal) × IsBodyOf (result_of entry.kind) body (parts_of whole))

-- an enumerator of a declaration without declarators (6.7.2.2)
abbrev pub DeclaresEnumerator : TypedUnit → Insertion → ℕ → ℤ → ExternalForm → Type 0
DeclaresEnumerator new put d value form = (form ≡ declares [] []) × Declares new put d (λ entry. entry.sort ≡ Enumerator value)

-- a const object with internal linkage and an initialiser of this value (6.7.9)
abbrev pub IsDeclaratorOf : ℕ → List Declarator → Type 0
IsDeclaratorOf d declarators = declarators ≡ record { declared = d; defines = true; initialiser = Some one_expression } ∷ []

abbrev pub DeclaresConstant : Table → TypedUnit → Insertion → ℕ → ℤ → ExternalForm → Type 0
DeclaresConstant types new put d value (defines_function f parameters body) = ⊥
DeclaresConstant types new put d value (declares declarators trees) =
    IsDeclaratorOf d declarators × (map (constant types new.declared) trees ≡ Some value ∷ [])
    × Declares new put d (λ entry. (entry.sort ≡ Object true) × (entry.linkage ≡ Internal) × (is_const entry.kind ≡ true))

-- by what is added
abbrev pub FormAdds : Table → TypedUnit → Insertion → Added → ExternalForm → Type 0
FormAdds types new put nothing form = ⊥
FormAdds types new put (added_function f parameters body) form = DefinesAdded new put f parameters body form
FormAdds types new put (added_enumerator d value) form = DeclaresEnumerator new put d value form
FormAdds types new put (added_constant d value) form = DeclaresConstant types new put d value form

abbrev pub IsPutIn : Table → TypedUnit → Option Insertion → Type 0
IsPutIn types new None = Unit {0}
IsPutIn types new (Some put) = IsSomeAnd (slice_get new.externals put.external) (λ external. FormAdds types new put put.added external.form)

-- ---- external declarations

-- what the entries of one declaration in the two units have in common
abbrev pub entry_of : Declaration → List ℕ × Sort × CType × Linkage
entry_of entry = (entry.name, entry.sort, entry.kind, entry.linkage)

abbrev pub rewriting_of : Table → TypedUnit → List Run → Option Insertion → Rewriting
rewriting_of types old runs put = record { runs = runs; added = added_by put; rename = moved put; value = constant types old.declared }

abbrev pub FormsAgree : Rewriting → ExternalForm → ExternalForm → Type 0
FormsAgree it (declares declarators trees) (declares others other_trees) = (declarators ≡ map (renamed_declarator it.rename) others) × AllAgreeWhole it trees other_trees
FormsAgree it (defines_function f parameters body) (defines_function g others other) =
    (f ≡ it.rename g) × (parameters ≡ map it.rename others) × AgreesWhole it body other
FormsAgree it form other = ⊥

abbrev pub ExternalsAgree : Rewriting → External → External → Type 0
ExternalsAgree it one other = AllAgreeWhole it one.constants other.constants × FormsAgree it one.form other.form

-- ---- the places of runs

-- these tokens are an expression somewhere in the unit
abbrev pub is_expression : TypedUnit → Span → Bool
is_expression one span = list_any (stands span) (nodes_of_unit one)

abbrev pub is_sizeof : Label → Bool
is_sizeof sizeof_tree = true
is_sizeof (sizeof_kind type) = true
is_sizeof label = false

-- they are one in an operand of this sizeof (6.5.3.4), or of some sizeof of the unit
abbrev pub is_in_sizeof : Span → Tree → Bool
is_in_sizeof span tree = is_sizeof (label_of tree) && list_any (stands span) (all_in_trees (trees_of tree))

abbrev pub is_unevaluated : TypedUnit → Span → Bool
is_unevaluated one span = list_any (is_in_sizeof span) (nodes_of_unit one)

-- a run is an expression, and so is each occurrence in it, which is in no operand of sizeof
abbrev pub IsOccurrencePlaced : TypedUnit → Occurrence → Type 0
IsOccurrencePlaced one occurrence = (is_expression one occurrence.span ≡ true) × (is_unevaluated one occurrence.span ≡ false)

abbrev pub IsPlaced : TypedUnit → Run → Type 0
IsPlaced one run = (is_expression one run.span ≡ true) × AllByRecursion (IsOccurrencePlaced one) run.occurrences

-- ---- units

-- Without what is put in, the declarations have the same names, sorts, types and linkage, and the external declarations agree one by one,
-- where runs of the macro stood at these places.
pub record AreAligned (old_types new_types : Table) (old new : TypedUnit) (runs : List Run) (put : Option Insertion) : Type 0 where
  -- the structs correspond in the order in which they first appear, which is that of their numbers
  pub structs : AreSameStructs old_types new_types
  pub added : IsPutIn new_types new put
  pub declared : map entry_of (other_entries put new.declared) ≡ map entry_of old.declared
  pub externals : Zipped (ExternalsAgree (rewriting_of old_types old runs put)) (other_externals put new.externals) old.externals
  pub placed : AllByRecursion (IsPlaced old) runs
