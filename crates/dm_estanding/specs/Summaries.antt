-- What the code keeps of the declarations of what has linkage, and what that stands for.
--     storage_seen storage      a storage-class specifier
--     entry_over later entry      an entry
--     whole_of number linked      what the declarations of an entry say together
--     Summarises later links declared linked      the code's summary is that of these declarations
--     StandsFor later known links standing      what the code knows at a place is what the definition does
--     MayBeAdded declared linked name number kind defines      a declaration more agrees with those of its entry
--     declared_as standing entry defines      what is known behind a declarator, of a definition or not
--     IsUnited standing      a name means one entry with linkage, in whatever scope (6.2.2p2)
--     AreSeenCompatible standing entry      an entry has a type compatible with that of the earlier one
use Rattle.std.specs.Prelude.{◌≡◌, ℕ, ◌<◌, Bool, true, ◌||◌, List, [], ◌∷◌, length, option_map, Option, Some, None, IfSome, slice_get}
use Rattle.dm_type.specs.declared.shape.Shape.{Shape}
use Rattle.dm_type.specs.Alike.{are_compatible, composite}
use Rattle.dm_type.specs.CTypes.{CType}
use Rattle.dm_scope.specs.Scopes.{number_of}
use Rattle.dm_name_map.specs.Numbers.{Numbers}
use Rattle.dm_tree.specs.declared.unit.Declared.{Declared}
use Rattle.dm_tree.specs.Typing.{has_linkage}
use Rattle.dm_tree.specs.Units.{Declaration}
use Rattle.dm_tree.specs.Views.{view_of_declared}
use Rattle.dm_typing.specs.declared.known.Known.{Known as Held}
use Rattle.dm_typing.specs.Views.{Begins, type_over, known_over}
use Rattle.dm_edecl.specs.Standing.{Linked, Standing}
use Rattle.dm_edecl.specs.Linkages.{Storage, unsaid, typedef, extern, static, whole_kind, is_called, number_linked, number_shared, is_defined, with_link, with_link_if, number_here, named_here}
use Rattle.dm_edecl.specs.Settled.{IsBound, AreProperLinks}
use Rattle.dm_estanding.specs.Kinds.{whole_in}
use Rattle.dm_estanding.specs.declared.links.Links.{Links}
use Rattle.dm_estanding.specs.declared.links.Whole.{Whole}
use Rattle.dm_estanding.specs.declared.storage.Storage.{Storage as Word}
use Rattle.dm_estanding.specs.declared.storage.Storage.TheVariants as word

-- ---- storage-class specifiers and entries

abbrev pub storage_seen : Word → Storage
storage_seen word.Unsaid = unsaid
storage_seen word.Typedef = typedef
storage_seen word.Extern = extern
storage_seen word.Static = static

abbrev pub entry_over : List Shape → Declared → Declaration
entry_over later entry = view_of_declared (record { shapes = later; structs = [] }) entry

-- the number is that of the composite type of two, where they are compatible, whatever numbers come
abbrev pub IsComposite : List Shape → ℕ → ℕ → ℕ → Type 0
IsComposite shapes a b id = (id < length shapes) × ((later : List Shape) → Begins shapes later
    → are_compatible (type_over later a) (type_over later b) ≡ true → type_over later id ≡ composite (type_over later a) (type_over later b))

-- ---- what has linkage

-- the composite type of all declarations of an entry, and whether one of them is a definition
abbrev pub whole_of : ℕ → List Linked → Option (CType × Bool)
whole_of number linked = option_map (λ kind. (kind, is_defined number linked)) (whole_kind number linked)

-- the same as the code has it
abbrev pub whole_over : List Shape → Whole → CType × Bool
whole_over later whole = (type_over later whole.kind, whole.defines)

-- what the declarations of an entry say together with one more
abbrev pub IsAdded : List Shape → Option Whole → ℕ → Bool → Whole → Type 0
IsAdded shapes None kind defines made = (made.kind < length shapes) × (made ≡ record { kind = kind; defines = defines })
IsAdded shapes (Some whole) kind defines made = IsComposite shapes whole.kind kind made.kind × (made.defines ≡ (whole.defines || defines))

-- the summary is that of these declarations
pub record Summarises (later : List Shape) (links : Links) (declared : List Declaration) (linked : List Linked) : Type 0 where
  -- the names stand in one scope
  pub single : (scope : Numbers) × (links.names ≡ scope ∷ [])
  -- the number of the entry of each name
  pub names : (name : List ℕ) → number_linked name declared linked ≡ number_of links.names name
  -- and what the declarations of each entry say together
  pub wholes : (number : ℕ) → whole_of number linked ≡ option_map (whole_over later) (whole_in links number)

-- the type that all declarations say, or else that of the entry
abbrev pub kind_of_whole : Option Whole → ℕ → ℕ
kind_of_whole None kind = kind
kind_of_whole (Some whole) kind = whole.kind

-- ---- what is known at a place

pub record StandsFor (later : List Shape) (held : Held) (summary : Links) (standing : Standing) : Type 0 where
  pub known : standing.known ≡ known_over later held
  pub links : Summarises later summary standing.known.declared standing.linked

-- the type of an entry is compatible with that which the earlier one with linkage of its name has there
abbrev pub AreSeenCompatible : Standing → Declaration → Type 0
AreSeenCompatible standing entry = has_linkage entry.linkage ≡ true → (number : ℕ) (old : Declaration) → number_shared standing entry.name ≡ Some number
    → slice_get standing.known.declared number ≡ Some old → are_compatible old.kind entry.kind ≡ true

-- a declaration more may be added to those of an entry of this name: it agrees with them
pub record MayBeAdded (declared : List Declaration) (linked : List Linked) (name : List ℕ) (number : ℕ) (kind : CType) (defines : Bool) : Type 0 where
  pub called : is_called name (slice_get declared number) ≡ true
  pub once : IfSome (number_linked name declared linked) (λ other. other ≡ number)
  pub proper : AreProperLinks (with_link number kind defines linked)
  pub bounds : (bound : CType) × IsBound bound number (with_link number kind defines linked)

-- a name means one entry with linkage, in whatever scope (6.2.2p2)
abbrev pub IsUnited : Standing → Type 0
IsUnited standing = (name : List ℕ) (number : ℕ) (entry : Declaration) → number_of standing.known.scopes name ≡ Some number
    → slice_get standing.known.declared number ≡ Some entry → has_linkage entry.linkage ≡ true → number_linked name standing.known.declared standing.linked ≡ Some number

-- what is known behind a declarator, of a definition or not
abbrev pub declared_as : Standing → Declaration → Bool → Standing
declared_as standing entry defines = record standing {
  known = named_here standing entry;
  linked = with_link_if (has_linkage entry.linkage) (number_here standing entry) entry.kind defines standing.linked;
}
