-- What a declarator declares: its sort, its linkage (6.2.2) and its type (6.2.7), and when it may be declared again (6.7p3).
--     entry_of setting known storage at kind      the entry of a name that is declared here
--     may_be_declared standing entry      C2: another declaration of the name doesn't speak against it
--     number_here standing entry      the number of its entry, and `declared_here standing entry` what is known behind its declarator
--     with_whole_kinds linked n declared      entries, from a number on, with the types that all declarations together say
use Rattle.std.specs.Prelude.{ℕ, zero, suc, ◌+◌, Bool, true, false, ◌&&◌, ◌||◌, ◌==◌, if◌then◌else◌, List, [], ◌∷◌, ◌++◌, length, Option, Some, None, unwrap_or, is_some, slice_get, bytes_eq}
use Rattle.dm_spell.specs.Keywords.{extern_word, typedef_word}
use Rattle.dm_type.specs.Alike.{are_compatible, composite}
use Rattle.dm_type.specs.CTypes.{CType}
use Rattle.dm_scope.specs.Scopes.{number_of, is_declared, declared as declared_in}
use Rattle.dm_syn.specs.Sources.{spelling_at}
use Rattle.dm_tree.specs.declared.unit.Sort.{Sort}
use Rattle.dm_tree.specs.declared.unit.Sort.TheVariants.{Object, Function, Typedef}
use Rattle.dm_tree.specs.declared.unit.Linkage.{Linkage}
use Rattle.dm_tree.specs.declared.unit.Linkage.TheVariants.{External, Internal, Absent}
use Rattle.dm_tree.specs.Initialisers.{is_object, is_function_sort}
use Rattle.dm_tree.specs.Scenes.{is_function}
use Rattle.dm_tree.specs.Typing.{has_linkage}
use Rattle.dm_tree.specs.Units.{Declaration}
use Rattle.dm_typing.specs.Known.{Known, Setting, place_at, meaning_of, declaring}
use Rattle.dm_typing.specs.Conversions.{is_same}
use Rattle.dm_typing.specs.Typing.{is_file_scope}
use Rattle.dm_edecl.specs.Standing.{Linked, Standing}

-- ---- storage-class specifiers (6.7.1)

pub data Storage : Type 0 where
  unsaid : Storage
  typedef : Storage
  extern : Storage
  static : Storage

-- the first of some, by their rows in the table of keywords (6.4.1)
abbrev pub storage_of : List ℕ → Storage
storage_of [] = unsaid
storage_of (row ∷ rows) = if row == typedef_word then typedef else if row == extern_word then extern else static

abbrev pub is_extern : Storage → Bool
is_extern extern = true
is_extern storage = false

abbrev pub is_static : Storage → Bool
is_static static = true
is_static storage = false

-- ---- linkage (6.2.2)

-- the linkage of an earlier declaration that is visible, and else external linkage (6.2.2p4)
abbrev pub linkage_before : Option Declaration → Linkage
linkage_before None = External
linkage_before (Some old) = if has_linkage old.linkage then old.linkage else External

-- the linkage of a function or an object, in file scope or in a block, where its name means this before
abbrev pub linkage_of : Storage → Bool → Bool → Option Declaration → Linkage
linkage_of typedef is_function in_file before = Absent
-- p3
linkage_of static is_function true before = Internal
linkage_of static is_function false before = Absent
-- p4
linkage_of extern is_function in_file before = linkage_before before
-- p5
linkage_of unsaid true in_file before = linkage_before before
linkage_of unsaid false true before = External
-- p6
linkage_of unsaid false false before = Absent

-- an object has static storage duration if it has linkage or is declared `static` (6.2.4p3)
abbrev pub sort_of : Storage → Bool → Linkage → Sort
sort_of typedef is_function linkage = Typedef
sort_of storage true linkage = Function
sort_of storage false linkage = Object (has_linkage linkage || is_static storage)

abbrev pub entry_with : Setting → Storage → ℕ → CType → Linkage → Declaration
entry_with setting storage at kind linkage = record {
  name = spelling_at setting.source at;
  sort = sort_of storage (is_function kind) linkage;
  kind = kind;
  linkage = linkage;
  place = place_at setting.source at;
}

-- the entry of a name that is declared here
abbrev pub entry_of : Setting → Known → Storage → ℕ → CType → Declaration
entry_of setting known storage at kind =
    entry_with setting storage at kind (linkage_of storage (is_function kind) (is_file_scope known.scopes) (meaning_of known (spelling_at setting.source at)))

-- ---- the types of what has linkage (6.2.7)

abbrev pub composite_with : CType → Option CType → CType
composite_with kind None = kind
composite_with kind (Some other) = composite kind other

-- the composite type of all declarations of an object or a function (6.2.7p3)
abbrev pub whole_kind : ℕ → List Linked → Option CType
whole_kind number [] = None
whole_kind number (one ∷ others) =
    if one.number == number then Some (composite_with one.kind (whole_kind number others)) else whole_kind number others

-- entries, from a number on, with the types that all declarations together say
abbrev pub with_whole_kinds : List Linked → ℕ → List Declaration → List Declaration
with_whole_kinds linked n [] = []
with_whole_kinds linked n (entry ∷ others) =
    record entry { kind = unwrap_or (whole_kind n linked) entry.kind } ∷ with_whole_kinds linked (n + 1) others

-- the number of the entry with linkage of a name, which its declarations in all scopes share (6.2.2p2)
abbrev pub is_called : List ℕ → Option Declaration → Bool
is_called name None = false
is_called name (Some entry) = bytes_eq entry.name name

abbrev pub number_linked : List ℕ → List Declaration → List Linked → Option ℕ
number_linked name declared [] = None
number_linked name declared (one ∷ others) =
    if is_called name (slice_get declared one.number) then Some one.number else number_linked name declared others

abbrev pub number_shared : Standing → List ℕ → Option ℕ
number_shared standing name = number_linked name standing.known.declared standing.linked

-- The type of a name from its declaration on: the composite type where another one of its entry is visible before (6.2.7p4).
abbrev pub is_number : Option ℕ → ℕ → Bool
is_number None number = false
is_number (Some other) number = other == number

abbrev pub kind_with : CType → Bool → Option Declaration → CType
kind_with kind true (Some old) = composite old.kind kind
kind_with kind visible found = kind

abbrev pub kind_from_here : Known → Declaration → Option ℕ → CType
kind_from_here known entry None = entry.kind
kind_from_here known entry (Some number) =
    kind_with entry.kind (is_number (number_of known.scopes entry.name) number) (slice_get known.declared number)

abbrev pub kind_seen : Standing → Declaration → CType
kind_seen standing entry =
    if has_linkage entry.linkage then kind_from_here standing.known entry (number_shared standing entry.name) else entry.kind

-- ---- C2: a name is declared once in a scope, unless its declarations mean one thing

-- what the innermost scope says of a name
abbrev pub meaning_here : Known → List ℕ → Option Declaration
meaning_here known name = if is_declared known.scopes name then meaning_of known name else None

-- a typedef of the same type again (6.7p3)
abbrev pub is_typedef : Sort → Bool
is_typedef Typedef = true
is_typedef sort = false

abbrev pub is_same_typedef : Option Declaration → Declaration → Bool
is_same_typedef None entry = true
is_same_typedef (Some old) entry = is_typedef old.sort && is_typedef entry.sort && is_same old.kind entry.kind

-- in its scope the name has linkage, if it is declared
abbrev pub is_linked_if_there : Option Declaration → Bool
is_linked_if_there None = true
is_linked_if_there (Some old) = has_linkage old.linkage

-- all declarations of what has linkage agree: in what it is, in linkage (6.2.2p7), and in compatible types (6.2.7p2)
abbrev pub is_same_linkage : Linkage → Linkage → Bool
is_same_linkage External External = true
is_same_linkage Internal Internal = true
is_same_linkage linkage other = false

abbrev pub agree : Declaration → CType → Declaration → Bool
agree old kind entry =
    (is_object old.sort && is_object entry.sort || is_function_sort old.sort && is_function_sort entry.sort)
    && is_same_linkage old.linkage entry.linkage && are_compatible kind entry.kind

abbrev pub agrees_with : Option CType → Declaration → Option Declaration → Bool
agrees_with kind entry None = true
agrees_with kind entry (Some old) = agree old (unwrap_or kind old.kind) entry

abbrev pub agrees_if_there : Standing → Declaration → Option ℕ → Bool
agrees_if_there standing entry None = true
agrees_if_there standing entry (Some number) =
    agrees_with (whole_kind number standing.linked) entry (slice_get standing.known.declared number)

abbrev pub may_be_declared : Standing → Declaration → Bool
may_be_declared standing entry =
    if has_linkage entry.linkage
    then is_linked_if_there (meaning_here standing.known entry.name)
    && agrees_if_there standing entry (number_shared standing entry.name)
    else is_same_typedef (meaning_here standing.known entry.name) entry

-- ---- the declaration

-- the number of the entry that it shares with an earlier declaration: of what has linkage, or of the same typedef
abbrev pub number_before : Standing → Declaration → Option ℕ
number_before standing entry =
    if has_linkage entry.linkage then number_shared standing entry.name
    else if is_some (meaning_here standing.known entry.name) then number_of standing.known.scopes entry.name
    else None

-- entries, of which one has another type from here on
abbrev pub with_kind : ℕ → CType → List Declaration → List Declaration
with_kind n kind [] = []
with_kind zero kind (entry ∷ others) = record entry { kind = kind } ∷ others
with_kind (suc n) kind (entry ∷ others) = entry ∷ with_kind n kind others

abbrev pub known_kind : ℕ → CType → Known → Known
known_kind number kind known = record known { declared = with_kind number kind known.declared }

-- a name means its entry from here on: an earlier one, or a new one
abbrev pub naming : Known → CType → Declaration → Option ℕ → Known
naming known kind entry (Some number) = known_kind number kind (record known { scopes = declared_in known.scopes entry.name number })
naming known kind entry None = declaring known entry.name entry

abbrev pub number_here : Standing → Declaration → ℕ
number_here standing entry = unwrap_or (number_before standing entry) (length standing.known.declared)

abbrev pub named_here : Standing → Declaration → Known
named_here standing entry = naming standing.known (kind_seen standing entry) entry (number_before standing entry)

-- one declaration more of what has linkage
abbrev pub with_link : ℕ → CType → Bool → List Linked → List Linked
with_link number kind defines linked = linked ++ record { number = number; kind = kind; defines = defines } ∷ []

abbrev pub with_link_if : Bool → ℕ → CType → Bool → List Linked → List Linked
with_link_if true number kind defines linked = with_link number kind defines linked
with_link_if false number kind defines linked = linked

-- a declarator that is no function definition
abbrev pub declared_here : Standing → Declaration → Standing
declared_here standing entry = record standing {
  known = named_here standing entry;
  linked = with_link_if (has_linkage entry.linkage) (number_here standing entry) entry.kind false standing.linked;
}

-- that of a function definition; a function has linkage (6.2.2p3, p5)
abbrev pub function_here : Standing → Declaration → Standing
function_here standing entry = record standing {
  known = named_here standing entry;
  linked = with_link (number_here standing entry) entry.kind true standing.linked;
}

-- what is known behind the initialiser of an object: it is defined, with a type that is complete
abbrev pub object_here : Standing → Declaration → ℕ → CType → Standing
object_here standing entry number kind = record standing {
  known = known_kind number kind standing.known;
  linked = with_link_if (has_linkage entry.linkage) number kind true standing.linked;
}

-- ---- C2: a definition comes once (6.9p3, p5)

abbrev pub is_defined : ℕ → List Linked → Bool
is_defined number [] = false
is_defined number (one ∷ others) = one.defines && (one.number == number) || is_defined number others
