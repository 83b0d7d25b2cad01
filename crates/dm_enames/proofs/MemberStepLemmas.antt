-- The look-up of a member, step by step.
use Rattle.std.specs.Prelude.{◌≡◌, ℕ, ◌+◌, Bool, true, false, if◌then◌else◌, List, [], ◌∷◌, bytes_eq, option_and_then, option_map, Option, Some, None, refl}
use Rattle.std.proofs.Common.{Bor, sym, ap, ◌∙◌}
use Rattle.dm_type.specs.declared.shape.Member.{Member}
use Rattle.dm_type.specs.declared.shape.Shape.{Shape}
use Rattle.dm_type.specs.Naming.{member_named}
use Rattle.dm_type.specs.CTypes.{CType, struct, bare, is_const}
use Rattle.dm_type.specs.Tables.{Table, type_of, IsId}
use Rattle.dm_tree.specs.Scenes.{is_lvalue, is_array}
use Rattle.dm_tree.specs.Trees.{Tree, kind_of}
use Rattle.dm_typing.specs.Known.{Known}
use Rattle.dm_typing.specs.Conversions.{members_in}
use Rattle.dm_typing.specs.Rules.{found_in, member_of_struct, member_in, member_by_name}
use Rattle.dm_typing.specs.Views.{Begins, type_over, table_over}
use Rattle.dm_typing.proofs.LaterLemmas.{type-later}

-- ---- the first member of a name

-- its number, and its type written out
abbrev pub typed_in : Table → ℕ × Member → ℕ × CType
typed_in table found = (found.0, type_of table found.1.kind)

found-named : (table : Table) (name : List ℕ) (n : ℕ) (members : List Member) → found_in table name n members ≡ option_map (typed_in table) (member_named name n members)
found-named table name n [] = refl
found-named table name n (member ∷ members) = by (found-named table name (n + 1) members) (bytes_eq member.name name)
  where
    by : found_in table name (n + 1) members ≡ option_map (typed_in table) (member_named name (n + 1) members)
        → (test : Bool) → (if test then Some (n, type_of table member.kind) else found_in table name (n + 1) members)
        ≡ option_map (typed_in table) (if test then Some (n, member) else member_named name (n + 1) members)
    by others true = refl
    by others false = others

pub found-in-some : (table : Table) (name : List ℕ) (all : Option (List Member))
    → option_and_then (found_in table name 0) all ≡ option_map (typed_in table) (option_and_then (member_named name 0) all)
found-in-some table name None = refl
found-in-some table name (Some members) = found-named table name 0 members

-- where the code finds one
pub code-finds : (table : Table) (found : Option (ℕ × Bor Member)) (answer : Option (ℕ × Member)) → option_map (λ one. (one.0, one.1.now)) found ≡ answer
    → option_map (λ one. (one.0, type_of table one.1.now.kind)) found ≡ option_map (typed_in table) answer
code-finds table None answer is = ap (option_map (typed_in table)) is
code-finds table (Some one) answer is = ap (option_map (typed_in table)) is

-- ---- members of a type

pub member-of : (known : Known) (name : List ℕ) (type : CType) → member_of_struct known name type ≡ option_and_then (found_in known.types name 0) (members_in known.types type)
member-of known name (struct at) = refl
member-of known name type = refl

pub members-alone : (later : List Shape) (types : Table) (type : CType) → members_in (table_over later types) type ≡ members_in types type
members-alone later types (struct at) = refl
members-alone later types type = refl

pub members-later : (types : Table) (later : List Shape) (id : ℕ) → Begins types.shapes later → IsId types id
    → members_in (table_over later types) (bare (type_over later id)) ≡ members_in types (bare (type_of types id))
members-later types later id begins inside =
    members-alone later types (bare (type_over later id)) ∙ ap (λ t. members_in types (bare t)) (type-later types.shapes later id begins inside)

-- ---- members of an expression

pub by-name : (known : Known) (name : List ℕ) (tree : Tree) (type : CType) (whole_is_lvalue whole_is_const : Bool) (found : Option (ℕ × CType))
    → kind_of tree ≡ type → is_lvalue tree ≡ whole_is_lvalue → is_const type ≡ whole_is_const → member_of_struct known name (bare type) ≡ found
    → member_by_name known name tree ≡ option_and_then (member_in whole_is_lvalue whole_is_const) found
by-name known name tree type whole_is_lvalue whole_is_const found k l c f =
    ap (λ b. option_and_then (member_in b (is_const (kind_of tree))) (member_of_struct known name (bare (kind_of tree)))) l
    ∙ ap (λ t. option_and_then (member_in whole_is_lvalue (is_const t)) (member_of_struct known name (bare t))) k
    ∙ ap (λ b. option_and_then (member_in whole_is_lvalue b) (member_of_struct known name (bare type))) c
    ∙ ap (option_and_then (member_in whole_is_lvalue whole_is_const)) f

pub member-array : (whole_is_const : Bool) (n : ℕ) (type : CType) → is_array type ≡ true → member_in false whole_is_const (n, type) ≡ None
member-array whole_is_const n type h = ap (λ b. if b then None else Some (n, bare type)) h

pub member-value : (whole_is_const : Bool) (n : ℕ) (type : CType) → is_array type ≡ false → member_in false whole_is_const (n, type) ≡ Some (n, bare type)
member-value whole_is_const n type h = ap (λ b. if b then None else Some (n, bare type)) h
