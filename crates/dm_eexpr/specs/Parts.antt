-- Parts of the definition of the typing by names of their own, one for each step that the code takes.
--     valued outcome      the value of what is typed
--     declared_type setting used known base declarator      the type that a declarator makes of another
--     type_of_specifier setting used alone known specifier      the type of a struct or an enum among specifiers
use Rattle.std.specs.Prelude.{ℕ, ℤ, negsuc, Bool, false, not, is_some, List, [], ◌∷◌, map, Option, Some, None}
use Rattle.dm_token.specs.declared.place.Span.{Span}
use Rattle.dm_type.specs.declared.shape.Shape.{Shape}
use Rattle.dm_type.specs.CTypes.{CType}
use Rattle.dm_syn.specs.Scopes.{declarator_name}
use Rattle.dm_syn.specs.Spans.{expr_span, declarator_span}
use Rattle.dm_syn.specs.Trees.{Expr, Specifiers, Specifier, Members, Enumerators, Declarator, Parameters}
use Rattle.dm_syn.specs.Trees as tree
use Rattle.dm_tree.specs.declared.tree.Core.{Core}
use Rattle.dm_tree.specs.Trees.{Tree}
use Rattle.dm_typing.specs.Known.{Known, Setting, Outcome, given, broken, after, with_it}
use Rattle.dm_typing.specs.Conversions.{as_value}
use Rattle.dm_typing.specs.Specifiers.{elsewhere}
use Rattle.dm_typing.specs.Typing.{Step, arraying, calling, TypedMember, beginning, with_new_struct, struct_begun, tag_inside, tag_seen, enum_named, struct_ended, fields_of, enumerators_of, steps_of, derived, typed_specifiers, typed_field, typed, enumerator_valued, length_of, left, parameters_of, entered, without_void}
use Rattle.dm_typing.specs.Views.{view_over}
use Rattle.dm_edeclarator.specs.Steps.{tagged_struct, enum_begun_with, enum_ended_with}

-- ---- expressions

-- the value of what is typed
abbrev pub valued : Outcome Tree → Outcome Tree
valued outcome = with_it outcome (λ behind tree. as_value tree)

-- trees with their types written out
abbrev pub views_over : List Shape → List Core → List Tree
views_over later trees = map (view_over later) trees

-- ---- structs and enums

-- what is known where the members of a struct begin
abbrev pub begun_with : Setting → Known → Option ℕ → Known
begun_with setting known tag =
    beginning (with_new_struct setting known tag (tag_inside setting known tag)) (struct_begun known (tag_inside setting known tag))

-- `struct` with members
abbrev pub struct_with : Setting → Bool → Known → Span → Option ℕ → Members → Outcome CType
struct_with setting used known span tag members =
    after (fields_of setting used (begun_with setting known tag) [] members)
    (λ behind typed_members. struct_ended behind span (struct_begun known (tag_inside setting known tag)) known.begun typed_members)

-- `enum` with enumerators
abbrev pub enum_with : Setting → Bool → Known → Span → Option ℕ → Enumerators → Outcome CType
enum_with setting used known span tag enumerators =
    after (enumerators_of setting used (enum_begun_with setting known tag) (negsuc 0) enumerators)
    (λ behind last. enum_ended_with behind span (not (is_some (tag_inside setting known tag))))

-- the type of a struct or an enum among specifiers. Other specifiers have none
abbrev pub type_of_specifier : Setting → Bool → Bool → Known → Specifier → Outcome CType
type_of_specifier setting used alone known (tree.struct_only span tag) = tagged_struct setting alone known span tag
type_of_specifier setting used alone known (tree.struct_with span tag members) = struct_with setting used known span tag members
type_of_specifier setting used alone known (tree.enum_only span tag trailing) = enum_named known span (tag_seen setting known tag)
type_of_specifier setting used alone known (tree.enum_with span tag enumerators trailing) = enum_with setting used known span tag enumerators
type_of_specifier setting used alone known other = broken 0 0

-- the type that a declarator makes of another
abbrev pub declared_type : Setting → Bool → Known → CType → Declarator → Outcome CType
declared_type setting used known base declarator = after (steps_of setting used known declarator) (λ behind steps. derived behind base steps)

-- the type of specifiers and a declarator
abbrev pub typed_with : Setting → Bool → Known → Specifiers → Declarator → Outcome CType
typed_with setting used known specifiers declarator =
    after (typed_specifiers setting used elsewhere false known specifiers) (λ behind base. declared_type setting used behind base declarator)

-- a member of a type that specifiers say
abbrev pub field_with : Setting → Bool → Known → CType → List TypedMember → Declarator → Outcome (List TypedMember)
field_with setting used known base before declarator =
    after (declared_type setting used known base declarator)
    (λ behind type. typed_field setting behind (declarator_span declarator).first (declarator_name declarator) before type)

-- an enumerator with a value
abbrev pub enumerator_with : Setting → Bool → Known → ℕ → Expr → Outcome ℤ
enumerator_with setting used known at value =
    after (typed setting used known value) (λ behind made. enumerator_valued setting behind at (expr_span value).first (as_value made))

-- an array of a length in front of other steps
abbrev pub sized_steps : Setting → Bool → Known → ℕ → List Step → Expr → Outcome (List Step)
sized_steps setting used known here steps value =
    after (typed setting used known value)
    (λ then_known made. with_it (length_of then_known (expr_span value).first (as_value made)) (λ behind n. arraying here (Some n) ∷ steps))

-- an array, with a length or without one
abbrev pub array_steps : Setting → Bool → Known → ℕ → List Step → Option Expr → Outcome (List Step)
array_steps setting used known here steps None = given known (arraying here None ∷ steps)
array_steps setting used known here steps (Some value) = sized_steps setting used known here steps value

-- a function in front of other steps
abbrev pub calling_steps : Setting → Bool → Known → ℕ → List Step → Parameters → Outcome (List Step)
calling_steps setting used known here steps parameters =
    with_it (left known.scopes (parameters_of setting used (entered known) parameters)) (λ behind typed_ones. calling here (without_void typed_ones) ∷ steps)
