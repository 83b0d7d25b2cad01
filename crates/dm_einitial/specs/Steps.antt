-- What the code has on the way through initialisers, as the definition has it.
--     initial_over, initials_over, first_over, part_over      initialisers, the scalar that stands first, and parts
use Rattle.std.specs.Prelude.{ℕ, ◌+◌, Bool, true, false, ◌&&◌, ◌||◌, not, nat_le, nat_lt, if◌then◌else◌, IsTrue, List, [], length, map, All, Option, Some, None, option_map, option_and_then, slice_get}
use Rattle.dm_token.specs.declared.place.Span.{Span}
use Rattle.dm_type.specs.declared.shape.Member.{Member}
use Rattle.dm_type.specs.declared.shape.Shape.{Shape}
use Rattle.dm_type.specs.CTypes.{CType, array as array_type}
use Rattle.dm_type.specs.Tables.{Table, IsId, members_of}
use Rattle.dm_syn.specs.Sources.{spelling_at}
use Rattle.dm_syn.specs.Trees.{Expr, Initialisers}
use Rattle.dm_syn.specs.Trees as tree
use Rattle.dm_tree.specs.declared.tree.Form.TheFolds as folds
use Rattle.dm_tree.specs.declared.tree.Initial.{Initial as InitialHeld}
use Rattle.dm_tree.specs.Constants.{integer_kind}
use Rattle.dm_tree.specs.Initialisers.{is_character, Reach as ReachIs, nowhere, place, start, element_address, subscripted}
use Rattle.dm_tree.specs.Scenes.{Scene}
use Rattle.dm_tree.specs.Trees.{Label, address, Tree, in_braces, no_items, more_items}
use Rattle.dm_tree.specs.TypeNumbers.{form_known, initial_known, core_known, local_known}
use Rattle.dm_tree.specs.Views.{Opened, OpenedInitial, OpenedLocal, form_layer, initial_layer, core_layer, local_layer, items_of, expressions_of_items}
use Rattle.dm_typing.specs.Known.{Known, Setting, Outcome, given, broken, after, with_it, if_given}
use Rattle.dm_typing.specs.Conversions.{as_type, as_value}
use Rattle.dm_typing.specs.Rules.{is_assignable, with_const_if}
use Rattle.dm_typing.specs.Typing.{typed}
use Rattle.dm_typing.specs.Views.{type_over}
use Rattle.dm_einitial.specs.declared.addresses.Reach.{Reach as ReachHeld}
use Rattle.dm_einitial.specs.declared.addresses.Reach.TheVariants as reach
use Rattle.dm_einitial.specs.declared.parts.First.{First as FirstHeld}
use Rattle.dm_einitial.specs.declared.parts.BarePart.{BarePart}
use Rattle.dm_edecl.specs.Initialising.{count_items, Initial, Initials, First, is_static_value, has_value, first_scalar, zero_initialised, if_part, misplaced, typed_initialiser}

-- ---- initialisers

-- an initialiser and its expressions
abbrev pub opened_initial : Table → InitialHeld → OpenedInitial
opened_initial types = folds.fold-Initial Opened OpenedInitial Tree OpenedLocal (form_layer types) initial_layer (core_layer types) local_layer

abbrev pub initial_of : OpenedInitial → Initial
initial_of opened = record { form = opened.initialiser; expressions = opened.expressions }

abbrev pub initial_over : List Shape → InitialHeld → Initial
initial_over later initial = initial_of (opened_initial (record { shapes = later; structs = [] }) initial)

abbrev pub initials_over : List Shape → List InitialHeld → Initials
initials_over later initials = record {
  forms = items_of (map (opened_initial (record { shapes = later; structs = [] })) initials);
  expressions = expressions_of_items (map (opened_initial (record { shapes = later; structs = [] })) initials);
}

-- its types are numbered
abbrev pub are_known_in_initial : ℕ → InitialHeld → Bool
are_known_in_initial types = folds.fold-Initial Bool Bool Bool Bool (form_known types) initial_known (core_known types) local_known

abbrev pub InitialFits : Table → InitialHeld → Type 0
InitialFits types initial = IsTrue (are_known_in_initial (length types.shapes) initial)

abbrev pub InitialsFit : Table → List InitialHeld → Type 0
InitialsFit types initials = All (InitialFits types) initials

-- ---- one expression

-- the rule that a scalar's value breaks first, where it is told whether it obeys each
abbrev pub rule_by : Bool → Bool → Bool → Option ℕ
rule_by false assignable value = Some 8
rule_by true false value = Some 28
rule_by true true false = Some 30
rule_by true true true = None

abbrev pub scalar_rule : Known → Bool → CType → Tree → Option ℕ
scalar_rule known fixed type value = rule_by (not fixed || is_static_value known value) (is_assignable known value type) (not fixed || has_value known value)

-- the tree of a scalar's initialiser
abbrev pub value_unless : Option ℕ → Known → CType → ℕ → Tree → Outcome Tree
value_unless (Some rule) known type here value = broken rule here
value_unless None known type here value = given known (as_type type value)

abbrev pub scalar_value : Known → Bool → CType → ℕ → Tree → Outcome Tree
scalar_value known fixed type here value = value_unless (scalar_rule known fixed type value) known type here value

-- an initialiser in braces of its own
abbrev pub alone_in_braces : Initial → Initial
alone_in_braces initial = record initial { form = in_braces (more_items initial.form no_items) }

-- how a tree reaches an object with static storage
abbrev pub reach_of : ReachHeld → ReachIs
reach_of reach.Nowhere = nowhere
reach_of reach.Place = place
reach_of reach.Start = start
reach_of reach.ElementAddress = element_address

-- the form is unary &
abbrev pub is_address : Label → Bool
is_address address = true
is_address label = false

-- what a part of a place is
abbrev pub of_place : ReachIs → ReachIs → ReachIs
of_place place it = it
of_place other it = nowhere

-- a sum of the address of a first element and a subscript, in either order
abbrev pub of_sum : Scene → Tree → Tree → ReachIs → ReachIs → ReachIs
of_sum scene left right start second = subscripted scene right
of_sum scene left right first start = subscripted scene left
of_sum scene left right first second = nowhere

-- the element whose address the tree below has, from the same tokens
abbrev pub of_element : Bool → ReachIs → ReachIs
of_element same element_address = if same then place else nowhere
of_element same other = nowhere

-- the token of an expression that is a string literal, and of one that is a constant
abbrev pub literal_at : Expr → Option ℕ
literal_at (tree.literal span) = Some span.first
literal_at expr = None

abbrev pub constant_at : Expr → Option ℕ
constant_at (tree.constant span) = Some span.first
constant_at expr = None

-- so many bytes find room in an array of characters (6.7.9p14)
abbrev pub has_room : ℕ → CType → Bool
has_room bytes (array_type type (Some n)) = is_character (integer_kind type) && nat_le bytes n
has_room bytes type = false

-- ---- arrays of unknown length

abbrev pub unsized_elements : CType → Option CType
unsized_elements (array_type type None) = Some type
unsized_elements type = None

-- how long one becomes by a string literal with its closing 0, and by a list that has items
abbrev pub length_with_end : Setting → Option ℕ → Option ℕ
length_with_end setting literal = option_map (λ at. length (spelling_at setting.source at) + 1) literal

abbrev pub count_if_any : Initialisers → Option ℕ
count_if_any tree.no_initialisers = None
count_if_any (tree.more_initialisers first others) = Some (count_items others + 1)

abbrev pub said_length : Setting → tree.Initialiser → Option ℕ
said_length setting (tree.value span expr) = length_with_end setting (literal_at expr)
said_length setting (tree.braces span items trailing) = count_if_any items

-- an array of these elements that has the length, where there is one
abbrev pub sized : CType → CType → Option ℕ → CType
sized whole type None = whole
sized whole type (Some n) = array_type type (Some n)

-- ---- parts

-- a part of a type, to which the const of the whole goes
abbrev pub part_over : List Shape → BarePart → CType
part_over later part = with_const_if part.becomes_const (type_over later part.kind)

abbrev pub PartFits : Table → BarePart → Type 0
PartFits types part = IsId types part.kind

-- the number of a member's type
abbrev pub member_number : Table → ℕ → ℕ → Option ℕ
member_number table struct n = option_and_then (λ (members : List Member). option_map (λ (one : Member). one.kind) (slice_get members n)) (members_of table struct)

-- a part by the number of its type
abbrev pub bare_part : Bool → ℕ → BarePart
bare_part becomes_const kind = record { kind = kind; becomes_const = becomes_const }

-- an element of an array
abbrev pub element_number : ℕ → Option ℕ → ℕ → Option BarePart
element_number kind None n = None
element_number kind (Some many) n = if nat_lt n many then Some (bare_part false kind) else None

-- an array of known length
abbrev pub is_sized : CType → Bool
is_sized (array_type type (Some n)) = true
is_sized type = false

-- the scalar that stands first
abbrev pub first_over : List Shape → FirstHeld → First
first_over later first = record { depth = first.depth; kind = type_over later first.kind }

abbrev pub FirstFits : Table → FirstHeld → Type 0
FirstFits types first = IsId types first.kind

-- so many parts more are round it
abbrev pub within : ℕ → Option First → Option First
within depth found = option_map (λ (first : First). record first { depth = first.depth + depth }) found

-- ---- lists

-- the one expression of a list that has nothing else, and its own tokens
abbrev pub sole_value : Initialisers → Option (Span × Expr)
sole_value (tree.more_initialisers (tree.value at expr) tree.no_initialisers) = Some (at, expr)
sole_value items = None

-- the 0 for the scalar that stands first
abbrev pub zero_for : Setting → Bool → Known → CType → Span → Span → Expr → Outcome Initial
zero_for setting fixed known type span at expr =
    after (typed setting true known expr) (λ behind made. if_given (first_scalar known.types type) 8 span.first
    (λ first. zero_initialised behind fixed first at.first (as_value made)))

-- the first of some items, for a part. Behind the last part none may stand
abbrev pub typed_item : Setting → Bool → Known → Option CType → Span → tree.Initialiser → Initialisers → Outcome Initial
typed_item setting fixed known part span first items =
    if_part part (misplaced setting known span items) (λ type. typed_initialiser setting fixed known type first)

-- only what is known behind expressions, or the rule that they break
abbrev pub dropped : Outcome (List Tree) → Outcome (Unit {0})
dropped outcome = with_it outcome (λ behind trees. tt)

-- nothing is seen of what they leave
abbrev pub nothing_over : {A : Type 0} → List Shape → A → Unit {0}
nothing_over later it = tt
