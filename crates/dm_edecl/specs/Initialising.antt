-- The typing of initialisers (6.7.9).
--     typed_initialiser setting fixed known type initialiser      what initialises an object of a type, with static storage or without
--     completed setting type initialiser      the type of an array of unknown length that has this initialiser
--     expressions_alone setting known initialiser      only the expressions of an initialiser that initialises nothing
use Rattle.std.specs.Prelude.{ℕ, zero, suc, ◌+◌, ℤ, Bool, true, false, ◌&&◌, ◌||◌, not, nat_le, nat_lt, if◌then◌else◌, List, [], ◌∷◌, ◌++◌, length, Option, Some, None, is_some, option_map, option_and_then, bytes_eq, codes}
use Rattle.std.specs.List.{list_any}
use Rattle.dm_token.specs.declared.place.Span.{Span}
use Rattle.dm_type.specs.CTypes.{CType, array as array_type}
use Rattle.dm_type.specs.Tables.{Table}
use Rattle.dm_syn.specs.Sources.{spelling_at}
use Rattle.dm_syn.specs.Trees.{Expr, Initialiser, Initialisers}
use Rattle.dm_syn.specs.Trees as tree
use Rattle.dm_tree.specs.Constants.{integer_kind, is_constant_form, constant_value}
use Rattle.dm_tree.specs.Evaluation.{is_true}
use Rattle.dm_tree.specs.Initialisers.{is_character, Reach, place, start, reach}
use Rattle.dm_tree.specs.Trees.{Label, Tree, Trees, node, no_trees, more_trees, kind_of, one_expression, in_braces, no_items, more_items}
use Rattle.dm_tree.specs.Trees as label
use Rattle.dm_tree.specs.Scenes.{is_scalar, part_type}
use Rattle.dm_typing.specs.Known.{Known, Setting, Outcome, given, broken, after, obeys, if_given}
use Rattle.dm_typing.specs.Conversions.{as_value, as_type, constant_of, is_null}
use Rattle.dm_typing.specs.Rules.{is_assignable}
use Rattle.dm_typing.specs.Sound.{scene_of}
use Rattle.dm_typing.specs.Typing.{typed}

-- an initialiser that is typed: how it is written, and its expressions in order
pub record Initial : Type 0 where
  pub form : label.Initialiser
  pub expressions : List Tree

pub record Initials : Type 0 where
  pub forms : label.Initialisers
  pub expressions : List Tree

abbrev pub no_initials : Initials
no_initials = record { forms = no_items; expressions = [] }

abbrev pub with_first : Initial → Initials → Initials
with_first first others = record { forms = more_items first.form others.forms; expressions = first.expressions ++ others.expressions }

abbrev pub enclosed : Initials → Initial
enclosed items = record { form = in_braces items.forms; expressions = items.expressions }

abbrev pub single : Tree → Initial
single tree = record { form = one_expression; expressions = tree ∷ [] }

-- ---- static storage (6.7.9p4)

-- a value that is there and unequal to 0, and one that is 0
abbrev pub is_nonzero : Option ℤ → Bool
is_nonzero None = false
is_nonzero (Some value) = is_true value

abbrev pub is_zero : Option ℤ → Bool
is_zero None = false
is_zero (Some value) = not (is_true value)

-- a comma stands in a part that is evaluated, where it is told what the value of each part is and whether a comma stands so in it (6.6p3)
abbrev pub comma_at : Label → List (Option ℤ) → List Bool → Bool
comma_at label.comma values commas = true
comma_at label.convert values (first ∷ lengths) = first
comma_at label.sizeof_tree values commas = false
comma_at (label.sizeof_kind type) values commas = false
comma_at label.both (a ∷ others) (first ∷ second ∷ []) = first || is_nonzero a && second
comma_at label.either (a ∷ others) (first ∷ second ∷ []) = first || is_zero a && second
comma_at label.choose (a ∷ others) (first ∷ second ∷ third ∷ []) = first || is_nonzero a && second || is_zero a && third
comma_at label values commas = list_any (λ comma. comma) commas

abbrev mutual
  pub has_comma : Known → Tree → Bool
  has_comma known (node label kind spans parts) = comma_at label (values_in known parts) (have_commas known parts)

  pub have_commas : Known → Trees → List Bool
  have_commas known no_trees = []
  have_commas known (more_trees first rest) = has_comma known first ∷ have_commas known rest

  pub values_in : Known → Trees → List (Option ℤ)
  values_in known no_trees = []
  values_in known (more_trees first rest) = constant_value known.types known.declared first ∷ values_in known rest

-- an integer constant expression, with a value or without (6.6p3, p6)
abbrev pub is_constant_expression : Known → Tree → Bool
is_constant_expression known tree = is_constant_form tree && not (has_comma known tree)

-- the address of an object with static storage, or the decay of one (6.6p9)
abbrev pub is_place : Reach → Bool
is_place place = true
is_place reach = false

abbrev pub is_start : Reach → Bool
is_start start = true
is_start reach = false

abbrev pub is_address_constant : Known → Tree → Bool
is_address_constant known (node label.address kind spans (more_trees operand no_trees)) = is_place (reach (scene_of known) operand)
is_address_constant known tree = is_start (reach (scene_of known) tree)

-- C8 of static storage: an integer constant expression, a null pointer constant or an address constant
abbrev pub is_static_value : Known → Tree → Bool
is_static_value known tree = is_constant_expression known tree || is_null known tree || is_address_constant known tree

-- C30: an integer constant expression has a value
abbrev pub has_value : Known → Tree → Bool
has_value known tree = not (is_constant_expression known tree) || is_some (constant_of known tree)

-- ---- one expression

-- a scalar is initialised as if by assignment (6.7.9p11): C8, C28, C30
abbrev pub scalar_initialised : Known → Bool → CType → ℕ → Tree → Outcome Initial
scalar_initialised known fixed type here value =
    obeys (not fixed || is_static_value known value) 8 here
    (obeys (is_assignable known value type) 28 here
    (obeys (not fixed || has_value known value) 30 here
    (given known (single (as_type type value)))))

-- a string literal for an array of characters, in which it fits without its closing 0 (6.7.9p14)
abbrev pub is_string_for : Setting → Expr → CType → Bool
is_string_for setting (tree.literal span) (array_type type (Some n)) =
    is_character (integer_kind type) && nat_le (length (spelling_at setting.source span.first)) n
is_string_for setting expr type = false

-- C8: one expression initialises a scalar, and a string literal an array of characters
abbrev pub initialised_by : Setting → Known → Bool → CType → ℕ → Expr → Tree → Outcome Initial
initialised_by setting known fixed type here expr tree =
    if is_scalar type then scalar_initialised known fixed type here (as_value tree)
    else obeys (is_string_for setting expr type) 8 here (given known (single tree))

-- ---- `{0}`

abbrev pub is_zero_token : Setting → Expr → Bool
is_zero_token setting (tree.constant span) = bytes_eq (spelling_at setting.source span.first) (codes "0")
is_zero_token setting expr = false

-- the scalar that stands first in a type, and how many parts are round it
pub record First : Type 0 where
  pub depth : ℕ
  pub kind : CType

abbrev pub deeper : First → First
deeper first = record first { depth = suc first.depth }

abbrev pub first_if_scalar : CType → Option First
first_if_scalar type = if is_scalar type then Some (record { depth = 0; kind = type }) else None

-- in an array it stands in the first element
abbrev pub first_in_array : (CType → Option First) → CType → Option First
first_in_array inner (array_type type (Some n)) = if nat_lt 0 n then option_map deeper (first_in_array inner type) else None
first_in_array inner type = inner type

-- and in a struct in the first member
abbrev pub first_in_struct : (CType → Option First) → Table → CType → Option First
first_in_struct inner table type =
    if is_scalar type then first_if_scalar type else option_map deeper (option_and_then inner (part_type table type 0))

-- structs being within each other so deeply
unfoldable pub first_within : ℕ → Table → CType → Option First
first_within zero table type = first_in_array first_if_scalar type
first_within (suc depth) table type = first_in_array (first_in_struct (first_within depth table) table) type

-- structs are not more deeply within each other than there are
abbrev pub first_scalar : Table → CType → Option First
first_scalar table type = first_within (length table.structs) table type

-- so many braces round one expression
abbrev pub in_each_brace : ℕ → label.Initialiser
in_each_brace zero = one_expression
in_each_brace (suc n) = in_braces (more_items (in_each_brace n) no_items)

abbrev pub braced : ℕ → Initial → Initial
braced depth initial = record initial { form = in_each_brace depth }

-- the 0 initialises the scalar that stands first, as if inner braces stood (6.7.9p20)
abbrev pub zero_initialised : Known → Bool → First → ℕ → Tree → Outcome Initial
zero_initialised known fixed first here value =
    after (scalar_initialised known fixed first.kind here value) (λ behind initial. given behind (braced first.depth initial))

-- ---- arrays of unknown length (6.7.9p22)

abbrev pub count_items : Initialisers → ℕ
count_items tree.no_initialisers = 0
count_items (tree.more_initialisers first others) = count_items others + 1

abbrev pub completed : Setting → CType → Initialiser → CType
completed setting (array_type type None) (tree.value span (tree.literal at)) =
    array_type type (Some (length (spelling_at setting.source at.first) + 1))
completed setting (array_type type None) (tree.braces span (tree.more_initialisers first others) trailing) =
    array_type type (Some (count_items others + 1))
completed setting type initialiser = type

-- ---- the syntax

-- what initialises nothing is typed all the same
unfoldable mutual
  pub expressions_alone : Setting → Known → Initialiser → Outcome (List Tree)
  expressions_alone setting known (tree.value span expr) = after (typed setting true known expr) (λ behind made. given behind (as_value made ∷ []))
  expressions_alone setting known (tree.braces span items trailing) = all_expressions_alone setting known items

  pub all_expressions_alone : Setting → Known → Initialisers → Outcome (List Tree)
  all_expressions_alone setting known tree.no_initialisers = given known []
  all_expressions_alone setting known (tree.more_initialisers first others) =
      after (expressions_alone setting known first) (λ then_known made. after (all_expressions_alone setting then_known others)
      (λ behind more. given behind (made ++ more)))

-- a list that initialises nothing
abbrev pub misplaced : Setting → Known → Span → Initialisers → Outcome Initial
misplaced setting known span items = after (all_expressions_alone setting known items) (λ behind trees. broken 8 span.first)

-- C8: a scalar has one expression in braces at most (6.7.9p11)
abbrev pub scalar_in_braces : Setting → Bool → Known → CType → Span → Initialisers → Outcome Initial
scalar_in_braces setting fixed known type span (tree.more_initialisers (tree.value at expr) tree.no_initialisers) =
    after (typed setting true known expr) (λ behind made. scalar_initialised behind fixed type at.first (as_value made))
scalar_in_braces setting fixed known type span items = misplaced setting known span items

-- `{0}` initialises an array or a struct
abbrev pub is_zero_list : Setting → Initialisers → Bool → Bool
is_zero_list setting (tree.more_initialisers (tree.value at expr) tree.no_initialisers) false = is_zero_token setting expr
is_zero_list setting items trailing = false

abbrev pub all_zero : Setting → Bool → Known → CType → Span → Initialisers → Outcome Initial
all_zero setting fixed known type span (tree.more_initialisers (tree.value at expr) tree.no_initialisers) =
    after (typed setting true known expr) (λ behind made. if_given (first_scalar known.types type) 8 span.first
    (λ first. zero_initialised behind fixed first at.first (as_value made)))
all_zero setting fixed known type span items = misplaced setting known span items

-- a part, or none: behind the last part no initialiser may stand
abbrev pub if_part : {A : Type 0} → Option CType → Outcome A → (CType → Outcome A) → Outcome A
if_part None surplus typed_part = surplus
if_part (Some type) surplus typed_part = typed_part type

unfoldable mutual
  pub typed_initialiser : Setting → Bool → Known → CType → Initialiser → Outcome Initial
  typed_initialiser setting fixed known type (tree.value span expr) =
      after (typed setting true known expr) (λ behind made. initialised_by setting behind fixed type span.first expr made)
  typed_initialiser setting fixed known type (tree.braces span items trailing) =
      if is_scalar type then scalar_in_braces setting fixed known type span items
      else if is_zero_list setting items trailing then all_zero setting fixed known type span items
      else after (typed_initialisers setting fixed known type span 0 items) (λ behind made. given behind (enclosed made))

  -- C8: the items of a list from a part on. It has no more items than the array or the struct has parts (6.7.9p2)
  pub typed_initialisers : Setting → Bool → Known → CType → Span → ℕ → Initialisers → Outcome Initials
  typed_initialisers setting fixed known type span n tree.no_initialisers = given known no_initials
  typed_initialisers setting fixed known type span n (tree.more_initialisers first others) =
      after
      (if_part (part_type known.types type n) (misplaced setting known span (tree.more_initialisers first others))
      (λ part. typed_initialiser setting fixed known part first))
      (λ then_known made. after (typed_initialisers setting fixed then_known type span (n + 1) others) (λ behind more. given behind (with_first made more)))
