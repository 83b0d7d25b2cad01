-- Arguments whose evaluation has no undefined behaviour.
--     is_safe types unit argument      an argument that stands in the unit is an integer constant expression with a value (6.6), or made of
--         reads of integers that are set, by operators that can't go wrong
use Rattle.std.specs.Prelude.{ℕ, Bool, true, false, ◌&&◌, ◌||◌, not, ◌==◌, nat_le, nat_lt, slice_get, Option, Some, None, is_some, if◌then◌else◌}
use Rattle.std.specs.List.{list_any}
use Rattle.dm_int.specs.declared.Kind.{Kind}
use Rattle.dm_int.specs.declared.Op.{Op}
use Rattle.dm_int.specs.declared.Op.TheVariants as o
use Rattle.dm_int.specs.Kinds.{is_signed}
use Rattle.dm_type.specs.CTypes.{CType}
use Rattle.dm_type.specs.Tables.{Table}
use Rattle.dm_tree.specs.declared.tree.Sign.{Sign}
use Rattle.dm_tree.specs.declared.tree.Sign.TheVariants as s
use Rattle.dm_tree.specs.declared.unit.Sort.{Sort}
use Rattle.dm_tree.specs.declared.unit.Sort.TheVariants.{Object}
use Rattle.dm_tree.specs.Constants.{constant, integer_kind}
use Rattle.dm_tree.specs.Operands.{is_comparison}
use Rattle.dm_tree.specs.Scenes.{is_integer}
use Rattle.dm_tree.specs.Trees.{Label, number, enumerator, read, convert, unary, binary, both, either, choose, comma, Tree, Trees, no_trees, more_trees, kind_of, spans_of}
use Rattle.dm_tree.specs.Units.{Declaration, External, ExternalForm, declares, defines_function, TypedUnit}
use Rattle.dm_meaning.specs.Statements.{Local}
use Rattle.dm_effect.specs.Entities.{object_first, is_named, locals_of_unit}
use Rattle.dm_effect.specs.Forms.{Ruling, settled, by_operand, by_parts, is_built}

-- ---- objects that are set

-- the declarator defines the object
abbrev pub defines_here : ℕ → Local → Bool
defines_here d local = local.declarator.declared == d && local.declarator.defines

abbrev pub is_defined : TypedUnit → ℕ → Bool
is_defined one d = list_any (defines_here d) (locals_of_unit one)

-- the token is one of those of the tree, with all parentheses round it
abbrev pub holds : ℕ → Tree → Bool
holds token tree = nat_le (spans_of tree).outer.first token && nat_lt token (spans_of tree).outer.after

-- the declarator initialises the object, and the token stands outside its initialiser
abbrev pub initialises_apart : ℕ → ℕ → Local → Bool
initialises_apart token d local =
    local.declarator.declared == d && (is_some local.declarator.initialiser && not (list_any (holds token) local.expressions))

abbrev pub is_initialised : TypedUnit → Tree → ℕ → Bool
is_initialised one argument d = list_any (initialises_apart (spans_of argument).inner.first d) (locals_of_unit one)

-- a parameter of a function that the unit defines
abbrev pub has_parameter : ℕ → ExternalForm → Bool
has_parameter d (declares declarators trees) = false
has_parameter d (defines_function f parameters body) = list_any (λ c. c == d) parameters

abbrev pub is_parameter : TypedUnit → ℕ → Bool
is_parameter one d = list_any (λ (external : External). has_parameter d external.form) one.externals

-- An object has a value where the argument stands: it has static storage duration and the unit defines it (6.7.9p10), or it is a
-- parameter, or a declarator initialises it and the argument stands outside of its initialiser.
abbrev pub is_set_sort : TypedUnit → Tree → ℕ → Sort → Bool
is_set_sort one argument d (Object true) = is_defined one d
is_set_sort one argument d (Object false) = is_parameter one d || is_initialised one argument d
is_set_sort one argument d sort = false

-- an integer that is set
abbrev pub is_set_entry : TypedUnit → Tree → ℕ → Option Declaration → Bool
is_set_entry one argument d None = false
is_set_entry one argument d (Some entry) = is_integer entry.kind && is_set_sort one argument d entry.sort

abbrev pub is_set : TypedUnit → Tree → ℕ → Bool
is_set one argument d = is_set_entry one argument d (slice_get one.declared d)

-- ---- operators that can't go wrong

-- + - * of an unsigned kind wrap (6.2.5p9)
abbrev pub wraps : Option Kind → Bool
wraps None = false
wraps (Some kind) = not (is_signed kind)

abbrev pub is_safe_operator : Op → CType → Bool
is_safe_operator o.And kind = true
is_safe_operator o.Or kind = true
is_safe_operator o.Xor kind = true
is_safe_operator o.Add kind = wraps (integer_kind kind)
is_safe_operator o.Sub kind = wraps (integer_kind kind)
is_safe_operator o.Mul kind = wraps (integer_kind kind)
is_safe_operator op kind = is_comparison op

-- unary + ~ !
abbrev pub is_safe_sign : Sign → Bool
is_safe_sign s.Minus = false
is_safe_sign sign = true

-- a conversion of an integer to an integer type (6.3.1.3)
abbrev pub converts_integer : CType → Trees → Bool
converts_integer kind no_trees = false
converts_integer kind (more_trees operand lengths) = is_integer kind && is_integer (kind_of operand)

abbrev pub safe_rule : (ℕ → Bool) → Label → CType → Trees → Ruling
safe_rule test (number value) kind parts = settled true
safe_rule test (enumerator at) kind parts = settled true
safe_rule test read kind parts = settled (is_named test (object_first parts))
safe_rule test convert kind parts = if converts_integer kind parts then by_operand else settled false
safe_rule test (unary sign) kind parts = if is_safe_sign sign then by_parts else settled false
safe_rule test (binary op) kind parts = if is_safe_operator op kind then by_parts else settled false
safe_rule test both kind parts = by_parts
safe_rule test either kind parts = by_parts
safe_rule test choose kind parts = by_parts
safe_rule test comma kind parts = by_parts
safe_rule test label kind parts = settled false

abbrev pub is_safe : Table → TypedUnit → Tree → Bool
is_safe types one argument = is_some (constant types one.declared argument) || is_built (safe_rule (is_set one argument)) argument
