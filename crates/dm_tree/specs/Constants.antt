-- Integer constant expressions (6.6).
--     is_constant_form tree      its operands and operators are such as 6.6p3 and p6 allow, in parts that aren't evaluated too
--     constant_value table declared tree      the value of such a tree, unless there is a fault or a comma in a part that is evaluated
--     constant table declared tree      the value of a tree that is an integer constant expression with a value
use Rattle.std.specs.Prelude.{ℕ, ℤ, pos, Bool, true, false, ◌&&◌, ◌||◌, if◌then◌else◌, List, [], ◌∷◌, Option, Some, None, is_some, option_map, option_and_then, slice_get}
use Rattle.std.specs.List.{list_all}
use Rattle.std.specs.Result.{result_ok}
use Rattle.dm_int.specs.declared.Kind.{Kind}
use Rattle.dm_int.specs.declared.Op.{Op}
use Rattle.dm_int.specs.Kinds.{is_in_range, convert}
use Rattle.dm_int.specs.Operators.{truth, binary}
use Rattle.dm_type.specs.CTypes.{CType, integer, bare}
use Rattle.dm_type.specs.Layouts.{size_of}
use Rattle.dm_type.specs.Tables.{Table}
use Rattle.dm_tree.specs.declared.tree.Sign.{Sign}
use Rattle.dm_tree.specs.declared.unit.Sort.{Sort}
use Rattle.dm_tree.specs.declared.unit.Sort.TheVariants.{Enumerator}
use Rattle.dm_tree.specs.Evaluation.{is_true, is_right, unary_value}
use Rattle.dm_tree.specs.Trees.{Label, Tree, Trees, node, no_trees, more_trees, kind_of, number, enumerator, convert as conversion, unary, binary as operation, both, either, choose, comma, sizeof_tree, sizeof_kind}
use Rattle.dm_tree.specs.Units.{Declaration}

-- the kind of an integer type
abbrev pub kind_if_integer : CType → Option Kind
kind_if_integer (integer kind) = Some kind
kind_if_integer type = None

-- the kind of an integer type, const or not
abbrev pub integer_kind : CType → Option Kind
integer_kind type = kind_if_integer (bare type)

-- the operands and operators that 6.6p3 and p6 allow: integer constants, enumerators and sizeof, and on such the conversions and the
-- operators that neither assign nor call
abbrev pub is_constant_operator : Label → Bool
is_constant_operator conversion = true
is_constant_operator (unary sign) = true
is_constant_operator (operation op) = true
is_constant_operator both = true
is_constant_operator either = true
is_constant_operator choose = true
is_constant_operator comma = true
is_constant_operator other = false

abbrev pub is_constant_operand : Label → Bool
is_constant_operand (number value) = true
is_constant_operand (enumerator declared) = true
is_constant_operand sizeof_tree = true
is_constant_operand (sizeof_kind type) = true
is_constant_operand other = false

-- of a conversion only the first part is an operand
abbrev pub operands_pass : Label → List Bool → Bool
operands_pass conversion [] = false
operands_pass conversion (first ∷ rest) = first
operands_pass label passes = list_all (λ passed. passed) passes

-- a node is an operand, or an operator on operands, where it is told which of its parts have the form
abbrev pub is_constant_part : Label → List Bool → Bool
is_constant_part label passes = is_constant_operand label || is_constant_operator label && operands_pass label passes

-- it has the form if its type is an integer type too
abbrev pub has_constant_form : Label → CType → List Bool → Bool
has_constant_form label kind passes = is_some (integer_kind kind) && is_constant_part label passes

abbrev mutual
  pub is_constant_form : Tree → Bool
  is_constant_form (node label kind spans parts) = has_constant_form label kind (constant_forms parts)

  pub constant_forms : Trees → List Bool
  constant_forms no_trees = []
  constant_forms (more_trees first rest) = is_constant_form first ∷ constant_forms rest

-- the value of an enumerator
abbrev pub value_if_enumerator : Sort → Option ℤ
value_if_enumerator (Enumerator value) = Some value
value_if_enumerator other = None

abbrev pub enumerator_value : List Declaration → ℕ → Option ℤ
enumerator_value declared at = option_and_then (λ (entry : Declaration). value_if_enumerator entry.sort) (slice_get declared at)

-- a value converted to an integer type
abbrev pub converted_to : CType → ℤ → Option ℤ
converted_to type value = option_map (λ kind. convert kind value) (integer_kind type)

-- what an operator gives on operands of a kind, if they are values of it
abbrev pub signed_in : Sign → ℤ → Kind → Option ℤ
signed_in sign a kind = if is_in_range kind a then result_ok (unary_value sign kind a) else None

abbrev pub operated_in : Op → ℤ → ℤ → Kind → Option ℤ
operated_in op a b kind = if is_in_range kind a && is_right op kind b then result_ok (binary op kind a b) else None

-- and of an integer type
abbrev pub signed_value : Sign → CType → ℤ → Option ℤ
signed_value sign type a = option_and_then (signed_in sign a) (integer_kind type)

abbrev pub operated_value : Op → CType → ℤ → ℤ → Option ℤ
operated_value op type a b = option_and_then (operated_in op a b) (integer_kind type)

-- 1 or 0, as an operand is unequal to 0 or not
abbrev pub truth_of : ℤ → ℤ
truth_of value = truth (is_true value)

-- The value of a node by the types of its parts and their values, where they have some. The second operand of && and ||, and one of the
-- last two of ?:, isn't evaluated (6.5.13p4, 6.5.14p4, 6.5.15p4)
abbrev pub value_at : Table → List Declaration → Label → CType → List CType → List (Option ℤ) → Option ℤ
value_at table declared (number value) kind kinds values = Some value
value_at table declared (enumerator at) kind kinds values = enumerator_value declared at
value_at table declared sizeof_tree kind (operand ∷ []) values = option_map pos (size_of table operand)
value_at table declared (sizeof_kind type) kind kinds values = option_map pos (size_of table type)
value_at table declared conversion kind kinds (a ∷ lengths) = option_and_then (converted_to kind) a
value_at table declared (unary sign) kind (operand ∷ []) (a ∷ []) = option_and_then (signed_value sign operand) a
value_at table declared (operation op) kind (left ∷ right ∷ []) (a ∷ b ∷ []) = option_and_then (λ x. option_and_then (operated_value op left x) b) a
value_at table declared both kind kinds (a ∷ b ∷ []) = option_and_then (λ x. if is_true x then option_map truth_of b else Some (pos 0)) a
value_at table declared either kind kinds (a ∷ b ∷ []) = option_and_then (λ x. if is_true x then Some (pos 1) else option_map truth_of b) a
value_at table declared choose kind kinds (a ∷ b ∷ c ∷ []) = option_and_then (λ x. if is_true x then b else c) a
value_at table declared label kind kinds values = None

-- the types of trees
abbrev pub kinds_in : Trees → List CType
kinds_in no_trees = []
kinds_in (more_trees first rest) = kind_of first ∷ kinds_in rest

abbrev mutual
  pub constant_value : Table → List Declaration → Tree → Option ℤ
  constant_value table declared (node label kind spans parts) =
      value_at table declared label kind (kinds_in parts) (constant_values table declared parts)

  pub constant_values : Table → List Declaration → Trees → List (Option ℤ)
  constant_values table declared no_trees = []
  constant_values table declared (more_trees first rest) = constant_value table declared first ∷ constant_values table declared rest

abbrev pub constant : Table → List Declaration → Tree → Option ℤ
constant table declared tree = if is_constant_form tree then constant_value table declared tree else None
