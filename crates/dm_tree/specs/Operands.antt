-- Which operands the operators on values take, and the type of what they give (6.3, 6.5).
use Rattle.std.specs.Prelude.{◌≡◌, ℕ, ℤ, Bool, true, false, ◌||◌, not, if◌then◌else◌, IsTrue, ◌⊎◌, List, [], ◌∷◌, Option, Some, None, IsSome, IfSome}
use Rattle.dm_int.specs.declared.Kind.{Kind}
use Rattle.dm_int.specs.declared.Kind.TheVariants as k
use Rattle.dm_int.specs.declared.Op.{Op}
use Rattle.dm_int.specs.declared.Op.TheVariants as o
use Rattle.dm_int.specs.Kinds.{InRange, promote, common}
use Rattle.dm_type.specs.CTypes.{CType, CTypes, void, integer, pointer, struct, function as function_type, no_types, more_types, bare}
use Rattle.dm_type.specs.Tables.{Table}
use Rattle.dm_tree.specs.Trees.{Tree, kind_of}
use Rattle.dm_tree.specs.Evaluation.{is_shift}
use Rattle.dm_tree.specs.Scenes.{Scene, IsValue, target, is_integer, is_pointer, is_scalar, is_void, is_array, IsComplete, are_alike, member_type, part_type, IsZero}

-- the types of pointers that may be converted into one another: they point to compatible types, their const apart, or one of them to void
abbrev pub are_convertible : CType → CType → Bool
are_convertible a b = are_alike a b || is_void (bare a) || is_void (bare b)

-- a value of a type may be converted to a pointer (6.5.4, 6.3.2.3): from another such pointer, or from a null pointer constant
abbrev pub BecomesPointer : Scene → Tree → CType → Option CType → Type 0
BecomesPointer scene operand to (Some from) = IsTrue (are_convertible from to)
BecomesPointer scene operand to None = IsZero scene operand

-- a value may be converted to a type: any to void, an integer to an integer type, a pointer to _Bool
abbrev pub Becomes : Scene → Tree → CType → Type 0
Becomes scene operand void = Unit {0}
Becomes scene operand (integer k.Bool) = IsTrue (is_scalar (kind_of operand))
Becomes scene operand (integer kind) = IsTrue (is_integer (kind_of operand))
Becomes scene operand (pointer to) = BecomesPointer scene operand to (target (kind_of operand))
Becomes scene operand type = ⊥

-- a promoted kind
abbrev pub IsPromoted : Kind → Type 0
IsPromoted kind = promote kind ≡ kind

-- a relation or equality (6.5.8, 6.5.9)
abbrev pub is_comparison : Op → Bool
is_comparison o.Less = true
is_comparison o.Greater = true
is_comparison o.LessEq = true
is_comparison o.GreaterEq = true
is_comparison o.Equal = true
is_comparison o.NotEqual = true
is_comparison op = false

-- addition or subtraction
abbrev pub is_additive : Op → Bool
is_additive o.Add = true
is_additive o.Sub = true
is_additive op = false

-- the type of what an operator gives on operands of a kind: an int for a comparison
abbrev pub result_type : Op → Kind → CType
result_type op kind = if is_comparison op then integer k.Int else integer kind

-- an operator on integers: both of one promoted kind, but each operand of a shift of its own (6.5.5 to 6.5.12)
abbrev pub FitsIntegers : Op → Kind → Kind → CType → Type 0
FitsIntegers op a b kind =
    IsPromoted a × IsPromoted b × (IsTrue (is_shift op) ⊎ (a ≡ b)) × (kind ≡ result_type op a)

-- an operator on two pointers to compatible types: a difference, which is a long, or a comparison (6.5.6p3, 6.5.8p2, 6.5.9p2)
abbrev pub FitsPointers : Scene → Op → CType → CType → CType → Type 0
FitsPointers scene o.Sub a b kind = IsTrue (are_alike a b) × IsComplete scene a × IsComplete scene b × (kind ≡ integer k.Long)
FitsPointers scene op a b kind = IsTrue (are_alike a b) × IsTrue (is_comparison op) × (kind ≡ integer k.Int)

-- a pointer and an integer: a sum in either order, or a difference (6.5.6p2, p3)
abbrev pub FitsMove : Scene → CType → CType → CType → Type 0
FitsMove scene a type kind = IsComplete scene a × (kind ≡ bare type)

-- the operands of a binary operator, by the kinds of those that are integers and the targets of those that are pointers
abbrev pub FitsBinary : Scene → Op → CType → CType → CType → Option Kind → Option Kind → Option CType → Option CType → Type 0
FitsBinary scene op left right kind (Some a) (Some b) from to = FitsIntegers op a b kind
FitsBinary scene op left right kind None None (Some a) (Some b) = FitsPointers scene op a b kind
FitsBinary scene o.Add left right kind None (Some b) (Some a) to = FitsMove scene a left kind
FitsBinary scene o.Sub left right kind None (Some b) (Some a) to = FitsMove scene a left kind
FitsBinary scene o.Add left right kind (Some a) None from (Some b) = FitsMove scene b right kind
FitsBinary scene op left right kind a b from to = ⊥

-- the operator of a compound assignment: the kind in which it works is the common one of the object's and its own, or for a shift the
-- promoted one, and the right operand has it, but for a shift its own promoted one (6.5.16.2)
abbrev pub FitsUpdate : Op → Kind → CType → Kind → Type 0
FitsUpdate op kind works right =
    IsTrue (not (is_comparison op)) × IsPromoted right
    × (works ≡ integer (if is_shift op then promote kind else right)) × (IsTrue (is_shift op) ⊎ (common kind right ≡ right))

-- + and - on a pointer work on the pointer itself, and their right operand is any integer (6.5.16.2p1)
abbrev pub UpdateFits : Scene → Op → CType → CType → Option Kind → Option Kind → Type 0
UpdateFits scene op kind works (Some object_kind) (Some right) = FitsUpdate op object_kind works right
UpdateFits scene op kind works None (Some right) = IsTrue (is_additive op) × IfSome (target kind) (IsComplete scene) × IsTrue (is_pointer kind) × (works ≡ kind)
UpdateFits scene op kind works a b = ⊥

-- an integer, or a pointer to a complete object type (6.5.2.4p1)
abbrev pub IsCountable : Scene → CType → Type 0
IsCountable scene type = IsTrue (is_scalar type) × IfSome (target type) (IsComplete scene)

-- the arms of ?: are of one type: a promoted integer, a struct, a pointer, or void (6.5.15p3)
abbrev pub IsArmType : CType → Type 0
IsArmType (integer kind) = IsPromoted kind
IsArmType (struct at) = Unit {0}
IsArmType (pointer type) = Unit {0}
IsArmType void = Unit {0}
IsArmType type = ⊥

-- arguments are as many as the parameters, and of their types without const (6.5.2.2p2)
abbrev pub FitParameters : List Tree → CTypes → Type 0
FitParameters [] no_types = Unit {0}
FitParameters (argument ∷ arguments) (more_types type types) =
    IsValue argument × (kind_of argument ≡ bare type) × FitParameters arguments types
FitParameters arguments types = ⊥

-- a call of a type: a function with such parameters, and the result without const
abbrev pub FitsCall : CType → List Tree → CType → Type 0
FitsCall (function_type result parameters) arguments kind = FitParameters arguments parameters × (kind ≡ bare result)
FitsCall type arguments kind = ⊥

-- a member of an lvalue has the const of the whole; one of a value has none, and is no array (6.5.2.3p3)
abbrev pub FitsMember : Table → Bool → CType → ℕ → CType → Type 0
FitsMember table true whole n kind = part_type table whole n ≡ Some kind × IsTrue (not (is_array whole))
FitsMember table false whole n kind = IfSome (member_type table whole n) (λ type. (kind ≡ bare type) × IsTrue (not (is_array type))) × IsSome (member_type table whole n)

-- a constant of a kind (6.4.4)
abbrev pub IsNumber : ℤ → CType → Type 0
IsNumber value (integer kind) = IsPromoted kind × InRange kind value
IsNumber value type = ⊥
