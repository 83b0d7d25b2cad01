-- The steps of nodes: what the operands of a typed node are, and what its step does.
--     IsResult layout tree result      the evaluation of a tree may come to the result
--     AreOperands layout opens trees operands      results of those trees below a node that are evaluated
--     DidFits scene world tree operands did      what the step of a typed node does
use Rattle.std.specs.Prelude.{◌≡◌, ◌⊎◌, ℕ, Bool, true, false, not, IsTrue, MatchBool, List, [], ◌∷◌, map, ℤ, Some}
use Rattle.dm_int.specs.declared.Kind.TheVariants.{Long}
use Rattle.dm_int.specs.Kinds.{is_in_range}
use Rattle.dm_type.specs.CTypes.{CType}
use Rattle.dm_tree.specs.Scenes.{is_lvalue}
use Rattle.dm_tree.specs.Trees.{Label, both, either, choose, comma, call, sizeof_tree, is_statement, Tree, Trees, no_trees, more_trees, kind_of}
use Rattle.dm_tree.specs.Units.{Declaration}
use Rattle.dm_tree.specs.Typing.{IsEntry}
use Rattle.dm_meaning.specs.declared.cause.Cause.TheVariants.{OtherType}
use Rattle.dm_meaning.specs.Among.{IsAmong}
use Rattle.dm_meaning.specs.Values.{At, Pointer, pointer_value}
use Rattle.dm_meaning.specs.Objects.{Layout}
use Rattle.dm_meaning.specs.Memory.{Memory, reached}
use Rattle.dm_meaning.specs.Causes.{is_other, pointer_distance}
use Rattle.dm_meaning.specs.Programs.{Program, layout, declaration_of}
use Rattle.dm_meaning.specs.Operations.{Result, of_value, designates, Operand, World, Scene, Did, gives, breaks, ends_with}
use Rattle.dm_meaning.specs.Running.{Open, first_open, others_open}
use Rattle.dm_sound.specs.TypedValues.{IsGiven, AreTyped, StaySet}
use Rattle.dm_sound.specs.TypedTrees.{IsProper, IsSoundTable}

-- an lvalue designates a place, and another expression gives a value of its type
abbrev pub IsResult : Layout → Tree → Result → Type 0
IsResult layout tree (of_value value) = IsTrue (not (is_lvalue tree)) × IsGiven layout (kind_of tree) value
IsResult layout tree (designates at) = IsTrue (is_lvalue tree)

abbrev pub IsOperand : Layout → Tree → Operand → Type 0
IsOperand layout tree operand = (operand.kind ≡ kind_of tree) × IsResult layout tree operand.result

abbrev pub FirstIs : Layout → Tree → List Operand → (List Operand → Type 0) → Type 0
FirstIs layout tree [] Others = ⊥
FirstIs layout tree (operand ∷ operands) Others = IsOperand layout tree operand × Others operands

-- the operands of a node, those of its parts that may be evaluated
abbrev pub AreOperands : Layout → Open → Trees → List Operand → Type 0
AreOperands layout opens no_trees [] = Unit {0}
AreOperands layout opens no_trees (operand ∷ operands) = ⊥
AreOperands layout opens (more_trees tree trees) operands =
    MatchBool (first_open opens) (FirstIs layout tree operands (AreOperands layout (others_open opens) trees)) (AreOperands layout (others_open opens) trees operands)

-- the step of the form goes by the results of its operands alone
abbrev pub is_operated : Label → Bool
is_operated both = false
is_operated either = false
is_operated choose = false
is_operated comma = false
is_operated call = false
is_operated sizeof_tree = false
is_operated label = not (is_statement label)

abbrev pub results : List Operand → List Result
results operands = map (λ operand. operand.result) operands

-- one of these results designates a place where an object of another type is than that of an access (6.5p7)
pub record IsMistyped (layout : Layout) (memory : Memory) (given : List Result) : Type 0 where
  pub at : At
  pub access : CType
  pub there : IsAmong (designates at) given
  pub other : is_other access (reached layout memory at) ≡ true

-- two of these results are pointers whose difference no long has (6.5.6p9)
pub record IsTooFar (layout : Layout) (memory : Memory) (given : List Result) : Type 0 where
  pub target : CType
  pub left : Pointer
  pub right : Pointer
  pub far : ℤ
  pub first : IsAmong (of_value (pointer_value left)) given
  pub second : IsAmong (of_value (pointer_value right)) given
  pub apart : pointer_distance layout memory target left right ≡ Some far
  pub beyond : is_in_range Long far ≡ false

-- What the step of a typed node does: it gives a result of the node, leaves each object a value of its type, and unsets none; or it is undefined. Where its
-- cause is that of another type, that is so by what memory holds, and not by the tree.
abbrev pub DidFits : Scene → World → Tree → List Operand → Did → Type 0
DidFits scene world tree operands (gives after result locks) =
    AreTyped (layout scene.program) after.memory × StaySet world.memory after.memory × IsResult (layout scene.program) tree result
DidFits scene world tree operands (breaks cause) =
    cause ≡ OtherType
    → IsMistyped (layout scene.program) world.memory (results operands) ⊎ IsTooFar (layout scene.program) world.memory (results operands)
DidFits scene world tree operands (ends_with status) = ⊥

-- the types of a program, and its declarations
pub record IsTypedScope (program : Program) : Type 0 where
  pub table : IsSoundTable program.table
  pub entries : (d : ℕ) (entry : Declaration) → declaration_of program d ≡ Some entry → IsEntry entry
  -- as those of a table are
  pub proper : (d : ℕ) (entry : Declaration) → declaration_of program d ≡ Some entry → IsProper entry.kind
