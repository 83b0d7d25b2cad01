-- Trees under evaluation in small programs: the examples of `src/examples.rt`.
use Rattle.std.specs.Prelude.{ℕ, zero, suc, true, false, List, [], ◌∷◌, ◌++◌, Some, pos, codes}
use Rattle.dm_int.specs.declared.Kind.TheVariants.{Int}
use Rattle.dm_int.specs.declared.Op.TheVariants.{Add}
use Rattle.dm_type.specs.CTypes.{CType, void, integer, pointer, const}
use Rattle.dm_tree.specs.Trees.{object, read, address, binary, both, count, block, return, one_expression, Spans, Tree, node, trees}
use Rattle.dm_tree.specs.declared.unit.Linkage.{Linkage}
use Rattle.dm_tree.specs.declared.unit.Linkage.TheVariants.{Internal, External as ExternalLinkage}
use Rattle.dm_tree.specs.declared.unit.Sort.TheVariants.{Object}
use Rattle.dm_tree.specs.Units.{Declaration, External, declares, defines_function, TypedUnit}
use Rattle.dm_meaning.specs.Values.{At, numbered, integer_value}
use Rattle.dm_meaning.specs.Memory.{Block}
use Rattle.dm_meaning.specs.Programs.{Definition}
use Rattle.dm_meaning.specs.Operations.{of_value, designates, World, Objects, whole}
use Rattle.dm_meaning.specs.Running.{evaluates, Run, done, to_do, Hole, here, within, in_first, in_others, no_runs, more_runs, begun}
use Rattle.dm_meaning.specs.Examples.{at, types, constant, reading, counted, doubled, and_count, six_unit}
use Rattle.dm_rewrite.specs.Computed.{Computed}
use Rattle.dm_rewrite.specs.Effects.{Stage}
use Rattle.dm_rewrite.specs.NamedConstants.{Named}
use Rattle.dm_rewrite.specs.NamedUnits.{change_of}

abbrev int : CType
int = integer Int

-- a node at a place
abbrev spans : ℕ → Spans
spans n = record { inner = record { first = 0; after = 0 }; outer = record { first = 0; after = 0 }; place = at n }

-- ---- int i = 0; return i++ + i;

-- the object i: its declaration has the number 1, and in the run so has the object
abbrev pub i : At
i = whole (numbered 1)

-- the second operand
abbrev pub second : Run
second = begun (node read int (spans 7) (trees (node (object 1) int (spans 0) (trees []) ∷ [])))

-- the sum with the second operand left out, beside the first
abbrev pub beside : Run → Hole
beside first = within (evaluates (binary Add)) int (at 0) (in_others first (in_first here no_runs))

-- the first operand before it is evaluated, and after
abbrev pub first : Run
first = begun (counted 1)

abbrev pub first_done : Run
first_done = done int (of_value (integer_value Int (pos 0))) (i ∷ [])

-- what the second operand comes to where i has this value
abbrev pub read_as : ℕ → Computed
read_as n = record { result = of_value (integer_value Int (pos n)); reads = i ∷ [] }

-- ---- int x = 2; int y = 5; x && y++;

-- the objects of x and y have the numbers 1 and 2, and so have the declarations
abbrev pub x : At
x = whole (numbered 1)

abbrev pub y : At
y = whole (numbered 2)

abbrev pub objects : Objects
objects = (2, 2) ∷ (1, 1) ∷ []

-- no pointer leads to x, and no function is quiet
abbrev pub stage : Stage
stage = record { scene = record { program = and_count 2; objects = objects }; closed = 1 ∷ []; quiet = λ f. false }

-- an object of type int with this value
abbrev pub holding : ℕ → Block
holding n = record { kind = int; contents = integer_value Int (pos n); alive = true; writable = true }

-- where y has this value
abbrev pub world : ℕ → World
world n = record { memory = (2, holding n) ∷ (1, holding 2) ∷ []; input = []; output = [] }

abbrev pub both_read : Run
both_read = begun (node both int (spans 0) (trees (reading 1 ∷ counted 2 ∷ [])))

-- y++, where y is designated, and after its step
abbrev pub counting_y : Run
counting_y = to_do (evaluates (count true false)) int (at 0) (more_runs (done int (designates y) []) no_runs)

abbrev pub y_counted : Run
y_counted = done int (of_value (integer_value Int (pos 5))) (y ∷ [])

-- the value of x, where nothing is evaluated, and where x is designated
abbrev pub reading_x : Run
reading_x = begun (reading 1)

abbrev pub x_designated : Run
x_designated = done int (designates x) []

abbrev pub x_left_out : Hole
x_left_out = within (evaluates read) int (at 0) (in_first here no_runs)

abbrev pub x_read : Computed
x_read = record { result = of_value (integer_value Int (pos 2)); reads = x ∷ [] }

-- &x
abbrev pub address_of_x : Run
address_of_x = begun (node address (pointer int) (spans 0) (trees (node (object 1) int (spans 0) (trees []) ∷ [])))

-- a function of one parameter, which the declaration of x declares
abbrev pub function : Definition
function = record { function = 0; parameters = 1 ∷ []; body = node block void (spans 0) (trees []) }

-- ---- int before = 1; static const int SIX = 6; int behind = 2; int main(void) { return SIX + behind; }

abbrev const_int : CType
const_int = const int

abbrev object_entry : List ℕ → CType → Linkage → Declaration
object_entry name kind linkage = record { name = name; sort = Object true; kind = kind; linkage = linkage; place = at 0 }

-- an object in file scope with its first value, and main, which returns a sum
abbrev defining : ℕ → ℕ → External
defining d z = record {
  span = record { first = 0; after = 0 };
  constants = [];
  form = declares (record { declared = d; defines = true; initialiser = Some one_expression } ∷ []) (constant z ∷ []);
}

abbrev returning_sum : Tree → Tree → External
returning_sum left right = record {
  span = record { first = 0; after = 0 };
  constants = [];
  form = defines_function 0 [] (node block void (spans 0) (trees (node return void (spans 0) (trees (node (binary Add) int (spans 0) (trees (left ∷ right ∷ [])) ∷ [])) ∷ [])));
}

-- the read of SIX, whose declaration has the number 2
abbrev pub six_read : Tree
six_read = node read int (spans 0) (trees (node (object 2) const_int (spans 0) (trees []) ∷ []))

-- int before = 1; int behind = 2; int main(void) { return 3 * 2 + behind; }
abbrev pub sum_unit : TypedUnit
sum_unit = record {
  declared = six_unit.declared ++ object_entry (codes "before") int ExternalLinkage ∷ object_entry (codes "behind") int ExternalLinkage ∷ [];
  externals = defining 1 1 ∷ defining 2 2 ∷ returning_sum (doubled (constant 3)) (reading 2) ∷ [];
}

abbrev pub named_unit : TypedUnit
named_unit = record {
  declared =
      six_unit.declared ++ object_entry (codes "before") int ExternalLinkage ∷ object_entry (codes "SIX") const_int Internal ∷ object_entry (codes "behind") int ExternalLinkage ∷ [];
  externals = defining 1 1 ∷ defining 2 6 ∷ defining 3 2 ∷ returning_sum six_read (reading 3) ∷ [];
}

-- the numbers of the declarations where a third one is added, and the change between the programs
abbrev pub beyond_added : ℕ → ℕ
beyond_added zero = 0
beyond_added (suc zero) = 1
beyond_added (suc (suc d)) = suc (suc (suc d))

abbrev pub naming_six : Named
naming_six = change_of types named_unit sum_unit beyond_added 2 Int (pos 6)
