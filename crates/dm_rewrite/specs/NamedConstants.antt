-- A program in which integer constant expressions have become reads of an added const object of the same type and value (6.6, 6.7.3).
--     Named      the old program, what the new one has, and the added object
--     Agrees change tree other      a tree of the new program and one of the old are the same but for such places
--     IsNaming change      the programs are the same but for such places
--     RunAgrees change n run other      trees under evaluation, where the added object has the number n
--     HasHeld change n memory      the added object is there, and holds its value
--     Matched change n scene world locks other move      a step of the new program is met in the old one
--     AddsObject change      the static objects of the new program are those of the old one and the added one
use Rattle.std.specs.Prelude.{◌≡◌, ◌⊎◌, ℕ, false, true, List, [], ◌∷◌, ◌++◌, map, Some, option_map, ℤ}
use Rattle.dm_int.specs.declared.Kind.{Kind}
use Rattle.dm_int.specs.Kinds.{convert}
use Rattle.dm_type.specs.CTypes.{CType, integer, const}
use Rattle.dm_tree.specs.Scenes.{Scene}
use Rattle.dm_tree.specs.Trees.{Label, object, read, case, sizeof_tree, one_expression, Spans, Tree, Trees, node, no_trees, more_trees, label_of, kind_of, trees_of}
use Rattle.dm_tree.specs.Typing.{IsWellTyped}
use Rattle.dm_tree.specs.Units.{Declaration}
use Rattle.dm_meaning.specs.Among.{IsAmong}
use Rattle.dm_meaning.specs.Values.{At, numbered, integer_value}
use Rattle.dm_meaning.specs.Memory.{Memory, Block, look_up}
use Rattle.dm_meaning.specs.Programs.{Definition, Static, Program, declaration_of, constant_of}
use Rattle.dm_meaning.specs.Operations.{Objects, World, Scene as Meaning, object_named, designates, whole}
use Rattle.dm_meaning.specs.Running.{Doing, evaluates, Run, done, to_do, Runs, no_runs, more_runs, begun, Hole, here, within, Holes, in_first, in_others}
use Rattle.dm_meaning.specs.Expressions.{Move, goes, moves}
use Rattle.dm_meaning.specs.Statements.{type_declared}
use Rattle.dm_meaning.specs.Replaced.{relabelled, Zipped, facts_of}
use Rattle.dm_meaning.proofs.QuietLemmas.{Quietly, Fails}
use Rattle.dm_meaning.proofs.RunLemmas.{redone, MoveAgrees}

-- The old program; the declarations, functions and static objects of the new one, whose types are the same; the number that each of the old
-- declarations has among the new ones; the number of the added object's declaration, the kind of its type and its value.
pub record Named : Type 0 where
  pub old : Program
  pub declared : List Declaration
  pub functions : List Definition
  pub statics : List Static
  pub rename : ℕ → ℕ
  pub added : ℕ
  pub kind : Kind
  pub value : ℤ

abbrev pub new_of : Named → Program
new_of change = record { declared = change.declared; functions = change.functions; statics = change.statics; table = change.old.table }

-- ---- trees

-- an integer constant expression of the old program with the type and the value of the added object
pub record IsConstant (change : Named) (tree : Tree) : Type 0 where
  pub kind : kind_of tree ≡ integer change.kind
  pub value : constant_of change.old tree ≡ Some change.value
  pub scene : Scene
  pub typed : IsWellTyped scene tree

-- a read of the added object stands where there was such a constant expression
pub record IsRead (change : Named) (label : Label) (kind : CType) (parts : Trees) (other : Tree) : Type 0 where
  pub named_kind : CType
  pub named_spans : Spans
  pub is : label ≡ read
  pub names : parts ≡ more_trees (node (object change.added) named_kind named_spans no_trees) no_trees
  pub typed : kind ≡ integer change.kind
  pub constant : IsConstant change other

-- the labels `case` of a switch have the same values
abbrev pub SameCase : Named → Label → Trees → Trees → Type 0
SameCase change case (more_trees value rest) (more_trees other others) = constant_of (new_of change) value ≡ constant_of change.old other
SameCase change label parts others = Unit {0}

abbrev mutual
  -- a tree is another one but for places at which the added object is read
  pub Agrees : Named → Tree → Tree → Type 0
  Agrees change (node label kind spans parts) other =
      ((label ≡ relabelled change.rename (label_of other)) × (kind ≡ kind_of other) × SameCase change (label_of other) parts (trees_of other) × AllAgree change parts (trees_of other))
      ⊎ IsRead change label kind parts other

  pub AllAgree : Named → Trees → Trees → Type 0
  AllAgree change no_trees no_trees = Unit {0}
  AllAgree change (more_trees first rest) (more_trees other others) = Agrees change first other × AllAgree change rest others
  AllAgree change parts others = ⊥

-- ---- programs

abbrev pub DefinitionAgrees : Named → Definition → Definition → Type 0
DefinitionAgrees change definition other =
    (definition.function ≡ change.rename other.function) × (definition.parameters ≡ map change.rename other.parameters)
    × AllAgree change (trees_of definition.body) (trees_of other.body)

-- The functions of the programs differ in such places alone: each old declaration has one number among the new ones, with its name, sort and
-- type, and the added object has another.
pub record IsNaming (change : Named) : Type 0 where
  pub injective : (c d : ℕ) → change.rename c ≡ change.rename d → c ≡ d
  pub apart : (d : ℕ) → change.rename d ≡ change.added → ⊥
  pub told : (d : ℕ) → option_map facts_of (declaration_of (new_of change) (change.rename d)) ≡ option_map facts_of (declaration_of change.old d)
  pub functions : Zipped (DefinitionAgrees change) change.functions change.old.functions

-- ---- objects of static storage duration

-- the operand of sizeof isn't evaluated (6.5.3.4p2)
abbrev pub IfSizeof : Label → Type 0 → Type 0 → Type 0
IfSizeof sizeof_tree inside others = inside
IfSizeof label inside others = others

abbrev mutual
  -- The same initialiser by the new numbers: it is constant (6.7.9p4), and no read is, but in such an operand.
  pub IsRenamed : Named → Tree → Tree → Type 0
  IsRenamed change (node label kind spans parts) other =
      (label ≡ relabelled change.rename (label_of other)) × (kind ≡ kind_of other)
      × IfSizeof (label_of other) (AllAgree change parts (trees_of other)) (AreRenamed change parts (trees_of other))

  pub AreRenamed : Named → Trees → Trees → Type 0
  AreRenamed change no_trees no_trees = Unit {0}
  AreRenamed change (more_trees first rest) (more_trees other others) = IsRenamed change first other × AreRenamed change rest others
  AreRenamed change parts others = ⊥

abbrev pub StaticAgrees : Named → Static → Static → Type 0
StaticAgrees change static other =
    (static.declared ≡ change.rename other.declared) × (static.initialiser ≡ other.initialiser)
    × Zipped (IsRenamed change) static.expressions other.expressions

-- the added object, whose initialiser is an integer constant expression: converted to the object's type it has the value
pub record IsAddedObject (change : Named) (static : Static) : Type 0 where
  pub declared : static.declared ≡ change.added
  pub kind : type_declared (new_of change) change.added ≡ const (integer change.kind)
  pub initialiser : static.initialiser ≡ Some one_expression
  pub tree : Tree
  pub expressions : static.expressions ≡ tree ∷ []
  pub number : ℤ
  pub constant : constant_of (new_of change) tree ≡ Some number
  pub converted : convert change.kind number ≡ change.value

-- the objects of static storage duration of the old program, in order, and the added one among them
pub record AddsObject (change : Named) : Type 0 where
  pub before : List Static
  pub added : Static
  pub behind : List Static
  pub statics : change.statics ≡ before ++ added ∷ behind
  pub others : Zipped (StaticAgrees change) (before ++ behind) change.old.statics
  pub object : IsAddedObject change added

-- ---- the added object

-- what it holds from the beginning: it is const
abbrev pub held : Named → Block
held change = record { kind = const (integer change.kind); contents = integer_value change.kind change.value; alive = true; writable = false }

abbrev pub HasHeld : Named → ℕ → Memory → Type 0
HasHeld change n memory = look_up memory n ≡ Some (held change)

-- declarations name the same objects in the new program as in the old one, and that of the added object names the one of this number
pub record NameAlike (change : Named) (n : ℕ) (news objects : Objects) : Type 0 where
  pub same : (d : ℕ) → object_named news (change.rename d) ≡ object_named objects d
  pub added : object_named news change.added ≡ Some n

-- ---- trees under evaluation

-- the name of the added object, evaluated or not
abbrev pub NamesAdded : Named → ℕ → Run → Type 0
NamesAdded change n (done kind result locks) = (result ≡ designates (whole (numbered n))) × (locks ≡ [])
NamesAdded change n (to_do doing kind place parts) = (doing ≡ evaluates (object change.added)) × (parts ≡ no_runs)

-- the added object is still to be read, where the old program has the constant expression, of which nothing is evaluated
pub record IsUnread (change : Named) (n : ℕ) (doing : Doing) (kind : CType) (parts : Runs) (other : Run) : Type 0 where
  pub name : Run
  pub tree : Tree
  pub is : doing ≡ evaluates read
  pub one : parts ≡ more_runs name no_runs
  pub names : NamesAdded change n name
  pub typed : kind ≡ integer change.kind
  pub untouched : other ≡ begun tree
  pub constant : IsConstant change tree

abbrev mutual
  pub RunAgrees : Named → ℕ → Run → Run → Type 0
  RunAgrees change n (done kind result locks) (done other_kind other_result other_locks) = (kind ≡ other_kind) × (result ≡ other_result) × (locks ≡ other_locks)
  RunAgrees change n (done kind result locks) (to_do doing other_kind place parts) = ⊥
  RunAgrees change n (to_do doing kind place parts) (done other_kind result locks) = ⊥
  RunAgrees change n (to_do doing kind place parts) (to_do other other_kind other_place others) =
      ((doing ≡ redone change.rename other) × (kind ≡ other_kind) × RunsAgree change n parts others)
      ⊎ IsUnread change n doing kind parts (to_do other other_kind other_place others)

  pub RunsAgree : Named → ℕ → Runs → Runs → Type 0
  RunsAgree change n no_runs no_runs = Unit {0}
  RunsAgree change n (more_runs first rest) (more_runs other others) = RunAgrees change n first other × RunsAgree change n rest others
  RunsAgree change n no_runs (more_runs other others) = ⊥
  RunsAgree change n (more_runs first rest) no_runs = ⊥

-- likewise with a part left out
abbrev mutual
  pub HoleAgrees : Named → ℕ → Hole → Hole → Type 0
  HoleAgrees change n here here = Unit {0}
  HoleAgrees change n (within doing kind place holes) (within other other_kind other_place others) =
      (doing ≡ redone change.rename other) × (kind ≡ other_kind) × HolesAgree change n holes others
  HoleAgrees change n here (within other other_kind other_place others) = ⊥
  HoleAgrees change n (within doing kind place holes) here = ⊥

  pub HolesAgree : Named → ℕ → Holes → Holes → Type 0
  HolesAgree change n (in_first hole rest) (in_first other others) = HoleAgrees change n hole other × RunsAgree change n rest others
  HolesAgree change n (in_others first holes) (in_others other others) = RunAgrees change n first other × HolesAgree change n holes others
  HolesAgree change n (in_first hole rest) (in_others other others) = ⊥
  HolesAgree change n (in_others first holes) (in_first other others) = ⊥

-- a step of a tree agrees with one of another
abbrev pub RunMoveAgrees : Named → ℕ → Move Run Hole → Move Run Hole → Type 0
RunMoveAgrees change n m other = MoveAgrees change.rename (RunAgrees change n) (HoleAgrees change n) m other

-- A step of the new tree is met by a step of the old one, which agrees with it, or by steps that leave the old world as it is, none or more; or
-- the evaluation of the old tree is undefined.
abbrev pub Matched : Named → ℕ → Meaning → World → List At → Run → Move Run Hole → Type 0
Matched change n scene world locks other m =
    ((met : Move Run Hole) × IsAmong met (moves scene world locks other) × RunMoveAgrees change n m met)
    ⊎ (((run : Run) × (m ≡ goes world run) × (count : ℕ) × (last : Run) × Quietly scene world count other last × RunAgrees change n run last)
    ⊎ Fails scene world other)
