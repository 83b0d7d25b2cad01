-- A program in which integer constant expressions have become enumerators of the same type and value (6.6, 6.7.2.2).
--     Replaced      the old program, what the new one has, and how the numbers of its declarations come of the old ones
--     Agrees change tree other      a tree of the new program and one of the old are the same but for such places
--     IsReplacement change      the programs are the same but for such places
use Rattle.std.specs.Prelude.{◌≡◌, ◌⊎◌, ℕ, List, [], ◌∷◌, map, Some, option_map, ℤ}
use Rattle.dm_int.specs.declared.Kind.TheVariants.{Int}
use Rattle.dm_type.specs.CTypes.{CType, integer}
use Rattle.dm_tree.specs.declared.unit.Sort.{Sort}
use Rattle.dm_tree.specs.Constants.{enumerator_value}
use Rattle.dm_tree.specs.Scenes.{Scene}
use Rattle.dm_tree.specs.Trees.{Label, enumerator, object, function, declare, Declarator, Tree, Trees, node, no_trees, more_trees, label_of, kind_of, trees_of}
use Rattle.dm_tree.specs.Typing.{IsWellTyped}
use Rattle.dm_tree.specs.Units.{Declaration}
use Rattle.dm_meaning.specs.Programs.{Definition, Static, Program, declaration_of, constant_of}

-- The old program; the declarations, functions and static objects of the new one, whose types are the same; and the number that each of the
-- old declarations has among the new ones.
pub record Replaced : Type 0 where
  pub old : Program
  pub declared : List Declaration
  pub functions : List Definition
  pub statics : List Static
  pub rename : ℕ → ℕ

abbrev pub new_of : Replaced → Program
new_of change = record { declared = change.declared; functions = change.functions; statics = change.statics; table = change.old.table }

-- ---- labels

abbrev pub renamed_declarator : (ℕ → ℕ) → Declarator → Declarator
renamed_declarator rename declarator = record declarator { declared = rename declarator.declared }

-- the label with the numbers of the new declarations
abbrev pub relabelled : (ℕ → ℕ) → Label → Label
relabelled rename (enumerator d) = enumerator (rename d)
relabelled rename (object d) = object (rename d)
relabelled rename (function d) = function (rename d)
relabelled rename (declare lengths declarators) = declare lengths (map (renamed_declarator rename) declarators)
relabelled rename label = label

-- ---- trees

-- the elements of two lists are related one by one
abbrev pub Zipped : {X Y : Type 0} → (X → Y → Type 0) → List X → List Y → Type 0
Zipped R [] [] = Unit {0}
Zipped R (x ∷ xs) (y ∷ ys) = R x y × Zipped R xs ys
Zipped R xs ys = ⊥

-- an enumerator stands where there was an integer constant expression of type int with its value
pub record IsEnumerated (change : Replaced) (label : Label) (kind : CType) (parts : Trees) (other : Tree) : Type 0 where
  pub declared : ℕ
  pub value : ℤ
  pub is : label ≡ enumerator declared
  pub leaf : parts ≡ no_trees
  pub int : kind ≡ integer Int
  pub other_int : kind_of other ≡ integer Int
  pub constant : constant_of change.old other ≡ Some value
  pub named : enumerator_value change.declared declared ≡ Some value
  pub scene : Scene
  pub typed : IsWellTyped scene other

abbrev mutual
  -- a tree is another one but for places at which enumerators stand
  pub Agrees : Replaced → Tree → Tree → Type 0
  Agrees change (node label kind spans parts) other =
      ((label ≡ relabelled change.rename (label_of other)) × (kind ≡ kind_of other) × AllAgree change parts (trees_of other))
      ⊎ IsEnumerated change label kind parts other

  pub AllAgree : Replaced → Trees → Trees → Type 0
  AllAgree change no_trees no_trees = Unit {0}
  AllAgree change (more_trees first rest) (more_trees other others) = Agrees change first other × AllAgree change rest others
  AllAgree change parts others = ⊥

-- ---- programs

-- what the machine asks of a declaration
abbrev pub facts_of : Declaration → List ℕ × Sort × CType
facts_of declaration = (declaration.name, declaration.sort, declaration.kind)

abbrev pub DefinitionAgrees : Replaced → Definition → Definition → Type 0
DefinitionAgrees change definition other =
    (definition.function ≡ change.rename other.function) × (definition.parameters ≡ map change.rename other.parameters)
    × AllAgree change (trees_of definition.body) (trees_of other.body)

abbrev pub StaticAgrees : Replaced → Static → Static → Type 0
StaticAgrees change static other =
    (static.declared ≡ change.rename other.declared) × (static.initialiser ≡ other.initialiser)
    × Zipped (Agrees change) static.expressions other.expressions

-- The programs differ in such places alone: each old declaration has one number among the new ones, with its name, sort and type; and the
-- functions and the static objects agree.
pub record IsReplacement (change : Replaced) : Type 0 where
  pub injective : (c d : ℕ) → change.rename c ≡ change.rename d → c ≡ d
  pub told : (d : ℕ) → option_map facts_of (declaration_of (new_of change) (change.rename d)) ≡ option_map facts_of (declaration_of change.old d)
  pub functions : Zipped (DefinitionAgrees change) change.functions change.old.functions
  pub statics : Zipped (StaticAgrees change) change.statics change.old.statics
