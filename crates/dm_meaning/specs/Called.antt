-- A program in which calls of an added function, whose body is one `return` of an expression, stand in place of that expression with the arguments in
-- place of the parameters (6.5.2.2, 6.8.6.4p3).
--     Called      the old program, what the new one has, how the numbers of its declarations come of the old ones, and the added function
use Rattle.std.specs.List.{list_any}
use Rattle.std.specs.Prelude.{◌≡◌, ◌⊎◌, ℕ, ◌==◌, Bool, true, false, not, ◌&&◌, ◌||◌, List, [], ◌∷◌}
use Rattle.dm_type.specs.CTypes.{CType}
use Rattle.dm_tree.specs.Trees.{Label, number, enumerator, object, read, decay, convert, address, member, unary, binary, both, either, choose, comma, store, update, count, call, sizeof_tree, sizeof_kind, case, Tree, Trees, node, no_trees, more_trees, kind_of}
use Rattle.dm_tree.specs.Units.{Declaration}
use Rattle.dm_meaning.specs.Programs.{Definition, Static, Program, declaration_of, constant_of}
use Rattle.dm_meaning.specs.Statements.{is_automatic_declaration}
use Rattle.dm_meaning.specs.Replaced.{Replaced}

-- The old program; the declarations, functions and static objects of the new one, whose types are the same; the number that each of the old
-- declarations has among the new ones; and the added function, with the expression that its `return` has.
pub record Called : Type 0 where
  pub old : Program
  pub declared : List Declaration
  pub functions : List Definition
  pub statics : List Static
  pub rename : ℕ → ℕ
  pub added : Definition
  pub body : Tree

abbrev pub new_of : Called → Program
new_of change = record { declared = change.declared; functions = change.functions; statics = change.statics; table = change.old.table }

-- ---- the expression

-- the forms whose own step gives a value and no lvalue
abbrev pub gives_value : Label → Bool
gives_value (number z) = true
gives_value (enumerator d) = true
gives_value read = true
gives_value decay = true
gives_value convert = true
gives_value address = true
gives_value (unary sign) = true
gives_value (binary op) = true
gives_value both = true
gives_value either = true
gives_value store = true
gives_value (update op works) = true
gives_value (count plus before) = true
gives_value call = true
gives_value sizeof_tree = true
gives_value (sizeof_kind type) = true
gives_value label = false

abbrev mutual
  -- the expression gives a value and no lvalue: by its own step, or because operands do, which are that of a member (6.5.2.3p3) and those of ?:
  -- and the comma that may be picked; these have its type (6.5.15p4, 6.5.17p2)
  pub Gives : Tree → Type 0
  Gives (node label kind spans parts) = (gives_value label ≡ true) ⊎ GivesBelow label kind parts

  pub GivesBelow : Label → CType → Trees → Type 0
  GivesBelow (member n) kind (more_trees operand no_trees) = Gives operand
  GivesBelow choose kind (more_trees condition (more_trees second (more_trees third no_trees))) =
      (kind_of second ≡ kind) × Gives second × (kind_of third ≡ kind) × Gives third
  GivesBelow comma kind (more_trees first (more_trees second no_trees)) = (kind_of second ≡ kind) × Gives second
  GivesBelow label kind parts = ⊥

-- an object of static storage duration that the program defines
abbrev pub is_static_number : List Static → ℕ → Bool
is_static_number [] d = false
is_static_number (static ∷ statics) d = static.declared == d || is_static_number statics d

-- a parameter of a function
abbrev pub is_parameter : List Definition → ℕ → Bool
is_parameter functions d = list_any (λ (definition : Definition). list_any (λ p. p == d) definition.parameters) functions

-- an object that no function has as one of its own: neither a parameter nor one of automatic storage duration (6.2.4p5)
abbrev pub is_nowhere_local : Program → ℕ → Bool
is_nowhere_local program d = not (is_automatic_declaration (declaration_of program d)) && not (is_parameter program.functions d)

-- Each function means the same by the name of an object of static storage duration, whether the program defines that object or not; that of
-- another object may mean another one in another function.
abbrev pub means_the_same : Program → Label → Bool
means_the_same program (object d) = is_static_number program.statics d || is_nowhere_local program d
means_the_same program label = true

-- ---- trees

-- the labels `case` of a switch have the same values
abbrev pub SameCase : Called → Label → Trees → Trees → Type 0
SameCase change case (more_trees value rest) (more_trees other others) = constant_of (new_of change) value ≡ constant_of change.old other
SameCase change label parts others = Unit {0}

-- ---- programs

-- the change without functions: of static objects the programs have the same
abbrev pub statics_of : Called → Replaced
statics_of change = record { old = record change.old { functions = [] }; declared = change.declared; functions = []; statics = change.statics; rename = change.rename }
