-- What the machine needs of a program: its declarations, the functions and the objects of static storage duration that it defines (6.9,
-- 6.2.4p3), and how its types are laid out.
use Rattle.std.specs.Prelude.{ℕ, ◌==◌, List, [], ◌∷◌, length, Option, Some, None, slice_get, ℤ, if◌then◌else◌}
use Rattle.dm_type.specs.declared.shape.Member.{Member}
use Rattle.dm_type.specs.Layouts.{size_of, offsets_of}
use Rattle.dm_type.specs.Tables.{Table, type_of, members_of}
use Rattle.dm_tree.specs.Constants as constants
use Rattle.dm_tree.specs.Trees.{Initialiser, Tree}
use Rattle.dm_tree.specs.Units.{Declaration}
use Rattle.dm_meaning.specs.Objects.{Layout, Field}

-- the definition of a function: its number, those of its parameters, and its body (6.9.1)
pub record Definition : Type 0 where
  pub function : ℕ
  pub parameters : List ℕ
  pub body : Tree

-- an object of static storage duration, with its initialiser and the expressions in it, or none (6.7.9p4, p10)
pub record Static : Type 0 where
  pub declared : ℕ
  pub initialiser : Option Initialiser
  pub expressions : List Tree

pub record Program : Type 0 where
  pub declared : List Declaration
  pub functions : List Definition
  pub statics : List Static
  -- the shapes of its types, and its structs
  pub table : Table

-- ---- how types are laid out

abbrev pub fields_with : Table → List Member → List ℕ → List Field
fields_with table (member ∷ members) (offset ∷ offsets) = record { kind = type_of table member.kind; offset = offset } ∷ fields_with table members offsets
fields_with table members offsets = []

-- the members of a struct, if they are known
abbrev pub fields_in : Table → Option (List Member) → List Field
fields_in table None = []
fields_in table (Some members) = fields_with table members (offsets_of table members)

abbrev pub or_zero : Option ℕ → ℕ
or_zero None = 0
or_zero (Some size) = size

-- the members of structs and the sizes of types
abbrev pub layout : Program → Layout
layout program = record {
  structs = length program.table.structs;
  fields = λ number. fields_in program.table (members_of program.table number);
  size = λ type. or_zero (size_of program.table type);
}

-- ---- looking up

abbrev pub declaration_at : List Declaration → ℕ → Option Declaration
declaration_at declared d = slice_get declared d

abbrev pub declaration_of : Program → ℕ → Option Declaration
declaration_of program d = declaration_at program.declared d

abbrev pub definition_in : List Definition → ℕ → Option Definition
definition_in [] d = None
definition_in (first ∷ rest) d = if first.function == d then Some first else definition_in rest d

-- the definition of a function, if the program has one
abbrev pub definition_of : Program → ℕ → Option Definition
definition_of program d = definition_in program.functions d

-- the value of an integer constant expression (6.6p6)
abbrev pub constant_of : Program → Tree → Option ℤ
constant_of program tree = constants.constant program.table program.declared tree
