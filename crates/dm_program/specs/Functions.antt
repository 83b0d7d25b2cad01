-- What the definitions of functions stand for.
--     view_of_function table one      the definition
--     FunctionFits source one      what a run needs of it
--     AreFunctions source functions      those of a unit, by number
use Rattle.std.specs.Prelude.{◌≡◌, ℕ, List, ◌++◌, Option, None, Some, option_map, slice_get, map, length, IsTrue, IfSome, IsSome}
use Rattle.std.specs.List.{AllByRecursion}
use Rattle.dm_type.specs.Tables.{Table}
use Rattle.dm_tree.specs.declared.tree.Core.{Core}
use Rattle.dm_tree.specs.declared.unit.CoreExternal.{CoreExternal}
use Rattle.dm_tree.specs.Trees.{block, label_of, parts_of}
use Rattle.dm_tree.specs.TypeNumbers.{are_known, all_pass}
use Rattle.dm_tree.specs.Views.{view, view_of_external}
use Rattle.dm_meaning.specs.Programs.{Definition, declaration_of, definition_in, definition_of}
use Rattle.dm_meaning.specs.Units.{definitions_in, main_in, main_of}
use Rattle.dm_meaning.specs.Wholes.{IsWhole, AreWhole}
use Rattle.dm_program.specs.Sources.{Source, meant}
use Rattle.dm_program.specs.declared.function.Function.{Function}

abbrev pub view_of_function : Table → Function → Definition
view_of_function table one = record { function = one.number; parameters = one.parameters.now; body = view table one.body.now }

-- the items of a body, where that is a block
pub record IsItems (body : Core) (items : List Core) : Type 0 where
  pub same : (table : Table) → label_of (view table body) ≡ block → map (view table) items ≡ parts_of (view table body)
  pub known : (n : ℕ) → IsTrue (are_known n body) → IsTrue (all_pass (map (are_known n) items))
  pub whole : IsWhole body → AreWhole items

-- the types in its body are known, its full expressions hold no statements, its items are those of its body, and it and its
-- parameters are declared
pub record FunctionFits (source : Source) (one : Function) : Type 0 where
  pub known : IsTrue (are_known (length source.table.shapes) one.body.now)
  pub known_items : IsTrue (all_pass (map (are_known (length source.table.shapes)) one.items.now))
  pub whole : IsWhole one.body.now
  pub whole_items : AreWhole one.items.now
  pub declared : IsSome (declaration_of (meant source) one.number)
  pub items : map (view source.table) one.items.now ≡ parts_of (view source.table one.body.now)
  pub parameters : AllByRecursion (λ d. IsSome (declaration_of (meant source) d)) one.parameters.now

-- the definition of a number, if there is one
abbrev pub in_place : Option (Option Function) → Option Function
in_place None = None
in_place (Some one) = one

abbrev pub at_number : List (Option Function) → ℕ → Option Function
at_number functions d = in_place (slice_get functions d)

-- those of a unit, by number
pub record AreFunctions (source : Source) (functions : List (Option Function)) : Type 0 where
  pub same : (d : ℕ) → option_map (view_of_function source.table) (at_number functions d) ≡ definition_of (meant source) d
  pub fit : (d : ℕ) → IfSome (at_number functions d) (FunctionFits source)

-- Those of the external declarations behind the ones that are left.
pub record AreBehind (source : Source) (left : List CoreExternal) (functions : List (Option Function)) : Type 0 where
  pub behind : List CoreExternal
  pub whole : left ++ behind ≡ source.unit.externals
  pub same : (d : ℕ) → option_map (view_of_function source.table) (at_number functions d) ≡ definition_in (definitions_in (map (view_of_external source.table) behind)) d
  pub fit : (d : ℕ) → IfSome (at_number functions d) (FunctionFits source)
  pub count : length functions ≡ length source.unit.declared

-- None of the external declarations before the ones that are left defines `main`.
pub record IsBefore (source : Source) (left : List CoreExternal) : Type 0 where
  pub front : List CoreExternal
  pub whole : front ++ left ≡ source.unit.externals
  pub same : main_of (meant source) ≡ main_in (meant source) (definitions_in (map (view_of_external source.table) left))
