-- The steps of nodes with one operand, by what the operator does with a value or an object.
use Rattle.std.proofs.Common.{◌≡◌, List, ap}
use Rattle.dm_type.specs.CTypes.{CType}
use Rattle.dm_tree.specs.Trees.{Label}
use Rattle.dm_meaning.specs.Operations.{Did, Operand, Scene, World, count_at, followed, on_one, on_place, on_value, operate, plain, read_at, signed}
use Rattle.dm_meaning.specs.Values.{At, Value, pointer_value, to}
use Rattle.dm_operate.specs.declared.operator.OnPlace.{OnPlace}
use Rattle.dm_operate.specs.declared.operator.OnPlace.TheVariants.{Read, Address, Count}
use Rattle.dm_operate.specs.declared.operator.OnValue.{OnValue}
use Rattle.dm_operate.specs.declared.operator.OnValue.TheVariants.{Follow, Unary}
use Rattle.dm_operate.specs.Operators.{StandsOnPlace, StandsOnValue}

module _ (scene : Scene) (world : World) (locks : List At) (kind : CType) where
  -- what an operator does with a value
  abbrev pub with_value : OnValue → Value → Did
  with_value Follow = followed world
  with_value (Unary sign) = signed world kind sign

  pub operate-value : (own : OnValue) (label : Label) → StandsOnValue own label → (operands : List Operand)
      → operate scene world locks label kind operands ≡ on_one operands (λ a. on_value a.result (with_value own))
  operate-value Follow label is operands = ap (λ l. operate scene world locks l kind operands) is
  operate-value (Unary sign) label is operands = ap (λ l. operate scene world locks l kind operands) is

  -- what an operator does with an object
  abbrev pub with_place : OnPlace → At → Did
  with_place Read = read_at scene world locks kind
  with_place Address = λ at. plain world (pointer_value (to at))
  with_place (Count plus before) = count_at scene world locks kind plus before

  pub operate-place : (own : OnPlace) (label : Label) → StandsOnPlace own label → (operands : List Operand)
      → operate scene world locks label kind operands ≡ on_one operands (λ a. on_place a.result (with_place own))
  operate-place Read label is operands = ap (λ l. operate scene world locks l kind operands) is
  operate-place Address label is operands = ap (λ l. operate scene world locks l kind operands) is
  operate-place (Count plus before) label is operands = ap (λ l. operate scene world locks l kind operands) is
