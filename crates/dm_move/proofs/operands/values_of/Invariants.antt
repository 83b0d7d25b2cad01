-- So far there are the values of the operands so far.
use Rattle.std.proofs.Common.{◌≡◌, map, take}
use Rattle.dm_value.specs.Views.{view_of_value}
use Rattle.dm_move.proofs.OperandLemmas.{given}
use Rattle.dm_move.proofs.operands.values_of.Given as goal

abbrev pub invariant-loop-operand : goal.invariant-loop-operand
invariant-loop-operand l = map view_of_value l.values.items ≡ map given (take l.operand-index l.all)
