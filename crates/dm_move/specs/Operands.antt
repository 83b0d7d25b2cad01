-- The types of operands.
use Rattle.std.specs.Prelude.{List, [], ◌∷◌}
use Rattle.dm_type.specs.Tables.{Table, IsId}
use Rattle.dm_operate.specs.declared.evaluation.Operand.{Operand}

-- they are of the table
abbrev pub AreKnownResults : Table → List Operand → Type 0
AreKnownResults table [] = Unit {0}
AreKnownResults table (operand ∷ rest) = IsId table operand.kind × AreKnownResults table rest
