-- What types are for conversions.
use Rattle.dm_type.specs.CTypes as ctypes
use Rattle.dm_type.specs.CTypes.{CType}
use Rattle.std.specs.Prelude.{◌≡◌}
use Rattle.dm_operate.specs.declared.conversions.Target.{Target}
use Rattle.dm_operate.specs.declared.conversions.Target.TheVariants.{Void, Integer, Pointer, Whole}

-- neither void nor scalar
abbrev pub IsWhole : CType → Type 0
IsWhole (ctypes.array type length) = Unit {0}
IsWhole (ctypes.struct number) = Unit {0}
IsWhole (ctypes.function result parameters) = Unit {0}
IsWhole (ctypes.const type) = Unit {0}
IsWhole type = ⊥

abbrev pub IsTarget : Target → CType → Type 0
IsTarget Void type = type ≡ ctypes.void
IsTarget (Integer kind) type = type ≡ ctypes.integer kind
IsTarget Pointer type = (target : CType) × (type ≡ ctypes.pointer target)
IsTarget Whole type = IsWhole type
