-- What hashing a type writes.
use Rattle.std.specs.Prelude.{◌≡◌, ◌++◌, ℕ, true}
use Rattle.std.proofs.Common.{ap}
use Rattle.std.specs.Hash as fed
use Rattle.dm_int.specs.contracts.KindHash.TheImpl as kind_hash
use Rattle.dm_type.specs.contracts.shape.TypeIdHash.TheImpl as id_hash
use Rattle.dm_type.specs.EqualLaws.{equal, same}
use Rattle.dm_type.specs.declared.shape.Shape.{Shape}
use Rattle.dm_type.specs.declared.shape.Shape.TheVariants.{Void, Integer, Pointer, Array, Struct, Function, Const}

abbrev fed_id : ℕ → fed.HashWrites
fed_id = (id_hash.ghosts).hash_input

-- which way the type is made, and what of
abbrev pub fed_shape : Shape → fed.HashWrites
fed_shape Void = fed.u8 0
fed_shape (Integer kind) = fed.u8 1 ++ (kind_hash.ghosts).hash_input kind
fed_shape (Pointer target) = fed.u8 2 ++ fed_id target
fed_shape (Array element length) = fed.u8 3 ++ (fed_id element ++ fed.option fed.u64 length)
fed_shape (Struct number) = fed.u8 4 ++ fed.u32 number
fed_shape (Function answer parameters) = fed.u8 5 ++ (fed_id answer ++ fed.slice fed_id parameters)
fed_shape (Const type) = fed.u8 6 ++ fed_id type

-- equal types are hashed alike
pub alike : (a b : Shape) → equal a b ≡ true → fed_shape a ≡ fed_shape b
alike a b e = ap fed_shape (same a b e)
