-- The types of a table are proper.
use Rattle.std.specs.Prelude.{ℕ, zero, suc, List, [], ◌∷◌, ◌++◌, map, fold}
use Rattle.dm_type.specs.declared.shape.Shape.{Shape}
use Rattle.dm_type.specs.declared.shape.Shape.TheVariants.{Void, Integer, Pointer, Array, Struct, Function, Const}
use Rattle.dm_type.specs.CTypes.{CType, all_of}
use Rattle.dm_type.specs.Tables.{Table, at, written_out, types_of}
use Rattle.dm_typing.specs.Sound.{IsProper, AreProper, HasProperTypes}
use Rattle.dm_typing.proofs.MemberLemmas.{with-const-proper}

abbrev EachProper : List CType → Type 0
EachProper types = (id : ℕ) → IsProper (at types id)

one-more : (types : List CType) (new : CType) → EachProper types → IsProper new → EachProper (types ++ new ∷ [])
one-more [] new proper fine zero = fine
one-more [] new proper fine (suc id) = tt
one-more (type ∷ types) new proper fine zero = proper 0
one-more (type ∷ types) new proper fine (suc id) = one-more types new (λ id. proper (suc id)) fine id

parameters-proper : (types : List CType) → EachProper types → (ids : List ℕ) → AreProper (all_of (map (at types) ids))
parameters-proper types proper [] = tt
parameters-proper types proper (id ∷ ids) = (proper id, parameters-proper types proper ids)

written-proper : (types : List CType) → EachProper types → (shape : Shape) → IsProper (written_out types shape)
written-proper types proper Void = tt
written-proper types proper (Integer kind) = tt
written-proper types proper (Pointer id) = proper id
written-proper types proper (Array id n) = proper id
written-proper types proper (Struct number) = tt
written-proper types proper (Function result parameters) = (proper result, parameters-proper types proper parameters)
written-proper types proper (Const id) = with-const-proper (at types id) (proper id)

all-proper : (shapes : List Shape) (types : List CType) → EachProper types → EachProper (fold (λ types shape. types ++ written_out types shape ∷ []) types shapes)
all-proper [] types proper = proper
all-proper (shape ∷ shapes) types proper =
    all-proper shapes (types ++ written_out types shape ∷ []) (one-more types (written_out types shape) proper (written-proper types proper shape))

none-proper : EachProper []
none-proper zero = tt
none-proper (suc id) = tt

pub table-proper : (table : Table) → HasProperTypes table
unfolding types_of
table-proper table = all-proper table.shapes [] none-proper
