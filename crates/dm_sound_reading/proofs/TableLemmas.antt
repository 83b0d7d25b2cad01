-- What the typing knows is sound, so its table of types is.
use Rattle.std.specs.Prelude.{◌≡◌, ℕ, Some}
use Rattle.std.proofs.Common.{ap}
use Rattle.std.proofs.lemmas.Bool.{false≢true}
use Rattle.dm_type.specs.CTypes.{CType, void, integer, pointer, array, struct, function, const, bare}
use Rattle.dm_type.specs.Tables.{type_of}
use Rattle.dm_type.specs.TableLaws.{injected}
use Rattle.dm_meaning.proofs.OptionLemmas.{none_is_some}
use Rattle.dm_typing.specs.Conversions.{element}
use Rattle.dm_typing.specs.Known.{Known}
use Rattle.dm_typing.specs.Sound.{IsSoundKnown}
use Rattle.dm_typing.proofs.StructLemmas.{layered-all}
use Rattle.dm_sound.specs.TypedTrees.{IsProper, struct_in, IsSoundTable}
use Rattle.dm_sound.proofs.TableLemmas.{table_proper}

-- the struct of which objects of a proper type are made is the type of their elements, without const
struct_inside : (type : CType) → IsProper type → (inner : ℕ) → struct_in type ≡ Some inner → bare (element type) ≡ struct inner
struct_inside (array type n) proper inner e = struct_inside type proper inner e
struct_inside (struct number) proper inner e = ap struct (injected number inner e)
struct_inside (const (struct number)) proper inner e = ap struct (injected number inner e)
struct_inside (const (array type n)) proper inner e = absurd (false≢true proper.0)
struct_inside (const (const type)) proper inner e = absurd (false≢true proper.0)
struct_inside (const void) proper inner e = absurd (none_is_some inner e)
struct_inside (const (integer kind)) proper inner e = absurd (none_is_some inner e)
struct_inside (const (pointer type)) proper inner e = absurd (none_is_some inner e)
struct_inside (const (function result parameters)) proper inner e = absurd (none_is_some inner e)
struct_inside void proper inner e = absurd (none_is_some inner e)
struct_inside (integer kind) proper inner e = absurd (none_is_some inner e)
struct_inside (pointer type) proper inner e = absurd (none_is_some inner e)
struct_inside (function result parameters) proper inner e = absurd (none_is_some inner e)

pub table_sound : (known : Known) → IsSoundKnown known → IsSoundTable known.types
table_sound known sound =
    let layers = layered-all known sound in
    record {
      complete = sound.complete;
      layered = (
        layers.0,
        (λ at members n one inner others e s is f.
            layers.1 at members n one inner others e s (struct_inside (type_of known.types one.kind) (table_proper known.types one.kind) inner is) f),
        layers.2,
      );
      sizes = sound.sizes;
    }
