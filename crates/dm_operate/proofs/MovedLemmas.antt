-- Why pointers don't move, as the code finds it.
use Rattle.std.proofs.Common.{◌≡◌, ◌&&◌, ◌++◌, not, ℤ, pos, Option, is_none, option_map, ap, ◌∙◌}
use Rattle.dm_int.specs.Operators.{int_eq}
use Rattle.dm_type.specs.CTypes.{CType}
use Rattle.dm_meaning.specs.declared.cause.Cause.{Cause}
use Rattle.dm_meaning.specs.declared.cause.Cause.TheVariants.{Null, Bounds}
use Rattle.dm_meaning.specs.Causes.{earliest, is_null, moved_causes, moved_pointer, use_causes, when}
use Rattle.dm_meaning.specs.Memory.{Memory}
use Rattle.dm_meaning.specs.Objects.{Layout}
use Rattle.dm_meaning.specs.Values as values
use Rattle.dm_value.specs.declared.value.Pointer.{Pointer}
use Rattle.dm_value.specs.Views.{view_of_pointer}
use Rattle.dm_operate.proofs.SeenLemmas.{none-mapped}

-- by what the pointer moved gives, where n is the count
pub further-cause : (layout : Layout) (memory : Memory) (target : CType) (pointer : values.Pointer) (n count : ℤ) (moved : Option Pointer) (cause : Option Cause) → n ≡ count
    → option_map view_of_pointer moved ≡ moved_pointer layout memory target pointer n
    → cause ≡ earliest (when Null (is_null pointer && not (int_eq n (pos 0))) ++ when Bounds (is_none moved) ++ use_causes memory pointer)
    → cause ≡ earliest (moved_causes layout memory target pointer count)
further-cause layout memory target pointer n count moved cause same found is =
    is
    ∙ ap (λ b. earliest (when Null (is_null pointer && not (int_eq n (pos 0))) ++ when Bounds b ++ use_causes memory pointer)) (none-mapped view_of_pointer moved ∙ ap is_none found)
    ∙ ap (λ m. earliest (moved_causes layout memory target pointer m)) same
