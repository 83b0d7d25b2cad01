-- What values of each form stand for.
use Rattle.std.proofs.Common.{◌≡◌, Option, Some, None, is_none, option_map, refl, rules, ap, ◌∙◌}
use Rattle.dm_meaning.specs.Values as values
use Rattle.dm_value.specs.declared.value.Pointer.{Pointer}
use Rattle.dm_value.specs.declared.value.Value as q
use Rattle.dm_value.specs.declared.value.Value.{Value}
use Rattle.dm_value.specs.declared.value.Value.TheVariants as form
use Rattle.dm_value.specs.Integers.{Number}
use Rattle.dm_value.specs.Views.{view_of_pointer, view_of_value}

pub pointer-view : (pointer : Pointer) → view_of_value (form.Pointer pointer) ≡ values.pointer_value (view_of_pointer pointer)
pointer-view pointer = search (rules, q.the_lemmas)

pub seen-Pointer : (value : Value) (pointer : Pointer) → value ≡ form.Pointer pointer → view_of_value value ≡ values.pointer_value (view_of_pointer pointer)
seen-Pointer value pointer is = ap view_of_value is ∙ pointer-view pointer

integer-view : (number : Number) → view_of_value (form.Integer number) ≡ values.integer_value number.kind number.value
integer-view number = search (rules, q.the_lemmas)

pub seen-Integer : (value : Value) (number : Number) → value ≡ form.Integer number → view_of_value value ≡ values.integer_value number.kind number.value
seen-Integer value number is = ap view_of_value is ∙ integer-view number

-- what there is, seen in some way
pub none-mapped : {X Y : Type 0} (f : X → Y) (o : Option X) → is_none o ≡ is_none (option_map f o)
none-mapped f None = refl
none-mapped f (Some x) = refl
