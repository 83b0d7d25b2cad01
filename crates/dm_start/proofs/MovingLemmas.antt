-- Addresses that move.
use Rattle.std.proofs.Common.{◌≡◌, Option, None, Some, option_map, ap, sym, ◌∙◌}
use Rattle.dm_meaning.specs.Units.{or_beyond}
use Rattle.dm_meaning.specs.Values as values
use Rattle.dm_value.specs.declared.value.Pointer.{Pointer}
use Rattle.dm_value.specs.Views.{view_of_pointer}

-- a place within the array
pub within : (found : Option Pointer) (one : Pointer) (moved : Option values.Pointer) (p : values.Pointer) → found ≡ Some one → option_map view_of_pointer found ≡ moved
    → view_of_pointer one ≡ or_beyond p moved
within found one moved p is same = sym (ap (or_beyond p) (sym same ∙ ap (option_map view_of_pointer) is))

-- none
pub outside : (found : Option Pointer) (moved : Option values.Pointer) (p q : values.Pointer) → found ≡ None → option_map view_of_pointer found ≡ moved
    → q ≡ or_beyond p None → q ≡ or_beyond p moved
outside found moved p q is same there = there ∙ sym (ap (or_beyond p) (sym same ∙ ap (option_map view_of_pointer) is))
