-- The characters of string literals, as elements of arrays.
--     characters_in bytes      the characters of a literal of these bytes, with the closing 0
--     element_of element character      the element that a character gives
use Rattle.std.specs.Prelude.{ℕ, List, [], Option, Some, None}
use Rattle.std.proofs.Common.{Bor}
use Rattle.dm_int.specs.declared.Kind.{Kind}
use Rattle.dm_type.specs.CTypes.{CType, integer}
use Rattle.dm_meaning.specs.Memory.{literal_block}
use Rattle.dm_meaning.specs.Objects.{zero_of}
use Rattle.dm_meaning.specs.Statements.{as_element}
use Rattle.dm_meaning.specs.Values.{Value, parts_in}

-- none where there is no literal
abbrev pub characters_in : Option (Bor (List ℕ)) → List Value
characters_in None = []
characters_in (Some bytes) = parts_in (literal_block bytes.now).contents

-- 0 where there is none
abbrev pub element_of : CType → Option Value → Value
element_of element None = zero_of element
element_of element (Some character) = as_element element character

abbrev pub kind_of_integers : CType → Option Kind
kind_of_integers (integer kind) = Some kind
kind_of_integers type = None
