-- So far there are the elements so far.
use Rattle.std.proofs.Common.{◌≡◌, map, take}
use Rattle.dm_layout.specs.Kinds.{type_of_object}
use Rattle.dm_value.specs.Views.{view_of_value}
use Rattle.dm_first_value.specs.Texts.{characters_in}
use Rattle.dm_first_value.proofs.TextLemmas.{all_elements}
use Rattle.dm_first_value.proofs.text.elements.Given as goal

abbrev pub invariant-loop-number : goal.invariant-loop-number
invariant-loop-number l = map view_of_value l.all.items ≡ take l.number (all_elements (type_of_object l.layout l.kind) l.count (characters_in l.bytes))
