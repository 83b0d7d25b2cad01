-- The texts up to here.
use Rattle.std.proofs.Common.{◌≡◌, map, take}
use Rattle.std.specs.Prelude.{option_and_then}
use Rattle.dm_meanings.specs.Types.{text_at}
use Rattle.dm_meanings.proofs.wanted.texts_of.Given as goal

abbrev pub invariant-loop-span : goal.invariant-loop-span
invariant-loop-span l = l.texts.items ≡ map (option_and_then (text_at l.fn.definition l.fn.unit.index.now.reading.now)) (take l.span-index l.spans)
