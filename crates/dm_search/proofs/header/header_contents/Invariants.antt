-- The contents so far are those of the headers passed.
use Rattle.std.proofs.Common.{◌≡◌, map, take, Some}
use Rattle.dm_search.specs.Headers.{header_texts}
use Rattle.dm_search.specs.Sound.{bytes_of, AreContents}
use Rattle.dm_search.proofs.header.header_contents.Given as goal

abbrev pub invariant-loop-number : goal.invariant-loop-number
invariant-loop-number l = record {
  held : bytes_of l.contents.items ≡ map Some (take l.number header_texts);
  read : AreContents l.contents.items;
}
