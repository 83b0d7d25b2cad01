use Rattle.std.proofs.Common.{◌≡◌, drop}
use Rattle.dm_typing.specs.Specifiers.{sets, type_among}
use Rattle.dm_edeclarator.proofs.specifiers.type_of_words.Given as goal

-- none of the sets so far has these words
abbrev pub invariant-loop-n : goal.invariant-loop-n
invariant-loop-n l = type_among l.words (drop l.n sets) ≡ type_among l.words sets
