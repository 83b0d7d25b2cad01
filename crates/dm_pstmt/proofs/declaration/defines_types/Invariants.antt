-- Whether it is among those so far or among the rest is whether it is among all.
use Rattle.std.proofs.Common.{◌≡◌, ◌||◌, drop, map}
use Rattle.dm_syn.specs.Scopes.{has_typedef}
use Rattle.dm_syn.specs.Views as view
use Rattle.dm_pexpr.specs.Parts.{source_of}
use Rattle.dm_pstmt.proofs.declaration.defines_types.Given as goal

abbrev pub invariant-loop-word : goal.invariant-loop-word
invariant-loop-word l =
    (l.found || has_typedef (source_of l.reader) (view.words (map view.specifier (drop l.word-index l.word-items)))) ≡ has_typedef (source_of l.reader) (view.words (map view.specifier l.word-items))
