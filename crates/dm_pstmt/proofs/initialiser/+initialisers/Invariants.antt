-- The depth goes down within braces. What is read so far, with what the others are read as, is what all are read as.
use Rattle.std.proofs.Common.{◌≡◌, ◌+◌, ◌*◌, ℕ, List, map, Option, Some}
use Rattle.dm_syn.specs.declared.declared.Declared.{Declared}
use Rattle.dm_syn.specs.Trees as tree
use Rattle.dm_syn.specs.Views as view
use Rattle.dm_pexpr.specs.Parsing.{all_turns}
use Rattle.dm_pexpr.specs.Parts.{source_of, IsPart}
use Rattle.dm_pstmt.specs.Kinds.{initialisers_from}
use Rattle.dm_pstmt.specs.Parsing.{initialiser_of, more_initialisers}
use Rattle.dm_pstmt.specs.Steps.{with_row}
use Rattle.dm_pstmt.proofs.initialiser.+initialisers.Given as goal

abbrev pub decreases-initialiser : goal.decreases-initialiser
decreases-initialiser l = 3 * l.depth

abbrev pub decreases-braces : goal.decreases-braces
decreases-braces l = 3 * l.depth + 2

abbrev pub decreases-more_initialisers : goal.decreases-more_initialisers
decreases-more_initialisers l = 3 * l.depth + 1

abbrev pub decreases-more_initialisers-loop-turns : goal.decreases-more_initialisers-loop-turns
decreases-more_initialisers-loop-turns l = l.turns

abbrev pub invariant-more_initialisers-loop-turns : goal.invariant-more_initialisers-loop-turns
invariant-more_initialisers-loop-turns l =
    (before : List Declared) (start : ℕ) (read : Option tree.Initialisers) → IsPart (initialisers_from (source_of l.reader) start) (source_of l.reader) before l.fn.scope l.fn.items read
    → IsPart (initialisers_from (source_of l.reader) start) (source_of l.reader) before l.scope l.items (Some (view.initialisers (map view.initialiser l.items.tree)))
    × (with_row tree.more_initialisers (map view.initialiser l.fn.items.tree) (more_initialisers (source_of l.reader) (initialiser_of (source_of l.reader) l.depth) (all_turns (source_of l.reader)) l.fn.scope l.fn.items.after)
    ≡ with_row tree.more_initialisers (map view.initialiser l.items.tree) (more_initialisers (source_of l.reader) (initialiser_of (source_of l.reader) l.depth) l.turns l.scope l.items.after))
