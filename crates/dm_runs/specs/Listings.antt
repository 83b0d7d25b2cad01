-- Lists by the directives of definitions.
use Rattle.std.specs.Prelude.{ℕ, Bool, List, [], slice_index_or}
use Rattle.std.specs.List.{position_or_len}
use Rattle.dm_runs.specs.declared.run.Run.{Run}
use Rattle.dm_runs.specs.declared.by_directive.Directive.{Directive}
use Rattle.dm_runs.specs.contracts.by_directive.DirectivePartialEq.TheImpl as directive_eq

abbrev pub same : Directive → Directive → Bool
same = (directive_eq.ghosts).eq

abbrev pub directive : ℕ → ℕ → Directive
directive file hash = record { file = file; hash = hash }

-- the list of a directive, where it has one
abbrev pub listed : {A : Type 0} → List Directive → List (List A) → ℕ → ℕ → List A
listed directives lists file hash = slice_index_or lists (position_or_len (same (directive file hash)) directives) []

-- the list of the definition whose `#` is this byte of a file
abbrev pub items_at : {A : Type 0} → List Directive × List (List A) → ℕ → ℕ → List A
items_at index file hash = listed index.0 index.1 file hash

-- the runs of that definition
abbrev pub runs_at : List Directive × List (List Run) → ℕ → ℕ → List Run
runs_at index file hash = items_at index file hash
