-- How many definitions have each outcome.
use Rattle.std.specs.Prelude.{ℕ, Bool, true, false, not, List, count_by}
use Rattle.dm_edit.specs.declared.plan.Entry.{Entry}
use Rattle.dm_edit.specs.declared.plan.Fate.{Fate}
use Rattle.dm_edit.specs.declared.plan.Fate.TheVariants.{Rewritten, Kept}

abbrev pub is_rewriting : Fate → Bool
is_rewriting (Rewritten kind) = true
is_rewriting (Kept rule place) = false

abbrev pub is_rewritten : Entry → Bool
is_rewritten entry = is_rewriting entry.outcome

abbrev pub rewritten_count : List Entry → ℕ
rewritten_count entries = count_by is_rewritten entries

abbrev pub kept_count : List Entry → ℕ
kept_count entries = count_by (λ (entry : Entry). not (is_rewritten entry)) entries
