-- Entries with the types that all their declarations say, as the code has them.
--     with_whole links number entries      entries, of which one has that type, if it has linkage
--     settled links n entries      entries, from a number on, with these types
use Rattle.std.specs.Prelude.{ℕ, ◌+◌, List, [], ◌∷◌, Option, Some, None}
use Rattle.dm_tree.specs.declared.unit.Declared.{Declared}
use Rattle.dm_estanding.specs.declared.links.Links.{Links}
use Rattle.dm_estanding.specs.declared.links.Whole.{Whole}
use Rattle.dm_estanding.specs.Kinds.{whole_in}
use Rattle.dm_estanding.specs.Summaries.{kind_of_whole}
use Rattle.dm_estanding.specs.Undoing.{set_kind}

abbrev pub kind_if : Option Whole → ℕ → List Declared → List Declared
kind_if None number entries = entries
kind_if (Some whole) number entries = set_kind number whole.kind entries

abbrev pub with_whole : Links → ℕ → List Declared → List Declared
with_whole links number entries = kind_if (whole_in links number) number entries

abbrev pub settled : Links → ℕ → List Declared → List Declared
settled links n [] = []
settled links n (entry ∷ entries) = record entry { kind = kind_of_whole (whole_in links n) entry.kind } ∷ settled links (n + 1) entries
