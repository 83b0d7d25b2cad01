-- What the names of a translation unit mean, and what stands in file scope behind its first external declarations (6.2.1).
--     shown_by source externals      what each external declaration shows of names
--     identifiers_of source externals      the identifiers and tags, members' names apart, each with the number of the entry that it means
--     meaning_at source externals at      that of a token
--     entered_by source externals k      what the external declaration of this number declares in file scope that wasn't declared there before
--     is_in_file_scope source externals k d      behind the first k of them a name means this entry in file scope
--     entries_behind source externals k      how many entries the unit has then
use Rattle.std.specs.Prelude.{ℕ, ◌==◌, Bool, List, [], ◌∷◌, flat_map, fold, take, find, Option, None, unwrap_or, slice_get, option_map}
use Rattle.std.specs.List.{list_any}
use Rattle.dm_syn.specs.Trees as tree
use Rattle.dm_names.specs.declared.identifier.Entered.{Entered}
use Rattle.dm_names.specs.declared.identifier.Identifier.{Identifier}
use Rattle.dm_names.specs.declared.seen.Seen.{Seen}
use Rattle.dm_names.specs.declared.seen.Shown.{Shown}
use Rattle.dm_names.specs.Scopes.{nothing_declared}
use Rattle.dm_names.specs.Seen.{Source, external}

-- before the first external declaration
abbrev pub nothing_seen : Seen
nothing_seen = record { scopes = nothing_declared ∷ []; own = None; declarators = 0; entries = 0; identifiers = []; entered = [] }

-- what an external declaration shows, and where the next one begins
abbrev pub shown : Seen → Shown
shown seen = record { identifiers = seen.identifiers; entered = seen.entered; entries = seen.entries }

abbrev pub next_external : Seen → Seen
next_external seen = record seen { identifiers = []; entered = [] }

abbrev pub shown_from : Source → Seen → List tree.External → List Shown
shown_from source seen [] = []
shown_from source seen (first ∷ others) = shown (external source seen first) ∷ shown_from source (next_external (external source seen first)) others

abbrev pub shown_by : Source → List tree.External → List Shown
shown_by source externals = shown_from source nothing_seen externals

-- ---- what the external declarations that show this say of names

abbrev pub identifiers_in : List Shown → List Identifier
identifiers_in all = flat_map (λ (one : Shown). one.identifiers) all

abbrev pub is_at : ℕ → Identifier → Bool
is_at at one = one.at == at

abbrev pub entered_in : List Shown → List Entered
entered_in all = flat_map (λ (one : Shown). one.entered) all

abbrev pub has_number : ℕ → Entered → Bool
has_number d one = one.number == d

abbrev pub entered_at : List Shown → ℕ → List Entered
entered_at all k = unwrap_or (option_map (λ (one : Shown). one.entered) (slice_get all k)) []

abbrev pub entries_in : List Shown → ℕ
entries_in all = fold (λ (before : ℕ) (one : Shown). one.entries) 0 all

-- ---- and of a unit

abbrev pub identifiers_of : Source → List tree.External → List Identifier
identifiers_of source externals = identifiers_in (shown_by source externals)

abbrev pub meaning_at : Source → List tree.External → ℕ → Option Identifier
meaning_at source externals at = find (is_at at) (identifiers_of source externals)

abbrev pub entered_by : Source → List tree.External → ℕ → List Entered
entered_by source externals k = entered_at (shown_by source externals) k

abbrev pub entered_before : Source → List tree.External → ℕ → List Entered
entered_before source externals k = entered_in (take k (shown_by source externals))

abbrev pub is_in_file_scope : Source → List tree.External → ℕ → ℕ → Bool
is_in_file_scope source externals k d = list_any (has_number d) (entered_before source externals k)

abbrev pub entries_behind : Source → List tree.External → ℕ → ℕ
entries_behind source externals k = entries_in (take k (shown_by source externals))
