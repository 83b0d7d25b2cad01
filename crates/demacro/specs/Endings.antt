-- How a call of the program ends.
--     EndsFor request before after status      what is asked for is done, or it is put why not, and this is the status
--     Ends words before after status      the same for words: what they ask for, or the usage line where they aren't good
use Rattle.std.specs.Prelude.{◌≡◌, ◌≤◌, ◌⊎◌, ℕ, List, Option, Some, None, Result, Ok, Err}
use Rattle.dm_token.specs.declared.stop.Memory.{Memory}
use Rattle.dm_token.specs.declared.unit.Unit.{Unit as Source}
use Rattle.dm_lines.specs.Outside.{Outside, Puts, KeepsFiles}
use Rattle.dm_lines.specs.Statuses as statuses
use Rattle.dm_gen.specs.Generated.{greatest_count}
use Rattle.dm_words.specs.Requests.{Request, plan, apply, expand, run, gen, Asks}
use Rattle.dm_sources.specs.declared.project.NoSources.{NoSources}
use Rattle.dm_sources.specs.declared.finding.NoUnit.{NoUnit}
use Rattle.dm_sources.specs.Sources.{IsProject, HasUnit, HasNoSources, HasNoUnit}
use Rattle.dm_sources.specs.Explanations.{line_without_sources, status_without_sources, line_without_unit, status_without_unit}
use Rattle.dm_apply.specs.Endings.{EndsPlanningAs, EndsApplyingAs}
use Rattle.dm_apply.specs.Generation.{EndsGeneratingAs}
use Rattle.dm_expanding.specs.Endings.{EndsExpandingAs}
use Rattle.dm_running.specs.Endings.{EndsRunAs}
use Rattle.demacro.specs.Usage.{usage_line}

-- nothing is done for want of memory
abbrev pub IsWanting : Outside → Outside → Type 0
IsWanting before after = KeepsFiles before after × (after.written ≡ before.written)

-- a project has no units, and it is put why
abbrev pub LacksUnits : List ℕ → Outside → Outside → ℕ → Type 0
LacksUnits project before after status =
    (why : NoSources) × HasNoSources before.files project before.folder_faults after.folder_faults why × (status ≡ status_without_sources why)
    × KeepsFiles before after × Puts before after (line_without_sources project why)

-- a project has no unit with this main file, and it is put why
abbrev pub LacksUnit : List ℕ → List ℕ → Outside → Outside → ℕ → Type 0
LacksUnit project file before after status =
    (why : NoUnit) × HasNoUnit before.files project file before.folder_faults after.folder_faults why × (status ≡ status_without_unit why)
    × KeepsFiles before after × Puts before after (line_without_unit project file why)

-- no file is read or written
abbrev pub LeavesFolder : Outside → Outside → Type 0
LeavesFolder before after = KeepsFiles before after × (after.folder_faults ≡ before.folder_faults)

-- what is asked for is done, or it is put why not
abbrev pub EndsFor : Request → Outside → Outside → ℕ → Type 0
EndsFor (plan project json) before after status =
    ((units : List Source) × IsProject before.files project units × EndsPlanningAs json project units before after (Ok status)) ⊎ LacksUnits project before after status
EndsFor (apply project json) before after status =
    ((units : List Source) × IsProject before.files project units × EndsApplyingAs json project units before after (Ok status)) ⊎ LacksUnits project before after status
EndsFor (expand project file) before after status = EndsExpandingAs project file before after (Ok status)
EndsFor (run request) before after status =
    ((unit : Source) × HasUnit before.files request.project request.file unit × EndsRunAs request unit before after (Ok status))
    ⊎ LacksUnit request.project request.file before after status
EndsFor (gen count) before after status =
    LeavesFolder before after × EndsGeneratingAs count before.written after.written before.sink_faults after.sink_faults (Ok status)

-- the usage line is put
abbrev pub EndsUnasked : Outside → Outside → ℕ → Type 0
EndsUnasked before after status = (status ≡ statuses.wrong_words) × KeepsFiles before after × Puts before after usage_line

abbrev pub EndsAsked : Option Request → Outside → Outside → ℕ → Type 0
EndsAsked None before after status = EndsUnasked before after status
EndsAsked (Some request) before after status = EndsFor request before after status

-- memory is wanted before anything is done
abbrev pub EndsWanting : Outside → Outside → ℕ → Type 0
EndsWanting before after status = (status ≡ statuses.memory_wanted) × IsWanting before after

-- a call with these words ends with this status
abbrev pub Ends : List (List ℕ) → Outside → Outside → ℕ → Type 0
Ends words before after status = ((asked : Option Request) × Asks words asked × EndsAsked asked before after status) ⊎ EndsWanting before after status

-- ---- calls within it: each ends with a status, or for want of memory

abbrev pub EndsForAs : Request → Outside → Outside → Result ℕ Memory → Type 0
EndsForAs request before after (Ok status) = EndsFor request before after status
EndsForAs request before after (Err error) = IsWanting before after

abbrev pub EndsAs : List (List ℕ) → Outside → Outside → Result ℕ Memory → Type 0
EndsAs words before after (Ok status) = Ends words before after status
EndsAs words before after (Err error) = IsWanting before after

-- a generated project has no more definitions than it may have
abbrev pub IsModest : Request → Type 0
IsModest (plan project json) = Unit {0}
IsModest (apply project json) = Unit {0}
IsModest (expand project file) = Unit {0}
IsModest (run request) = Unit {0}
IsModest (gen count) = count ≤ greatest_count
