-- How the process ends, by its arguments.
use Rattle.std.specs.Prelude.{◌≡◌, ◌⊎◌, ℕ, Bool, true, false, List, take, Option}
use Rattle.std.specs.Vec.Iter.{into_iter_items, into_iter_len}
use Rattle.std.specs.declared.io.ErrorKind.{ErrorKind}
use Rattle.std.specs.declared.io.ErrorKind.TheVariants.{OutOfMemory}
use Rattle.std.specs.declared.vec.IntoIter.{IntoIter}
use Rattle.demacro.specs.Usage.{usage_line}
use Rattle.dm_lines.specs.Puts.{PutsText}
use Rattle.dm_lines.specs.Outside.{Outside}
use Rattle.dm_lines.specs.Statuses as statuses
use Rattle.demacro.specs.Endings.{EndsUnasked, EndsWanting}

-- what an iterator is still to give
abbrev pub items_of : {X A : Type 0} → IntoIter X A → List X
items_of iterator = take (into_iter_len iterator) (into_iter_items iterator)

-- an error that is want of memory
abbrev pub is_want_of_memory : ErrorKind → Bool
is_want_of_memory OutOfMemory = true
is_want_of_memory _ = false

-- the usage line is put and the status says so, or nothing is put for want of memory
abbrev pub PutsUsage : Option (List ℕ) → Option (List ℕ) → ℕ → ℕ → ℕ → Type 0
PutsUsage before after faults_before faults_after status =
    ((status ≡ statuses.wrong_words) × PutsText before after faults_before faults_after usage_line) ⊎ ((status ≡ statuses.memory_wanted) × (after ≡ before))

-- the process ends as with wrong words, and for want of memory where the arguments can't be read for that
abbrev pub EndsUnread : ErrorKind → Outside → Outside → ℕ → Type 0
EndsUnread kind before after status =
    (EndsUnasked before after status ⊎ EndsWanting before after status) × (is_want_of_memory kind ≡ true → EndsWanting before after status)
