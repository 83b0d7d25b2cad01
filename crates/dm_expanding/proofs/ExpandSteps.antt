-- From what is found of a unit to how a call of `expand` ends.
use Rattle.std.proofs.Common.{◌≡◌, ◌≢◌, ◌∙◌, ℕ, ◌≤◌, ◌⊎◌, inl, inr, List, Option, Some, None, Result, Ok, Err, IfOk, OnOk, OnErr, refl, ap, subst, arith}
use Rattle.dm_token.specs.declared.stop.Memory.{Memory}
use Rattle.dm_token.specs.declared.stop.Stop.{Stop}
use Rattle.dm_token.specs.declared.stop.Stop.TheVariants as stop
use Rattle.dm_token.specs.declared.unit.Unit.{Unit as Source}
use Rattle.dm_token.specs.declared.unit.UnitTokens.{UnitTokens}
use Rattle.dm_io.specs.Files.{Files}
use Rattle.dm_io.specs.Output.{appended, MayHaveAppended}
use Rattle.dm_io.specs.Faults.{Rose}
use Rattle.dm_search.specs.Loaded.{Loaded, name_of}
use Rattle.dm_search.specs.Fresh.{fresh}
use Rattle.dm_unit.specs.Units.{IsReadAs, setting_of, first_files, state_with}
use Rattle.dm_unit.specs.Loaders.{is_known}
use Rattle.dm_unit.proofs.OutcomeLemmas.{one-outcome}
use Rattle.dm_sources.specs.declared.finding.NoUnit.{NoUnit}
use Rattle.dm_sources.specs.Sources.{HasNoUnit, HasUnit}
use Rattle.dm_sources.specs.Explanations.{line_without_unit, status_without_unit}
use Rattle.dm_sources.proofs.ProjectLaws.{has_unit, one_unit}
use Rattle.dm_lines.specs.Puts.{PutsText}
use Rattle.dm_lines.specs.Outside.{Outside, KeepsFiles, Puts}
use Rattle.dm_lines.specs.Stops.{line_of_stop, status_of_stop}
use Rattle.dm_lines.specs.Statuses as statuses
use Rattle.dm_expanding.specs.Endings.{UnitEnding, listed, unit_missing, refused, limit_passed, file_unread, listing_failed, memory_wanted, status_of_unit, IsReading, listing, EndsWith, EndsWithAs, EndsExpanding, EndsExpandingAs, HoldsUnit}

-- faults that rose since a later moment rose since an earlier one
Rose-earlier : (before middle after : ℕ) → before ≤ middle → Rose middle after → Rose before after
Rose-earlier before middle after order rose = omega arith

-- what a call for the unit gives is its reading
pub is_reading : (told : Option Files) (unit : Source) (old new : Loaded) (result : Result UnitTokens Stop) → old ≡ fresh
    → ((files : Files) → told ≡ Some files → IsReadAs (setting_of old new files unit) unit old result new) → IsReading told unit result new
is_reading None unit old new result is gives = tt
is_reading (Some files) unit old new result is gives = subst (λ (loaded : Loaded). IsReadAs (setting_of loaded new files unit) unit loaded result new) is (gives files refl)

-- a unit that was read is listed, or its listing fails, or memory is wanted
pub ends_listed : (unit : Source) (before after : Outside) (tokens : UnitTokens) (files : Loaded) (result : Result ℕ Memory) → IsReading before.files unit (Ok tokens) files → KeepsFiles before after
    → (result ≡ Ok statuses.done → after.written ≡ appended before.written (listing tokens))
    → (result ≡ Ok statuses.output_fault → Rose before.sink_faults after.sink_faults × MayHaveAppended before.written after.written (listing tokens))
    → IfOk result (λ status. (status ≡ statuses.done) ⊎ (status ≡ statuses.output_fault)) → OnErr result (after.written ≡ before.written) → EndsWithAs unit before after result
ends_listed unit before after tokens files (Err error) read keeps done failed status unwritten = (keeps, unwritten)
ends_listed unit before after tokens files (Ok status) read keeps done failed (inl is) unwritten = (listed tokens files, is, (read, keeps, done (ap Ok is)))
ends_listed unit before after tokens files (Ok status) read keeps done failed (inr is) unwritten =
    let fault = failed (ap Ok is) in
    (listing_failed tokens files, is, (read, keeps, fault.0, fault.1))

-- a unit whose reading stops
stopped : (unit : Source) (before after : Outside) (why : Stop) (files : Loaded) (status : ℕ) → IsReading before.files unit (Err why) files → KeepsFiles before after
    → ((file : ℕ) → why ≡ stop.ReadFault file → Rose before.folder_faults after.folder_faults) → Puts before after (line_of_stop files.names why) → status ≡ status_of_stop why → why ≢ stop.Memory
    → (ending : UnitEnding) × (status ≡ status_of_unit ending) × EndsWith unit before after ending
stopped unit before after stop.Memory files status read keeps failed puts is known = absurd (known refl)
stopped unit before after (stop.Refused refusal) files status read keeps failed puts is known = (refused refusal files, is, (read, keeps, puts))
stopped unit before after (stop.Limit limit) files status read keeps failed puts is known = (limit_passed limit files, is, (read, keeps, puts))
stopped unit before after (stop.ReadFault file) files status read keeps failed puts is known = (file_unread file files, is, (read, failed file refl, keeps, puts))

pub ends_stopped : (unit : Source) (before after : Outside) (why : Stop) (names : List (List ℕ)) (files : Loaded) (result : Result ℕ Memory) → names ≡ files.names → IsReading before.files unit (Err why) files
    → KeepsFiles before after → ((file : ℕ) → why ≡ stop.ReadFault file → Rose before.folder_faults after.folder_faults) → OnOk result (Puts before after (line_of_stop names why))
    → IfOk result (λ status. (status ≡ status_of_stop why) × (why ≢ stop.Memory)) → OnErr result (after.written ≡ before.written) → EndsWithAs unit before after result
ends_stopped unit before after why names files (Err error) same read keeps failed puts is unwritten = (keeps, unwritten)
ends_stopped unit before after why names files (Ok status) same read keeps failed puts is unwritten =
    stopped unit before after why files status read keeps failed (subst (λ n. Puts before after (line_of_stop n why)) same puts) is.0 is.1

-- what holds from a later moment on, at which the files and the output are as before
module _ (project file : List ℕ) (unit : Source) (before middle after : Outside) (has : HasUnit before.files project file unit)
    (same_files : middle.files ≡ before.files) (same_written : middle.written ≡ before.written) (earlier : before.folder_faults ≤ middle.folder_faults) (same_faults : middle.sink_faults ≡ before.sink_faults) where
  keeps_too : KeepsFiles middle after → KeepsFiles before after
  keeps_too keeps = keeps ∙ same_files

  reading_too : (result : Result UnitTokens Stop) (files : Loaded) → IsReading middle.files unit result files → IsReading before.files unit result files
  reading_too result files = subst (λ told. IsReading told unit result files) same_files

  puts_too : (text : List ℕ) → Puts middle after text → Puts before after text
  puts_too text put =
      subst (λ faults. PutsText before.written after.written faults after.sink_faults text) same_faults
      (subst (λ told. PutsText told after.written middle.sink_faults after.sink_faults text) same_written put)

  earlier_ending : (ending : UnitEnding) → EndsWith unit middle after ending → EndsExpanding project file before after ending
  earlier_ending (listed tokens files) ends =
      (unit, has, (reading_too (Ok tokens) files ends.0, keeps_too ends.1, subst (λ told. after.written ≡ appended told (listing tokens)) same_written ends.2))
  earlier_ending (unit_missing why) ends = absurd ends
  earlier_ending (refused refusal files) ends = (unit, has, (reading_too (Err (stop.Refused refusal)) files ends.0, keeps_too ends.1, puts_too _ ends.2))
  earlier_ending (limit_passed limit files) ends = (unit, has, (reading_too (Err (stop.Limit limit)) files ends.0, keeps_too ends.1, puts_too _ ends.2))
  earlier_ending (file_unread number files) ends =
      (unit, has, (reading_too (Err (stop.ReadFault number)) files ends.0, Rose-earlier _ _ _ earlier ends.1, keeps_too ends.2, puts_too _ ends.3))
  earlier_ending (listing_failed tokens files) ends = (
    unit,
    has,
    (
      reading_too (Ok tokens) files ends.0,
      keeps_too ends.1,
      subst (λ faults. Rose faults after.sink_faults) same_faults ends.2,
      subst (λ told. MayHaveAppended told after.written (listing tokens)) same_written ends.3,
    ),
  )
  earlier_ending memory_wanted ends = (keeps_too ends.0, ends.1 ∙ same_written)

  -- a unit that was found is expanded
  pub ends_found : (result : Result ℕ Memory) → EndsWithAs unit middle after result → EndsExpandingAs project file before after result
  ends_found (Ok status) ends = (ends.0, ends.1, earlier_ending ends.0 ends.2)
  ends_found (Err error) ends = earlier_ending memory_wanted ends

-- there is no unit, and it is explained why
pub ends_missing : (project file : List ℕ) (before after : Outside) (why : NoUnit) (result : Result ℕ Memory) → HasNoUnit before.files project file before.folder_faults after.folder_faults why
    → KeepsFiles before after → OnOk result (Puts before after (line_without_unit project file why)) → IfOk result (λ status. status ≡ status_without_unit why)
    → OnErr result (after.written ≡ before.written) → EndsExpandingAs project file before after result
ends_missing project file before after why (Ok status) none keeps puts is unwritten = (unit_missing why, is, (none, keeps, puts))
ends_missing project file before after why (Err error) none keeps puts is unwritten = (keeps, unwritten)

-- the same with names of the same bytes
pub ends_too : (project same_project file same_file : List ℕ) (before after : Outside) (result : Result ℕ Memory) → project ≡ same_project → file ≡ same_file → EndsExpandingAs project file before after result
    → EndsExpandingAs same_project same_file before after result
ends_too project same_project file same_file before after result is_project is_file ends =
    subst (λ name. EndsExpandingAs same_project name before after result) is_file (subst (λ name. EndsExpandingAs name file before after result) is_project ends)

pub puts_about : (before after : Outside) (project same_project file same_file : List ℕ) (why : NoUnit) (result : Result ℕ Memory) → project ≡ same_project → file ≡ same_file
    → OnOk result (Puts before after (line_without_unit project file why)) → OnOk result (Puts before after (line_without_unit same_project same_file why))
puts_about before after project same_project file same_file why (Err error) is_project is_file puts = tt
puts_about before after project same_project file same_file why (Ok status) is_project is_file puts =
    subst (λ name. Puts before after (line_without_unit same_project name why)) is_file (subst (λ name. Puts before after (line_without_unit name file why)) is_project puts)

-- a stop for which the unit's text is not the cause
abbrev IsFree : Stop → Type 0
IsFree stop.Memory = Unit {0}
IsFree (stop.Refused refusal) = ⊥
IsFree (stop.Limit limit) = ⊥
IsFree (stop.ReadFault file) = Unit {0}

-- a unit that is read has no stop, where the files are told, but for a fault or for want of memory
reads-no-stop : (files : Files) (unit : Source) (tokens : UnitTokens) (one other : Loaded) (why : Stop) → IsReadAs (setting_of fresh one files unit) unit fresh (Ok tokens) one
    → IsReadAs (setting_of fresh other files unit) unit fresh (Err why) other → IsFree why
reads-no-stop files unit tokens one other stop.Memory reads stops = tt
reads-no-stop files unit tokens one other (stop.Refused refusal) reads stops =
    absurd (one-outcome (setting_of fresh one files unit) (is_known other) (name_of other) unit.file unit.define (state_with (first_files fresh unit)) (Ok reads.0) (Err (stop.Refused refusal)) reads.1.1 stops.1 tt tt)
reads-no-stop files unit tokens one other (stop.Limit limit) reads stops =
    absurd (one-outcome (setting_of fresh one files unit) (is_known other) (name_of other) unit.file unit.define (state_with (first_files fresh unit)) (Ok reads.0) (Err (stop.Limit limit)) reads.1.1 stops.1 tt tt)
reads-no-stop files unit tokens one other (stop.ReadFault file) reads stops = tt

-- a unit that is read stops only by a fault or for want of memory
unread : (project file : List ℕ) (before : Outside) → HoldsUnit before.files project file → (why : Stop) (loaded : Loaded) (other : Source) → HasUnit before.files project file other
    → IsReading before.files other (Err why) loaded → IsFree why
unread project file before holds why loaded other has reads =
    let same : other ≡ holds.unit =
    one_unit holds.files project file other holds.unit (subst (λ told. HasUnit told project file other) holds.are_told has) (subst (λ told. HasUnit told project file holds.unit) holds.are_told holds.has) in
    reads-no-stop holds.files holds.unit holds.tokens holds.loaded loaded why
    (subst (λ (told : Option Files). IsReading told holds.unit (Ok holds.tokens) holds.loaded) holds.are_told holds.is_read)
    (subst (λ (told : Option Files). IsReading told holds.unit (Err why) loaded) holds.are_told (subst (λ (unit : Source). IsReading before.files unit (Err why) loaded) same reads))

-- where the unit is read and nothing fails, only two endings are left
pub complete_unit : (project file : List ℕ) (before after : Outside) (ending : UnitEnding) → HoldsUnit before.files project file → EndsExpanding project file before after ending
    → ¬ Rose before.folder_faults after.folder_faults → ¬ Rose before.sink_faults after.sink_faults → (status_of_unit ending ≡ statuses.done) ⊎ (status_of_unit ending ≡ statuses.memory_wanted)
complete_unit project file before after (listed tokens files) holds ends folder sink = inl refl
complete_unit project file before after (unit_missing why) holds ends folder sink =
    let has = subst (λ told. HasUnit told project file holds.unit) holds.are_told holds.has in
    let none = subst (λ told. HasNoUnit told project file before.folder_faults after.folder_faults why) holds.are_told ends.0 in
    absurd (has_unit holds.files project file holds.unit before.folder_faults after.folder_faults why has none folder)
complete_unit project file before after (refused refusal files) holds ends folder sink = absurd (unread project file before holds (stop.Refused refusal) files ends.0 ends.1 ends.2.0)
complete_unit project file before after (limit_passed limit files) holds ends folder sink = absurd (unread project file before holds (stop.Limit limit) files ends.0 ends.1 ends.2.0)
complete_unit project file before after (file_unread number files) holds ends folder sink = absurd (folder ends.2.1)
complete_unit project file before after (listing_failed tokens files) holds ends folder sink = absurd (sink ends.2.2)
complete_unit project file before after memory_wanted holds ends folder sink = inr refl
