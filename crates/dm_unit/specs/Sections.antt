-- Conditional inclusion (6.10.1): of the groups of an if-section at most one is read.
--     is_read sections      whether what stands within these open sections is read
--     stage_by, after_else, after_elif      what the directives do to a section
use Rattle.std.specs.Prelude.{Bool, true, false, List, [], ◌∷◌, if◌then◌else◌}
use Rattle.dm_unit.specs.declared.section.Stage.{Stage}
use Rattle.dm_unit.specs.declared.section.Stage.TheVariants.{Read, Waiting, Over}
use Rattle.dm_unit.specs.declared.section.Section.{Section}

-- whether the present group of a section is read
abbrev pub is_reading : Stage → Bool
is_reading Read = true
is_reading Waiting = false
is_reading Over = false

-- Whether what stands within these open sections, the innermost first, is read. A section that is opened in a group
-- that is skipped has no group that is read, so the innermost decides.
abbrev pub is_read : List Section → Bool
is_read [] = true
is_read (section ∷ outer) = is_reading section.stage

-- a group whose condition has this truth: it is read, or a later one may be
abbrev pub stage_by : Bool → Stage
stage_by truth = if truth then Read else Waiting

-- behind `else` the group is read exactly where none was before
abbrev pub stage_after_else : Stage → Stage
stage_after_else Read = Over
stage_after_else Waiting = Read
stage_after_else Over = Over

abbrev pub after_else : Section → Section
after_else section = record { hash = section.hash; stage = stage_after_else section.stage; has_else = true }

-- behind an `elif` whose condition isn't evaluated, since a group was read before or none is to be
abbrev pub after_skipped_elif : Section → Section
after_skipped_elif section = record section { stage = Over }

-- behind an `elif` whose condition has this truth
abbrev pub after_elif : Bool → Section → Section
after_elif truth section = record section { stage = stage_by truth }
