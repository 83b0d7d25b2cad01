-- One struct after another.
use Rattle.std.proofs.Common.{rules, ◌≡◌, ◌<◌, ◌≤◌, length}
use Rattle.dm_type.specs.declared.shape.Struct.{Struct}
use Rattle.dm_type.specs.Structs.{shown_struct}
use Rattle.dm_type.specs.Tables.{Table}
use Rattle.dm_agree.proofs.StepLemmas.{through}
use Rattle.dm_align.proofs.StepLemmas.{differ, all-are, zipped-same, there, shown-at}
use Rattle.dm_align.proofs.structs.are_same_structs.Goals as goal

abbrev Same : Table → Table → Struct → Struct → Type 0
Same new old x y = shown_struct new x ≡ shown_struct old y

pub returns-then-not-is_same_struct : goal.returns-then-not-is_same_struct
returns-then-not-is_same_struct c =
    let new = c.args.new.now in
    let old = c.args.old.now in
    let n = c.in-Ok.number in
    let in_new : n < length new.structs = search rules in
    let in_old : n < length old.structs = search rules in
    let x = there new.structs n in_new in
    let y = there old.structs n in_old in
    through (differ (Same new old) new.structs old.structs n x.0 y.0 x.1 y.1 c.is_same_struct.result
    (through c.is_same_struct.ensures (shown-at (shown_struct new) (shown_struct old) new.structs old.structs n x.0 y.0 x.1 y.1)) c.if-not-is_same_struct.true)
    (zipped-same (shown_struct new) (shown_struct old) new.structs old.structs)

pub returns : goal.returns
returns c =
    let new = c.args.new.now in
    let old = c.args.old.now in
    let same : length new.structs ≡ length old.structs = search rules in
    let all : length new.structs ≤ c.loop-number.number = search rules in
    through (all-are (Same new old) new.structs old.structs c.loop-number.number same all c.loop-number.invariant) (zipped-same (shown_struct new) (shown_struct old) new.structs old.structs)
