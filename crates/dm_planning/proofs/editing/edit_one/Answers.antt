-- The edit stands, or is taken back.
use Rattle.std.proofs.Common.{◌≡◌, true, false, Option, Some, None, refl, sym, ap, ◌∙◌, subst, rules}
use Rattle.dm_token.specs.declared.stop.Stop.{Stop}
use Rattle.dm_search.specs.Loaded.{is_held, with_bytes}
use Rattle.dm_search.specs.Readable.{IsReadable}
use Rattle.dm_subjects.specs.Subjects.{bytes_at}
use Rattle.dm_planning.specs.Judging.{CanBeEdited, file_of}
use Rattle.dm_planning.specs.Steps.{Holds, LeavesProject, RereadsTo}
use Rattle.dm_planning.proofs.EditLemmas.{bytes-held}
use Rattle.dm_planning.proofs.EditingLemmas.{edits-back, edits-stand, held-can, leaves-held, when-true}
use Rattle.dm_planning.proofs.LeaveLemmas.{handed-on, leaves-replaced, leaves-trans, none-memory}
use Rattle.dm_planning.proofs.editing.edit_one.Goals as goal

pub returns-in_err-read_edited-clause-leaves : goal.returns-in_err-read_edited-clause-leaves
returns-in_err-read_edited-clause-leaves g c =
    let change = c.args.change in
    let file = file_of change in
    let can : CanBeEdited c.args.loader.now change.definition = when-true c.can_be_edited.result (CanBeEdited c.args.loader.now change.definition) c.can_be_edited.ensures (search rules) in
    let first = held-can c.args.loader.now change.definition can in
    let held : c.in_ok-hold_edited.field-0 ≡ true = search rules in
    let holds : Holds change c.args.loader.now true c.hold_edited.new.loader =
    subst (λ b. Holds change c.args.loader.now b c.hold_edited.new.loader) held c.in_ok-hold_edited.ensures in
    let files = g.F.Folder.files c.args.folder.now in
    let room = g.F.Folder.room c.args.folder.now in
    let faults = g.F.Folder.faults c.args.folder.now in
    let new_files = g.F.Folder.files c.read_edited.new.folder in
    let new_room = g.F.Folder.room c.read_edited.new.folder in
    let new_faults = g.F.Folder.faults c.read_edited.new.folder in
    let early = leaves-held files room faults change c.args.loader.now c.hold_edited.new.loader c.requires.room first holds in
    let fault = c.in_err-read_edited.field-0.0 in
    subst (λ (stop : Option Stop). LeavesProject files new_files room new_room faults new_faults c.args.loader.now c.read_edited.new.loader stop)
    (handed-on c.from_residual-in_err-read_edited.result fault c.from_residual-in_err-read_edited.ensures.1)
    (leaves-trans files files new_files room room new_room faults faults new_faults c.args.loader.now c.hold_edited.new.loader c.read_edited.new.loader (Some fault) early c.in_err-read_edited.ensures.leaves)

pub returns-then-branch-clause-edits : goal.returns-then-branch-clause-edits
returns-then-branch-clause-edits g c =
    let change = c.args.change in
    let file = file_of change in
    let can : CanBeEdited c.args.loader.now change.definition = when-true c.can_be_edited.result (CanBeEdited c.args.loader.now change.definition) c.can_be_edited.ensures (search rules) in
    let first = held-can c.args.loader.now change.definition can in
    let held : c.in_ok-hold_edited.field-0 ≡ true = search rules in
    let holds : Holds change c.args.loader.now true c.hold_edited.new.loader =
    subst (λ b. Holds change c.args.loader.now b c.hold_edited.new.loader) held c.in_ok-hold_edited.ensures in
    let files = g.F.Folder.files c.args.folder.now in
    let room = g.F.Folder.room c.args.folder.now in
    let faults = g.F.Folder.faults c.args.folder.now in
    let new_files = g.F.Folder.files c.read_edited.new.folder in
    let new_room = g.F.Folder.room c.read_edited.new.folder in
    let new_faults = g.F.Folder.faults c.read_edited.new.folder in
    let early = leaves-held files room faults change c.args.loader.now c.hold_edited.new.loader c.requires.room first holds in
    let now = c.read_edited.new.kept in
    let known = c.read_edited.new.loader in
    let stands : c.in_ok-read_edited.field-0 ≡ true = search rules in
    let rereads : RereadsTo files c.args.units.now change c.args.kept.now c.hold_edited.new.loader true now known =
    subst (λ b. RereadsTo files c.args.units.now change c.args.kept.now c.hold_edited.new.loader b now known) stands c.in_ok-read_edited.ensures.rereads in
    edits-stand files c.args.units.now c.args.loader.now c.hold_edited.new.loader known known c.args.kept.now now c.args.readings.now c.read_edited.new.readings change c.rewritten_entry.result
    can holds rereads refl c.in_ok-read_edited.ensures.counted c.rewritten_entry.ensures

pub returns-then-branch-clause-leaves : goal.returns-then-branch-clause-leaves
returns-then-branch-clause-leaves g c =
    let change = c.args.change in
    let file = file_of change in
    let can : CanBeEdited c.args.loader.now change.definition = when-true c.can_be_edited.result (CanBeEdited c.args.loader.now change.definition) c.can_be_edited.ensures (search rules) in
    let first = held-can c.args.loader.now change.definition can in
    let held : c.in_ok-hold_edited.field-0 ≡ true = search rules in
    let holds : Holds change c.args.loader.now true c.hold_edited.new.loader =
    subst (λ b. Holds change c.args.loader.now b c.hold_edited.new.loader) held c.in_ok-hold_edited.ensures in
    let files = g.F.Folder.files c.args.folder.now in
    let room = g.F.Folder.room c.args.folder.now in
    let faults = g.F.Folder.faults c.args.folder.now in
    let new_files = g.F.Folder.files c.read_edited.new.folder in
    let new_room = g.F.Folder.room c.read_edited.new.folder in
    let new_faults = g.F.Folder.faults c.read_edited.new.folder in
    let early = leaves-held files room faults change c.args.loader.now c.hold_edited.new.loader c.requires.room first holds in
    leaves-trans files files new_files room room new_room faults faults new_faults c.args.loader.now c.hold_edited.new.loader c.read_edited.new.loader None early c.in_ok-read_edited.ensures.leaves

pub put_back-requires-clause-held : goal.put_back-requires-clause-held
put_back-requires-clause-held g c =
    let change = c.args.change in
    let file = file_of change in
    let can : CanBeEdited c.args.loader.now change.definition = when-true c.can_be_edited.result (CanBeEdited c.args.loader.now change.definition) c.can_be_edited.ensures (search rules) in
    let first = held-can c.args.loader.now change.definition can in
    let held : c.in_ok-hold_edited.field-0 ≡ true = search rules in
    let holds : Holds change c.args.loader.now true c.hold_edited.new.loader =
    subst (λ b. Holds change c.args.loader.now b c.hold_edited.new.loader) held c.in_ok-hold_edited.ensures in
    let files = g.F.Folder.files c.args.folder.now in
    let room = g.F.Folder.room c.args.folder.now in
    let faults = g.F.Folder.faults c.args.folder.now in
    let new_files = g.F.Folder.files c.read_edited.new.folder in
    let new_room = g.F.Folder.room c.read_edited.new.folder in
    let new_faults = g.F.Folder.faults c.read_edited.new.folder in
    let early = leaves-held files room faults change c.args.loader.now c.hold_edited.new.loader c.requires.room first holds in
    let there = early.held_too none-memory file first in
    let still : is_held c.read_edited.new.loader file ≡ true = c.in_ok-read_edited.ensures.leaves.held_too none-memory file there in
    still

pub put_back-requires-clause-readable : goal.put_back-requires-clause-readable
put_back-requires-clause-readable g c =
    let change = c.args.change in
    let file = file_of change in
    let can : CanBeEdited c.args.loader.now change.definition = when-true c.can_be_edited.result (CanBeEdited c.args.loader.now change.definition) c.can_be_edited.ensures (search rules) in
    let bytes = c.from_vec-before.ensures ∙ c.in_ok-from_slice.ensures.items ∙ c.bytes_at.ensures in
    subst (IsReadable file) (sym bytes)
    (c.held_are_readable.ensures file (bytes_at c.args.loader.now file) (bytes-held c.args.loader.now file (held-can c.args.loader.now change.definition can)))

pub returns-clause-edits : goal.returns-clause-edits
returns-clause-edits g c =
    let change = c.args.change in
    let file = file_of change in
    let can : CanBeEdited c.args.loader.now change.definition = when-true c.can_be_edited.result (CanBeEdited c.args.loader.now change.definition) c.can_be_edited.ensures (search rules) in
    let first = held-can c.args.loader.now change.definition can in
    let held : c.in_ok-hold_edited.field-0 ≡ true = search rules in
    let holds : Holds change c.args.loader.now true c.hold_edited.new.loader =
    subst (λ b. Holds change c.args.loader.now b c.hold_edited.new.loader) held c.in_ok-hold_edited.ensures in
    let files = g.F.Folder.files c.args.folder.now in
    let room = g.F.Folder.room c.args.folder.now in
    let faults = g.F.Folder.faults c.args.folder.now in
    let new_files = g.F.Folder.files c.read_edited.new.folder in
    let new_room = g.F.Folder.room c.read_edited.new.folder in
    let new_faults = g.F.Folder.faults c.read_edited.new.folder in
    let early = leaves-held files room faults change c.args.loader.now c.hold_edited.new.loader c.requires.room first holds in
    let now = c.read_edited.new.kept in
    let known = c.read_edited.new.loader in
    let stands : c.in_ok-read_edited.field-0 ≡ false = search rules in
    let rereads : RereadsTo files c.args.units.now change c.args.kept.now c.hold_edited.new.loader false now known =
    subst (λ b. RereadsTo files c.args.units.now change c.args.kept.now c.hold_edited.new.loader b now known) stands c.in_ok-read_edited.ensures.rereads in
    let bytes = c.from_vec-before.ensures ∙ c.in_ok-from_slice.ensures.items ∙ c.bytes_at.ensures in
    edits-back files c.args.units.now c.args.loader.now c.hold_edited.new.loader known c.put_back.new.loader c.args.kept.now now c.args.readings.now c.read_edited.new.readings change c.kept_entry-2.result
    can holds rereads (c.in_ok-put_back.ensures ∙ ap (with_bytes known file) bytes) c.in_ok-read_edited.ensures.counted c.kept_entry-2.ensures

pub returns-clause-leaves : goal.returns-clause-leaves
returns-clause-leaves g c =
    let change = c.args.change in
    let file = file_of change in
    let can : CanBeEdited c.args.loader.now change.definition = when-true c.can_be_edited.result (CanBeEdited c.args.loader.now change.definition) c.can_be_edited.ensures (search rules) in
    let first = held-can c.args.loader.now change.definition can in
    let held : c.in_ok-hold_edited.field-0 ≡ true = search rules in
    let holds : Holds change c.args.loader.now true c.hold_edited.new.loader =
    subst (λ b. Holds change c.args.loader.now b c.hold_edited.new.loader) held c.in_ok-hold_edited.ensures in
    let files = g.F.Folder.files c.args.folder.now in
    let room = g.F.Folder.room c.args.folder.now in
    let faults = g.F.Folder.faults c.args.folder.now in
    let new_files = g.F.Folder.files c.read_edited.new.folder in
    let new_room = g.F.Folder.room c.read_edited.new.folder in
    let new_faults = g.F.Folder.faults c.read_edited.new.folder in
    let early = leaves-held files room faults change c.args.loader.now c.hold_edited.new.loader c.requires.room first holds in
    let known = c.read_edited.new.loader in
    let late = c.in_ok-read_edited.ensures.leaves in
    let there = early.held_too none-memory file first in
    let still : is_held known file ≡ true = late.held_too none-memory file there in
    let middle = leaves-trans files files new_files room room new_room faults faults new_faults c.args.loader.now c.hold_edited.new.loader c.read_edited.new.loader None early late in
    let back = leaves-replaced new_files new_room new_faults known file c.from_vec-before.result (late.roomy none-memory) still in
    subst (λ new. LeavesProject files new_files room new_room faults new_faults c.args.loader.now new None) (sym c.in_ok-put_back.ensures)
    (leaves-trans files new_files new_files room new_room new_room faults new_faults new_faults c.args.loader.now known (with_bytes known file c.from_vec-before.result) None middle back)
