use Rattle.std.proofs.Common.{◌<◌, ℕ, inl, inr, None, Some, Ok, Err, length, sym, ap, ◌∙◌, subst, refl}
use Rattle.dm_search.specs.Loaded.{Loaded, number_of, with_name}
use Rattle.dm_unit.specs.Loaders.{shown}
use Rattle.dm_unit.specs.Units.{setting_of}
use Rattle.dm_unit.specs.Views.{state_of, named_by}
use Rattle.dm_unit.proofs.NameLemmas.{number-inside, number-with_name}
use Rattle.dm_unit.proofs.TopLemmas.{unit-leaves, finish-leaves, unit-serves, unit-known, unit-numbered, unit-start, unit-answers, unit-read, unit-stop, held-main}
use Rattle.dm_unit.proofs.read_unit.Goals as goal

pub read_all-requires-clause-numbered : goal.read_all-requires-clause-numbered
read_all-requires-clause-numbered g c =
    subst (λ (l : Loaded). c.in_ok-main.main < length l.names) (sym c.in_ok-main.ensures.added)
    (subst (λ (n : ℕ). n < length (with_name c.args.loader.now c.args.unit.now.file).names) (sym c.in_ok-main.ensures.number) (number-inside c.args.loader.now c.args.unit.now.file))

pub read_all-requires-clause-number : goal.read_all-requires-clause-number
read_all-requires-clause-number g c =
    c.in_ok-main.ensures.number ∙ sym (number-with_name c.args.loader.now c.args.unit.now.file) ∙ ap (λ (l : Loaded). number_of l c.args.unit.now.file) (sym c.in_ok-main.ensures.added)

pub returns-in-Ok-clause-reading : goal.returns-in-Ok-clause-reading
returns-in-Ok-clause-reading g c = λ files told.
    let setting = setting_of c.args.loader.now c.read_all.new.loader files c.args.unit.now in
    let start = state_of c.in_ok-reader.reader (shown c.number.new.self) in
    let final = state_of c.read_all.new.reader (shown c.read_all.new.loader) in
    unit-answers setting c.args.unit.now c.args.loader.now c.read_all.new.loader start final c.finish.result
    (unit-numbered files c.args.unit.now None c.args.loader.now c.number.new.self c.read_all.new.loader c.in_ok-main.ensures.added (c.in-Ok.ensures.leaves.grows (λ e. cc)))
    (unit-start c.args.unit.now c.args.loader.now c.number.new.self start c.in_ok-main.ensures.added (c.in_ok-reader.ensures.state (shown c.number.new.self)))
    (c.in-Ok.ensures.leads setting (unit-serves (g.F.Folder.files c.args.folder.now) files c.args.unit.now c.args.loader.now c.number.new.self c.read_all.new.loader c.in_ok-main.main None
    c.names.ensures.slots c.in_ok-main.ensures.added c.in_ok-main.ensures.number (inl told)))
    (c.finish.ensures.tokens (shown c.read_all.new.loader)) c.finish.ensures.memory refl

pub returns-in-Ok-clause-known : goal.returns-in-Ok-clause-known
returns-in-Ok-clause-known g c =
    let l0 = c.args.loader.now in
    let l1 = c.number.new.self in
    let new = c.read_all.new.loader in
    let unit = c.args.unit.now in
    unit-read unit l0 new (state_of c.in_ok-reader.reader (shown l1)) (state_of c.read_all.new.reader (shown new)) c.finish.result
    (λ files. unit-numbered files unit None l0 l1 new c.in_ok-main.ensures.added (c.in-Ok.ensures.leaves.grows (λ e. cc)))
    (unit-start unit l0 l1 (state_of c.in_ok-reader.reader (shown l1)) c.in_ok-main.ensures.added (c.in_ok-reader.ensures.state (shown l1)))
    (λ files has. c.in-Ok.ensures.leads (setting_of l0 new files unit)
    (unit-serves (g.F.Folder.files c.args.folder.now) files unit l0 l1 new c.in_ok-main.main None c.names.ensures.slots c.in_ok-main.ensures.added c.in_ok-main.ensures.number
    (inr (refl, unit-known files l0 l1 new unit.file c.names.ensures.slots c.in_ok-main.ensures.added has))))
    (c.finish.ensures.tokens (shown new)) refl

pub returns-in-Ok-clause-leaves : goal.returns-in-Ok-clause-leaves
returns-in-Ok-clause-leaves g c =
    finish-leaves (g.F.Folder.files c.args.folder.now) (g.F.Folder.files c.read_all.new.folder) (g.F.Folder.room c.args.folder.now) (g.F.Folder.room c.read_all.new.folder)
    (g.F.Folder.faults c.args.folder.now) (g.F.Folder.faults c.read_all.new.folder)
    c.args.loader.now c.read_all.new.loader c.finish.result c.finish.ensures.memory
    (unit-leaves (g.F.Folder.files c.args.folder.now) (g.F.Folder.files c.read_all.new.folder) (g.F.Folder.room c.args.folder.now) (g.F.Folder.room c.read_all.new.folder)
    (g.F.Folder.faults c.args.folder.now) (g.F.Folder.faults c.read_all.new.folder)
    c.args.loader.now c.number.new.self c.read_all.new.loader c.args.unit.now.file None c.names.ensures.slots c.in_ok-main.ensures.added c.in-Ok.ensures.leaves
    (held-main c.in_ok-main.main (number_of c.args.loader.now c.args.unit.now.file) (Ok c.in-Ok.field-0) c.read_all.new.loader c.in_ok-main.ensures.number c.in-Ok.ensures.main))

pub returns-in-Err-clause-reading : goal.returns-in-Err-clause-reading
returns-in-Err-clause-reading g c = λ files told.
    let setting = setting_of c.args.loader.now c.read_all.new.loader files c.args.unit.now in
    let start = state_of c.in_ok-reader.reader (shown c.number.new.self) in
    unit-stop setting c.args.unit.now c.args.loader.now c.read_all.new.loader start c.in-Err.stop
    (λ not. unit-numbered files c.args.unit.now (named_by (Some c.in-Err.stop)) c.args.loader.now c.number.new.self c.read_all.new.loader c.in_ok-main.ensures.added (c.in-Err.ensures.leaves.grows not))
    (unit-start c.args.unit.now c.args.loader.now c.number.new.self start c.in_ok-main.ensures.added (c.in_ok-reader.ensures.state (shown c.number.new.self)))
    (c.in-Err.ensures.leads setting (unit-serves (g.F.Folder.files c.args.folder.now) files c.args.unit.now c.args.loader.now c.number.new.self c.read_all.new.loader c.in_ok-main.main (Some c.in-Err.stop)
    c.names.ensures.slots c.in_ok-main.ensures.added c.in_ok-main.ensures.number (inl told)))

pub returns-in-Err-clause-leaves : goal.returns-in-Err-clause-leaves
returns-in-Err-clause-leaves g c =
    unit-leaves (g.F.Folder.files c.args.folder.now) (g.F.Folder.files c.read_all.new.folder) (g.F.Folder.room c.args.folder.now) (g.F.Folder.room c.read_all.new.folder)
    (g.F.Folder.faults c.args.folder.now) (g.F.Folder.faults c.read_all.new.folder)
    c.args.loader.now c.number.new.self c.read_all.new.loader c.args.unit.now.file (Some c.in-Err.stop) c.names.ensures.slots c.in_ok-main.ensures.added c.in-Err.ensures.leaves
    (held-main {A = ℕ} c.in_ok-main.main (number_of c.args.loader.now c.args.unit.now.file) (Err c.in-Err.stop) c.read_all.new.loader c.in_ok-main.ensures.number c.in-Err.ensures.main)
