use Rattle.std.proofs.Common.{◌∷◌, [], ℕ, None, Ok, Bool, sym, ap, ◌∙◌, subst}
use Rattle.dm_token.specs.Refusals as refusals
use Rattle.dm_token.specs.declared.place.Place.{Place}
use Rattle.dm_unit.specs.States.{refusal}
use Rattle.dm_unit.specs.Loaders.{shown}
use Rattle.dm_unit.specs.Readings.{ReadsFile, ReadsMain, Enters, most_nested, absent_place}
use Rattle.dm_unit.specs.Views.{state_of, Does, Stops, SearchLeads, loaded_as, stop_of}
use Rattle.dm_unit.proofs.LeaveLemmas.{leaves-trans, none-memory}
use Rattle.dm_unit.proofs.ReadingLemmas.{main-absent, main-stops, main-reads, most_nested-is}
use Rattle.dm_unit.proofs.UnitLemmas.{serves-early, serves-late, serves-still, unless-memory, does-map}
use Rattle.dm_unit.proofs.read_main.Goals as goal

pub returns-in-Ok-true-clause-leads : goal.returns-in-Ok-true-clause-leads
returns-in-Ok-true-clause-leads g c = λ setting serves.
    let name = c.args.unit.now.file in
    let state = state_of c.args.reader.now (shown c.args.loader.now) in
    let begun = state_of c.args.reader.now (shown c.load_main.new.loader) in
    let after = state_of c.read_file.new.reader (shown c.read_file.new.loader) in
    let told = g.F.Folder.files c.args.folder.now in
    unless-memory (ReadsMain setting name state) c.read_file.result after (λ not.
    let early = serves-early told c.args.unit.now c.args.main c.args.loader.now c.load_main.new.loader c.read_file.new.loader (stop_of c.read_file.result) setting (c.read_file.ensures.leaves.knows not) (c.read_file.ensures.leaves.grows not).begins serves in
    let late = serves-late told (g.F.Folder.files c.load_main.new.folder) c.args.unit.now c.args.main c.args.reader.now.main c.args.loader.now c.load_main.new.loader c.read_file.new.loader (stop_of c.read_file.result) setting
    c.in-Ok-true.ensures.leaves.files_stay c.in-Ok-true.ensures.leaves.served (c.in-Ok-true.ensures.leaves.knows none-memory) c.read_file.ensures.leaves.knows c.requires.main serves in
    does-map (ReadsFile setting (Enters setting most_nested) c.args.main begun) (ReadsMain setting name state) c.read_file.result after
    (λ outcome reads. main-reads setting name state c.args.main (shown c.load_main.new.loader) outcome
    (subst (λ (there : Bool). SearchLeads setting None (name ∷ []) (shown c.args.loader.now) (loaded_as c.args.main (Ok there)) (shown c.load_main.new.loader)) c.in-Ok-true.field-0-test
    (c.in-Ok-true.ensures.search setting c.args.unit.now c.args.main early)) reads)
    (subst (λ (n : ℕ). Does (ReadsFile setting (Enters setting n) c.args.main begun) c.read_file.result after) (sym most_nested-is) (c.read_file.ensures.leads setting late)))

pub returns-in-Ok-true-clause-leaves : goal.returns-in-Ok-true-clause-leaves
returns-in-Ok-true-clause-leaves g c =
    leaves-trans (g.F.Folder.files c.args.folder.now) (g.F.Folder.files c.load_main.new.folder) (g.F.Folder.files c.read_file.new.folder)
    (g.F.Folder.room c.args.folder.now) (g.F.Folder.room c.load_main.new.folder) (g.F.Folder.room c.read_file.new.folder)
    (g.F.Folder.faults c.args.folder.now) (g.F.Folder.faults c.load_main.new.folder) (g.F.Folder.faults c.read_file.new.folder)
    c.args.loader.now c.load_main.new.loader c.read_file.new.loader (stop_of c.read_file.result) c.in-Ok-true.ensures.leaves c.read_file.ensures.leaves

pub returns-in-Ok-false-clause-leads : goal.returns-in-Ok-false-clause-leads
returns-in-Ok-false-clause-leads g c = λ setting serves.
    let name = c.args.unit.now.file in
    let state = state_of c.args.reader.now (shown c.args.loader.now) in
    subst (Stops (ReadsMain setting name state)) (ap (λ (main : ℕ). refusal refusals.not_found (absent_place main)) serves.main_is ∙ ap (λ (place : Place). refusal refusals.not_found place) (sym c.first_place.ensures) ∙ sym c.refused.ensures.stop)
    (main-absent setting name state (shown c.load_main.new.loader)
    (subst (λ (there : Bool). SearchLeads setting None (name ∷ []) (shown c.args.loader.now) (loaded_as c.args.main (Ok there)) (shown c.load_main.new.loader)) c.in-Ok-false.field-0-test
    (c.in-Ok-false.ensures.search setting c.args.unit.now c.args.main (serves-still _ _ _ _ _ _ setting serves))))

pub returns-in-Err-clause-leads : goal.returns-in-Err-clause-leads
returns-in-Err-clause-leads g c = λ setting serves.
    main-stops setting c.args.unit.now.file (state_of c.args.reader.now (shown c.args.loader.now)) c.in-Err.stop (c.in-Err.ensures.search setting c.args.unit.now c.args.main serves)
