use Rattle.std.proofs.Common.{None, Option, [], ◌∷◌, sym, subst}
use Rattle.dm_token.specs.declared.stop.Stop.{Stop}
use Rattle.dm_unit.specs.Views.{Serves, loaded_as}
use Rattle.dm_unit.proofs.PlaceLemmas.{load-names}
use Rattle.dm_unit.proofs.LeaveLemmas.{search-leads, main-held, main-leaves, loaded-stop, loads-found}
use Rattle.dm_unit.proofs.include.load_main.Goals as goal

pub returns-clause-search : goal.returns-clause-search
returns-clause-search g c = λ setting unit main serves.
    let found = loads-found (g.F.Folder.files c.args.folder.now) c.args.name.now c.args.loader.now c.args.file c.load.result c.load.new.self c.names.ensures.slots c.requires.numbered c.requires.number
    (λ h. let k = c.load.ensures.held h in (k.0, k.1)) (λ h a. let k = c.load.ensures.absent h a in (k.0, k.1)) c.load.ensures.read in
    search-leads (g.F.Folder.files c.args.folder.now) unit main None (c.args.name.now ∷ []) c.args.loader.now (loaded_as c.args.file c.load.result) c.load.new.self setting c.names.ensures.slots found
    (subst (λ (stop : Option Stop). Serves (g.F.Folder.files c.args.folder.now) unit main c.args.loader.now c.load.new.self stop setting) (sym (loaded-stop c.args.file c.load.result)) serves)

pub returns-clause-held : goal.returns-clause-held
returns-clause-held g c =
    let found = loads-found (g.F.Folder.files c.args.folder.now) c.args.name.now c.args.loader.now c.args.file c.load.result c.load.new.self c.names.ensures.slots c.requires.numbered c.requires.number
    (λ h. let k = c.load.ensures.held h in (k.0, k.1)) (λ h a. let k = c.load.ensures.absent h a in (k.0, k.1)) c.load.ensures.read in
    main-held (g.F.Folder.files c.args.folder.now) (c.args.name.now ∷ []) c.args.loader.now (loaded_as c.args.file c.load.result) c.load.new.self c.names.ensures.slots found

pub returns-clause-leaves : goal.returns-clause-leaves
returns-clause-leaves g c =
    let found = loads-found (g.F.Folder.files c.args.folder.now) c.args.name.now c.args.loader.now c.args.file c.load.result c.load.new.self c.names.ensures.slots c.requires.numbered c.requires.number
    (λ h. let k = c.load.ensures.held h in (k.0, k.1)) (λ h a. let k = c.load.ensures.absent h a in (k.0, k.1)) c.load.ensures.read in
    main-leaves (g.F.Folder.files c.args.folder.now) _ _ _ _ _ (c.args.name.now ∷ []) c.args.loader.now c.args.file c.load.result c.load.new.self c.names.ensures.slots found
    c.load.ensures.failed c.load.ensures.files_stay c.load.ensures.rooms_stay c.load.ensures.later

pub returns-clause-file : goal.returns-clause-file
returns-clause-file g c =
    load-names (g.F.Folder.files c.args.folder.now) c.args.loader.now c.args.file c.load.result c.load.new.self
    (λ h. (c.load.ensures.held h).0) (λ h a. (c.load.ensures.absent h a).0) c.load.ensures.read
