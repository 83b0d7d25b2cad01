use Rattle.std.proofs.Common.{List, ℕ, sym, ◌∙◌, subst}
use Rattle.dm_search.specs.Headers.{header_number}
use Rattle.dm_search.specs.Joining.{candidates, places}
use Rattle.dm_search.specs.Loaded.{name_of}
use Rattle.dm_unit.specs.Loaders.{shown}
use Rattle.dm_unit.specs.Views.{SearchLeads}
use Rattle.dm_unit.proofs.LeaveLemmas.{search-leads, search-held, search-names, search-leaves}
use Rattle.dm_unit.proofs.include.search.Goals as goal

pub returns-clause-search : goal.returns-clause-search
returns-clause-search g c = λ setting main serves.
    let old = c.args.loader.now in
    let header = c.args.header.now in
    subst (λ (include : List (List ℕ)). SearchLeads setting (header_number header.name) (candidates header.name (places (name_of old c.args.file) header.quoted include)) (shown old) c.find.result (shown c.find.new.self))
    (c.items.ensures ∙ sym serves.include)
    (search-leads (g.F.Folder.files c.args.folder.now) c.args.unit.now main (header_number header.name) _ old c.find.result c.find.new.self setting c.names.ensures.slots c.find.ensures.search serves)

pub returns-clause-held : goal.returns-clause-held
returns-clause-held g c =
    search-held (g.F.Folder.files c.args.folder.now) c.args.header.now.name _ c.args.loader.now c.find.result c.find.new.self c.names.ensures.slots c.names.ensures.headers c.find.ensures.search

pub returns-clause-names : goal.returns-clause-names
returns-clause-names g c =
    search-names (g.F.Folder.files c.args.folder.now) (header_number c.args.header.now.name) _ c.args.loader.now c.find.result c.find.new.self c.find.ensures.search

pub returns-clause-leaves : goal.returns-clause-leaves
returns-clause-leaves g c =
    search-leaves (g.F.Folder.files c.args.folder.now) _ _ _ _ _ (header_number c.args.header.now.name) _ c.args.loader.now c.find.result c.find.new.self c.names.ensures.slots c.find.ensures.search
    c.find.ensures.failed c.find.ensures.files_stay c.find.ensures.rooms_stay c.find.ensures.later
