use Rattle.std.proofs.Common.{ℕ, List, Ok, sym, ◌∙◌, subst}
use Rattle.dm_unit.specs.Loaders.{shown}
use Rattle.dm_unit.specs.Readings.{DoesManifests}
use Rattle.dm_unit.specs.Views.{state_of, Stops}
use Rattle.dm_unit.proofs.TopLemmas.{unit-does, defines-stop}
use Rattle.dm_unit.proofs.read_all.Goals as goal

pub returns-in-Ok-clause-leads : goal.returns-in-Ok-clause-leads
returns-in-Ok-clause-leads g c = λ setting serves.
    let files = shown c.args.loader.now in
    let start = state_of c.args.reader.now files in
    let middle = state_of c.read_defines.new.reader files in
    unit-does setting c.args.unit.now.file c.args.unit.now.define start middle c.read_main.result (state_of c.read_main.new.reader (shown c.read_main.new.loader))
    (subst (λ (defines : List (List ℕ)). DoesManifests setting defines start (Ok middle)) c.items.ensures (c.in-Ok.ensures.leads setting files (serves.main_is ∙ sym c.requires.main)))
    (c.read_main.ensures.leads setting serves)

pub returns-in-Err-clause-leads : goal.returns-in-Err-clause-leads
returns-in-Err-clause-leads g c = λ setting serves.
    let files = shown c.args.loader.now in
    let start = state_of c.args.reader.now files in
    defines-stop setting c.args.unit.now.file c.args.unit.now.define start c.in-Err.stop
    (subst (λ (defines : List (List ℕ)). Stops (DoesManifests setting defines start) c.in-Err.stop) c.items.ensures (c.in-Err.ensures.leads setting files (serves.main_is ∙ sym c.requires.main)))
