use Rattle.std.proofs.Common.{ℕ, Option, Some, None, Ok, Err, inr, refl, sym, ap, subst}
use Rattle.dm_token.specs.LimitNumbers as limits
use Rattle.dm_unit.specs.States.{Outcome, Then, limit}
use Rattle.dm_unit.specs.Includes.{Sought, sought}
use Rattle.dm_unit.specs.Loaders.{shown}
use Rattle.dm_unit.specs.Views.{Stops, SearchesHeader, IncludesStop}
use Rattle.dm_unit.proofs.LeaveLemmas.{leaves-stop, faultless}
use Rattle.dm_unit.proofs.ReadingLemmas.{then-stops}
use Rattle.dm_unit.proofs.UnitLemmas.{serves-still}
use Rattle.dm_unit.proofs.include.find_included.Goals as goal

pub returns-in-Ok-None-clause-finds : goal.returns-in-Ok-None-clause-finds
returns-in-Ok-None-clause-finds g c = λ setting serves.
    let files = shown c.args.loader.now in
    subst (Stops (λ (outcome : Outcome). Then (SearchesHeader setting c.args.file c.args.header files) (λ (found : Sought) (result : Outcome). IncludesStop setting.main c.args.header.start c.args.reader.now.inclusions found.number result) outcome))
    (sym c.refused.ensures.stop)
    (inr (sought None (shown c.search.new.loader), subst (λ (o : Option ℕ). SearchesHeader setting c.args.file c.args.header files (Ok (sought o (shown c.search.new.loader)))) c.in-Ok-None.field-0-is (c.in-Ok-None.ensures.search setting c.args.reader.now.main (serves-still _ _ _ _ _ _ setting serves)), refl))

pub returns-in-Ok-None-clause-leaves : goal.returns-in-Ok-None-clause-leaves
returns-in-Ok-None-clause-leaves g c =
    leaves-stop (g.F.Folder.files c.args.folder.now) (g.F.Folder.files c.search.new.folder) (g.F.Folder.room c.args.folder.now) (g.F.Folder.room c.search.new.folder)
    (g.F.Folder.faults c.args.folder.now) (g.F.Folder.faults c.search.new.folder) c.args.loader.now c.search.new.loader (Some c.refused.result)
    (faultless c.refused.result c.refused.ensures.faultless) c.in-Ok-None.ensures.leaves

pub returns-in-Err-clause-finds : goal.returns-in-Err-clause-finds
returns-in-Err-clause-finds g c = λ setting serves.
    then-stops (SearchesHeader setting c.args.file c.args.header (shown c.args.loader.now)) (λ (found : Sought) (result : Outcome). IncludesStop setting.main c.args.header.start c.args.reader.now.inclusions found.number result)
    c.in-Err.stop (c.in-Err.ensures.search setting c.args.reader.now.main serves)

pub returns-then-reader-ge-MOST_INCLUSIONS-clause-finds : goal.returns-then-reader-ge-MOST_INCLUSIONS-clause-finds
returns-then-reader-ge-MOST_INCLUSIONS-clause-finds g c = λ setting serves.
    let files = shown c.args.loader.now in
    subst (Stops (λ (outcome : Outcome). Then (SearchesHeader setting c.args.file c.args.header files) (λ (found : Sought) (result : Outcome). IncludesStop setting.main c.args.header.start c.args.reader.now.inclusions found.number result) outcome))
    (sym c.passed.ensures.stop)
    (inr (
      sought (Some c.in-Ok-Some.found) (shown c.search.new.loader),
      subst (λ (o : Option ℕ). SearchesHeader setting c.args.file c.args.header files (Ok (sought o (shown c.search.new.loader)))) c.in-Ok-Some.field-0-is (c.in-Ok-Some.ensures.search setting c.args.reader.now.main (serves-still _ _ _ _ _ _ setting serves)),
      (c.if-reader-ge-MOST_INCLUSIONS.true, ap (λ main. Err (limit limits.inclusions main)) (sym serves.main_is)),
    ))

pub returns-then-reader-ge-MOST_INCLUSIONS-clause-leaves : goal.returns-then-reader-ge-MOST_INCLUSIONS-clause-leaves
returns-then-reader-ge-MOST_INCLUSIONS-clause-leaves g c =
    leaves-stop (g.F.Folder.files c.args.folder.now) (g.F.Folder.files c.search.new.folder) (g.F.Folder.room c.args.folder.now) (g.F.Folder.room c.search.new.folder)
    (g.F.Folder.faults c.args.folder.now) (g.F.Folder.faults c.search.new.folder) c.args.loader.now c.search.new.loader (Some c.passed.result)
    (faultless c.passed.result c.passed.ensures.faultless) c.in-Ok-Some.ensures.leaves
