-- The search looks at the next name.
use Rattle.std.proofs.Common.{◌≡◌, ◌<◌, ℕ, List, Option, Some, None, Ok, Err, length, ap, sym, ◌∙◌, subst, arith}
use Rattle.dm_io.specs.Files.{Files}
use Rattle.dm_search.specs.Searching.{Seeks, PassesOver, EndsAt}
use Rattle.dm_search.proofs.SearchLemmas.{finds-over, finds-here, finds-none, passes-names, settled-over}
use Rattle.dm_search.proofs.loader.Loader.find_first.Goals as goal

pub returns-in-Ok-Some-clause-search : goal.returns-in-Ok-Some-clause-search
returns-in-Ok-Some-clause-search g c =
    let told = g.F.Folder.files c.args.folder.now in
    let ends : EndsAt (g.F.Folder.files c.loop-name.folder) c.name-item.result c.loop-name.self (Ok (Some c.in-Ok-Some.file)) c.seek.new.self =
    subst (λ (o : Option ℕ). Seeks (g.F.Folder.files c.loop-name.folder) c.name-item.result c.loop-name.self (Ok o) c.seek.new.self) c.in-Ok-Some.field-0-is c.in-Ok-Some.ensures.seeks in
    c.loop-name.invariant.rest (Ok (Some c.in-Ok-Some.file)) c.seek.new.self
    (finds-here told c.args.header c.args.names.now c.loop-name.name-index c.name-item.result c.loop-name.self (Ok (Some c.in-Ok-Some.file)) c.seek.new.self c.loop-name-test.true c.name-item.is
    (subst (λ (t : Option Files). EndsAt t c.name-item.result c.loop-name.self (Ok (Some c.in-Ok-Some.file)) c.seek.new.self) c.loop-name.invariant.files ends))

pub returns-in-Err-clause-search : goal.returns-in-Err-clause-search
returns-in-Err-clause-search g c =
    let told = g.F.Folder.files c.args.folder.now in
    c.loop-name.invariant.rest (Err c.in-Err.stop) c.seek.new.self
    (finds-here told c.args.header c.args.names.now c.loop-name.name-index c.name-item.result c.loop-name.self (Err c.in-Err.stop) c.seek.new.self c.loop-name-test.true c.name-item.is
    (subst (λ (t : Option Files). EndsAt t c.name-item.result c.loop-name.self (Err c.in-Err.stop) c.seek.new.self) c.loop-name.invariant.files c.in-Err.ensures.seeks))

pub loop-name-preserved : goal.loop-name-preserved
loop-name-preserved g c =
    let told = g.F.Folder.files c.args.folder.now in
    let name = c.name-item.result in
    let here : PassesOver (g.F.Folder.files c.loop-name.folder) name c.loop-name.self c.seek.new.self =
    subst (λ (o : Option ℕ). Seeks (g.F.Folder.files c.loop-name.folder) name c.loop-name.self (Ok o) c.seek.new.self) c.in-Ok-None.field-0-is c.in-Ok-None.ensures.seeks in
    let over : PassesOver told name c.loop-name.self c.seek.new.self = subst (λ (t : Option Files). PassesOver t name c.loop-name.self c.seek.new.self) c.loop-name.invariant.files here in
    record {
      room = subst (λ (ns : List (List ℕ)). length ns < 4294967295) (sym (passes-names told name c.loop-name.self c.seek.new.self over)) c.loop-name.invariant.room;
      rest = λ result new finds. c.loop-name.invariant.rest result new (finds-over told c.args.header c.args.names.now c.loop-name.name-index name c.loop-name.self c.seek.new.self result new c.loop-name-test.true c.name-item.is over finds);
      settled = λ all.
          let settled = c.loop-name.invariant.settled all in
          let known = settled-over told c.args.names.now c.loop-name.name-index name c.loop-name.self c.seek.new.self c.loop-name-test.true c.name-item.is settled.0 over in
          (known.0, c.in-Ok-None.ensures.absent known.1 ∙ settled.1);
      files = c.in-Ok-None.ensures.files_stay ∙ c.loop-name.invariant.files;
      rooms = λ other. c.in-Ok-None.ensures.rooms_stay other ∙ c.loop-name.invariant.rooms other;
      later = omega (arith, c.in-Ok-None.ensures.later, c.loop-name.invariant.later);
    }

pub returns-clause-search : goal.returns-clause-search
returns-clause-search g c =
    c.loop-name.invariant.rest (Ok c.args.header) c.loop-name.self (finds-none (g.F.Folder.files c.args.folder.now) c.args.header c.args.names.now c.loop-name.name-index c.loop-name.self c.loop-name-test.false)
