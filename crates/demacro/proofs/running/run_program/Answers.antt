-- A unit that is found is run, and else it is explained why there is none.
use Rattle.std.proofs.Common.{refl, subst}
use Rattle.dm_lines.specs.Outside.{outside}
use Rattle.dm_words.specs.Requests.{request_of}
use Rattle.dm_sources.specs.Sources.{IsSought}
use Rattle.demacro.proofs.RunSteps.{program_found, program_missing}
use Rattle.demacro.proofs.running.run_program.Goals as goal

pub returns-in-Found-clause-ending : goal.returns-in-Found-clause-ending
returns-in-Found-clause-ending g c =
    let before = outside g.F.Folder g.S.Sink c.args.folder.now c.args.out.now in
    let middle = outside g.F.Folder g.S.Sink c.find_unit.new.folder c.args.out.now in
    let after = outside g.F.Folder g.S.Sink c.run_unit.new.folder c.run_unit.new.out in
    let found = subst (IsSought before.files c.in_ok-project.project c.in_ok-file.file before.folder_faults middle.folder_faults) c.in-Found.is c.in_ok-unit.ensures.sought in
    program_found (request_of c.args.asked.now) c.in_ok-project.project c.in_ok-file.file c.in-Found.unit before middle after c.run_unit.result c.in_ok-project.ensures c.in_ok-file.ensures
    found c.find_unit.ensures.files_stay refl c.find_unit.ensures.later refl c.run_unit.ensures.ending

pub returns-clause-ending : goal.returns-clause-ending
returns-clause-ending g c =
    let before = outside g.F.Folder g.S.Sink c.args.folder.now c.args.out.now in
    let after = outside g.F.Folder g.S.Sink c.find_unit.new.folder c.explain_no_unit.new.out in
    let missing = subst (IsSought before.files c.in_ok-project.project c.in_ok-file.file before.folder_faults after.folder_faults) c.in-Missing.is c.in_ok-unit.ensures.sought in
    program_missing (request_of c.args.asked.now) c.in_ok-project.project c.in_ok-file.file c.bytes.result.now c.bytes-in-Missing.result.now before after c.in-Missing.why c.explain_no_unit.result
    c.in_ok-project.ensures c.in_ok-file.ensures c.bytes.ensures c.bytes-in-Missing.ensures missing c.find_unit.ensures.files_stay c.explain_no_unit.ensures.put c.explain_no_unit.ensures.status
    c.explain_no_unit.ensures.err
