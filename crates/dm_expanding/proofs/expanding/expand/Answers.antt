-- A unit that is found is expanded, and else it is explained why there is none.
use Rattle.std.proofs.Common.{refl, subst}
use Rattle.dm_lines.specs.Outside.{outside}
use Rattle.dm_sources.specs.Sources.{IsSought}
use Rattle.dm_expanding.proofs.ExpandSteps.{ends_found, ends_missing, ends_too, puts_about}
use Rattle.dm_expanding.proofs.expanding.expand.Goals as goal

pub returns-in-Found-clause-ending : goal.returns-in-Found-clause-ending
returns-in-Found-clause-ending g c =
    let before = outside g.F.Folder g.S.Sink c.args.folder.now c.args.out.now in
    let middle = outside g.F.Folder g.S.Sink c.find_unit.new.folder c.args.out.now in
    let after = outside g.F.Folder g.S.Sink c.expand_unit.new.folder c.expand_unit.new.out in
    let found = subst (IsSought before.files c.in_ok-project.project c.in_ok-file.file before.folder_faults middle.folder_faults) c.in-Found.is c.in_ok-unit.ensures.sought in
    ends_too c.in_ok-project.project c.args.project.now c.in_ok-file.file c.args.file.now before after c.expand_unit.result c.in_ok-project.ensures c.in_ok-file.ensures
    (ends_found c.in_ok-project.project c.in_ok-file.file c.in-Found.unit before middle after found c.find_unit.ensures.files_stay refl c.find_unit.ensures.later refl c.expand_unit.result
    c.expand_unit.ensures.ending)

pub returns-clause-ending : goal.returns-clause-ending
returns-clause-ending g c =
    let before = outside g.F.Folder g.S.Sink c.args.folder.now c.args.out.now in
    let after = outside g.F.Folder g.S.Sink c.find_unit.new.folder c.explain_no_unit.new.out in
    let missing = subst (IsSought before.files c.in_ok-project.project c.in_ok-file.file before.folder_faults after.folder_faults) c.in-Missing.is c.in_ok-unit.ensures.sought in
    ends_too c.in_ok-project.project c.args.project.now c.in_ok-file.file c.args.file.now before after c.explain_no_unit.result c.in_ok-project.ensures c.in_ok-file.ensures
    (ends_missing c.in_ok-project.project c.in_ok-file.file before after c.in-Missing.why c.explain_no_unit.result missing c.find_unit.ensures.files_stay
    (puts_about before after c.bytes.result.now c.in_ok-project.project c.bytes-in-Missing.result.now c.in_ok-file.file c.in-Missing.why c.explain_no_unit.result c.bytes.ensures c.bytes-in-Missing.ensures
    c.explain_no_unit.ensures.put)
    c.explain_no_unit.ensures.status c.explain_no_unit.ensures.err)
