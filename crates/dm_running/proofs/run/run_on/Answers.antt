-- There is no input.
use Rattle.std.proofs.Common.{subst}
use Rattle.dm_lines.specs.Outside.{outside}
use Rattle.dm_words.specs.Requests.{request_of}
use Rattle.dm_running.specs.Inputs.{IsInputSought}
use Rattle.dm_running.proofs.RunSteps.{ends_without}
use Rattle.dm_running.proofs.run.run_on.Goals as goal

pub returns-in-Lacking-clause-ending : goal.returns-in-Lacking-clause-ending
returns-in-Lacking-clause-ending g c =
    let before = outside g.F.Folder g.S.Sink c.args.folder.now c.args.out.now in
    let after = outside g.F.Folder g.S.Sink c.find_input.new.folder c.explain_no_input.new.out in
    let lacking = subst (IsInputSought before.files c.args.name.now before.folder_faults after.folder_faults) c.in-Lacking.is c.in_ok-bytes.ensures.sought in
    ends_without (request_of c.args.asked.now) c.args.unit c.args.name.now before after c.in-Lacking.why c.explain_no_input.result c.requires.named
    lacking c.in_ok-bytes.ensures.files_stay c.explain_no_input.ensures.put c.explain_no_input.ensures.status c.explain_no_input.ensures.err
