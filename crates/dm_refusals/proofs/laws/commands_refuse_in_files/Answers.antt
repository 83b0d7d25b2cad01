use Rattle.dm_apply.specs.Summaries.{files_of, units as generated}
use Rattle.dm_search.specs.Fresh.{fresh}
use Rattle.dm_refusals.proofs.EndingLemmas.{plan-refuses, apply-refuses, expand-refuses, run-refuses, gen-refuses}
use Rattle.dm_refusals.proofs.RefusalLemmas.{fresh-starts}
use Rattle.dm_refusals.proofs.laws.commands_refuse_in_files.Goals as goal

pub returns-clause-plan : goal.returns-clause-plan
returns-clause-plan c files json project units before after told is ends =
    plan-refuses files before after told project units json (c.projects_are_refused_in_their_files.ensures.plans files project units) is ends

pub returns-clause-apply : goal.returns-clause-apply
returns-clause-apply c files json project units before after told is ends =
    apply-refuses files before after told project units json (c.projects_are_refused_in_their_files.ensures.plans files project units) is ends

pub returns-clause-expand : goal.returns-clause-expand
returns-clause-expand c files project file before after told ends =
    expand-refuses files before after told project file (c.projects_are_refused_in_their_files.ensures.expansions files project file) ends

pub returns-clause-run : goal.returns-clause-run
returns-clause-run c files request unit before after told has ends =
    run-refuses files before after told request unit (c.projects_are_refused_in_their_files.ensures.runs files request.project request.file unit) has ends

pub returns-clause-generated : goal.returns-clause-generated
returns-clause-generated c count before after faults later ends =
    gen-refuses count before after faults later
    (λ begun known refusal reads. c.projects_are_refused_in_files.ensures (files_of count) generated begun fresh known refusal reads fresh-starts (tt, tt)) ends
