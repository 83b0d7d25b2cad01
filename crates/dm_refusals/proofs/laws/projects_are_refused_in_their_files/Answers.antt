use Rattle.std.specs.Prelude.{Some}
use Rattle.std.proofs.Common.{refl}
use Rattle.dm_search.specs.Fresh.{fresh}
use Rattle.dm_refusals.proofs.RefusalLemmas.{fresh-starts, found-reads, all-can}
use Rattle.dm_refusals.proofs.laws.projects_are_refused_in_their_files.Goals as goal

pub returns-clause-plans : goal.returns-clause-plans
returns-clause-plans c files project units refusal known is stops =
    let first = stops.1.1 in
    c.projects_are_refused_in_files.ensures files units first.0 fresh known refusal (first.3 files refl) fresh-starts (c.defines_of_projects_are_tokens.ensures (Some files) project units is)

pub returns-clause-expansions : goal.returns-clause-expansions
returns-clause-expansions c files project file unit refusal known has reads =
    c.refusals_lie_in_files.ensures files unit fresh known refusal reads fresh-starts
    (all-can files unit fresh known (found-reads file has.0 unit (c.defines_of_projects_are_tokens.ensures (Some files) project has.0 has.1) has.2))

pub returns-clause-runs : goal.returns-clause-runs
returns-clause-runs c files project file unit refusal known has reads =
    c.readings_are_refused_in_files.ensures files unit fresh known refusal reads fresh-starts
    (all-can files unit fresh known (found-reads file has.0 unit (c.defines_of_projects_are_tokens.ensures (Some files) project has.0 has.1) has.2))
