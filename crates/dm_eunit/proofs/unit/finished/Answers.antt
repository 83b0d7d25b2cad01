-- The types of the entries are numbered.
use Rattle.std.specs.Prelude.{length}
use Rattle.std.specs.List.{list_all}
use Rattle.std.proofs.Common.{ap, ◌∙◌}
use Rattle.dm_tree.specs.TypeNumbers.{entry_has_known}
use Rattle.dm_eunit.proofs.UnitLemmas.{settled-known}
use Rattle.dm_eunit.proofs.unit.finished.Goals as goal

pub returns-clause-numbered : goal.returns-clause-numbered
returns-clause-numbered c =
    let standing = c.args.standing in
    ap (list_all (entry_has_known (length standing.known.types.shapes))) c.in_ok-declared.ensures.kinds
    ∙ settled-known standing.known.types standing.links 0 standing.known.declared standing.kinds standing.known.entries
