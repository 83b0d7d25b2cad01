-- A search through the definitions of all units goes through those of one after another.
use Rattle.std.proofs.Common.{find, sym, ap, ◌∙◌}
use Rattle.std.specs.List.{flat_map}
use Rattle.std.specs.Option.{option_copied}
use Rattle.dm_judge.specs.Proposals.{definitions_in}
use Rattle.dm_subjects.specs.Lines.{stands_on}
use Rattle.dm_subjects.proofs.SearchLemmas.{found-front, found-behind}
use Rattle.dm_subjects.proofs.found.definition_on.Goals as goal

pub returns-in-Some-definition_in : goal.returns-in-Some-definition_in
returns-in-Some-definition_in c =
    let test = stands_on c.args.file c.args.line in
    sym (found-front test (definitions_in c.in-Some.reading.now) (flat_map definitions_in c.in-Some.others.now) c.in-Some-definition_in.definition.now
    (sym c.definition_in.ensures ∙ ap option_copied c.in-Some-definition_in.is))
    ∙ ap (λ left. find test (flat_map definitions_in left)) (sym c.in-Some.ensures.cases.0) ∙ c.loop-reading.invariant

pub loop-reading-preserved : goal.loop-reading-preserved
loop-reading-preserved c =
    let test = stands_on c.args.file c.args.line in
    sym (found-behind test (definitions_in c.in-Some.reading.now) (flat_map definitions_in c.in-Some.others.now)
    (sym c.definition_in.ensures ∙ ap option_copied c.in_default-definition_in.is))
    ∙ ap (λ left. find test (flat_map definitions_in left)) (sym c.in-Some.ensures.cases.0) ∙ c.loop-reading.invariant
