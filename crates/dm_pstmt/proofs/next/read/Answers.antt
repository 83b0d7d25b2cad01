use Rattle.std.proofs.Common.{Some, sym, ap, ◌∙◌}
use Rattle.std.proofs.lemmas.Option.{slice_get-get_or}
use Rattle.dm_pexpr.specs.Answers.{source_with}
use Rattle.dm_pstmt.proofs.NextSteps.{external-part, external-refused}
use Rattle.dm_pstmt.proofs.next.read.Goals as goal

pub returns-in-Some-clause-found : goal.returns-in-Some-clause-found
returns-in-Some-clause-found c =
    external-part (source_with c.args.tokens.now c.args.typedefs.now) c.args.scope.now c.external.new.scope c.args.at c.in_ok-found.field-0 c.in-Some.found c.requires.fresh c.in-Some.is c.in_ok-found.ensures

pub returns-in-None-clause-stop : goal.returns-in-None-clause-stop
returns-in-None-clause-stop c =
    external-refused (source_with c.args.tokens.now c.args.typedefs.now) c.args.scope.now c.external.new.scope c.args.at c.in_ok-found.field-0 c.index-tokens-start.result c.refused.result
    c.requires.fresh c.in-None.is c.in_ok-found.ensures
    (slice_get-get_or c.args.tokens.now c.args.at c.index-tokens-start.result c.requires.within ∙ ap Some (sym c.index-tokens-start.is)) c.refused.ensures
