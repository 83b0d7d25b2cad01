-- Each request by its own law.
use Rattle.demacro.proofs.CompleteSteps.{complete}
use Rattle.demacro.proofs.laws.complete_request.Goals as goal

pub returns : goal.returns
returns c = complete c.complete_plan.ensures c.complete_apply.ensures c.complete_expansion.ensures c.complete_run.ensures c.complete_gen.ensures
