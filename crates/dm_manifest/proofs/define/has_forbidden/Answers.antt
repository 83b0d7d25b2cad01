use Rattle.std.proofs.Common.{sym, ◌∙◌}
use Rattle.dm_manifest.specs.Defines.{opens_forbidden}
use Rattle.dm_manifest.proofs.Bytes.{somewhere-later, somewhere-here, somewhere-none}
use Rattle.dm_manifest.proofs.define.has_forbidden.Goals as goal

pub returns-then-opens_forbidden : goal.returns-then-opens_forbidden
returns-then-opens_forbidden c =
    sym (somewhere-here opens_forbidden c.loop-others.rest.now _ c.in-Some.others.now c.in-Some.ensures.cases.0 (sym c.opens_forbidden.ensures ∙ c.if-opens_forbidden.true))
    ∙ c.loop-others.invariant

pub loop-others-preserved : goal.loop-others-preserved
loop-others-preserved c =
    sym (somewhere-later opens_forbidden c.loop-others.rest.now _ c.in-Some.others.now c.in-Some.ensures.cases.0 (sym c.opens_forbidden.ensures ∙ c.if-opens_forbidden.false))
    ∙ c.loop-others.invariant

pub returns : goal.returns
returns c = sym (somewhere-none opens_forbidden c.loop-others.rest.now c.in_default.ensures.cases) ∙ c.loop-others.invariant
