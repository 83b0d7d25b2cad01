use Rattle.std.proofs.Common.{◌≡◌, sym, ◌∙◌, ap, subst}
use Rattle.dm_syn.specs.declared.statement.External.{External}
use Rattle.dm_syn.specs.Scopes.{external_declares}
use Rattle.dm_syn.specs.Views as view
use Rattle.dm_pexpr.specs.Answers.{source_with}
use Rattle.dm_pexpr.specs.Scoping.{known_with}
use Rattle.dm_pstmt.specs.Answers.{IsExternalFound}
use Rattle.dm_pstmt.proofs.NextSteps.{external-given, external-the-one, known-behind}
use Rattle.dm_pstmt.proofs.next.next_external.Goals as goal

pub returns-clause-found : goal.returns-clause-found
returns-clause-found c =
    let s = source_with c.args.tokens.now c.args.typedefs.now in
    let found = c.in_ok-found.found in
    subst (λ (it : External). IsExternalFound s c.args.at (it, found.after)) (sym c.into_inner.ensures)
    (external-given s c.settled.new.scope c.args.at found c.in_ok-found.ensures.found)

pub returns-clause-only : goal.returns-clause-only
returns-clause-only c it is =
    let s = source_with c.args.tokens.now c.args.typedefs.now in
    ap view.external c.into_inner.ensures ∙ external-the-one s c.settled.new.scope c.args.at c.in_ok-found.found it c.in_ok-found.ensures.found is

pub returns-clause-names : goal.returns-clause-names
returns-clause-names c =
    let s = source_with c.args.tokens.now c.args.typedefs.now in
    subst (λ (it : External). c.settled.new.typedefs ≡ known_with c.args.typedefs.now (external_declares s (view.external it))) (sym c.into_inner.ensures)
    (known-behind s c.settled.new.scope c.args.at c.in_ok-found.found c.args.typedefs.now c.settled.new.typedefs c.in_ok-found.ensures.found c.in_ok-found.ensures.names)
