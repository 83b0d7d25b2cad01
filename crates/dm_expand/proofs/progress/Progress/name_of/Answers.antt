use Rattle.std.proofs.Common.{◌-◌, ap, ◌∙◌, sym, subst, arith, List}
use Rattle.dm_token.specs.declared.expansion.Expansion.{Expansion}
use Rattle.dm_expand.specs.Predefined as predefined
use Rattle.dm_expand.specs.Steps.{Progress}
use Rattle.dm_expand.specs.Laws.{AreNumbered}
use Rattle.dm_expand.proofs.TakeLemmas.{name_of-below, name_of-beyond, name_of-at}
use Rattle.dm_expand.proofs.progress.Progress.name_of.Goals as goal

pub returns-then-instance-self : goal.returns-then-instance-self
returns-then-instance-self c =
    name_of-below c.args.instance c.self.inside.first c.self.inside.instance c.self.inside.expansions.items c.args.other c.self.invariant c.if-instance-self.true
    ∙ ap (λ (p : Progress). predefined.name_of c.args.instance p.expansions c.args.other) c.self.view_is

pub returns-then-index-made : goal.returns-then-index-made
returns-then-index-made c =
    let numbered = subst (λ (es : List Expansion). AreNumbered c.self.inside.first es c.self.inside.instance) (sym c.as_slice-made.ensures.value) c.self.invariant in
    name_of-at c.args.instance c.self.inside.first c.self.inside.instance (c.args.instance - c.self.inside.first) c.as_slice-made.result.now c.index-made-index.result c.args.other numbered
    (omega (arith, c.if-instance-self.false)) (omega (arith, c.if-index-made.true))
    ∙ ap (λ (es : List Expansion). predefined.name_of c.args.instance es c.args.other) c.as_slice-made.ensures.value
    ∙ ap (λ (p : Progress). predefined.name_of c.args.instance p.expansions c.args.other) c.self.view_is

pub returns : goal.returns
returns c =
    let numbered = subst (λ (es : List Expansion). AreNumbered c.self.inside.first es c.self.inside.instance) (sym c.as_slice-made.ensures.value) c.self.invariant in
    name_of-beyond c.args.instance c.self.inside.first c.self.inside.instance c.as_slice-made.result.now c.args.other numbered
    (omega (arith, c.if-instance-self.false, c.if-index-made.false))
    ∙ ap (λ (es : List Expansion). predefined.name_of c.args.instance es c.args.other) c.as_slice-made.ensures.value
    ∙ ap (λ (p : Progress). predefined.name_of c.args.instance p.expansions c.args.other) c.self.view_is
