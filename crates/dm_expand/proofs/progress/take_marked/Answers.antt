use Rattle.std.proofs.Common.{◌-◌, ◌∷◌, [], map, ap, ◌∙◌, sym, arith}
use Rattle.dm_token.specs.declared.expansion.Mark.{Mark}
use Rattle.dm_expand.specs.Views.{taken_along}
use Rattle.dm_expand.proofs.TakeLemmas.{along-argument, along-below, along-beyond, along-at}
use Rattle.dm_expand.proofs.progress.take_marked.Goals as goal

pub returns-in_default : goal.returns-in_default
returns-in_default c = sym (ap (λ (m : Mark). map (taken_along (m ∷ [])) c.args.expansions.now) c.in_default.is ∙ along-argument _ _ c.args.expansions.now)

pub returns-then-instance-first : goal.returns-then-instance-first
returns-then-instance-first c =
    sym (ap (λ (m : Mark). map (taken_along (m ∷ [])) c.args.expansions.now) c.in-Expansion.is
    ∙ along-below c.in-Expansion.definition c.in-Expansion.instance c.args.first c.requires.0 c.args.expansions.now c.requires.1 c.if-instance-first.true)

pub returns-then-index-expansions : goal.returns-then-index-expansions
returns-then-index-expansions c =
    along-at c.in-Expansion.definition c.in-Expansion.instance c.args.first c.requires.0 (c.in-Expansion.instance - c.args.first) c.args.expansions.now c.index-expansions-index.result c.requires.1
    (omega (arith, c.if-instance-first.false)) (omega (arith, c.if-index-expansions.true))
    ∙ ap (λ (m : Mark). map (taken_along (m ∷ [])) c.args.expansions.now) (sym c.in-Expansion.is)

pub returns-else-index-expansions : goal.returns-else-index-expansions
returns-else-index-expansions c =
    sym (ap (λ (m : Mark). map (taken_along (m ∷ [])) c.args.expansions.now) c.in-Expansion.is
    ∙ along-beyond c.in-Expansion.definition c.in-Expansion.instance c.args.first c.requires.0 c.args.expansions.now c.requires.1
    (omega (arith, c.if-instance-first.false, c.if-index-expansions.false)))
