use Rattle.std.proofs.Common.{List, ap, ◌∙◌, ◌∷◌, ◌++◌, []}
use Rattle.dm_token.specs.declared.expansion.Mark.{Mark}
use Rattle.dm_expand.specs.Items.{Item}
use Rattle.dm_expand.specs.Trails.{come_otherwise}
use Rattle.dm_expand.proofs.head.is_foreign.Goals as goal

pub returns-clause-foreign : goal.returns-clause-foreign
returns-clause-foreign c =
    let all : List Item = c.args.opening.now ∷ (c.args.enclosed.now.inside ++ c.args.enclosed.now.closing ∷ []) in
    c.in_ok-foreign.ensures.foreign
    ∙ ap (λ (marks : List Mark). come_otherwise marks all) (c.in_ok-way.ensures ∙ ap (λ (x : Item). x.trail) c.name.view_is)
