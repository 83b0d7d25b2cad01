use Rattle.std.proofs.Common.{◌∷◌, [], List, Ok, ap, ◌∙◌, sym, subst}
use Rattle.dm_macro.specs.declared.role.Role.{Role}
use Rattle.dm_expand.specs.Items.{Item}
use Rattle.dm_expand.specs.Steps.{Progress, take_argument}
use Rattle.dm_expand.specs.Laws.{Follows}
use Rattle.dm_expand.specs.Pastes as pastes
use Rattle.dm_expand.specs.Substitution as substitution
use Rattle.dm_macro.specs.Roles.{part_with}
use Rattle.dm_expand.specs.ListViews.{fills}
use Rattle.dm_expand.proofs.FillLemmas.{filled-plain, filled-paste, filled-hash, filled-beside, operand-is}
use Rattle.dm_expand.proofs.ProgressLemmas.{take_argument-follows}
use Rattle.dm_expand.proofs.substitute.fill.Goals as goal

pub returns-in_ok-item-in-Plain-clause-content : goal.returns-in_ok-item-in-Plain-clause-content
returns-in_ok-item-in-Plain-clause-content c = λ expander.
    let progress : Progress = c.args.progress.now in
    ap (λ (role : Role). substitution.filled expander c.args.site.now (part_with c.args.token.now role) progress) c.in-Plain.is
    ∙ filled-plain expander c.args.site.now c.args.token.now progress
    ∙ ap (λ (xs : List pastes.Piece). Ok (fills xs progress)) (sym (ap (λ (x : Item). pastes.token x ∷ []) c.in_ok-item-in-Plain.ensures))

pub returns-in_ok-item-in-Paste-clause-content : goal.returns-in_ok-item-in-Paste-clause-content
returns-in_ok-item-in-Paste-clause-content c = λ expander.
    let progress : Progress = c.args.progress.now in
    ap (λ (role : Role). substitution.filled expander c.args.site.now (part_with c.args.token.now role) progress) c.in-Paste.is
    ∙ filled-paste expander c.args.site.now c.args.token.now progress
    ∙ ap (λ (xs : List pastes.Piece). Ok (fills xs progress)) (sym (ap (λ (x : Item). pastes.operator x ∷ []) c.in_ok-item-in-Paste.ensures))

pub returns-in_ok-made-in-Hash-clause-content : goal.returns-in_ok-made-in-Hash-clause-content
returns-in_ok-made-in-Hash-clause-content c = λ expander.
    let progress : Progress = c.args.progress.now in
    let taken : Progress = take_argument (substitution.argument_for c.args.site.now c.in-Hash.parameter) progress in
    ap (λ (role : Role). substitution.filled expander c.args.site.now (part_with c.args.token.now role) progress) c.in-Hash.is
    ∙ filled-hash expander c.args.site.now c.args.token.now c.in-Hash.parameter progress
    ∙ ap (λ (x : Item). Ok (fills (pastes.token x ∷ []) taken)) (sym c.in_ok-made-in-Hash.ensures.made)
    ∙ ap (λ (q : Progress). Ok (fills (pastes.token c.in_ok-made-in-Hash.made ∷ []) q)) (sym c.in_ok-made-in-Hash.ensures.taken)

pub returns-in_ok-made-in-Hash-clause-follows : goal.returns-in_ok-made-in-Hash-clause-follows
returns-in_ok-made-in-Hash-clause-follows c =
    subst (Follows c.args.progress.now) (sym c.in_ok-made-in-Hash.ensures.taken) (take_argument-follows _ c.args.progress.now c.requires.spent)

pub returns-in_ok-tokens-in-Beside-clause-content : goal.returns-in_ok-tokens-in-Beside-clause-content
returns-in_ok-tokens-in-Beside-clause-content c =
    let progress : Progress = c.args.progress.now in
    let after : Progress = c.fill_beside.new.progress in
    let blank = c.args.token.now.blank_before in
    let tokens : List Item = c.in_ok-tokens-in-Beside.tokens.items in
    operand-is c.args.site.now c.args.token.now c.args.role progress after c.operand.result blank tokens c.operand.ensures
    (λ expander.
    ap (λ (role : Role). substitution.filled expander c.args.site.now (part_with c.args.token.now role) progress) c.in-Beside.is
    ∙ filled-beside expander c.args.site.now c.args.token.now c.in-Beside.parameter c.in-Beside.occurrence progress
    ∙ ap (λ (xs : List Item). Ok (fills (substitution.operands blank xs) (take_argument (substitution.argument_for c.args.site.now c.in-Beside.parameter) progress))) (sym c.in_ok-tokens-in-Beside.ensures.tokens)
    ∙ ap (λ (q : Progress). Ok (fills (substitution.operands blank tokens) q)) (sym c.in_ok-tokens-in-Beside.ensures.taken))

pub returns-in_ok-tokens-in-Beside-clause-follows : goal.returns-in_ok-tokens-in-Beside-clause-follows
returns-in_ok-tokens-in-Beside-clause-follows c =
    subst (Follows c.args.progress.now) (sym c.in_ok-tokens-in-Beside.ensures.taken) (take_argument-follows _ c.args.progress.now c.requires.spent)
