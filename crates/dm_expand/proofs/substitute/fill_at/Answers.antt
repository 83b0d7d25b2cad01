use Rattle.std.proofs.Common.{[], ℕ, ◌+◌, ◌++◌, ◌∷◌, List, ap, ◌∙◌, sym, subst, map, length}
use Rattle.dm_token.specs.declared.place.Place.{Place}
use Rattle.dm_token.specs.declared.token.PpToken.{PpToken}
use Rattle.dm_expand.specs.Items.{Item}
use Rattle.dm_macro.specs.Bodies as bodies
use Rattle.dm_expand.specs.Steps.{Progress}
use Rattle.dm_expand.specs.Pastes as pastes
use Rattle.dm_expand.specs.Substitution as substitution
use Rattle.dm_macro.specs.declared.role.Role.{Role}
use Rattle.dm_macro.specs.Roles.{part_with}
use Rattle.dm_expand.specs.Views.{piece_value, pieces_in}
use Rattle.dm_expand.specs.ListViews.{fills, pieces_before, counted_if}
use Rattle.dm_expand.specs.Works.{IsContent, parts_from}
use Rattle.dm_expand.proofs.ListLemmas.{length_map}
use Rattle.dm_expand.proofs.StepLemmas.{stops_handed_each}
use Rattle.dm_expand.proofs.SubstitutionLemmas.{parts-at, filled_all-part, filled_all-count-stops, pieces_before-append}
use Rattle.dm_expand.proofs.substitute.fill_at.Goals as goal

pub returns-in_default-clause-ok : goal.returns-in_default-clause-ok
returns-in_default-clause-ok c = λ expander.
    let definition = c.args.body.definition.now in
    let names : List (List ℕ) = bodies.parameters_of definition in
    let body : List PpToken = definition.body in
    let i = c.args.index in
    let rest : List bodies.Part = parts_from definition (i + 1) in
    ap (λ (parts : List bodies.Part). pieces_before (pieces_in c.args.pieces.now) (substitution.filled_all expander c.args.site.now c.args.counts parts c.args.progress.now))
    (parts-at names body i c.token_at-token.result.now c.requires.inside c.token_at-token.ensures.is ∙ ap (λ (xs : List bodies.Part). xs ++ rest) (sym (c.in_default.ensures c.token_at-token.result.now c.token_at-token.ensures.is).0))

pub returns-in_err-count_if-in-Tokens-clause-stop : goal.returns-in_err-count_if-in-Tokens-clause-stop
returns-in_err-count_if-in-Tokens-clause-stop c =
    let definition = c.args.body.definition.now in
    let names : List (List ℕ) = bodies.parameters_of definition in
    let body : List PpToken = definition.body in
    let i = c.args.index in
    let rest : List bodies.Part = parts_from definition (i + 1) in
    let part : bodies.Part = part_with c.token_at-token.result.now c.in-Some.role in
    let pieces : List pastes.Piece = pieces_in c.args.pieces.now in
    let progress : Progress = c.args.progress.now in
    let now : Progress = c.fill.new.progress in
    let content = subst (IsContent c.args.site.now c.token_at-token.result.now c.in-Some.role progress now) c.in-Tokens.is c.in_ok-parameter.ensures.content in
    let more : List pastes.Piece = map pastes.token c.in-Tokens.more.items in
    stops_handed_each c.from_residual-in_err-count_if-in-Tokens.result c.in_err-count_if-in-Tokens.field-0.0 (λ expander. counted_if c.args.counts c.place_of-in-Tokens.result c.token_count.result now) _ c.from_residual-in_err-count_if-in-Tokens.ensures.1
    (λ expander other is.
    ap (λ (parts : List bodies.Part). pieces_before pieces (substitution.filled_all expander c.args.site.now c.args.counts parts progress))
    (parts-at names body i c.token_at-token.result.now c.requires.inside c.token_at-token.ensures.is ∙ ap (λ (xs : List bodies.Part). xs ++ rest) (sym (c.in-Some.ensures c.token_at-token.result.now c.token_at-token.ensures.is).0))
    ∙ ap (pieces_before pieces) (filled_all-count-stops expander c.args.site.now c.args.counts part rest progress (fills more now) other (content expander)
    (ap (λ (place : Place). counted_if c.args.counts place (length more) now) (sym c.place_of-in-Tokens.ensures)
    ∙ ap (λ (n : ℕ). counted_if c.args.counts c.place_of-in-Tokens.result n now) (sym (c.token_count.ensures ∙ ap (λ (xs : List Item). length xs) c.as_slice.ensures.value ∙ sym (length_map pastes.token c.in-Tokens.more.items)))
    ∙ is)))
    (λ expander. c.in_err-count_if-in-Tokens.ensures.stop)

pub returns-in-Whole-clause-ok : goal.returns-in-Whole-clause-ok
returns-in-Whole-clause-ok c = λ expander.
    let definition = c.args.body.definition.now in
    let names : List (List ℕ) = bodies.parameters_of definition in
    let body : List PpToken = definition.body in
    let i = c.args.index in
    let rest : List bodies.Part = parts_from definition (i + 1) in
    let part : bodies.Part = part_with c.token_at-token.result.now c.in-Some.role in
    let pieces : List pastes.Piece = pieces_in c.args.pieces.now in
    let progress : Progress = c.args.progress.now in
    let now : Progress = c.fill.new.progress in
    let content = subst (IsContent c.args.site.now c.token_at-token.result.now c.in-Some.role progress now) c.in-Whole.is c.in_ok-parameter.ensures.content in
    let waits : bodies.Part = bodies.whole c.token_at-token.result.now c.in-Whole.parameter c.in-Whole.occurrence in
    ap (λ (parts : List bodies.Part). pieces_before pieces (substitution.filled_all expander c.args.site.now c.args.counts parts progress))
    (parts-at names body i c.token_at-token.result.now c.requires.inside c.token_at-token.ensures.is
    ∙ ap (λ (xs : List bodies.Part). xs ++ rest) (sym (c.in-Some.ensures c.token_at-token.result.now c.token_at-token.ensures.is).0)
    ∙ ap (λ (role : Role). part_with c.token_at-token.result.now role ∷ rest) content.0)
    ∙ ap (λ (q : Progress). pieces_before pieces (substitution.filled_all expander c.args.site.now c.args.counts (waits ∷ rest) q)) (sym content.1)

pub returns-in_ok-append-in-Tokens-clause-ok : goal.returns-in_ok-append-in-Tokens-clause-ok
returns-in_ok-append-in-Tokens-clause-ok c = λ expander.
    let definition = c.args.body.definition.now in
    let names : List (List ℕ) = bodies.parameters_of definition in
    let body : List PpToken = definition.body in
    let i = c.args.index in
    let rest : List bodies.Part = parts_from definition (i + 1) in
    let part : bodies.Part = part_with c.token_at-token.result.now c.in-Some.role in
    let pieces : List pastes.Piece = pieces_in c.args.pieces.now in
    let progress : Progress = c.args.progress.now in
    let now : Progress = c.fill.new.progress in
    let content = subst (IsContent c.args.site.now c.token_at-token.result.now c.in-Some.role progress now) c.in-Tokens.is c.in_ok-parameter.ensures.content in
    let more : List pastes.Piece = map pastes.token c.in-Tokens.more.items in
    let after : Progress = c.count_if-in-Tokens.new.progress in
    let behind = substitution.filled_all expander c.args.site.now c.args.counts rest after in
    ap (λ (parts : List bodies.Part). pieces_before pieces (substitution.filled_all expander c.args.site.now c.args.counts parts progress))
    (parts-at names body i c.token_at-token.result.now c.requires.inside c.token_at-token.ensures.is ∙ ap (λ (xs : List bodies.Part). xs ++ rest) (sym (c.in-Some.ensures c.token_at-token.result.now c.token_at-token.ensures.is).0))
    ∙ ap (pieces_before pieces) (filled_all-part expander c.args.site.now c.args.counts part rest progress (fills more now) after (content expander)
    (ap (λ (place : Place). counted_if c.args.counts place (length more) now) (sym c.place_of-in-Tokens.ensures)
    ∙ ap (λ (n : ℕ). counted_if c.args.counts c.place_of-in-Tokens.result n now) (sym (c.token_count.ensures ∙ ap (λ (xs : List Item). length xs) c.as_slice.ensures.value ∙ sym (length_map pastes.token c.in-Tokens.more.items)))
    ∙ c.in_ok-count_if-in-Tokens.ensures.ok))
    ∙ pieces_before-append pieces more behind
    ∙ ap (λ (xs : List pastes.Piece). pieces_before xs behind) (sym c.in_ok-append-in-Tokens.ensures)

pub returns-in_err-count_if-in-One-clause-stop : goal.returns-in_err-count_if-in-One-clause-stop
returns-in_err-count_if-in-One-clause-stop c =
    let definition = c.args.body.definition.now in
    let names : List (List ℕ) = bodies.parameters_of definition in
    let body : List PpToken = definition.body in
    let i = c.args.index in
    let rest : List bodies.Part = parts_from definition (i + 1) in
    let part : bodies.Part = part_with c.token_at-token.result.now c.in-Some.role in
    let pieces : List pastes.Piece = pieces_in c.args.pieces.now in
    let progress : Progress = c.args.progress.now in
    let now : Progress = c.fill.new.progress in
    let content = subst (IsContent c.args.site.now c.token_at-token.result.now c.in-Some.role progress now) c.in-One.is c.in_ok-parameter.ensures.content in
    let more : List pastes.Piece = piece_value c.in-One.piece ∷ [] in
    stops_handed_each c.from_residual-in_err-count_if-in-One.result c.in_err-count_if-in-One.field-0.0 (λ expander. counted_if c.args.counts c.place_of.result 1 now) _ c.from_residual-in_err-count_if-in-One.ensures.1
    (λ expander other is.
    ap (λ (parts : List bodies.Part). pieces_before pieces (substitution.filled_all expander c.args.site.now c.args.counts parts progress))
    (parts-at names body i c.token_at-token.result.now c.requires.inside c.token_at-token.ensures.is ∙ ap (λ (xs : List bodies.Part). xs ++ rest) (sym (c.in-Some.ensures c.token_at-token.result.now c.token_at-token.ensures.is).0))
    ∙ ap (pieces_before pieces) (filled_all-count-stops expander c.args.site.now c.args.counts part rest progress (fills more now) other (content expander)
    (ap (λ (place : Place). counted_if c.args.counts place (length more) now) (sym c.place_of.ensures)
    ∙ is)))
    (λ expander. c.in_err-count_if-in-One.ensures.stop)

pub returns-in_ok-push-in-One-clause-ok : goal.returns-in_ok-push-in-One-clause-ok
returns-in_ok-push-in-One-clause-ok c = λ expander.
    let definition = c.args.body.definition.now in
    let names : List (List ℕ) = bodies.parameters_of definition in
    let body : List PpToken = definition.body in
    let i = c.args.index in
    let rest : List bodies.Part = parts_from definition (i + 1) in
    let part : bodies.Part = part_with c.token_at-token.result.now c.in-Some.role in
    let pieces : List pastes.Piece = pieces_in c.args.pieces.now in
    let progress : Progress = c.args.progress.now in
    let now : Progress = c.fill.new.progress in
    let content = subst (IsContent c.args.site.now c.token_at-token.result.now c.in-Some.role progress now) c.in-One.is c.in_ok-parameter.ensures.content in
    let more : List pastes.Piece = piece_value c.in-One.piece ∷ [] in
    let after : Progress = c.count_if.new.progress in
    let behind = substitution.filled_all expander c.args.site.now c.args.counts rest after in
    ap (λ (parts : List bodies.Part). pieces_before pieces (substitution.filled_all expander c.args.site.now c.args.counts parts progress))
    (parts-at names body i c.token_at-token.result.now c.requires.inside c.token_at-token.ensures.is ∙ ap (λ (xs : List bodies.Part). xs ++ rest) (sym (c.in-Some.ensures c.token_at-token.result.now c.token_at-token.ensures.is).0))
    ∙ ap (pieces_before pieces) (filled_all-part expander c.args.site.now c.args.counts part rest progress (fills more now) after (content expander)
    (ap (λ (place : Place). counted_if c.args.counts place (length more) now) (sym c.place_of.ensures)
    ∙ c.in_ok-count_if-in-One.ensures.ok))
    ∙ pieces_before-append pieces more behind
    ∙ ap (λ (xs : List pastes.Piece). pieces_before xs behind) (sym c.in_ok-push-in-One.ensures)
