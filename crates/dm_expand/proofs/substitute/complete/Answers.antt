use Rattle.std.proofs.Common.{◌≡◌, ℕ, Bool, Ok, List, ap, ◌∙◌, sym, length}
use Rattle.std.specs.List.{list_any}
use Rattle.dm_token.specs.declared.place.Place.{Place}
use Rattle.dm_expand.specs.Items.{Item}
use Rattle.dm_macro.specs.Bodies as bodies
use Rattle.dm_expand.specs.Steps.{Progress}
use Rattle.dm_expand.specs.Substitution as substitution
use Rattle.dm_expand.specs.Views.{pieces_in, tokens_left}
use Rattle.dm_expand.specs.ListViews.{gives, fills, counted_if}
use Rattle.dm_expand.proofs.StepLemmas.{stops_handed_as}
use Rattle.dm_expand.proofs.SubstitutionLemmas.{operators-are, put_together-is, put_together-paste-stops, put_together-count-stops}
use Rattle.dm_expand.proofs.substitute.complete.Goals as goal

pub returns-in_err-tokens-clause-stop : goal.returns-in_err-tokens-clause-stop
returns-in_err-tokens-clause-stop c =
    let pieces : substitution.Filled = fills (pieces_in c.args.pieces) c.args.progress.now in
    stops_handed_as c.from_residual.result c.in_err-tokens.field-0.0 (tokens_left c.args.site.now pieces.pieces) _ c.from_residual.ensures.1
    (λ other is. put_together-paste-stops c.args.site.now c.args.hidden.now (bodies.parts_of c.args.body.definition.now) pieces other is)
    c.in_err-tokens.ensures.stop

pub returns-in_err-count_if-clause-stop : goal.returns-in_err-count_if-clause-stop
returns-in_err-count_if-clause-stop c =
    let parts : List bodies.Part = bodies.parts_of c.args.body.definition.now in
    let flag : c.args.body.pastes ≡ list_any substitution.is_operator parts = c.args.body.has_paste ∙ sym (operators-are c.args.body.definition.now) in
    let pieces : substitution.Filled = fills (pieces_in c.args.pieces) c.args.progress.now in
    let tokens : List Item = c.in_ok-tokens.tokens.items in
    let now : Progress = c.args.progress.now in
    stops_handed_as c.from_residual-in_err-count_if.result c.in_err-count_if.field-0.0 (counted_if c.args.body.pastes c.place_of.result c.token_count.result now) _ c.from_residual-in_err-count_if.ensures.1
    (λ other is. put_together-count-stops c.args.site.now c.args.hidden.now parts pieces tokens other
    c.in_ok-tokens.ensures.ok
    (ap (λ (b : Bool). counted_if b c.args.site.now.name.pp.place (length tokens) now) (sym flag)
    ∙ ap (λ (place : Place). counted_if c.args.body.pastes place (length tokens) now) (sym c.place_of.ensures)
    ∙ ap (λ (n : ℕ). counted_if c.args.body.pastes c.place_of.result n now) (sym (c.token_count.ensures ∙ ap (λ (xs : List Item). length xs) c.as_slice.ensures.value))
    ∙ is))
    c.in_err-count_if.ensures.stop

pub returns-clause-ok : goal.returns-clause-ok
returns-clause-ok c =
    let parts : List bodies.Part = bodies.parts_of c.args.body.definition.now in
    let flag : c.args.body.pastes ≡ list_any substitution.is_operator parts = c.args.body.has_paste ∙ sym (operators-are c.args.body.definition.now) in
    let pieces : substitution.Filled = fills (pieces_in c.args.pieces) c.args.progress.now in
    let tokens : List Item = c.in_ok-tokens.tokens.items in
    let now : Progress = c.args.progress.now in
    let after : Progress = c.count_if.new.progress in
    put_together-is c.args.site.now c.args.hidden.now parts pieces tokens after
    c.in_ok-tokens.ensures.ok
    (ap (λ (b : Bool). counted_if b c.args.site.now.name.pp.place (length tokens) now) (sym flag)
    ∙ ap (λ (place : Place). counted_if c.args.body.pastes place (length tokens) now) (sym c.place_of.ensures)
    ∙ ap (λ (n : ℕ). counted_if c.args.body.pastes c.place_of.result n now) (sym (c.token_count.ensures ∙ ap (λ (xs : List Item). length xs) c.as_slice.ensures.value))
    ∙ c.in_ok-count_if.ensures.ok)
    ∙ ap (λ (xs : List Item). Ok (gives xs after)) (sym c.in_ok-done.ensures)
