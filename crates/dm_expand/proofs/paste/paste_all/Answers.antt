use Rattle.std.proofs.Common.{ap, ◌∙◌, sym, map, List, Ok}
use Rattle.dm_expand.specs.declared.paste.Piece.{Piece}
use Rattle.dm_expand.specs.Items.{Item}
use Rattle.dm_expand.specs.Pastes as pastes
use Rattle.dm_expand.specs.Views.{piece_value, tokens_left, tokens_behind, all_before}
use Rattle.dm_expand.proofs.PasteLemmas.{left-nothing, left-first, behind-nothing, all_before-nothing}
use Rattle.dm_expand.proofs.paste.paste_all.Goals as goal

pub returns-in_default-clause-ok : goal.returns-in_default-clause-ok
returns-in_default-clause-ok c =
    let site : pastes.Site = c.args.site.now in
    ap (λ (xs : List Piece). tokens_left site (map piece_value xs)) (sym c.from-queue.ensures.0 ∙ c.in_default.ensures.0)
    ∙ left-nothing site
    ∙ ap (λ (xs : List Item). Ok xs) (sym c.new-done.ensures.items)

pub pieces-init : goal.pieces-init
pieces-init c =
    let site : pastes.Site = c.args.site.now in
    let first : pastes.Piece = piece_value c.in-Some.first in
    let others : List pastes.Piece = map piece_value c.next_of.new.queue.items in
    ap (λ (xs : List Piece). tokens_left site (map piece_value xs)) (sym c.from-queue.ensures.0 ∙ c.in-Some.ensures)
    ∙ left-first site first others
    ∙ sym (all_before-nothing (tokens_behind site first others))
    ∙ ap (λ (d : List Item). all_before d (tokens_behind site first others)) (sym c.new-done.ensures.items)

pub returns-clause-ok : goal.returns-clause-ok
returns-clause-ok c =
    let site : pastes.Site = c.args.site.now in
    let left : pastes.Piece = piece_value c.pieces.left in
    let done : List Item = c.pieces.done.items in
    c.pieces.invariant
    ∙ ap (λ (xs : List Piece). all_before done (tokens_behind site left (map piece_value xs))) c.in_default-next_of.ensures.0
    ∙ ap (all_before done) (behind-nothing site left)
    ∙ ap (λ (xs : List Item). Ok xs) (sym c.in_ok-put.ensures)
