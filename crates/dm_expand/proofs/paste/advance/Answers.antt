use Rattle.std.proofs.Common.{◌∷◌, [], ap, ◌∙◌, sym, map, List}
use Rattle.dm_expand.specs.Items.{Item}
use Rattle.dm_expand.specs.Pastes as pastes
use Rattle.dm_expand.specs.Views.{piece_value, tokens_behind, all_before}
use Rattle.dm_expand.proofs.PasteLemmas.{behind-token, behind-placemarker, behind-operator, behind-join, behind-join-stops, all_before-append}
use Rattle.dm_expand.proofs.StepLemmas.{stops_handed_as}
use Rattle.dm_expand.proofs.paste.advance.Goals as goal

pub returns-in_ok-both-in-Some-clause-ok : goal.returns-in_ok-both-in-Some-clause-ok
returns-in_ok-both-in-Some-clause-ok c =
    let site : pastes.Site = c.args.site.now in
    let left : pastes.Piece = piece_value c.args.left in
    let done : List Item = c.args.done.now.items in
    ap (λ (x : pastes.Piece). all_before done (tokens_behind site left (x ∷ map piece_value c.args.pieces.now.items))) (ap piece_value c.in-Operator.is)
    ∙ ap (λ (xs : List pastes.Piece). all_before done (tokens_behind site left (pastes.operator c.in-Operator.operator ∷ xs))) (ap (map piece_value) c.in-Some.ensures)
    ∙ ap (all_before done) (behind-join site left c.in-Operator.operator (piece_value c.in-Some.right) (piece_value c.in_ok-both-in-Some.both) (map piece_value c.next_of.new.queue.items) c.in_ok-both-in-Some.ensures.ok)

pub returns-in_err-both-in-Some-clause-stop : goal.returns-in_err-both-in-Some-clause-stop
returns-in_err-both-in-Some-clause-stop c =
    let site : pastes.Site = c.args.site.now in
    let left : pastes.Piece = piece_value c.args.left in
    let done : List Item = c.args.done.now.items in
    stops_handed_as c.from_residual.result c.in_err-both-in-Some.field-0.0 (pastes.joined site left (piece_value c.in-Some.right)) _ c.from_residual.ensures.1
    (λ other is.
    ap (λ (x : pastes.Piece). all_before done (tokens_behind site left (x ∷ map piece_value c.args.pieces.now.items))) (ap piece_value c.in-Operator.is)
    ∙ ap (λ (xs : List pastes.Piece). all_before done (tokens_behind site left (pastes.operator c.in-Operator.operator ∷ xs))) (ap (map piece_value) c.in-Some.ensures)
    ∙ ap (all_before done) (behind-join-stops site left c.in-Operator.operator (piece_value c.in-Some.right) (map piece_value c.next_of.new.queue.items) other is))
    c.in_err-both-in-Some.ensures.stop

pub returns-in_ok-put-in-None-clause-ok : goal.returns-in_ok-put-in-None-clause-ok
returns-in_ok-put-in-None-clause-ok c =
    let site : pastes.Site = c.args.site.now in
    let left : pastes.Piece = piece_value c.args.left in
    let done : List Item = c.args.done.now.items in
    let operator : pastes.Piece = pastes.operator c.in-Operator.operator in
    ap (λ (x : pastes.Piece). all_before done (tokens_behind site left (x ∷ map piece_value c.args.pieces.now.items))) (ap piece_value c.in-Operator.is)
    ∙ ap (λ (xs : List pastes.Piece). all_before done (tokens_behind site left (operator ∷ xs))) (ap (map piece_value) c.in-None.ensures.0)
    ∙ ap (all_before done) (behind-operator site left c.in-Operator.operator)
    ∙ all_before-append done (pastes.tokens_of (left ∷ [])) (tokens_behind site operator [])
    ∙ ap (λ (d : List Item). all_before d (tokens_behind site operator [])) (sym c.in_ok-put-in-None.ensures)
    ∙ ap (λ (xs : List pastes.Piece). all_before c.put.new.to.items (tokens_behind site operator xs)) (sym (ap (map piece_value) c.in-None.ensures.1))

pub returns-in_ok-put-in-Token-clause-ok : goal.returns-in_ok-put-in-Token-clause-ok
returns-in_ok-put-in-Token-clause-ok c =
    let site : pastes.Site = c.args.site.now in
    let left : pastes.Piece = piece_value c.args.left in
    let done : List Item = c.args.done.now.items in
    let others : List pastes.Piece = map piece_value c.args.pieces.now.items in
    ap (λ (x : pastes.Piece). all_before done (tokens_behind site left (x ∷ others))) (ap piece_value c.in-Token.is)
    ∙ ap (all_before done) (behind-token site left c.in-Token.item others)
    ∙ all_before-append done (pastes.tokens_of (left ∷ [])) (tokens_behind site (pastes.token c.in-Token.item) others)
    ∙ ap (λ (d : List Item). all_before d (tokens_behind site (pastes.token c.in-Token.item) others)) (sym c.in_ok-put-in-Token.ensures)

pub returns-in_ok-put-in-Placemarker-clause-ok : goal.returns-in_ok-put-in-Placemarker-clause-ok
returns-in_ok-put-in-Placemarker-clause-ok c =
    let site : pastes.Site = c.args.site.now in
    let left : pastes.Piece = piece_value c.args.left in
    let done : List Item = c.args.done.now.items in
    let others : List pastes.Piece = map piece_value c.args.pieces.now.items in
    ap (λ (x : pastes.Piece). all_before done (tokens_behind site left (x ∷ others))) (ap piece_value c.in-Placemarker.is)
    ∙ ap (all_before done) (behind-placemarker site left c.in-Placemarker.blank others)
    ∙ all_before-append done (pastes.tokens_of (left ∷ [])) (tokens_behind site (pastes.placemarker c.in-Placemarker.blank) others)
    ∙ ap (λ (d : List Item). all_before d (tokens_behind site (pastes.placemarker c.in-Placemarker.blank) others)) (sym c.in_ok-put-in-Placemarker.ensures)
