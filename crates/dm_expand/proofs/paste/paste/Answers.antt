use Rattle.std.proofs.Common.{◌++◌, List, length, map, ap, ◌∙◌, arith}
use Rattle.dm_expand.specs.Pastes as pastes
use Rattle.dm_expand.specs.Views.{tokens_left}
use Rattle.dm_expand.proofs.PasteLemmas.{left-tokens, no_pieces}
use Rattle.dm_expand.proofs.paste.paste.Goals as goal

pub returns-then-count-eq0-clause-ok : goal.returns-then-count-eq0-clause-ok
returns-then-count-eq0-clause-ok c =
    let tokens : List pastes.Piece = map pastes.token c.args.pieces.tokens.items in
    ap (λ (xs : List pastes.Piece). tokens_left c.args.site.now (xs ++ tokens)) (no_pieces c.args.pieces.front.items (omega (arith, ap length c.as_slice-count.ensures.value, c.if-count-eq0.true)))
    ∙ left-tokens c.args.site.now c.args.pieces.tokens.items
