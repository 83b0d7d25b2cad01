use Rattle.std.proofs.Common.{subst, List, ◌≡◌, sym, drop, ℕ}
use Rattle.dm_lex.specs.Classes.{kind_of}
use Rattle.dm_lex.specs.Reach.{IsBest}
use Rattle.dm_lex.specs.Lengths.{best_of}
use Rattle.dm_lex.proofs.scan.any_token_at.Goals as goal

pub returns-clause-best : goal.returns-clause-best
unfolding best_of
returns-clause-best c =
    let text : List ℕ = drop c.args.at c.args.text.now in
    let same : c.or_longer.result ≡ best_of c.args.header text c.plain_at-found.result =
    rw (
      c.or_longer.ensures,
      c.or_longer-found-4.ensures,
      c.or_longer-found-3.ensures,
      c.or_longer-found-2.ensures,
      c.or_longer-found.ensures,
      c.allowed_header_length.ensures,
      c.identifier_length.ensures.far,
      c.number_length.ensures.far,
      c.character_length.ensures.far,
      c.literal_length.ensures.far,
    ) in
    subst (λ f. IsBest (kind_of c.args.header) text f) (sym same) (c.plain_at-found.ensures.best c.args.header)
