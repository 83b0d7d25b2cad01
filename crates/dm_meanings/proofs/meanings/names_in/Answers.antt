-- The names are those of the reading's lists.
use Rattle.std.proofs.Common.{List, IfOk, subst}
use Rattle.dm_token.specs.declared.token.CToken.{CToken}
use Rattle.dm_syn.specs.declared.statement.External.{External}
use Rattle.dm_names.specs.Indexes.{AreNames}
use Rattle.dm_meanings.proofs.meanings.names_in.Goals as goal

pub returns : goal.returns
returns c =
    let reading = c.args.reading.now in
    subst (λ (syntax : List External). IfOk c.of.result (AreNames reading.types reading.tokens syntax reading.core)) c.items-2.ensures
    (subst (λ (tokens : List CToken). IfOk c.of.result (AreNames reading.types tokens c.items-2.result.now reading.core)) c.items.ensures c.of.ensures)
