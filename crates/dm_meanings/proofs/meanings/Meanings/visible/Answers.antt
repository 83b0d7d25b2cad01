-- The names are those of the reading.
use Rattle.std.proofs.Common.{ap, ◌∙◌}
use Rattle.dm_names.specs.Declarations.{visible_behind}
use Rattle.dm_meanings.specs.Types.{syntax_in, unit_in, visible_at}
use Rattle.dm_meanings.proofs.NameLemmas.{same-numbers}
use Rattle.dm_meanings.proofs.meanings.Meanings.visible.Goals as goal

pub returns : goal.returns
unfolding visible_at
returns c =
    let reading = c.args.self.now.index.now.reading.now in
    let told =
    same-numbers c.args.self.now.has_names c.visible.result.now (visible_behind (unit_in reading) reading.tokens (syntax_in reading) c.externals_behind.result) (λ are. c.visible.ensures reading.types reading.tokens reading.syntax reading.core are) in
    told ∙ ap (visible_behind (unit_in reading) reading.tokens (syntax_in reading)) c.externals_behind.ensures
