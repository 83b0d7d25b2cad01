-- The names are those of the reading.
use Rattle.std.proofs.Common.{sym, ap, ◌∙◌}
use Rattle.dm_names.specs.Meanings.{is_in_file_scope}
use Rattle.dm_meanings.specs.Captures.{is_visible_behind, source_in}
use Rattle.dm_meanings.specs.Types.{syntax_in}
use Rattle.dm_meanings.proofs.NameLemmas.{same-answer}
use Rattle.dm_meanings.proofs.meanings.Meanings.is_visible.Goals as goal

pub returns-in-Some : goal.returns-in-Some
unfolding is_visible_behind
returns-in-Some c =
    let reading = c.args.self.now.index.now.reading.now in
    let told =
    same-answer c.args.self.now.has_names c.is_in_file_scope.result (is_in_file_scope (source_in reading) (syntax_in reading) c.args.behind c.in-Some.number) (λ are. c.is_in_file_scope.ensures reading.types reading.tokens reading.syntax reading.core are) in
    told ∙ ap (is_visible_behind reading c.args.behind) (sym c.in-Some.is)

pub returns-in-None : goal.returns-in-None
unfolding is_visible_behind
returns-in-None c = ap (is_visible_behind c.args.self.now.index.now.reading.now c.args.behind) (sym c.in-None.is)
