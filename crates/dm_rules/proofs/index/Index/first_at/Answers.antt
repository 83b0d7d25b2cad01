-- The first of the positions of the directive.
use Rattle.std.proofs.Common.{List, slice_get, ap, ◌∙◌, ℕ}
use Rattle.dm_token.specs.declared.unit.Read.{Read}
use Rattle.dm_runs.specs.Runs.{is_at}
use Rattle.dm_rules.proofs.LineLemmas.{head-first}
use Rattle.dm_rules.proofs.index.Index.first_at.Goals as goal

pub returns : goal.returns
returns c =
    c.first.ensures ∙ ap (λ (numbers : List ℕ). slice_get numbers 0) (c.of_definition.ensures ∙ c.args.self.now.has_readings c.args.file c.args.hash)
    ∙ head-first (λ (one : Read). is_at c.args.file c.args.hash one.definition) 0 c.args.self.now.reading.now.pp.read
