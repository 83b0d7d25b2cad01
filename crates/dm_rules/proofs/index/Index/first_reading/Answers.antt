-- The first position is that of the first one that passes.
use Rattle.std.proofs.Common.{List, slice_get, sym, ap, ◌∙◌}
use Rattle.std.specs.Prelude.{option_and_then}
use Rattle.dm_token.specs.declared.unit.Read.{Read}
use Rattle.dm_rules.specs.Uses.{is_reading}
use Rattle.dm_rules.proofs.ListLemmas.{first-position}
use Rattle.dm_rules.proofs.index.Index.first_reading.Goals as goal

pub returns-in-None : goal.returns-in-None
returns-in-None c =
    let all : List Read = c.args.self.now.reading.now.pp.read in
    ap (option_and_then (slice_get all)) (sym c.in-None.is ∙ c.first.ensures ∙ ap (λ numbers. slice_get numbers 0) c.readings_of.ensures) ∙ first-position (is_reading c.args.definition.now) all

pub returns-in-Some : goal.returns-in-Some
returns-in-Some c =
    let all : List Read = c.args.self.now.reading.now.pp.read in
    c.reading_at.ensures ∙ ap (λ (all : List Read). slice_get all c.in-Some.number) c.items.ensures
    ∙ ap (option_and_then (slice_get all)) (sym c.in-Some.is ∙ c.first.ensures ∙ ap (λ numbers. slice_get numbers 0) c.readings_of.ensures) ∙ first-position (is_reading c.args.definition.now) all
