-- The first position is that of the first one that passes.
use Rattle.std.proofs.Common.{List, slice_get, sym, ap, ◌∙◌}
use Rattle.std.specs.Prelude.{option_and_then}
use Rattle.dm_token.specs.declared.expansion.Expansion.{Expansion}
use Rattle.dm_rules.specs.Uses.{is_expansion}
use Rattle.dm_rules.proofs.ListLemmas.{first-position}
use Rattle.dm_rules.proofs.index.Index.first_expansion.Goals as goal

pub returns-in-None : goal.returns-in-None
returns-in-None c =
    let all : List Expansion = c.args.self.now.reading.now.pp.expansions in
    ap (option_and_then (slice_get all)) (sym c.in-None.is ∙ c.first.ensures ∙ ap (λ numbers. slice_get numbers 0) c.expansions_of.ensures) ∙ first-position (is_expansion c.args.definition.now c.args.self.now.reading.now.pp.read) all

pub returns-in-Some : goal.returns-in-Some
returns-in-Some c =
    let all : List Expansion = c.args.self.now.reading.now.pp.expansions in
    c.expansion_at.ensures ∙ ap (λ (all : List Expansion). slice_get all c.in-Some.number) c.items.ensures
    ∙ ap (option_and_then (slice_get all)) (sym c.in-Some.is ∙ c.first.ensures ∙ ap (λ numbers. slice_get numbers 0) c.expansions_of.ensures) ∙ first-position (is_expansion c.args.definition.now c.args.self.now.reading.now.pp.read) all
