use Rattle.std.specs.Prelude.{ℕ, Option, find, option_and_then, slice_get}
use Rattle.std.proofs.Common.{sym, ap, ◌∙◌}
use Rattle.dm_names.specs.Meanings.{is_at, identifiers_in}
use Rattle.dm_names.proofs.LookupLemmas.{meaning-found}
use Rattle.dm_names.proofs.names.Names.meaning.Goals as goal

pub returns-in-Some : goal.returns-in-Some
returns-in-Some c = λ types tokens syntax unit names.
    let all = c.args.self.now.identifiers in
    c.item.ensures
    ∙ ap (λ xs. slice_get xs c.in-Some.place) c.items.ensures
    ∙ ap (option_and_then (slice_get all)) (sym c.in-Some.is ∙ c.get.ensures)
    ∙ ap (λ (places : ℕ → Option ℕ). option_and_then (slice_get all) (places c.args.at)) names.places
    ∙ meaning-found all c.args.at
    ∙ ap (find (is_at c.args.at)) (names.identifiers ∙ ap identifiers_in names.shown)

pub returns-in-None : goal.returns-in-None
returns-in-None c = λ types tokens syntax unit names.
    let all = c.args.self.now.identifiers in
    ap (option_and_then (slice_get all)) (sym c.in-None.is ∙ c.get.ensures)
    ∙ ap (λ (places : ℕ → Option ℕ). option_and_then (slice_get all) (places c.args.at)) names.places
    ∙ meaning-found all c.args.at
    ∙ ap (find (is_at c.args.at)) (names.identifiers ∙ ap identifiers_in names.shown)
