-- The entry of the number.
use Rattle.std.specs.Prelude.{◌≡◌, ◌<◌, length, slice_get, slice_index_or, Some, refl}
use Rattle.std.proofs.Common.{ap, sym, subst, ◌∙◌}
use Rattle.std.proofs.lemmas.Option.{slice_get_read}
use Rattle.dm_tree.specs.Views.{view_of_declared}
use Rattle.dm_typing.specs.Views.{table_over}
use Rattle.dm_enames.proofs.ObjectLemmas.{meaning-entry}
use Rattle.dm_enames.proofs.objects.entity_of.Goals as goal

pub returns-clause-meaning : goal.returns-clause-meaning
returns-clause-meaning c = λ later.
    let known = c.args.known.now in
    let entry = c.in_ok-entry.entry.now in
    let n = c.in_ok-number.number in
    let found : slice_get known.declared n ≡ Some entry =
    slice_get_read known.declared (length known.declared) n entry refl (subst (λ entries. n < length entries) c.items.ensures c.in_ok-entry.ensures.lookup.3.0)
    (c.in_ok-entry.ensures.lookup.1 ∙ ap (λ entries. slice_index_or entries n entry) c.items.ensures) in (
      view_of_declared (table_over later known.types) entry,
      meaning-entry known later c.args.name.now n entry (sym c.in_ok-number.ensures) found,
      record { sort = refl; linkage = refl; kind = refl },
    )
