-- A number in the scopes is that of a declaration.
use Rattle.std.specs.Prelude.{◌≡◌, ◌<◌, length, None}
use Rattle.std.proofs.Common.{sym, subst}
use Rattle.dm_scope.specs.Scopes.{number_of}
use Rattle.dm_enames.proofs.TagStepLemmas.{number-below, some-nothing}
use Rattle.dm_enames.proofs.tags.meaning_of.Goals as goal

pub returns-clause-new : goal.returns-clause-new
returns-clause-new c =
    let known = c.args.known.now in
    let n = c.in_ok-number.number in
    some-nothing (number_of known.scopes c.args.name.now ≡ None) c.get.result (c.get.ensures.lookup.2 (subst (λ entries. n < length entries) (sym c.items.ensures)
    (number-below (length known.declared) known.scopes c.args.name.now n known.numbers (sym c.in_ok-number.ensures))))
