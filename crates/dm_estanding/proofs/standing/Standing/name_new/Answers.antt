-- The name is that of the entry.
use Rattle.std.specs.Prelude.{refl}
use Rattle.std.proofs.Common.{ap, ◌∙◌}
use Rattle.dm_scope.specs.Scopes.{is_declared}
use Rattle.dm_typing.specs.Known.{declaring}
use Rattle.dm_typing.specs.Views.{known_over}
use Rattle.dm_estanding.specs.Summaries.{entry_over}
use Rattle.dm_estanding.proofs.NameLemmas.{within-new}
use Rattle.dm_estanding.proofs.standing.Standing.name_new.Goals as goal

pub returns-clause-known : goal.returns-clause-known
returns-clause-known c = λ later fresh.
    let old = c.args.self.now.known in
    let is = c.in_ok-name.ensures in
    c.in_ok-add_entry.ensures.known later (ap (is_declared old.scopes) is ∙ fresh) ∙ ap (λ name. declaring (known_over later old) name (entry_over later c.args.entry)) is

pub returns-clause-within : goal.returns-clause-within
returns-clause-within c =
    within-new c.args.self.now _ c.args.entry refl c.in_ok-add_entry.ensures.declared c.in_ok-add_entry.ensures.outer c.in_ok-add_entry.ensures.depth c.add_entry.ensures.same
