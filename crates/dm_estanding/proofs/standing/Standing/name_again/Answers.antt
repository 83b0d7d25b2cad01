-- The name means the entry, which then has the type.
use Rattle.std.specs.Prelude.{refl}
use Rattle.std.proofs.Common.{ap, ◌∙◌}
use Rattle.dm_scope.specs.Scopes.{declared}
use Rattle.dm_typing.specs.Views.{type_over}
use Rattle.dm_edecl.specs.Linkages.{known_kind}
use Rattle.dm_estanding.proofs.NameLemmas.{known-named, within-named}
use Rattle.dm_estanding.proofs.WithinLemmas.{within-on}
use Rattle.dm_estanding.proofs.standing.Standing.name_again.Goals as goal

pub returns-clause-known : goal.returns-clause-known
returns-clause-known c = λ later it.
    let old = c.args.self.now.known in
    c.in_ok-retype.ensures.known later
    ∙ ap (known_kind c.args.number (type_over later c.args.kind))
    (known-named later old c.name_entry.new.known (declared old.scopes c.args.name.now c.args.number) (c.in_ok-name_entry.ensures.scopes it) c.name_entry.ensures.declared c.name_entry.ensures.same)

pub returns-clause-within : goal.returns-clause-within
returns-clause-within c =
    within-on c.args.self.now _ _ (within-named c.args.self.now _ refl c.name_entry.ensures.declared c.in_ok-name_entry.ensures.outer c.in_ok-name_entry.ensures.depth c.name_entry.ensures.same)
    c.in_ok-retype.ensures.within
