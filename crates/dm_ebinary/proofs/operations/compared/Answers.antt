-- By which of the two is converted.
use Rattle.std.proofs.Common.{ap, sym, ◌∙◌, subst}
use Rattle.dm_typing.specs.Views.{view_over}
use Rattle.dm_ebinary.specs.Pairs.{pair_by, IsWay}
use Rattle.dm_ebinary.proofs.BinaryLemmas.{compared-so, compared-numbered}
use Rattle.dm_ebinary.proofs.operations.compared.Goals as goal

pub returns-clause-way : goal.returns-clause-way
returns-clause-way c = λ later begins.
    ap (pair_by later (view_over later c.args.a.now) (view_over later c.args.b.now)) c.compared_as.ensures
    ∙ compared-so later c.args.a.now c.args.b.now c.args.brought c.in_ok-kind.kind (c.in_ok-kind.ensures.number.1 later begins)

pub returns-clause-numbered : goal.returns-clause-numbered
returns-clause-numbered c =
    let types = c.intern.new.self.types in
    subst (IsWay types) (sym c.compared_as.ensures)
    (compared-numbered c.args.known.now.types types c.args.a.now c.args.b.now c.args.brought c.in_ok-kind.kind c.intern.ensures.grows.shapes c.requires.left c.requires.right c.in_ok-kind.ensures.number.0)
