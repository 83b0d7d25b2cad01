-- A value's member.
use Rattle.std.proofs.Common.{ap, sym, ◌∙◌}
use Rattle.dm_enames.specs.Meanings.{member_over}
use Rattle.dm_typing.specs.Rules.{member_in}
use Rattle.dm_enames.proofs.members.member_in.Goals as goal

pub returns-then-not-whole_is_lvalue-clause-found : goal.returns-then-not-whole_is_lvalue-clause-found
returns-then-not-whole_is_lvalue-clause-found c = λ later begins.
    c.member_of_value.ensures.found later begins c.args.whole_is_const
    ∙ ap (λ test. member_in test c.args.whole_is_const (member_over later c.args.found)) (sym c.if-not-whole_is_lvalue.true)
