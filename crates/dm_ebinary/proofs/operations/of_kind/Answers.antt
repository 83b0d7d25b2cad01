-- The type of the whole is numbered.
use Rattle.std.proofs.Common.{ap, ◌∙◌}
use Rattle.dm_typing.specs.Rules.{pair}
use Rattle.dm_ebinary.proofs.operations.of_kind.Goals as goal

pub returns-clause-way : goal.returns-clause-way
returns-clause-way c = λ later begins a b. c.as_they_are.ensures.way later a b ∙ ap (pair a b) (c.in_ok-whole.ensures.number.1 later begins)

pub returns-clause-numbered : goal.returns-clause-numbered
returns-clause-numbered c = c.as_they_are.ensures.numbered c.intern.new.self.types c.in_ok-whole.ensures.number.0
