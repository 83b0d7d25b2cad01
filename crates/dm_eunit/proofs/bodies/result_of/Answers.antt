-- The type is that of a function, or not.
use Rattle.std.proofs.Common.{◌∙◌}
use Rattle.dm_typing.proofs.LaterLemmas.{begins-on}
use Rattle.dm_eunit.proofs.BodyLemmas.{answer-some, answer-none}
use Rattle.dm_eunit.proofs.bodies.result_of.Goals as goal

pub returns-in-Some-clause-answer : goal.returns-in-Some-clause-answer
returns-in-Some-clause-answer c = λ later on.
    answer-some c.args.known.now.types later c.args.kind c.in-Some.answer on c.requires c.in-Some.ensures.numbered c.in-Some.ensures.answer

pub returns-in_ok-void-in-None-clause-answer : goal.returns-in_ok-void-in-None-clause-answer
returns-in_ok-void-in-None-clause-answer c = λ later on.
    c.in_ok-void-in-None.ensures.number.1 later on
    ∙ answer-none c.args.known.now.types later c.args.kind
    (begins-on c.args.known.now.types.shapes c.intern.new.self.types.shapes later c.intern.ensures.grows.shapes on) c.requires c.in-None.ensures.answer
