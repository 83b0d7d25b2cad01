-- The character is kept, or it is the backslash of a splice.
use Rattle.std.proofs.lemmas.Bool.{both_ways}
use Rattle.dm_phase.specs.Reading.{left}
use Rattle.dm_phase.specs.Writing.{written}
use Rattle.dm_phase.proofs.Splices.{keeps, deletes, refuses}
use Rattle.dm_phase.proofs.take_character.Goals as goal

pub returns-then-not-take_splice-clause-text : goal.returns-then-not-take_splice-clause-text
returns-then-not-take_splice-clause-text c = λ _.
    keeps (written c.args.writer.now) _ (left c.args.reader.now) _ c.args.character c.if-not-take_splice.ensures.text c.in_ok-push.ensures.text

pub returns-clause-text : goal.returns-clause-text
returns-clause-text c = λ more.
    deletes (written c.args.writer.now) (left c.args.reader.now) _ c.args.character c.if-not-take_splice.ensures.text (λ none. both_ways _ more (c.is_done.ensures.1 none))

pub returns-clause-refused : goal.returns-clause-refused
returns-clause-refused c = λ ends.
    refuses (left c.args.reader.now) _ c.args.character c.if-not-take_splice.ensures.text (c.is_done.ensures.0 ends)
