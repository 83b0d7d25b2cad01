-- Where a command is selected, there is a request.
use Rattle.dm_words.proofs.asked.read_request.Goals as goal

pub returns-clause-unasked : goal.returns-clause-unasked
returns-clause-unasked c = λ none. absurd (none c.in-Some.ensures.0 c.in-Some.ensures.2)
