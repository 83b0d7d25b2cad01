-- The struct has no members, and isn't being read.
use Rattle.std.proofs.Common.{ap, ◌∙◌}
use Rattle.dm_type.specs.Tables.{Table}
use Rattle.dm_enames.proofs.TagStepLemmas.{added-unopened}
use Rattle.dm_enames.proofs.tags.add_struct.Goals as goal

pub returns-clause-unopened : goal.returns-clause-unopened
returns-clause-unopened c =
    let old = c.args.known.now in
    added-unopened old.types c.args.tag c.intern.new.self c.in_ok-number.number old.begun.items old.unfinished c.in_ok-number.ensures.number
    (c.intern.ensures.grows.structs ∙ ap (λ (types : Table). types.structs) c.in_ok-number.ensures.ok) c.intern.ensures.grows.begun
