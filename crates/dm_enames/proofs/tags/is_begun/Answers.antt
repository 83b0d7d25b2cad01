-- The order makes no difference.
use Rattle.std.proofs.Common.{ap, sym, ◌∙◌}
use Rattle.dm_typing.specs.Typing.{is_among}
use Rattle.dm_enames.proofs.TagStepLemmas.{among-reverse}
use Rattle.dm_enames.proofs.tags.is_begun.Goals as goal

pub returns : goal.returns
returns c = c.is_among.ensures ∙ (ap (is_among c.args.number) c.as_slice.ensures.value ∙ sym (among-reverse c.args.number c.args.known.now.begun.items))
