-- Bytes that can be read aren't refused.
use Rattle.std.proofs.Common.{subst}
use Rattle.dm_token.specs.declared.stop.Stop.TheVariants.{Refused}
use Rattle.dm_search.specs.Loading.{StopsReplacing}
use Rattle.dm_planning.proofs.editing.put_back.Goals as goal

pub unreachable-requires : goal.unreachable-requires
unreachable-requires c =
    let refusal = c.in-Err-Refused.field-0-0 in
    let stops : StopsReplacing c.args.file c.args.bytes (Refused refusal) =
    subst (StopsReplacing c.args.file c.args.bytes) c.in-Err-Refused.field-0-is c.in-Err-Refused.ensures.stop in
    c.readable_bytes_are_not_refused.ensures c.args.file c.args.bytes refusal c.requires.readable stops.1
