use Rattle.std.proofs.Common.{get_or}
use Rattle.std.proofs.lemmas.List.{get_or_default}
use Rattle.dm_expand.specs.Strings.{escaped, escaped_byte}
use Rattle.dm_expand.proofs.StringLemmas.{added, added_all, escaped-step, escaped-nothing}
use Rattle.dm_expand.proofs.string.escape.Goals as goal

pub loop-byte-preserved : goal.loop-byte-preserved
loop-byte-preserved c =
    let byte = get_or c.args.bytes.now c.loop-byte.byte-index 0 in
    added escaped escaped_byte _ _ _ c.args.bytes.now c.loop-byte.byte-index byte (escaped-step byte) c.loop-byte-test.true (get_or_default _ _ _ _ c.loop-byte-test.true) c.in_ok-escape_byte.ensures c.loop-byte.invariant

pub returns : goal.returns
returns c = added_all escaped _ _ c.args.bytes.now c.loop-byte.byte-index escaped-nothing c.loop-byte-test.false c.loop-byte.invariant
