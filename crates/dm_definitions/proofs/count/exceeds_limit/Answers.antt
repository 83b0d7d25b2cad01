-- There are too many already.
use Rattle.std.proofs.Common.{◌+◌, ◌∙◌, ap, sym, drop, arith}
use Rattle.std.proofs.lemmas.List.{at_drop_more}
use Rattle.dm_token.specs.declared.unit.Read.{Read}
use Rattle.dm_definitions.specs.Counts.{keys_behind, with_definition}
use Rattle.dm_definitions.proofs.KeyLemmas.{too_many}
use Rattle.dm_definitions.proofs.count.exceeds_limit.Goals as goal

pub returns-then-len-gt-MOST_DEFINITIONS : goal.returns-then-len-gt-MOST_DEFINITIONS
returns-then-len-gt-MOST_DEFINITIONS c =
    let at = c.loop-one.one-index in
    let read = c.args.read.now in
    let keys = c.loop-one.keys.keys in
    let rest = drop (at + 1) read in
    too_many c.add.new.keys.keys rest read
    (ap (λ more. keys_behind more rest) c.in_ok-add.ensures ∙ ap (λ (one : Read). keys_behind (with_definition keys one.definition) rest) c.one-item.is
    ∙ sym (at_drop_more (keys_behind keys) read at c.one-item.result c.loop-one-test.true) ∙ c.loop-one.invariant.all)
    (omega (arith, c.len.ensures.len, c.if-len-gt-MOST_DEFINITIONS.true))
