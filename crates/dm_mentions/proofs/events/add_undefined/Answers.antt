-- One more is the first of those to come.
use Rattle.std.proofs.Common.{◌≡◌, ◌+◌, ◌-◌, ◌++◌, [], ◌∷◌, suc, sym, ap, ◌∙◌, append_assoc, arith}
use Rattle.dm_mentions.specs.declared.events.Event.TheVariants.{Undefined}
use Rattle.dm_mentions.specs.Mentions.{undefined_from}
use Rattle.dm_mentions.proofs.events.add_undefined.Goals as goal

pub loop-number-preserved : goal.loop-number-preserved
loop-number-preserved c =
    let at = c.loop-number.number in
    let old = c.loop-number.events.items in
    let rest = c.args.to - (at + 1) in
    let left : c.args.to - at ≡ suc rest = omega (arith, c.loop-number-test.true) in
    ap (λ items. items ++ undefined_from (at + 1) rest) c.in_ok-push.ensures.items
    ∙ append_assoc old (Undefined at ∷ []) (undefined_from (at + 1) rest)
    ∙ ap (λ n. old ++ undefined_from at n) (sym left)
    ∙ c.loop-number.invariant
