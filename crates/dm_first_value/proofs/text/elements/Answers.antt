-- One element after the other.
use Rattle.dm_layout.specs.Kinds.{type_of_object}
use Rattle.dm_first_value.specs.Texts.{characters_in}
use Rattle.dm_first_value.proofs.TextLemmas.{one-element}
use Rattle.dm_first_value.proofs.text.elements.Goals as goal

pub loop-number-preserved : goal.loop-number-preserved
loop-number-preserved c =
    one-element (type_of_object c.args.layout.now c.args.kind.now) (characters_in c.args.bytes) c.args.count c.loop-number.number c.loop-number.all.items c.push.new.self.items c.element.result
    c.loop-number-test.true c.loop-number.invariant c.element.ensures c.in_ok-push.ensures.items
