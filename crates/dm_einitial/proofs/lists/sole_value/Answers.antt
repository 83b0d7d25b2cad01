-- A list of one item, by the item's form.
use Rattle.dm_einitial.proofs.ListLemmas.{sole-long, sole-some, sole-none}
use Rattle.dm_einitial.proofs.lists.sole_value.Goals as goal

pub returns-then-items-ne1 : goal.returns-then-items-ne1
returns-then-items-ne1 c = sole-long c.args.items.now c.if-items-ne1.true

pub returns-in-Value : goal.returns-in-Value
returns-in-Value c = sole-some c.args.items.now c.index-items-0.result c.in-Value.expr c.if-items-ne1.false c.index-items-0.is c.in-Value.is

pub returns-in-Braces : goal.returns-in-Braces
returns-in-Braces c = sole-none c.args.items.now c.in-Braces.items c.index-items-0.result c.in-Braces.trailing c.if-items-ne1.false c.index-items-0.is c.in-Braces.is
