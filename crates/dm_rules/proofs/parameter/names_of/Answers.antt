-- A macro without a parameter list has none.
use Rattle.std.proofs.Common.{sym, ap, ◌∙◌}
use Rattle.dm_macro.specs.Bodies.{named_parameters}
use Rattle.dm_rules.proofs.parameter.names_of.Goals as goal

pub returns-in-None : goal.returns-in-None
unfolding named_parameters
returns-in-None c = ap named_parameters (sym c.in-None.is)

pub returns-in-Some : goal.returns-in-Some
unfolding named_parameters
returns-in-Some c = c.items.ensures ∙ ap named_parameters (sym c.in-Some.is)
