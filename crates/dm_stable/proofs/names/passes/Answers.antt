-- It names an object, or none.
use Rattle.std.proofs.Common.{Option, ℕ, ap, sym, ◌∙◌}
use Rattle.dm_effect.specs.Entities.{is_named}
use Rattle.dm_stable.proofs.names.passes.Goals as goal

pub returns-in-Some : goal.returns-in-Some
returns-in-Some g c types rest = c.pass.ensures ∙ sym (ap (λ (named : Option ℕ). is_named (g.N.Names.test c.args.names.now) named) (c.in-Some.ensures types rest))

pub returns-in-None : goal.returns-in-None
returns-in-None g c types rest = sym (ap (λ (named : Option ℕ). is_named (g.N.Names.test c.args.names.now) named) (c.in-None.ensures types rest))
