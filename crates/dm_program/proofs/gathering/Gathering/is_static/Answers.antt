-- By the entry of its declaration.
use Rattle.std.proofs.Common.{sym, ◌∙◌}
use Rattle.dm_program.proofs.WalkLemmas.{static-some, static-none}
use Rattle.dm_program.proofs.gathering.Gathering.is_static.Goals as goal

pub returns-in-Some : goal.returns-in-Some
returns-in-Some c = λ table. c.is_static_sort.ensures ∙ sym (static-some table c.args.self.now.declared.now c.args.local.now c.in-Some.entry.now c.in-Some.ensures c.if-not-local.false)

pub returns-in-None : goal.returns-in-None
returns-in-None c = λ table. sym (static-none table c.args.self.now.declared.now c.args.local.now c.in-None.ensures c.if-not-local.false)
