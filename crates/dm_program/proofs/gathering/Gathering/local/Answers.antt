-- A declarator of an object of static storage duration adds it.
use Rattle.std.proofs.Common.{sym, ◌∙◌}
use Rattle.dm_type.specs.Tables.{no_type}
use Rattle.dm_program.proofs.WalkLemmas.{copied-now, local-gathers, static-facts}
use Rattle.dm_program.proofs.gathering.Gathering.local.Goals as goal

pub add-requires : goal.add-requires
add-requires c = (static-facts c.args.self.now.declared.now c.args.local.now (sym (c.if-is_static.ensures no_type))).1

pub returns-in_ok-add : goal.returns-in_ok-add
returns-in_ok-add c =
    let facts = static-facts c.args.self.now.declared.now c.args.local.now (sym (c.if-is_static.ensures no_type)) in
    local-gathers c.args.self.now c.add.new.self c.args.local.now c.as_ref.result (copied-now c.as_ref.result ∙ c.as_ref.ensures.value) facts.0 facts.1
    (λ table. sym (c.if-is_static.ensures table)) c.in_ok-add.ensures
