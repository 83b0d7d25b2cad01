-- By what is asked.
use Rattle.std.proofs.Common.{Bool, not, ap, sym, ◌∙◌}
use Rattle.dm_type.specs.Tables.{Table}
use Rattle.dm_tree.specs.declared.tree.Core.{Core}
use Rattle.dm_tree.specs.Views.{view}
use Rattle.dm_effect.specs.declared.question.Question.{Question}
use Rattle.dm_effect.specs.Questions.{answer, is_quiet_since}
use Rattle.dm_effect.proofs.walk.answers.Goals as goal

abbrev at_node : Table → Core → Question → Bool
at_node types node question = answer types question (view types node)

pub returns-in-Acts : goal.returns-in-Acts
returns-in-Acts c types = sym (ap (at_node types c.args.node.now) c.in-Acts.is ∙ (c.effect_of.ensures.acts types ∙ sym c.acts.ensures))

pub returns-in-Writes : goal.returns-in-Writes
returns-in-Writes c types = sym (ap (at_node types c.args.node.now) c.in-Writes.is ∙ c.writes.ensures types)

pub returns-in-Addresses : goal.returns-in-Addresses
returns-in-Addresses c types = sym (ap (at_node types c.args.node.now) c.in-Addresses.is ∙ c.addresses.ensures types)

pub returns-in-Defines : goal.returns-in-Defines
returns-in-Defines c types = sym (ap (at_node types c.args.node.now) c.in-Defines.is ∙ c.defines.ensures types)

pub returns-in-Initialises : goal.returns-in-Initialises
returns-in-Initialises c types = sym (ap (at_node types c.args.node.now) c.in-Initialises.is ∙ c.initialises.ensures types)

pub returns-in-Nothing : goal.returns-in-Nothing
returns-in-Nothing c types =
    sym (ap (at_node types c.args.node.now) c.in-Disturbs.is ∙ c.in-Nothing.ensures.disturbs types (is_quiet_since c.in-Disturbs.since.now c.in-Disturbs.token))

pub returns-in-Disturbs-effect_of : goal.returns-in-Disturbs-effect_of
returns-in-Disturbs-effect_of c types =
    sym (ap (at_node types c.args.node.now) c.in-Disturbs.is ∙ c.in-Disturbs-effect_of.ensures.disturbs types (is_quiet_since c.in-Disturbs.since.now c.in-Disturbs.token))

pub returns-in-Calls : goal.returns-in-Calls
returns-in-Calls c types =
    sym (ap (at_node types c.args.node.now) c.in-Disturbs.is
    ∙ (c.in-Calls.ensures.disturbs types (is_quiet_since c.in-Disturbs.since.now c.in-Disturbs.token) ∙ ap not (sym c.is_quiet_at.ensures)))
