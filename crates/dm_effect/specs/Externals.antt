-- What is asked of external declarations.
--     at_declarators question form      the answer at the declarators of one itself
--     is_found types question one      the answer there or at some node in it
use Rattle.std.specs.Prelude.{Bool, false, ◌||◌}
use Rattle.std.specs.List.{list_any}
use Rattle.dm_type.specs.Tables.{Table}
use Rattle.dm_tree.specs.Units.{External, ExternalForm}
use Rattle.dm_effect.specs.declared.question.Question.{Question}
use Rattle.dm_effect.specs.declared.question.Question.TheVariants as question
use Rattle.dm_effect.specs.Entities.{locals_of_form, nodes_of_external}
use Rattle.dm_effect.specs.Questions.{answer}
use Rattle.dm_effect.specs.Safe.{defines_here, initialises_apart}

abbrev pub at_declarators : Question → ExternalForm → Bool
at_declarators (question.Defines d) form = list_any (defines_here d) (locals_of_form form)
at_declarators (question.Initialises d token) form = list_any (initialises_apart token d) (locals_of_form form)
at_declarators question form = false

abbrev pub is_found : Table → Question → External → Bool
is_found types question one = at_declarators question one.form || list_any (answer types question) (nodes_of_external one)
