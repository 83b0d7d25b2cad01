-- Both hold.
use Rattle.std.specs.Prelude.{◌&&◌}
use Rattle.std.proofs.Common.{ap, sym, ◌∙◌}
use Rattle.dm_tree.specs.Trees.{label_of}
use Rattle.dm_tree.specs.Views.{view}
use Rattle.dm_typing.specs.Typing.{is_function_label}
use Rattle.dm_enames.proofs.calls.names_function.Goals as goal

pub returns-then-is_name : goal.returns-then-is_name
returns-then-is_name c = λ types.
    c.is_function_name.ensures types ∙ ap (λ test. test && is_function_label (label_of (view types c.args.tree.now))) (sym c.if-is_name.true ∙ c.is_name.ensures)
