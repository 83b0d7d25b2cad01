-- All declarations have their type by number.
use Rattle.std.specs.Prelude.{unwrap_or, option_map}
use Rattle.std.proofs.Common.{sym, ap, ◌∙◌}
use Rattle.dm_typing.specs.Views.{type_over}
use Rattle.dm_estanding.specs.declared.links.Whole.{Whole}
use Rattle.dm_edeclaration.proofs.initialised.kind_declared.Goals as goal

pub returns-in-Some-clause-kind : goal.returns-in-Some-clause-kind
returns-in-Some-clause-kind c = λ later before stands.
    ap (λ found. unwrap_or (option_map (λ (whole : Whole). type_over later whole.kind) found) (type_over later c.args.kind)) (sym c.in-Some.is)
    ∙ ap (λ found. unwrap_or found (type_over later c.args.kind)) (c.whole.ensures.kind later before.known.declared before.linked stands.links)

pub returns-in-None-clause-kind : goal.returns-in-None-clause-kind
returns-in-None-clause-kind c = λ later before stands.
    ap (λ found. unwrap_or (option_map (λ (whole : Whole). type_over later whole.kind) found) (type_over later c.args.kind)) (sym c.in-None.is)
    ∙ ap (λ found. unwrap_or found (type_over later c.args.kind)) (c.whole.ensures.kind later before.known.declared before.linked stands.links)
