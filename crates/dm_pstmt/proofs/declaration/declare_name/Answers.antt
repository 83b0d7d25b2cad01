use Rattle.std.proofs.Common.{◌∷◌, ◌++◌, ap, ◌∙◌}
use Rattle.dm_syn.specs.Scopes.{declaration_of}
use Rattle.dm_pexpr.specs.Parts.{source_of}
use Rattle.dm_pstmt.proofs.Wholes.{on-ok-along}
use Rattle.dm_pstmt.proofs.declaration.declare_name.Goals as goal

pub returns-in_ok-spelling-in-Some : goal.returns-in_ok-spelling-in-Some
returns-in_ok-spelling-in-Some c =
    on-ok-along _ _ c.declare-in-Some.result
    (λ said. said ∙ ap (λ text. record { name = text; is_type = c.args.is_type } ∷ c.args.scope.now) c.in_ok-spelling-in-Some.ensures
    ∙ ap (λ name. declaration_of (source_of c.args.reader.now) c.args.is_type name ++ c.args.scope.now) c.in-Some.ensures)
    c.declare-in-Some.ensures
