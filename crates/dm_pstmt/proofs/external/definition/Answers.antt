use Rattle.std.proofs.Common.{Some, None, ◌++◌, sym, ap, ◌∙◌, map}
use Rattle.dm_syn.specs.Scopes.{defines_types, named_declares}
use Rattle.dm_syn.specs.Views as view
use Rattle.dm_pexpr.specs.Parts.{source_of}
use Rattle.dm_pstmt.specs.Parsing.{within}
use Rattle.dm_pstmt.proofs.DeclarationSteps.{name-scoped, no-definition, definition-read}
use Rattle.dm_pstmt.proofs.external.definition.Goals as goal

pub returns-in_default : goal.returns-in_default
returns-in_default c before names read seen p q =
    no-definition (source_of c.args.reader.now) (within (source_of c.args.reader.now) c.args.depth) names c.args.first (view.specifiers c.args.specifiers.tree) (view.declarator c.args.declarator.tree) c.in_default.ensures

pub returns : goal.returns
returns c before names read seen p q =
    let one = name-scoped (source_of c.args.reader.now) c.args.is_type names c.args.scope.now c.declare_name.new.scope c.args.declarator seen q c.in_ok-declare_name.ensures
    ∙ ap (λ flag. named_declares (source_of c.args.reader.now) flag (view.declarator c.args.declarator.tree) ++ names) c.requires in
    definition-read (source_of c.args.reader.now) (within (source_of c.args.reader.now) c.args.depth) before names c.declare_name.new.scope c.declare_parameters.new.scope c.statement.new.scope c.end.new.self c.args.first c.len-kept.result
    (view.specifiers c.args.specifiers.tree) c.args.declarator seen c.args.scope.now (view.parameters (map view.parameter c.in-Some.parameters.now)) c.in_ok-body.body c.external_definition.result
    q c.in-Some.ensures one c.in_ok-declare_parameters.ensures c.len-kept.ensures c.in_ok-body.ensures c.in_ok-end.ensures
    (c.external_definition.ensures (source_of c.args.reader.now) before names c.args.scope.now c.declare_name.new.scope c.declare_parameters.new.scope c.statement.new.scope read seen _ p q one c.in_ok-body.ensures)
