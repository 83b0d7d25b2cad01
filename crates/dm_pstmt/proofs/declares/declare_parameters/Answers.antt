use Rattle.std.proofs.Common.{refl, map}
use Rattle.dm_syn.specs.Scopes.{parameter_declares, parameters_declares}
use Rattle.dm_syn.specs.Views as view
use Rattle.dm_pexpr.specs.Parts.{source_of}
use Rattle.dm_pstmt.proofs.DeclaredLists.{one-further, all-done, parameter-said}
use Rattle.dm_pstmt.proofs.declares.declare_parameters.Goals as goal

pub loop-parameter-preserved : goal.loop-parameter-preserved
loop-parameter-preserved c =
    one-further (λ xs. parameters_declares (source_of c.args.reader.now) (view.parameters (map view.parameter xs))) (λ x. parameter_declares (source_of c.args.reader.now) (view.parameter x)) c.args.parameters.now c.loop-parameter.parameter-index c.parameter-item.result
    c.loop-parameter.scope c.declare_name.new.scope _ (λ first others. refl) c.loop-parameter-test.true c.parameter-item.is c.loop-parameter.invariant
    (parameter-said (source_of c.args.reader.now) c.parameter-item.result c.items.result.now c.loop-parameter.scope c.in_specifiers.new.scope c.in_declarator.new.scope c.declare_name.new.scope c.items.ensures
    c.in_ok-in_specifiers.ensures c.in_ok-in_declarator.ensures c.in_ok-declare_name.ensures)

pub returns : goal.returns
returns c =
    all-done (λ xs. parameters_declares (source_of c.args.reader.now) (view.parameters (map view.parameter xs))) c.args.parameters.now c.loop-parameter.parameter-index c.loop-parameter.scope _ refl c.loop-parameter-test.false c.loop-parameter.invariant
