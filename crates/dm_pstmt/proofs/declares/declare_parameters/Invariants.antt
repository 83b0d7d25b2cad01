-- What the rest declare before what is declared so far is what all declare.
use Rattle.std.proofs.Common.{◌≡◌, ◌++◌, drop, map}
use Rattle.dm_syn.specs.Scopes.{parameters_declares}
use Rattle.dm_syn.specs.Views as view
use Rattle.dm_pexpr.specs.Parts.{source_of}
use Rattle.dm_pstmt.proofs.declares.declare_parameters.Given as goal

abbrev pub invariant-loop-parameter : goal.invariant-loop-parameter
invariant-loop-parameter l =
    parameters_declares (source_of l.reader) (view.parameters (map view.parameter (drop l.parameter-index l.parameters))) ++ l.scope ≡ parameters_declares (source_of l.reader) (view.parameters (map view.parameter l.parameters)) ++ l.initial.scope
