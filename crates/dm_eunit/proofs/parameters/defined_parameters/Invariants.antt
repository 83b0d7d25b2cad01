use Rattle.std.specs.Prelude.{true, map, drop}
use Rattle.dm_syn.specs.Views as syntax
use Rattle.dm_typing.specs.Views.{known_over, setting_of}
use Rattle.dm_edeclarator.specs.Steps.{parameters_over, ParametersFit}
use Rattle.dm_edeclarator.proofs.ReachLemmas.{Reaches}
use Rattle.dm_edecl.specs.Units as units
use Rattle.dm_eexpr.proofs.LoopLemmas.{onward}
use Rattle.dm_eunit.proofs.ParameterLemmas.{all_defined}
use Rattle.dm_eunit.proofs.parameters.defined_parameters.Given as goal

-- the parameters so far, and the others behind them
abbrev pub invariant-loop-parameter : goal.invariant-loop-parameter
invariant-loop-parameter l =
    Reaches l.fn.known l.known (λ later. units.defined_parameters (setting_of l.typer) true (known_over later l.fn.known) (syntax.parameters (map syntax.parameter l.parameters)))
    (λ later. onward (parameters_over later l.typed) (all_defined (setting_of l.typer) l.alone (known_over later l.known) (syntax.parameters (map syntax.parameter (drop l.parameter-index l.parameters)))))
    × ParametersFit l.known.types l.typed
