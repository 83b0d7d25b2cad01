use Rattle.dm_central.proofs.AroundExample as around
use Rattle.dm_central.proofs.examples.an_argument_is_read_behind_a_quiet_call.Goals as goal

pub returns-clause-calls : goal.returns-clause-calls
returns-clause-calls c = around.quiet_in_place

pub returns-clause-named : goal.returns-clause-named
returns-clause-named c = around.none_named

pub returns-clause-quiet : goal.returns-clause-quiet
returns-clause-quiet c = around.quiet_function

pub returns-clause-refines : goal.returns-clause-refines
returns-clause-refines c = around.quiet_refines
