use Rattle.dm_central.proofs.AroundExample as around
use Rattle.dm_central.proofs.examples.an_argument_is_read_behind_a_call.Goals as goal

pub returns-clause-calls : goal.returns-clause-calls
returns-clause-calls c = around.closed_in_place

pub returns-clause-named : goal.returns-clause-named
returns-clause-named c = around.only_named

pub returns-clause-whole : goal.returns-clause-whole
returns-clause-whole c = around.whole_program

pub returns-clause-refines : goal.returns-clause-refines
returns-clause-refines c = around.closed_refines

pub returns-clause-listed : goal.returns-clause-listed
returns-clause-listed c = around.listed

pub returns-clause-names_old : goal.returns-clause-names_old
returns-clause-names_old c = around.names_old

pub returns-clause-names_body : goal.returns-clause-names_body
returns-clause-names_body c = around.names_body
