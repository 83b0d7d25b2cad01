use Rattle.dm_central.proofs.TwiceExample as twice
use Rattle.dm_central.proofs.examples.a_call_that_reads_its_argument_twice_refines.Goals as goal

pub returns-clause-calls : goal.returns-clause-calls
returns-clause-calls c = twice.in_place

pub returns-clause-whole : goal.returns-clause-whole
returns-clause-whole c = twice.whole_program

pub returns-clause-refines : goal.returns-clause-refines
returns-clause-refines c = twice.refines
