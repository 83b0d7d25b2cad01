use Rattle.std.proofs.Common.{inl}
use Rattle.dm_central.proofs.DiagramLemmas.{run_matched, read_met}
use Rattle.dm_central.proofs.laws.tree_steps.Goals as goal

pub returns-clause-each : goal.returns-clause-each
returns-clause-each c = λ change added news objects closed quiet mode same world fewer locks among ready avoid beside run other h safe shut move k.
    run_matched change added news objects closed quiet mode same world fewer locks among ready avoid beside run other h safe (λ n a. inl (shut n a)) move k

pub returns-clause-read : goal.returns-clause-read
returns-clause-read c = read_met
