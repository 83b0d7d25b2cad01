use Rattle.dm_planning.proofs.laws.a_broken_rule_costs_no_reading.Goals as goal

pub returns : goal.returns
returns c told units before after definition rule place entry judges = judges.1
