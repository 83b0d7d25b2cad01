-- One of the two is a pointer to a complete object type, and the other an integer.
use Rattle.dm_type.specs.Tables.{type_of}
use Rattle.dm_typing.specs.Views.{seen}
use Rattle.dm_typing.proofs.RuleSteps.{first-indexed, second-indexed, none-indexed}
use Rattle.dm_typing.proofs.access.indexed.Goals as goal

pub returns-in-Some-clause-pointer : goal.returns-in-Some-clause-pointer
returns-in-Some-clause-pointer c =
    (first-indexed (seen c.args.known.now) (type_of c.args.known.now.types c.args.a) (type_of c.args.known.now.types c.args.b) (type_of c.args.known.now.types c.in-Some.to)
    c.in-Some.ensures.target).0

pub returns-in-Some-clause-target : goal.returns-in-Some-clause-target
returns-in-Some-clause-target c =
    (first-indexed (seen c.args.known.now) (type_of c.args.known.now.types c.args.a) (type_of c.args.known.now.types c.args.b) (type_of c.args.known.now.types c.in-Some.to)
    c.in-Some.ensures.target).1

pub returns-in-Some-target_beside-clause-pointer : goal.returns-in-Some-target_beside-clause-pointer
returns-in-Some-target_beside-clause-pointer c =
    (second-indexed (seen c.args.known.now) (type_of c.args.known.now.types c.args.a) (type_of c.args.known.now.types c.args.b)
    (type_of c.args.known.now.types c.in-Some-target_beside.to) c.in-None.ensures.target c.in-Some-target_beside.ensures.target).0

pub returns-in-Some-target_beside-clause-target : goal.returns-in-Some-target_beside-clause-target
returns-in-Some-target_beside-clause-target c =
    (second-indexed (seen c.args.known.now) (type_of c.args.known.now.types c.args.a) (type_of c.args.known.now.types c.args.b)
    (type_of c.args.known.now.types c.in-Some-target_beside.to) c.in-None.ensures.target c.in-Some-target_beside.ensures.target).1

pub returns-in-None-target_beside-clause-pointer : goal.returns-in-None-target_beside-clause-pointer
returns-in-None-target_beside-clause-pointer c =
    none-indexed (seen c.args.known.now) (type_of c.args.known.now.types c.args.a) (type_of c.args.known.now.types c.args.b) c.in-None.ensures.target c.in-None-target_beside.ensures.target
