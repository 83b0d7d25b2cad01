-- The trees in a type name are no operands.
use Rattle.dm_move.proofs.FormLemmas.{operated-convert, operated-sizeof_kind}
use Rattle.dm_move.proofs.way.way_of.Goals as goal

pub returns-in-Convert : goal.returns-in-Convert
returns-in-Convert c = λ table. operated-convert table c.args.form.now _ _ c.in-Convert.is

pub returns-in-SizeofKind : goal.returns-in-SizeofKind
returns-in-SizeofKind c = λ table. operated-sizeof_kind table c.args.form.now _ _ c.in-SizeofKind.is
