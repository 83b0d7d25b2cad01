use Rattle.std.proofs.Common.{length-drop, arith, ◌<◌, length, drop}
use Rattle.dm_token.specs.declared.token.PpKind.TheVariants.{Stray}
use Rattle.dm_lex.specs.Lengths.{make_found}
use Rattle.dm_lex.proofs.KindLemmas.{best_of-row, best_of-no_row}
use Rattle.dm_lex.proofs.ChoiceLemmas.{or_longer-some}
use Rattle.dm_lex.proofs.scan.plain_at.Goals as goal

pub returns-in-Some-clause-best : goal.returns-in-Some-clause-best
returns-in-Some-clause-best c = λ header.
    let some : 0 < length (drop c.args.at c.args.text.now) = omega (arith, length-drop c.args.at c.args.text.now, c.requires.inside) in
    rw c.or_longer.ensures
    (best_of-row header (drop c.args.at c.args.text.now) c.in-Some.row c.in-Some.length some (rw (c.in-Some.row-is, c.in-Some.length-is) at c.in-Some.ensures))

pub returns-in-None-clause-best : goal.returns-in-None-clause-best
returns-in-None-clause-best c = λ header.
    let some : 0 < length (drop c.args.at c.args.text.now) = omega (arith, length-drop c.args.at c.args.text.now, c.requires.inside) in
    best_of-no_row header (drop c.args.at c.args.text.now) some c.in-None.ensures

pub returns-in-Some-clause-some : goal.returns-in-Some-clause-some
returns-in-Some-clause-some c = rw c.or_longer.ensures (or_longer-some (make_found Stray 1) _ c.in-Some.length (omega arith))
