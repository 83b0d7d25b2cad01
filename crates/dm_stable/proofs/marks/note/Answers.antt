-- The object has a mark, or none is kept of it.
use Rattle.std.proofs.Common.{◌≡◌, ◌<◌, ◌≤◌, ◌||◌, List, length, get_or, sym, subst, rules, arith}
use Rattle.std.proofs.Math.ListN.{set}
use Rattle.std.proofs.lemmas.Grind.{common_steps}
use Rattle.dm_stable.specs.declared.marks.Mark.{Mark}
use Rattle.dm_stable.specs.Marks.{Tells, mark_at}
use Rattle.dm_stable.proofs.MarkLemmas.{note-in, note-out}
use Rattle.dm_stable.proofs.marks.note.Goals as goal

pub returns-then-number-len : goal.returns-then-number-len
returns-then-number-len c d token old added h adds =
    let marks : List Mark = c.args.marks.now.items in
    let here : Mark = c.index.result.now in
    let found : here ≡ get_or marks c.args.object here = first_of (search rules, grind (arith, common_steps)) in
    let within : c.args.object < length marks = search rules in
    subst (λ (mark : Mark). Tells (mark_at (set marks c.args.object mark) d) token (old || added)) (sym c.joined.ensures) (note-in marks c.args.object d token c.args.mark old added h adds here within found)

pub returns-else-number-len : goal.returns-else-number-len
returns-else-number-len c d token old added h adds =
    let past : length c.args.marks.now.items ≤ c.args.object = search rules in
    note-out c.args.marks.now.items c.args.object d token c.args.mark old added h adds past
