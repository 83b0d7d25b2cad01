-- A change of a later entry stays.
use Rattle.std.specs.Prelude.{take, drop}
use Rattle.std.proofs.Common.{ap, ◌∙◌, arith}
use Rattle.dm_estanding.specs.Undoing.{undone}
use Rattle.dm_estanding.proofs.UndoLemmas.{last-undone, last-beyond, drop-set}
use Rattle.dm_estanding.proofs.scopes.undo_one.Goals as goal

pub returns-then-change-count-clause-entries : goal.returns-then-change-count-clause-entries
returns-then-change-count-clause-entries c = λ changes.
    ap (λ entries. take c.args.count (undone changes entries)) c.with_kind.ensures ∙ last-undone c.args.count changes c.args.change c.args.entries

pub returns-then-change-count-clause-behind : goal.returns-then-change-count-clause-behind
returns-then-change-count-clause-behind c =
    let below = c.if-change-count.true in
    ap (drop c.args.count) c.with_kind.ensures ∙ drop-set c.args.count c.args.change.number c.args.change.kind c.args.entries (omega (arith, below))

pub returns-clause-entries : goal.returns-clause-entries
returns-clause-entries c = λ changes.
    let beyond = c.if-change-count.false in last-beyond c.args.count changes c.args.change c.args.entries (omega (arith, beyond))
