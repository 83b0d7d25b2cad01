-- The entry is written anew, if there is one.
use Rattle.std.specs.Prelude.{slice_set, slice_index_or}
use Rattle.std.proofs.Common.{sym, ap, ◌∙◌, arith}
use Rattle.dm_tree.specs.declared.unit.Declared.{Declared}
use Rattle.dm_estanding.proofs.UndoLemmas.{set-written, set-beyond}
use Rattle.dm_estanding.proofs.scopes.with_kind.Goals as goal

pub returns-then-at-len : goal.returns-then-at-len
returns-then-at-len c =
    let beyond = c.if-at-len.true in
    let len = c.len.ensures in
    sym (set-beyond c.args.number c.args.kind c.args.entries (omega (arith, beyond, len)))

pub returns : goal.returns
returns c =
    let below = c.if-at-len.false in
    let len = c.len.ensures in
    let it : Declared = c.index_mut.result.now in
    c.from_vec.ensures
    ∙ ap (λ entries. slice_set entries c.args.number (record it { kind = c.args.kind })) c.into_vec-items.ensures
    ∙ set-written c.args.number c.args.kind c.args.entries it (omega (arith, below, len))
    (c.index_mut.ensures.value ∙ ap (λ entries. slice_index_or entries c.args.number it) c.into_vec-items.ensures)
