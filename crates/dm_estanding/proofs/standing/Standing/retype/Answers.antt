-- The change is kept, so that it can be undone.
use Rattle.std.specs.Prelude.{slice_get}
use Rattle.std.proofs.Common.{sym}
use Rattle.dm_tree.specs.declared.unit.Declared.{Declared}
use Rattle.dm_estanding.proofs.RetypeLemmas.{known-retyped, known-beyond, none-of, within-retyped}
use Rattle.dm_estanding.proofs.standing.Standing.retype.Goals as goal

pub returns-in_ok-push-in-Some-clause-known : goal.returns-in_ok-push-in-Some-clause-known
returns-in_ok-push-in-Some-clause-known c = λ later.
    known-retyped later c.args.self.now.known c.set.new.known c.args.number c.args.kind c.set.ensures.declared c.set.ensures.scopes c.set.ensures.same

pub returns-in_ok-push-in-Some-clause-within : goal.returns-in_ok-push-in-Some-clause-within
returns-in_ok-push-in-Some-clause-within c =
    within-retyped c.args.self.now _ c.args.number c.in-Some.before c.args.kind (sym c.in-Some.ensures.entry) c.in_ok-push-in-Some.ensures.items c.set.ensures.declared c.set.ensures.scopes c.set.ensures.same

pub returns-in-None-clause-known : goal.returns-in-None-clause-known
returns-in-None-clause-known c = λ later.
    let known = c.args.self.now.known in
    known-beyond later known c.args.number c.args.kind (none-of (λ (old : Declared). old.kind) (slice_get known.declared c.args.number) c.in-None.ensures.entry)
