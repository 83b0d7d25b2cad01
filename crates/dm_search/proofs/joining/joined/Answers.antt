-- The walk along both paths.
use Rattle.std.proofs.Common.{◌≡◌, ap, sym, ◌∙◌, subst, map, Result, Option, List, ℕ, IfOk}
use Rattle.dm_search.specs.Joining.{named}
use Rattle.dm_search.proofs.JoiningLemmas.{joined-outside, joined-outside_later, joined-inside}
use Rattle.dm_search.proofs.joining.joined.Goals as goal

pub returns-then-not-branch : goal.returns-then-not-branch
returns-then-not-branch c =
    sym (joined-outside c.args.folder.now c.args.name.now _ _ _ (ap (map (λ part. part.now)) c.new-parts.ensures.items) c.in_ok-walk.ensures c.if-not-branch.true)

pub returns-then-not-branch-2 : goal.returns-then-not-branch-2
returns-then-not-branch-2 c =
    sym (joined-outside_later c.args.folder.now c.args.name.now _ _ _ _ _ (ap (map (λ part. part.now)) c.new-parts.ensures.items) c.in_ok-walk.ensures c.if-not-branch.false c.in_ok-walk-2.ensures c.if-not-branch-2.true)

pub returns : goal.returns
returns c =
    let inside = joined-inside c.args.folder.now c.args.name.now _ _ _ _ _ (ap (map (λ part. part.now)) c.new-parts.ensures.items) c.in_ok-walk.ensures c.if-not-branch.false c.in_ok-walk-2.ensures c.if-not-branch-2.false in
    rw (inside, ← c.deref.ensures.value) c.named_by.ensures
