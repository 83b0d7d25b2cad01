-- A part `.`, a part `..`, and any other.
use Rattle.std.proofs.Common.{map, refl}
use Rattle.std.proofs.lemmas.List.{map-append}
use Rattle.dm_search.specs.Joining.{HasWalked}
use Rattle.dm_search.proofs.JoiningLemmas.{entered-dot, entered-up, entered-plain, popped}
use Rattle.dm_search.proofs.joining.enter.Goals as goal

pub returns-then-eq : goal.returns-then-eq
returns-then-eq c = entered-dot _ c.args.part.now _ _ c.as_slice.ensures c.eq.ensures c.if-eq.true

pub returns-then-eq-2 : goal.returns-then-eq-2
returns-then-eq-2 c =
    let e = entered-up (map (λ part. part.now) c.args.parts.now.items) c.args.part.now _ _ _ _ c.as_slice.ensures c.eq.ensures c.if-eq.false c.as_slice-2.ensures c.eq-2.ensures c.if-eq-2.true in
    rw (e, c.is_some.ensures) (popped (λ part. part.now) c.args.parts.now.items c.pop.new.self.items c.pop.result _ c.args.parts.now.ok.0 c.pop.ensures.rest c.pop.ensures.variant.0 c.pop.ensures.variant.1)

pub returns : goal.returns
returns c =
    let e = entered-plain (map (λ part. part.now) c.args.parts.now.items) c.args.part.now _ _ _ _ c.as_slice.ensures c.eq.ensures c.if-eq.false c.as_slice-2.ensures c.eq-2.ensures c.if-eq-2.false in
    rw (e, c.in_ok-push.ensures.items, map-append) refl
