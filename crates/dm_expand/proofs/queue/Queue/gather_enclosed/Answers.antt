use Rattle.std.proofs.Common.{◌≡◌, ◌∷◌, [], List, Some, ap, ◌∙◌, sym, arith, length, length-append}
use Rattle.dm_expand.specs.Items.{Item}
use Rattle.dm_expand.specs.Arguments.{enclosed_in, depth_behind}
use Rattle.dm_expand.specs.Views.{all_inside}
use Rattle.dm_expand.proofs.ArgumentLemmas.{next-is, next-nothing, inside-goes_on, inside-closes, inside-nothing}
use Rattle.dm_expand.proofs.queue.Queue.gather_enclosed.Goals as goal

pub returns-then-is_closing-clause-found : goal.returns-then-is_closing-clause-found
returns-then-is_closing-clause-found c =
    let inside : List Item = c.tokens.inside.items in
    let item : Item = c.in-Some.item in
    let rest : List Item = c.next.new.self in
    let next : c.tokens.self ≡ item ∷ rest = next-is c.in_ok-item.field-0 item c.tokens.self rest c.in_ok-item.ensures.next c.in-Some.is in
    inside-closes _ inside c.tokens.depth item rest
    (c.tokens.invariant.0 ∙ ap (λ (xs : List Item). all_inside inside (enclosed_in c.tokens.depth xs)) next)
    (sym c.if-is_closing.ensures)
    ∙ ap (λ (xs : List Item). Some (record { inside = xs; closing = item; rest = rest })) (sym c.in_ok-inside.ensures)

pub tokens-preserved : goal.tokens-preserved
tokens-preserved c =
    let inside : List Item = c.tokens.inside.items in
    let item : Item = c.in-Some.item in
    let rest : List Item = c.next.new.self in
    let depth = c.tokens.depth in
    let next : c.tokens.self ≡ item ∷ rest = next-is c.in_ok-item.field-0 item c.tokens.self rest c.in_ok-item.ensures.next c.in-Some.is in (
      inside-goes_on _ inside depth item rest
          (c.tokens.invariant.0 ∙ ap (λ (xs : List Item). all_inside inside (enclosed_in depth xs)) next)
          (sym c.if-is_closing.ensures)
          ∙ ap (λ (xs : List Item). all_inside xs (enclosed_in (depth_behind depth item) rest)) (sym c.in_ok-push.ensures.items)
          ∙ ap (λ d. all_inside c.push.new.self.items (enclosed_in d rest)) (sym c.depth_behind-depth.ensures.is),
      omega (arith, c.depth_behind-depth.ensures.near, ap length c.in_ok-push.ensures.items, length-append inside (item ∷ []), c.tokens.invariant.1),
      omega (arith, ap length next, c.tokens.invariant.2),
    )

pub returns-clause-found : goal.returns-clause-found
returns-clause-found c =
    let inside : List Item = c.tokens.inside.items in
    inside-nothing _ inside c.tokens.depth
    (c.tokens.invariant.0 ∙ ap (λ (xs : List Item). all_inside inside (enclosed_in c.tokens.depth xs)) (next-nothing c.in_ok-item.field-0 c.tokens.self c.next.new.self c.in_ok-item.ensures.next c.in_default.is).0)
