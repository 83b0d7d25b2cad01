-- The items from the last one on.
use Rattle.std.proofs.Common.{◌≡◌, List, [], ◌∷◌, ◌++◌, length, set, Some, None, refl, sym, ap, ◌∙◌, arith, length-append}
use Rattle.std.proofs.lemmas.List.{length-set}
use Rattle.dm_planning.specs.Steps.{items_with}
use Rattle.dm_planning.proofs.EditingLemmas.{vec-length}
use Rattle.dm_planning.proofs.JudgeLemmas.{put-last, put-none, put-empty}
use Rattle.dm_planning.proofs.editing.put_over.Goals as goal

pub loop-new-preserved-in-Some-new : goal.loop-new-preserved-in-Some-new
loop-new-preserved-in-Some-new g c =
    let items = c.loop-new.items.items in
    let front = c.pop.new.self.items in
    let new = c.in-Some-new.item in
    let all : c.loop-new.left.items ≡ front ++ Some new ∷ [] = c.in-Some.ensures.items ∙ ap (λ one. front ++ one ∷ []) c.in-Some-new.is in
    let count = ap length all ∙ length-append front (Some new ∷ []) in
    let inside = c.loop-new.invariant.inside in
    let stays = length-set items c.len.result new in
    record {
      inside = omega (arith, count, inside, stays);
      all =
          ap (λ at. items_with (set items at new) front) (c.len.ensures ∙ vec-length c.pop.new.self) ∙ put-last items front new (omega (arith, count, inside))
          ∙ ap (items_with items) (sym all) ∙ c.loop-new.invariant.all;
    }

pub loop-new-preserved : goal.loop-new-preserved
loop-new-preserved g c =
    let items = c.loop-new.items.items in
    let front = c.pop.new.self.items in
    let all : c.loop-new.left.items ≡ front ++ None ∷ [] = c.in-Some.ensures.items ∙ ap (λ one. front ++ one ∷ []) c.in_default-new.is in
    let count = ap length all ∙ length-append front (None ∷ []) in
    let inside = c.loop-new.invariant.inside in
    record {
      inside = omega (arith, count, inside);
      all = put-none items front ∙ ap (items_with items) (sym all) ∙ c.loop-new.invariant.all;
    }

-- a list without items
none : {A : Type 0} (news : List A) → length news ≡ 0 → news ≡ []
none [] e = refl
none (new ∷ news) e = absurd (omega (arith, e))

pub returns : goal.returns
returns g c =
    let items = c.loop-new.items.items in
    sym (put-empty items) ∙ ap (items_with items) (sym (none c.loop-new.left.items (sym (vec-length c.loop-new.left) ∙ c.in_default.ensures.cases.0))) ∙ c.loop-new.invariant.all
