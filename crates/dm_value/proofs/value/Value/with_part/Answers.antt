-- What was taken apart is closed around the part that was changed.
use Rattle.std.proofs.Common.{◌≡◌, ◌≤◌, ◌<◌, ◌∷◌, length, map, get_or, rules, refl, ap, sym, ◌∙◌}
use Rattle.dm_meaning.specs.Values as values
use Rattle.dm_meaning.specs.Values.{with_part}
use Rattle.dm_value.specs.Closed.{closed}
use Rattle.dm_value.specs.Parts.{view_of_part}
use Rattle.dm_value.specs.Views.{view_of_value}
use Rattle.dm_value.proofs.ClosedLemmas.{pushed-part, unchanged-part, no-steps}
use Rattle.dm_value.proofs.value.Value.with_part.Goals as goal

pub returns-then-len-number : goal.returns-then-len-number
returns-then-len-number c =
    let parts = c.in_ok-parts.parts.items in
    let e : map view_of_part c.loop-first.left.now ≡ values.part c.in-Inner.number ∷ map view_of_part c.in-Some.rest.now = search rules in
    let past : length parts ≤ c.in-Inner.number = search rules in
    c.in_ok-close-2.ensures
    ∙ (ap (closed c.loop-first.outer.items)
    (c.in_ok-whole.ensures
    ∙ (unchanged-part parts c.in-Inner.number (map view_of_part c.in-Some.rest.now) (view_of_value c.args.new) (view_of_value c.loop-first.at) past c.in_ok-parts.ensures
    ∙ ap (λ path. with_part path (view_of_value c.args.new) (view_of_value c.loop-first.at)) (sym e)))
    ∙ c.loop-first.invariant.0)

pub loop-first-preserved : goal.loop-first-preserved
loop-first-preserved c =
    let parts = c.in_ok-parts.parts.items in
    let e : map view_of_part c.loop-first.left.now ≡ values.part c.in-Inner.number ∷ map view_of_part c.in-Some.rest.now = search rules in
    let within : c.in-Inner.number < length parts = search rules in
    let before : c.replace-at.result ≡ get_or parts c.in-Inner.number c.replace-at.result = search rules in (
      pushed-part _ _ _ parts c.in-Inner.number c.replace-at.result c.replace-at.new.dest (map view_of_part c.in-Some.rest.now) (view_of_value c.args.new) (view_of_value c.loop-first.at)
          c.in_ok-push.ensures.items within before c.in_ok-parts.ensures refl refl
          ∙ (ap (λ path. closed c.loop-first.outer.items (with_part path (view_of_value c.args.new) (view_of_value c.loop-first.at))) (sym e) ∙ c.loop-first.invariant.0),
      c.loop-first.invariant.1,
    )

pub returns : goal.returns
returns c =
    let none : length c.loop-first.left.now ≡ 0 = search rules in
    let e = no-steps c.loop-first.left.now none in
    c.in_ok-close-3.ensures
    ∙ (ap (closed c.loop-first.outer.items) c.loop-first.invariant.1
    ∙ (ap (λ path. closed c.loop-first.outer.items (with_part path (view_of_value c.args.new) (view_of_value c.loop-first.at))) (sym e) ∙ c.loop-first.invariant.0))
