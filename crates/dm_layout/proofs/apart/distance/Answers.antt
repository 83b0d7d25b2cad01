-- Steps to one part lead on, and others lead apart.
use Rattle.std.proofs.Common.{◌≡◌, ◌∷◌, map, rules, ap, sym, ◌∙◌, eq-eqb, ne_eqb}
use Rattle.dm_type.specs.CTypes.{bare}
use Rattle.dm_type.specs.Tables.{type_of}
use Rattle.dm_meaning.specs.Objects.{apart_within, distance, inner_type}
use Rattle.dm_meaning.specs.Values.{part}
use Rattle.dm_layout.specs.Kinds.{type_of_object}
use Rattle.dm_layout.specs.LaidOut.{laid_out}
use Rattle.dm_value.specs.Parts.{view_of_part}
use Rattle.dm_layout.proofs.DistanceLemmas.{further}
use Rattle.dm_layout.proofs.apart.distance.Goals as goal

pub returns-then-number-another : goal.returns-then-number-another
returns-then-number-another c =
    let layout = laid_out c.args.layout.now in
    let type = type_of_object c.args.layout.now c.loop-first.at in
    let e : map view_of_part c.loop-first.left.now ≡ part c.in-Inner.number ∷ map view_of_part c.in-Some.rest.now = search rules in
    let also : map view_of_part c.loop-first.right.now ≡ part c.in-Inner-other.another ∷ map view_of_part c.in-Some-split_first.others.now = search rules in
    let found = distance layout (inner_type layout (bare type) c.in-Inner.number) (type_of c.args.layout.now c.args.target) (map view_of_part c.in-Some.rest.now) (map view_of_part c.in-Some-split_first.others.now) in
    sym (sym c.loop-first.invariant.1
    ∙ (further layout type (type_of c.args.layout.now c.args.target) _ c.in-Inner.number c.in-Inner-other.another _ _ c.in-Some.rest.now c.in-Some-split_first.others.now
    e also c.bare_kind-whole.ensures.bare (sym c.are_last_elements.ensures ∙ c.if-are_last_elements.false)
    ∙ ap (λ same. apart_within same found) (ne_eqb c.in-Inner.number c.in-Inner-other.another c.if-number-another.true)))

pub loop-first-preserved : goal.loop-first-preserved
loop-first-preserved c =
    let layout = laid_out c.args.layout.now in
    let type = type_of_object c.args.layout.now c.loop-first.at in
    let target = type_of c.args.layout.now c.args.target in
    let found = distance layout (inner_type layout (bare type) c.in-Inner.number) target (map view_of_part c.in-Some.rest.now) (map view_of_part c.in-Some-split_first.others.now) in
    let e : map view_of_part c.loop-first.left.now ≡ part c.in-Inner.number ∷ map view_of_part c.in-Some.rest.now = search rules in
    let also : map view_of_part c.loop-first.right.now ≡ part c.in-Inner-other.another ∷ map view_of_part c.in-Some-split_first.others.now = search rules in (
      c.inner-at.ensures.known,
      ap (λ one. distance layout one target (map view_of_part c.in-Some.rest.now) (map view_of_part c.in-Some-split_first.others.now))
          (c.inner-at.ensures.inner ∙ ap (λ w. inner_type layout w c.in-Inner.number) c.bare_kind-whole.ensures.bare)
          ∙ (sym (further layout type target _ c.in-Inner.number c.in-Inner-other.another _ _ c.in-Some.rest.now c.in-Some-split_first.others.now
          e also c.bare_kind-whole.ensures.bare (sym c.are_last_elements.ensures ∙ c.if-are_last_elements.false)
          ∙ ap (λ same. apart_within same found) (eq-eqb c.in-Inner.number c.in-Inner-other.another c.if-number-another.false))
          ∙ c.loop-first.invariant.1),
    )
