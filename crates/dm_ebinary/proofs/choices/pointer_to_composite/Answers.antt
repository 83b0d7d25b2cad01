-- The const of both, and the composite of the rest.
use Rattle.std.specs.Prelude.{◌||◌, IsTrue}
use Rattle.std.proofs.Common.{ap₂, sym, ◌∙◌, subst₂}
use Rattle.dm_type.specs.Alike.{are_compatible, composite}
use Rattle.dm_type.specs.CTypes.{pointer, is_const}
use Rattle.dm_typing.specs.Rules.{with_const_if}
use Rattle.dm_typing.proofs.LaterLemmas.{begins-on}
use Rattle.dm_typing.proofs.ValueLemmas.{bare-later}
use Rattle.dm_typing.proofs.GivesLemmas.{grows-on}
use Rattle.dm_ebinary.proofs.ChoiceStepLemmas.{numbers-later}
use Rattle.dm_ebinary.proofs.choices.pointer_to_composite.Goals as goal

pub composite-requires-clause-compatible : goal.composite-requires-clause-compatible
composite-requires-clause-compatible c = subst₂ (λ s t. IsTrue (are_compatible s t)) (sym c.bare-one.ensures.1) (sym c.bare-other.ensures.1) c.requires.alike

pub returns-clause-number : goal.returns-clause-number
returns-clause-number c =
    let old = c.args.known.now.types in
    let next = c.composite.new.known.types.shapes in
    let new = c.pointer_to.new.known.types.shapes in (
      c.in_ok-kind.ensures.number.0,
      λ later begins.
          let behind = begins-on next new later c.pointer_to.ensures.grows.shapes begins in
          let before = begins-on old.shapes next later c.composite.ensures.grows.shapes behind in
          c.in_ok-kind.ensures.number.1 later begins
          ∙ (ap₂ (λ t type. pointer (with_const_if t type))
          (c.either_const-constant.ensures ∙ sym (numbers-later (λ s t. is_const s || is_const t) old later c.args.to c.args.from before c.requires.left c.requires.right))
          (c.in_ok-both.ensures.number.1 later behind
          ∙ ap₂ composite (bare-later old later c.args.to c.bare-one.result before c.requires.left c.bare-one.ensures) (bare-later old later c.args.from c.bare-other.result before c.requires.right c.bare-other.ensures))),
    )

pub returns-clause-grows : goal.returns-clause-grows
returns-clause-grows c = grows-on c.args.known.now c.composite.new.known c.pointer_to.new.known c.composite.ensures.grows c.pointer_to.ensures.grows
