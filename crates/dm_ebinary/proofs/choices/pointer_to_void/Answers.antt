-- The const of both.
use Rattle.std.specs.Prelude.{◌||◌}
use Rattle.std.proofs.Common.{ap₂, sym, ◌∙◌}
use Rattle.dm_type.specs.CTypes.{pointer, is_const}
use Rattle.dm_typing.specs.Rules.{with_const_if}
use Rattle.dm_typing.proofs.LaterLemmas.{begins-on}
use Rattle.dm_typing.proofs.GivesLemmas.{grows-on}
use Rattle.dm_ebinary.proofs.ChoiceStepLemmas.{numbers-later}
use Rattle.dm_ebinary.proofs.choices.pointer_to_void.Goals as goal

pub returns-clause-number : goal.returns-clause-number
returns-clause-number c =
    let old = c.args.known.now.types in
    let next = c.intern.new.self.types.shapes in
    let new = c.pointer_to.new.known.types.shapes in (
      c.in_ok-kind.ensures.number.0,
      λ later begins.
          let behind = begins-on next new later c.pointer_to.ensures.grows.shapes begins in
          let before = begins-on old.shapes next later c.intern.ensures.grows.shapes behind in
          c.in_ok-kind.ensures.number.1 later begins
          ∙ (ap₂ (λ t type. pointer (with_const_if t type))
          (c.either_const-constant.ensures ∙ sym (numbers-later (λ s t. is_const s || is_const t) old later c.args.to c.args.from before c.requires.left c.requires.right))
          (c.in_ok-void.ensures.number.1 later behind)),
    )

pub returns-clause-grows : goal.returns-clause-grows
returns-clause-grows c = grows-on c.args.known.now c.intern.new.self c.pointer_to.new.known c.intern.ensures.grows c.pointer_to.ensures.grows
