-- One array more, and what is none.
use Rattle.std.proofs.Common.{ap, sym, ◌∙◌, subst}
use Rattle.dm_type.specs.Tables.{as_is, types_of, IsShape}
use Rattle.dm_typing.specs.Conversions.{element}
use Rattle.dm_eunary.proofs.ConstLemmas.{element-other}
use Rattle.dm_eunary.proofs.parts.element.Goals as goal

pub loop-inner-preserved : goal.loop-inner-preserved
loop-inner-preserved c = (
  (subst (IsShape c.args.types.now) c.in-Array.is c.shape.ensures.over).0,
  sym (ap element (c.shape.ensures.exact ∙ ap (as_is (types_of c.args.types.now.shapes)) c.in-Array.is)) ∙ c.loop-inner.invariant.1,
)

pub returns : goal.returns
returns c =
    let types = types_of c.args.types.now.shapes in (
      c.loop-inner.invariant.0,
      c.shape.ensures.exact ∙ (sym (element-other types c.shape.result.now c.in_default.not-Array) ∙ (sym (ap element c.shape.ensures.exact) ∙ c.loop-inner.invariant.1)),
    )
