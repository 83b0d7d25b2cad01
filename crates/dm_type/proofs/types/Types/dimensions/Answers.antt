-- One array more, and the elements inside.
use Rattle.std.proofs.Common.{◌≡◌, ℕ, List, All, Option, sym, ap, ◌∙◌, subst}
use Rattle.std.proofs.lemmas.List.Elements.{All-push}
use Rattle.std.proofs.lemmas.Option.{get_or_from_slice_get}
use Rattle.dm_type.specs.declared.shape.Shape.TheVariants.{Void, Array}
use Rattle.dm_type.specs.CTypes.{CType, array}
use Rattle.dm_type.specs.Tables.{type_of, shaped, IsShape, IsLength}
use Rattle.dm_type.specs.Wraps.{arrayed, IsNoArray}
use Rattle.dm_type.proofs.SoundLemmas.{no-array, arrayed-push}
use Rattle.dm_type.proofs.types.Types.dimensions.Goals as goal

pub loop-inner-preserved : goal.loop-inner-preserved
loop-inner-preserved c =
    let inner : CType = type_of c.args.self.now c.in-Array.inner in
    let is : type_of c.args.self.now c.loop-inner.element ≡ array inner c.in-Array.length = c.shape.ensures.typed.1 ∙ ap (shaped c.args.self.now) c.in-Array.is in
    let over : IsShape c.args.self.now (Array c.in-Array.inner c.in-Array.length) = subst (IsShape c.args.self.now) c.in-Array.is c.shape.ensures.over in
    let lengths : List (Option ℕ) = c.loop-inner.lengths.items in (
      ap (λ ls. arrayed ls inner) c.in_ok-push.ensures.items ∙ arrayed-push lengths c.in-Array.length inner ∙ ap (arrayed lengths) (sym is) ∙ c.loop-inner.invariant.0,
      subst (All IsLength) (sym c.in_ok-push.ensures.items) (All-push IsLength lengths c.in-Array.length c.loop-inner.invariant.1 over.1),
      over.0,
    )

pub returns : goal.returns
returns c = record {
  same = c.loop-inner.invariant.0;
  lengths = c.loop-inner.invariant.1;
  within = c.loop-inner.invariant.2;
  element = subst IsNoArray (sym (get_or_from_slice_get c.args.self.now.shapes c.loop-inner.element c.shape.result.now Void c.shape.ensures.shape)) (no-array c.shape.result.now c.in_default.not-Array);
}
