-- What an array and a const type are made of.
use Rattle.std.proofs.Common.{◌≡◌, ◌*◌, Some, sym, ap, ◌∙◌, subst, arith}
use Rattle.std.proofs.lemmas.Option.{get_or_from_slice_get}
use Rattle.dm_type.specs.declared.shape.Shape.TheVariants.{Void}
use Rattle.dm_type.specs.CTypes.{CType, with_const}
use Rattle.dm_type.specs.Tables.{type_of, shaped}
use Rattle.dm_type.specs.Layouts.{layout_of, times}
use Rattle.dm_type.specs.Wraps.{IsOwn}
use Rattle.dm_type.proofs.LayoutLemmas.{layout-const}
use Rattle.dm_type.proofs.SoundLemmas.{own-shape}
use Rattle.dm_type.proofs.types.Types.wrapped.Goals as goal

pub returns-in-Const-clause-repeats : goal.returns-in-Const-clause-repeats
returns-in-Const-clause-repeats c count positive =
    let inner : CType = type_of c.args.self.now c.in-Const.inner in
    let is : type_of c.args.self.now c.args.id ≡ with_const inner = c.shape.ensures.typed.1 ∙ ap (shaped c.args.self.now) c.in-Const.is in
    let once : count ≡ count * 1 = omega arith in
    ap (λ t. times (Some count) (layout_of c.args.self.now t)) is
    ∙ ap (times (Some count)) (layout-const c.args.self.now inner)
    ∙ ap (λ n. times (Some n) (layout_of c.args.self.now inner)) once

pub returns-in_default : goal.returns-in_default
returns-in_default c = record {
  inner = tt;
  length = tt;
  repeats = tt;
  none = subst IsOwn (sym (get_or_from_slice_get c.args.self.now.shapes c.args.id c.shape.result.now Void c.shape.ensures.shape)) (own-shape c.shape.result.now c.in_default.not-Array c.in_default.not-Const);
}
