-- Const twice is const once, and what is no array may be const.
use Rattle.std.proofs.Common.{◌≡◌, sym, ap, ◌∙◌, subst}
use Rattle.std.proofs.lemmas.Option.{get_or_from_slice_get}
use Rattle.dm_type.specs.declared.shape.Shape.TheVariants.{Void}
use Rattle.dm_type.specs.CTypes.{CType, with_const}
use Rattle.dm_type.specs.Tables.{type_of, shaped}
use Rattle.dm_type.specs.Sound.{CanBeConst}
use Rattle.dm_type.specs.Wraps.{IsNoArray}
use Rattle.dm_type.proofs.SoundLemmas.{can-be, const-twice}
use Rattle.dm_type.proofs.types.Types.with_own_const.Goals as goal

pub returns-in-Const-clause-typed : goal.returns-in-Const-clause-typed
returns-in-Const-clause-typed c =
    let inner : CType = type_of c.args.self.now c.in-Const.field-0 in
    let is : type_of c.args.self.now c.args.id ≡ with_const inner = c.shape.ensures.typed.1 ∙ ap (shaped c.args.self.now) c.in-Const.is in
    (c.requires.within, is ∙ sym (const-twice inner) ∙ ap with_const (sym is))

pub number-requires : goal.number-requires
number-requires c =
    let at = get_or_from_slice_get c.args.self.now.shapes c.args.id c.shape.result.now Void c.shape.ensures.shape in
    record { shape = c.requires.within; plain = subst CanBeConst (sym at) (can-be c.shape.result.now (subst IsNoArray at c.requires.element) c.in_default.not-Const) }
