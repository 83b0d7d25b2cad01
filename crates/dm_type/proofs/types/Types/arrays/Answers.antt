-- One array more.
use Rattle.std.proofs.Common.{◌≡◌, ℕ, List, [], ◌∷◌, ◌++◌, All, Option, refl, sym, ap, ◌∙◌, subst}
use Rattle.dm_type.specs.CTypes.{CType}
use Rattle.dm_type.specs.Tables.{type_of, IsLength}
use Rattle.dm_type.specs.Sound.{IsSound}
use Rattle.dm_type.specs.TableLaws.{extends-itself, extends-on}
use Rattle.dm_type.specs.Wraps.{arrayed}
use Rattle.dm_type.proofs.DistinctLemmas.{distinct}
use Rattle.dm_type.proofs.SoundLemmas.{arrayed-push, all-parts}
use Rattle.dm_type.proofs.types.Types.arrays.Goals as goal

pub loop-length-init : goal.loop-length-init
loop-length-init c = (refl, c.requires.lengths, c.requires.within, extends-itself c.args.self.now, distinct c.args.self.now (subst IsSound c.self.view_is c.self.invariant.0))

pub loop-length-preserved : goal.loop-length-preserved
loop-length-preserved c =
    let left : List (Option ℕ) = c.pop.new.self.items in
    let inner : CType = type_of c.loop-length.self c.loop-length.id in
    let typed = c.in_ok-id.ensures.typed in
    let popped : c.loop-length.lengths.items ≡ left ++ c.in-Some.length ∷ [] = c.in-Some.ensures.items in
    let lengths = all-parts IsLength left c.in-Some.length (subst (All IsLength) popped c.loop-length.invariant.1) in (
      ap (arrayed left) typed.1 ∙ sym (arrayed-push left c.in-Some.length inner) ∙ ap (λ ls. arrayed ls inner) (sym popped) ∙ c.loop-length.invariant.0,
      lengths.0,
      typed.0,
      extends-on c.args.self.now c.loop-length.self c.number.new.self c.loop-length.invariant.3 c.number.ensures.kept,
      c.in_ok-id.ensures.distinct,
    )
