-- One item after the other.
use Rattle.std.proofs.Common.{◌≡◌, ◌∷◌, [], List, map, length, rules, sym, subst}
use Rattle.dm_tree.specs.declared.tree.Core.{Core}
use Rattle.dm_tree.specs.Views.{view}
use Rattle.dm_meaning.specs.Statements.{declared_by, declared_in}
use Rattle.dm_program.specs.Sources.{meant}
use Rattle.dm_frame.specs.Entering.{IsEntered}
use Rattle.dm_frame.proofs.EnterLemmas.{both-entered, empty, none-entered}
use Rattle.dm_frame.proofs.objects.enter.Goals as goal

pub loop-item-preserved : goal.loop-item-preserved
loop-item-preserved c =
    let program = meant c.args.program.now in
    let table = c.args.program.now.table in
    let e : c.loop-item.left.now ≡ c.in-Some.item.now ∷ c.in-Some.rest.now = search rules in (
      c.in_ok-enter_item.ensures.known,
      λ named made more. c.loop-item.invariant.1 named made
          (subst (λ (left : List Core). IsEntered program (declared_in program (map (view table) left)) c.loop-item.objects c.loop-item.blocks named made) (sym e)
          (both-entered program (declared_by program (view table c.in-Some.item.now)) _ _ _ _ _ _ _ c.in_ok-enter_item.ensures more)),
    )

pub returns : goal.returns
returns c =
    let program = meant c.args.program.now in
    let table = c.args.program.now.table in
    let none : length c.loop-item.left.now ≡ 0 = search rules in
    c.loop-item.invariant.1 _ _
    (subst (λ (left : List Core). IsEntered program (declared_in program (map (view table) left)) c.loop-item.objects c.loop-item.blocks c.loop-item.objects c.loop-item.blocks) (sym (empty c.loop-item.left.now none))
    (none-entered program _ _ c.loop-item.invariant.0))
