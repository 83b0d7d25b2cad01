-- One declarator after the other.
use Rattle.std.proofs.Common.{◌≡◌, ◌∷◌, [], List, map, length, rules, sym, subst}
use Rattle.dm_tree.specs.declared.tree.Local.{Local}
use Rattle.dm_tree.specs.Views.{declarators_of, view_of_local}
use Rattle.dm_meaning.specs.Statements.{automatic_in}
use Rattle.dm_program.specs.Sources.{meant}
use Rattle.dm_frame.specs.Entering.{automatic_one, IsEntered}
use Rattle.dm_frame.proofs.EnterLemmas.{both-entered, empty, none-entered}
use Rattle.dm_frame.proofs.objects.enter_locals.Goals as goal

pub loop-local-preserved : goal.loop-local-preserved
loop-local-preserved c =
    let program = meant c.args.program.now in
    let table = c.args.program.now.table in
    let e : c.loop-local.left.now ≡ c.in-Some.local.now ∷ c.in-Some.rest.now = search rules in (
      c.in_ok-enter_local.ensures.known,
      λ named made more. c.loop-local.invariant.1 named made
          (subst (λ (left : List Local). IsEntered program (automatic_in program (declarators_of (map (view_of_local table) left))) c.loop-local.objects c.loop-local.blocks named made) (sym e)
          (both-entered program (automatic_one program (view_of_local table c.in-Some.local.now).declarator) _ _ _ _ _ _ _ c.in_ok-enter_local.ensures more)),
    )

pub returns : goal.returns
returns c =
    let program = meant c.args.program.now in
    let table = c.args.program.now.table in
    let none : length c.loop-local.left.now ≡ 0 = search rules in
    c.loop-local.invariant.1 _ _
    (subst (λ (left : List Local). IsEntered program (automatic_in program (declarators_of (map (view_of_local table) left))) c.loop-local.objects c.loop-local.blocks c.loop-local.objects c.loop-local.blocks) (sym (empty c.loop-local.left.now none))
    (none-entered program _ _ c.loop-local.invariant.0))
