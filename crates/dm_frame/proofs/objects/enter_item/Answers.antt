-- A declaration declares what its declarators do, and another item nothing.
use Rattle.std.proofs.Common.{◌≡◌, List, map, ap, sym, subst, ◌∙◌}
use Rattle.dm_tree.specs.declared.tree.Local.{Local}
use Rattle.dm_tree.specs.Views.{declarators_of, view_of_local}
use Rattle.dm_meaning.specs.Statements.{automatic_in}
use Rattle.dm_program.specs.Sources.{meant}
use Rattle.dm_program.proofs.InitialLemmas.{declared-Declare}
use Rattle.dm_frame.specs.Entering.{IsEntered}
use Rattle.dm_frame.proofs.EnterLemmas.{declared-other, none-entered}
use Rattle.dm_frame.proofs.objects.enter_item.Goals as goal

pub returns-in_ok-enter_locals-in-Declare : goal.returns-in_ok-enter_locals-in-Declare
returns-in_ok-enter_locals-in-Declare c =
    let program = meant c.args.program.now in
    let table = c.args.program.now.table in
    subst (λ ds. IsEntered program ds c.args.objects.now c.args.blocks.now c.enter_locals.new.objects c.enter_locals.new.blocks)
    (ap (λ (locals : List Local). automatic_in program (declarators_of (map (view_of_local table) locals))) c.items.ensures
    ∙ sym (declared-Declare table program c.args.item.now _ c.in-Declare.locals c.in-Declare.is))
    c.in_ok-enter_locals-in-Declare.ensures

pub returns-in_default : goal.returns-in_default
returns-in_default c =
    let program = meant c.args.program.now in
    subst (λ ds. IsEntered program ds c.args.objects.now c.args.blocks.now c.args.objects.now c.args.blocks.now) (sym (declared-other program c.args.program.now.table c.args.item.now c.in_default.not-Declare)) (none-entered program _ _ c.requires)
