-- An expression begins, or a list in braces.
use Rattle.std.proofs.Common.{◌≡◌, List, ◌∷◌, ap, sym, subst, ◌∙◌}
use Rattle.dm_tree.specs.declared.tree.Core.{Core}
use Rattle.dm_tree.specs.declared.tree.Initial.{Initial}
use Rattle.dm_tree.specs.Trees.{in_braces}
use Rattle.dm_tree.specs.Views.{OpenedInitial, expressions_of_items, items_of, view}
use Rattle.dm_layout.specs.Kinds.{type_of_object}
use Rattle.dm_memory.specs.Blocks.{view_of_blocks}
use Rattle.dm_meaning.specs.States.{initialises}
use Rattle.dm_meaning.specs.Statements.{onward, begin_initialiser, evaluation}
use Rattle.dm_value.specs.Places.{view_of_at}
use Rattle.dm_program.specs.Initials.{view_of_initial}
use Rattle.dm_program.specs.Sources.{meant}
use Rattle.dm_frame.specs.Frames.{tasks_of}
use Rattle.dm_frame.specs.Tasks.{initials_at, ExpressionFits, InitialFits, InitialsFit}
use Rattle.dm_frame.proofs.FitLemmas.{fits-Parts, fits-Value, initial-Parts, initial-Value}
use Rattle.dm_frame.proofs.initial.begin_initialiser.Goals as goal

pub begin_list-requires-clause-items : goal.begin_list-requires-clause-items
begin_list-requires-clause-items c =
    let table = c.args.program.now.table in
    subst (InitialsFit table) (sym c.items.ensures) (fits-Parts table c.in-Parts.items (subst (InitialFits table) c.in-Parts.is c.requires.initial))

pub returns-in-Value-clause-left : goal.returns-in-Value-clause-left
returns-in-Value-clause-left c =
    let table = c.args.program.now.table in
    let frame = c.args.frame.now in
    let memory = view_of_blocks table c.args.blocks.now in
    let at = view_of_at c.args.at in
    let kind = type_of_object table c.args.kind in
    let seen = ap (view_of_initial table) c.in-Value.is ∙ initial-Value table c.in-Value.tree in
    record {
      same = ap (λ (tree : Core). onward frame.objects (evaluation (view table tree) (initialises at kind) ∷ tasks_of table frame) memory) c.get.ensures
          ∙ sym (ap (λ (one : OpenedInitial). begin_initialiser (meant c.args.program.now) frame.objects (tasks_of table frame) memory at kind one.initialiser one.expressions) seen);
      frame_fits = c.requires.frame;
      begun_fits = (subst (ExpressionFits table) (sym c.get.ensures) (fits-Value table c.in-Value.tree (subst (InitialFits table) c.in-Value.is c.requires.initial)), c.requires.kind);
      blocks_fit = c.requires.blocks;
    }

pub returns-in_ok-begin_list-in-Parts-clause-left : goal.returns-in_ok-begin_list-in-Parts-clause-left
returns-in_ok-begin_list-in-Parts-clause-left c =
    let table = c.args.program.now.table in
    let frame = c.args.frame.now in
    let memory = view_of_blocks table c.args.blocks.now in
    let at = view_of_at c.args.at in
    let kind = type_of_object table c.args.kind in
    let left = c.in_ok-begin_list-in-Parts.ensures.left in
    let seen = ap (view_of_initial table) c.in-Parts.is ∙ initial-Parts table c.in-Parts.items in
    let begins = λ (one : OpenedInitial). begin_initialiser (meant c.args.program.now) frame.objects (tasks_of table frame) memory at kind one.initialiser one.expressions in
    record {
      same = left.same ∙ (ap (λ (items : List Initial). begins (record { initialiser = in_braces (items_of (initials_at table items)); expressions = expressions_of_items (initials_at table items) })) c.items.ensures ∙ sym (ap begins seen));
      frame_fits = left.fits;
      begun_fits = tt;
      blocks_fit = left.known;
    }
