-- A statement begins behind its labels.
use Rattle.std.proofs.Common.{◌≡◌, ℕ, IsTrue, List, length, map, option_map, refl, ap, sym, subst, ◌∙◌}
use Rattle.dm_tree.specs.declared.tree.Core.{Core}
use Rattle.dm_tree.specs.Trees.{block}
use Rattle.dm_tree.specs.Views.{opened_form, view}
use Rattle.dm_memory.specs.Blocks.{view_of_blocks}
use Rattle.dm_meaning.specs.Choices.{in_order}
use Rattle.dm_meaning.specs.Statements.{begin_for, begin_form, loop_with}
use Rattle.dm_program.specs.Sources.{meant}
use Rattle.dm_program.proofs.FormLemmas.{opened-Block, opened-For}
use Rattle.dm_tree.proofs.ListLemmas.{listed-trees}
use Rattle.dm_frame.specs.Frames.{tasks_of}
use Rattle.dm_frame.specs.Tasks.{tree_or_none, view_of_loop, ExpressionFits, StartFits, TreeFits, TreesFit}
use Rattle.dm_frame.proofs.BlockLemmas.{for-parts, statement-form}
use Rattle.dm_frame.proofs.FitLemmas.{fits-Block, fits-For, form-fits, form-is, inside-fits}
use Rattle.dm_frame.proofs.statement.begin_statement.Goals as goal

pub begin_block-requires-clause-items : goal.begin_block-requires-clause-items
begin_block-requires-clause-items c =
    let table = c.args.program.now.table in
    let fits = c.unlabelled-statement.ensures.fits table c.requires.tree in
    subst (TreesFit table) (sym c.items.ensures) (fits-Block table c.in-Block.items (form-is table c.unlabelled-statement.result.now _ c.in-Block.is fits))

pub begin_for-requires-clause-start : goal.begin_for-requires-clause-start
begin_for-requires-clause-start c =
    let table = c.args.program.now.table in
    let fits = c.unlabelled-statement.ensures.fits table c.requires.tree in
    let parts = fits-For table c.in-For.start c.in-For.condition c.in-For.after c.in-For.body (form-is table c.unlabelled-statement.result.now _ c.in-For.is fits) in
    inside-fits (StartFits table) c.in-For.start c.inside-in-For-2.result c.inside-in-For-2.ensures.inside parts.0

pub begin_for-requires-clause-repeated : goal.begin_for-requires-clause-repeated
begin_for-requires-clause-repeated c =
    let table = c.args.program.now.table in
    let fits = c.unlabelled-statement.ensures.fits table c.requires.tree in
    let parts = fits-For table c.in-For.start c.in-For.condition c.in-For.after c.in-For.body (form-is table c.unlabelled-statement.result.now _ c.in-For.is fits) in (
      inside-fits (ExpressionFits table) c.in-For.condition c.inside.result c.inside.ensures.inside parts.1.0,
      inside-fits (ExpressionFits table) c.in-For.after c.inside-in-For.result c.inside-in-For.ensures.inside parts.1.1.0,
      subst (TreeFits table) (sym c.get.ensures) parts.1.1.1,
    )

pub returns-in_ok-begin_block-in-Block-clause-left : goal.returns-in_ok-begin_block-in-Block-clause-left
returns-in_ok-begin_block-in-Block-clause-left c =
    let program = meant c.args.program.now in
    let table = c.args.program.now.table in
    let start = c.args.frame.now in
    let memory = view_of_blocks table c.args.blocks.now in
    let left = c.in_ok-begin_block-in-Block.ensures.left in
    record {
      same = left.same
          ∙ (ap (λ (items : List Core). begin_form program (in_order memory) start.objects (tasks_of table start) memory block (map (view table) items)) c.items.ensures
          ∙ (ap (begin_form program (in_order memory) start.objects (tasks_of table start) memory block) (sym (listed-trees (map (view table) c.in-Block.items)))
          ∙ statement-form program (in_order memory) start.objects (tasks_of table start) memory table c.unlabelled-statement.result.now (view table c.args.tree.now) _ (c.unlabelled-statement.ensures.same table)
          (ap (opened_form table) c.in-Block.is ∙ opened-Block table c.in-Block.items)));
      frame_fits = left.frame_fits;
      begun_fits = left.begun_fits;
      blocks_fit = left.blocks_fit;
    }

pub returns-in_ok-begun-in-For-clause-left : goal.returns-in_ok-begun-in-For-clause-left
returns-in_ok-begun-in-For-clause-left c =
    let program = meant c.args.program.now in
    let table = c.args.program.now.table in
    let start = c.args.frame.now in
    let rest = tasks_of table start in
    let memory = view_of_blocks table c.args.blocks.now in
    let first = option_map (view table) c.in-For.start in
    let condition = option_map (view table) c.in-For.condition in
    let after = option_map (view table) c.in-For.after in
    let body = view table c.get.result.now in
    let left = c.in_ok-begun-in-For.ensures.left in
    record {
      same = left.same
          ∙ (ap (λ one. begin_for program (in_order memory) start.objects rest memory one (loop_with (tree_or_none table c.inside.result) (tree_or_none table c.inside-in-For.result) body)) (c.inside-in-For-2.ensures.same table)
          ∙ (ap (λ one. begin_for program (in_order memory) start.objects rest memory first (loop_with one (tree_or_none table c.inside-in-For.result) body)) (c.inside.ensures.same table)
          ∙ (ap (λ one. begin_for program (in_order memory) start.objects rest memory first (loop_with condition one body)) (c.inside-in-For.ensures.same table)
          ∙ (ap (λ (tree : Core). begin_for program (in_order memory) start.objects rest memory first (loop_with condition after (view table tree))) c.get.ensures
          ∙ (for-parts program (in_order memory) start.objects rest memory first condition after (view table c.in-For.body)
          ∙ statement-form program (in_order memory) start.objects rest memory table c.unlabelled-statement.result.now (view table c.args.tree.now) _ (c.unlabelled-statement.ensures.same table)
          (ap (opened_form table) c.in-For.is ∙ opened-For table c.in-For.start c.in-For.condition c.in-For.after c.in-For.body))))));
      frame_fits = left.frame_fits;
      begun_fits = left.begun_fits;
      blocks_fit = left.blocks_fit;
    }

pub returns-in_ok-begun-in_default-clause-left : goal.returns-in_ok-begun-in_default-clause-left
returns-in_ok-begun-in_default-clause-left c =
    let program = meant c.args.program.now in
    let table = c.args.program.now.table in
    let start = c.args.frame.now in
    let memory = view_of_blocks table c.args.blocks.now in
    let formed = form-fits table c.unlabelled-statement.result.now (c.unlabelled-statement.ensures.fits table c.requires.tree) in
    let fits = c.in_ok-begun-in_default.ensures.fits table c.requires.frame formed in
    record {
      same = c.in_ok-begun-in_default.ensures.same table program (in_order memory) memory
          ∙ statement-form program (in_order memory) start.objects (tasks_of table start) memory table c.unlabelled-statement.result.now (view table c.args.tree.now) _ (c.unlabelled-statement.ensures.same table) refl;
      frame_fits = fits.0;
      begun_fits = fits.1;
      blocks_fit = c.requires.blocks;
    }
