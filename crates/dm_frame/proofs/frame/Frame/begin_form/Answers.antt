-- Each form leaves what the definition leaves.
use Rattle.std.proofs.Common.{◌≡◌, ℕ, ◌≤◌, List, [], ◌∷◌, ◌++◌, map, length, option_map, Some, None, refl, ap, sym, subst, arith, ◌∙◌}
use Rattle.dm_tree.specs.declared.tree.Core.{Core}
use Rattle.dm_tree.specs.Trees.{listed, trees}
use Rattle.dm_tree.specs.Views.{Opened, opened_form, view}
use Rattle.dm_meaning.specs.States as states
use Rattle.dm_meaning.specs.Statements.{onward, begin_form, evaluation, returning}
use Rattle.dm_program.proofs.FormLemmas.{opened-Full, opened-If, opened-Return, opened-Switch, opened-While}
use Rattle.dm_frame.specs.declared.frame.Frame.{Frame}
use Rattle.dm_frame.specs.declared.task.Loop.{Loop}
use Rattle.dm_frame.specs.declared.task.Task.TheVariants as task
use Rattle.dm_frame.specs.declared.task.Use.TheVariants as use_of
use Rattle.dm_frame.specs.Forms.{FormFits}
use Rattle.dm_frame.specs.Frames.{tasks_of}
use Rattle.dm_frame.specs.Tasks.{tree_or_none, view_of_begun, view_of_loop, BegunFits, ExpressionFits, TasksFit, TreeFits, TreesFit}
use Rattle.dm_frame.proofs.BeginLemmas.{begun-seen, ends-fit, ends-led, form-begun, if-meant, other-meant, return-meant, switch-led, switch-meant, tests-fit, tests-led}
use Rattle.dm_frame.proofs.FitLemmas.{fits-Do, fits-Full, fits-If, fits-Return, fits-Switch, fits-While, inside-fits}
use Rattle.dm_frame.proofs.frame.Frame.begin_form.Goals as goal

all : (n : ℕ) → n ≤ n
all n = omega arith

pub returns-in_ok-ends-in-Full-clause-same : goal.returns-in_ok-ends-in-Full-clause-same
returns-in_ok-ends-in-Full-clause-same c = λ table.
    form-begun table c.args.self.now c.ends.new.self c.args.form.now _ c.begun.result _ _ (ap (opened_form table) c.in-Full.is ∙ opened-Full table c.in-Full.tree)
    c.in_ok-ends-in-Full.ensures.objects (begun-seen table c.begun.result c.get.result use_of.Drops c.in-Full.tree c.begun.ensures c.get.ensures)
    (ends-led table c.args.self.now c.ends.new.self c.in_ok-ends-in-Full.ensures.objects c.in_ok-ends-in-Full.ensures.tasks)
    (λ program names memory. refl)

pub returns-in_ok-ends-in-Full-clause-fits : goal.returns-in_ok-ends-in-Full-clause-fits
returns-in_ok-ends-in-Full-clause-fits c = λ table fits formed. (
  ends-fit table c.args.self.now c.ends.new.self c.in_ok-ends-in-Full.ensures.objects c.in_ok-ends-in-Full.ensures.tasks fits,
  subst (BegunFits table) (sym c.begun.ensures) (subst (ExpressionFits table) (sym c.get.ensures) (fits-Full table c.in-Full.tree (subst (FormFits table) c.in-Full.is formed)), tt),
)

pub returns-in_ok-ends-in-If-clause-same : goal.returns-in_ok-ends-in-If-clause-same
returns-in_ok-ends-in-If-clause-same c = λ table.
    let before = c.args.self.now in
    let chosen = c.get-chosen.result in
    let other = c.inside-other.result in
    let behind = states.ends before.objects ∷ tasks_of table before in
    form-begun table before c.ends-in-If.new.self c.args.form.now _ c.begun-in-If.result _ _ (ap (opened_form table) c.in-If.is ∙ opened-If table c.in-If.condition c.in-If.first c.in-If.second)
    c.in_ok-ends-in-If.ensures.objects (begun-seen table c.begun-in-If.result c.get-in-If.result (use_of.Chooses chosen other) c.in-If.condition c.begun-in-If.ensures c.get-in-If.ensures)
    (ends-led table before c.ends-in-If.new.self c.in_ok-ends-in-If.ensures.objects c.in_ok-ends-in-If.ensures.tasks)
    (λ program names memory.
    ap (λ (first : Core). onward before.objects (evaluation (view table c.in-If.condition) (states.chooses (view table first) (tree_or_none table other)) ∷ behind) memory) c.get-chosen.ensures
    ∙ (ap (λ second. onward before.objects (evaluation (view table c.in-If.condition) (states.chooses (view table c.in-If.first) second) ∷ behind) memory) (c.inside-other.ensures.same table)
    ∙ if-meant program names before.objects (tasks_of table before) memory (view table c.in-If.condition) (view table c.in-If.first) (option_map (view table) c.in-If.second)))

pub returns-in_ok-ends-in-If-clause-fits : goal.returns-in_ok-ends-in-If-clause-fits
returns-in_ok-ends-in-If-clause-fits c = λ table fits formed.
    let parts = fits-If table c.in-If.condition c.in-If.first c.in-If.second (subst (FormFits table) c.in-If.is formed) in (
      ends-fit table c.args.self.now c.ends-in-If.new.self c.in_ok-ends-in-If.ensures.objects c.in_ok-ends-in-If.ensures.tasks fits,
      subst (BegunFits table) (sym c.begun-in-If.ensures) (
        subst (ExpressionFits table) (sym c.get-in-If.ensures) parts.0,
        (subst (TreeFits table) (sym c.get-chosen.ensures) parts.1, inside-fits (TreeFits table) c.in-If.second c.inside-other.result c.inside-other.ensures.inside parts.2),
      ),
    )

pub returns-in_ok-push-in-Switch-clause-same : goal.returns-in_ok-push-in-Switch-clause-same
returns-in_ok-push-in-Switch-clause-same c = λ table.
    let before = c.args.self.now in
    let after : Frame = record { function = before.function; objects = before.objects; tasks = c.push.new.self } in
    let led : after.tasks ≡ task.EndsSwitch (length before.objects) ∷ before.tasks = c.in_ok-push-in-Switch.ensures.ok ∙ ap (λ n. task.EndsSwitch n ∷ before.tasks) c.len-alive.ensures in
    form-begun table before after c.args.form.now _ c.begun-in-Switch.result _ _ (ap (opened_form table) c.in-Switch.is ∙ opened-Switch table c.in-Switch.operand c.in-Switch.items)
    refl (begun-seen table c.begun-in-Switch.result c.get-in-Switch.result (use_of.Selects c.items.result) c.in-Switch.operand c.begun-in-Switch.ensures c.get-in-Switch.ensures)
    (switch-led table before after refl led)
    (λ program names memory.
    ap (λ (items : List Core). onward before.objects (evaluation (view table c.in-Switch.operand) (states.selects (map (view table) items)) ∷ states.ends_switch before.objects ∷ tasks_of table before) memory) c.items.ensures
    ∙ switch-meant program names before.objects (tasks_of table before) memory (view table c.in-Switch.operand) (map (view table) c.in-Switch.items))

pub returns-in_ok-push-in-Switch-clause-fits : goal.returns-in_ok-push-in-Switch-clause-fits
returns-in_ok-push-in-Switch-clause-fits c = λ table fits formed.
    let before = c.args.self.now in
    let parts = fits-Switch table c.in-Switch.operand c.in-Switch.items (subst (FormFits table) c.in-Switch.is formed) in
    let led : c.push.new.self ≡ task.EndsSwitch (length before.objects) ∷ before.tasks = c.in_ok-push-in-Switch.ensures.ok ∙ ap (λ n. task.EndsSwitch n ∷ before.tasks) c.len-alive.ensures in (
      subst (TasksFit table (length before.objects)) (sym led) (all (length before.objects), fits),
      subst (BegunFits table) (sym c.begun-in-Switch.ensures) (
        subst (ExpressionFits table) (sym c.get-in-Switch.ensures) parts.0,
        subst (TreesFit table) (sym c.items.ensures) parts.1,
      ),
    )

pub returns-in_ok-begin_do-in-Do-clause-fits : goal.returns-in_ok-begin_do-in-Do-clause-fits
returns-in_ok-begin_do-in-Do-clause-fits c = λ table fits formed.
    let parts = fits-Do table c.in-Do.body c.in-Do.condition (subst (FormFits table) c.in-Do.is formed) in
    (c.in_ok-begin_do-in-Do.ensures.fits table fits (subst (TreeFits table) (sym c.get-in-Do.ensures) parts.0) (subst (ExpressionFits table) (sym c.get-in-Do-2.ensures) parts.1), tt)

pub returns-in_ok-tests-in-While-clause-fits : goal.returns-in_ok-tests-in-While-clause-fits
returns-in_ok-tests-in-While-clause-fits c = λ table fits formed.
    let before = c.args.self.now in
    let middle = c.ends-in-While.new.self in
    let loop : Loop = record { condition = Some c.get-in-While.result; after = None; body = c.get-in-While-2.result } in
    let parts = fits-While table c.in-While.condition c.in-While.body (subst (FormFits table) c.in-While.is formed) in (
      tests-fit table middle c.tests.new.self loop c.in_ok-tests-in-While.ensures.objects c.in_ok-tests-in-While.ensures.tasks
          (subst (ExpressionFits table) (sym c.get-in-While.ensures) parts.0, tt, subst (TreeFits table) (sym c.get-in-While-2.ensures) parts.1)
          (ends-fit table before middle c.in_ok-ends-in-While.ensures.objects c.in_ok-ends-in-While.ensures.tasks fits),
      tt,
    )

pub returns-in_ok-tests-in-While-clause-same : goal.returns-in_ok-tests-in-While-clause-same
returns-in_ok-tests-in-While-clause-same c = λ table.
    let before = c.args.self.now in
    let middle = c.ends-in-While.new.self in
    let after = c.tests.new.self in
    let loop : Loop = record { condition = Some c.get-in-While.result; after = None; body = c.get-in-While-2.result } in
    let same : after.objects ≡ before.objects = c.in_ok-tests-in-While.ensures.objects ∙ c.in_ok-ends-in-While.ensures.objects in
    let left : tasks_of table after ≡ states.tests before.objects (view_of_loop table loop) ∷ states.ends before.objects ∷ tasks_of table before =
    tests-led table middle after c.in_ok-tests-in-While.ensures.objects loop c.in_ok-tests-in-While.ensures.tasks
    ∙ (ap (λ objects. states.tests objects (view_of_loop table loop) ∷ tasks_of table middle) c.in_ok-ends-in-While.ensures.objects
    ∙ ap (λ tasks. states.tests before.objects (view_of_loop table loop) ∷ tasks) (ends-led table before middle c.in_ok-ends-in-While.ensures.objects c.in_ok-ends-in-While.ensures.tasks)) in
    form-begun table before after c.args.form.now _ None [] _ (ap (opened_form table) c.in-While.is ∙ opened-While table c.in-While.condition c.in-While.body)
    same refl left
    (λ program names memory.
    ap (λ (tree : Core). onward before.objects (states.tests before.objects (record { condition = Some (view table tree); after = None; body = view table c.get-in-While-2.result.now }) ∷ states.ends before.objects ∷ tasks_of table before) memory) c.get-in-While.ensures
    ∙ ap (λ (tree : Core). onward before.objects (states.tests before.objects (record { condition = Some (view table c.in-While.condition); after = None; body = view table tree }) ∷ states.ends before.objects ∷ tasks_of table before) memory) c.get-in-While-2.ensures)

pub returns-in_ok-begun-in-Return-clause-same : goal.returns-in_ok-begun-in-Return-clause-same
returns-in_ok-begun-in-Return-clause-same c = λ table program names memory.
    let before = c.args.self.now in
    ap (λ objects. onward objects (view_of_begun table c.in_ok-begun-in-Return.begun ++ tasks_of table c.begin_return.new.self) memory) c.in_ok-begun-in-Return.ensures.objects
    ∙ (c.in_ok-begun-in-Return.ensures.same table before.objects memory
    ∙ (ap (returning before.objects memory) (c.inside.ensures.same table)
    ∙ (return-meant program names before.objects (tasks_of table before) memory (option_map (view table) c.in-Return.value)
    ∙ sym (ap (λ (o : Opened). begin_form program names before.objects (tasks_of table before) memory o.label (listed (trees o.parts))) (ap (opened_form table) c.in-Return.is ∙ opened-Return table c.in-Return.value)))))

pub returns-in_ok-begun-in-Return-clause-fits : goal.returns-in_ok-begun-in-Return-clause-fits
returns-in_ok-begun-in-Return-clause-fits c = λ table fits formed.
    c.in_ok-begun-in-Return.ensures.fits table
    (inside-fits (ExpressionFits table) c.in-Return.value c.inside.result c.inside.ensures.inside (fits-Return table c.in-Return.value (subst (FormFits table) c.in-Return.is formed)))

pub returns-in_ok-ends-in_default-clause-same : goal.returns-in_ok-ends-in_default-clause-same
returns-in_ok-ends-in_default-clause-same c = λ table.
    let before = c.args.self.now in
    form-begun table before c.ends-in_default.new.self c.args.form.now _ None [] _ refl c.in_ok-ends-in_default.ensures.objects refl
    (ends-led table before c.ends-in_default.new.self c.in_ok-ends-in_default.ensures.objects c.in_ok-ends-in_default.ensures.tasks)
    (λ program names memory. other-meant table c.args.form.now program names before.objects (tasks_of table before) memory c.requires.plain
    c.in_default.not-Full c.in_default.not-If c.in_default.not-Switch c.in_default.not-While c.in_default.not-Do c.in_default.not-Break c.in_default.not-Continue c.in_default.not-Return)

pub returns-in_ok-ends-in_default-clause-fits : goal.returns-in_ok-ends-in_default-clause-fits
returns-in_ok-ends-in_default-clause-fits c = λ table fits formed.
    (ends-fit table c.args.self.now c.ends-in_default.new.self c.in_ok-ends-in_default.ensures.objects c.in_ok-ends-in_default.ensures.tasks fits, tt)
