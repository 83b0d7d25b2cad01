-- The first task of a frame, whose full expression may be under evaluation, and the worlds at calls.
use Rattle.std.specs.Prelude.{◌≡◌, refl, ℕ, ◌≤◌, ◌+◌, ◌==◌, Bool, true, false, List, [], ◌∷◌, Some, if◌then◌else◌}
use Rattle.std.proofs.Common.{arith, true≢false, ap, sym, ◌∙◌, subst, inl, inr}
use Rattle.dm_tree.specs.Trees.{is_statement, Tree, node, label_of}
use Rattle.dm_meaning.specs.Among.{IsAmong}
use Rattle.dm_meaning.specs.Called.{Called}
use Rattle.dm_meaning.specs.Operations.{World, Objects}
use Rattle.dm_meaning.specs.Programs.{Definition, definition_in}
use Rattle.dm_meaning.specs.Running.{Run, begun}
use Rattle.dm_meaning.specs.States.{Task, begins, declares, initials, evaluates, again, tests, ends, ends_switch, leaves, skips, hands_back, Caller}
use Rattle.dm_meaning.proofs.GrowLemmas.{equal_of}
use Rattle.dm_meaning.proofs.LikenessLemmas as alike
use Rattle.dm_meaning.proofs.OptionLemmas.{none_is_some, some_is_some}
use Rattle.dm_meaning.proofs.PassStatementLemmas.{limit, share, task_left, tasks_left, most, most_inside}
use Rattle.dm_meaning.proofs.ShrinkLemmas.{left_in}
use Rattle.dm_central.specs.Agreement.{outside, RunAgrees}
use Rattle.dm_central.specs.Bodies.{Known, frame_stage, AreNamedOnce}
use Rattle.dm_central.specs.StateAgreement.{TreeFits, RunFits, TasksAgree, RunsNow, TopAgrees, worlds_after}
use Rattle.dm_central.proofs.AgreementLemmas.{begun_agrees}

-- ---- the worlds at calls

pub same_worlds : (starts : List World) (world : World) (callers : List Caller) → worlds_after starts world callers callers ≡ starts
same_worlds starts world [] = refl
same_worlds starts world (c ∷ cs) = same_worlds starts world cs

pub more_worlds : (starts : List World) (world : World) (callers : List Caller) (caller : Caller) → worlds_after starts world callers (caller ∷ callers) ≡ world ∷ starts
more_worlds starts world [] caller = refl
more_worlds starts world (c ∷ cs) caller = more_worlds starts world cs c

pub fewer_worlds : (start : World) (starts : List World) (world : World) (callers : List Caller) (caller : Caller) → worlds_after (start ∷ starts) world (caller ∷ callers) callers ≡ starts
fewer_worlds start starts world [] caller = refl
fewer_worlds start starts world (c ∷ cs) caller = fewer_worlds start starts world cs c

-- ---- the first task

-- a function that is found is one of the program
pub found_among : (functions : List Definition) (f : ℕ) (definition : Definition) → definition_in functions f ≡ Some definition → IsAmong definition functions
found_among [] f definition e = absurd (none_is_some definition e)
found_among (first ∷ functions) f definition e = by_name (first.function == f) e (found_among functions f definition)
  where
    by_name : (b : Bool) → (if b then Some first else definition_in functions f) ≡ Some definition → (definition_in functions f ≡ Some definition → IsAmong definition functions) → IsAmong definition (first ∷ functions)
    by_name true g later = inl (sym (some_is_some first definition g))
    by_name false g later = inr (later g)

-- and has its number
pub found_number : (definitions : List Definition) (g : ℕ) (definition : Definition) → definition_in definitions g ≡ Some definition → definition.function ≡ g
found_number [] g definition e = absurd (none_is_some definition e)
found_number (first ∷ rest) g definition e = by_case (first.function == g) refl e (found_number rest g definition)
  where
    by_case : (b : Bool) → (first.function == g) ≡ b → (if b then Some first else definition_in rest g) ≡ Some definition → (definition_in rest g ≡ Some definition → definition.function ≡ g) → definition.function ≡ g
    by_case true f h later = ap (λ (d : Definition). d.function) (sym (some_is_some first definition h)) ∙ equal_of first.function g f
    by_case false f h later = later h

module _ (change : Called) (known : Known) (statics objects : Objects) (world : World) where
  task_now : (task other : Task) → alike.TaskAgrees change (TreeFits change known) (RunFits change known) task other → alike.TaskAgrees change (TreeFits change known) (RunsNow change known statics objects world) task other
  task_now (evaluates place run use_of) (evaluates at other_run other_use) h = (inl h.0, h.1)
  task_now (begins tree) (begins other_tree) h = h
  task_now (declares declarator trees) (declares other_declarator others) h = h
  task_now (initials at kind initialiser trees) (initials other_at other_kind other_initialiser others) h = h
  task_now (again saved loop) (again others other_loop) h = h
  task_now (tests saved loop) (tests others other_loop) h = h
  task_now (ends saved) (ends others) h = h
  task_now (ends_switch saved) (ends_switch others) h = h
  task_now leaves leaves h = h
  task_now skips skips h = h
  task_now (hands_back value) (hands_back other_value) h = h
  task_now task other h = absurd h

  -- nothing of it is evaluated
  pub top_begun : (tasks others : List Task) → TasksAgree change known tasks others → TopAgrees change known statics objects world tasks others
  top_begun [] [] h = tt
  top_begun [] (other ∷ others) h = absurd h
  top_begun (task ∷ tasks) [] h = absurd h
  top_begun (task ∷ tasks) (other ∷ others) h = (task_now task other h.0, h.1)

  now_few : (run other : Run) → RunsNow change known statics objects world run other → left_in run ≤ limit change
  now_few run other (inl h) = subst (λ r. left_in r ≤ limit change) (sym h.is) h.fits.1
  now_few run other (inr h) = h.1

  task_few : (task other : Task) → alike.TaskAgrees change (TreeFits change known) (RunsNow change known statics objects world) task other → task_left task ≤ limit change
  task_few (evaluates place run use_of) (evaluates at other_run other_use) h = now_few run other_run h.0
  task_few (evaluates place run use_of) other h = absurd h
  task_few task other h = omega arith

  top_few : (tasks others : List Task) → TopAgrees change known statics objects world tasks others → tasks_left tasks ≤ limit change
  top_few [] others h = omega arith
  top_few (task ∷ tasks) [] h = absurd h
  top_few (task ∷ tasks) (other ∷ others) h = task_few task other h.0

  none_more : (n : ℕ) → 0 ≤ n
  none_more n = omega arith

  alone : (a b : ℕ) → a + 0 ≤ b → a ≤ b
  alone a b h = omega (arith, h)

  -- after a step of the old program there are enough steps
  pub top_enough : (tasks others : List Task) → TopAgrees change known statics objects world tasks others → share change (tasks_left tasks) ≤ most change
  top_enough tasks others h =
      alone (share change (tasks_left tasks)) (most change) (most_inside change (tasks_left tasks) 0 (top_few tasks others h) (none_more _))

  -- The full expressions agree, as soon as they come up.
  pub top_run : AreNamedOnce known statics objects → (run other : Run) → ((tree : Tree) → other ≡ begun tree → is_statement (label_of tree) ≡ false)
      → RunsNow change known statics objects world run other → RunAgrees change (frame_stage change known statics objects) (outside known.safe) world [] run other × (left_in run ≤ limit change)
  top_run apart run other whole (inr h) = h
  top_run apart run other whole (inl h) = by_tree h.tree h.is h.fits
    where
      by_tree : (tree : Tree) → run ≡ begun tree → TreeFits change known tree h.was → RunAgrees change (frame_stage change known statics objects) (outside known.safe) world [] run other × (left_in run ≤ limit change)
      by_tree (node label kind spans parts) e (inl f, small) = absurd (true≢false (sym f.0 ∙ whole h.was h.stands))
      by_tree (node label kind spans parts) e (inr f, small) = (
        subst (λ r. RunAgrees change (frame_stage change known statics objects) (outside known.safe) world [] r other) (sym e)
            (subst (λ r. RunAgrees change (frame_stage change known statics objects) (outside known.safe) world [] (begun (node label kind spans parts)) r) (sym h.stands)
            (begun_agrees change (frame_stage change known statics objects) known.safe world [] (node label kind spans parts) h.was (f.1 statics objects apart))),
        subst (λ r. left_in r ≤ limit change) (sym e) small,
      )
