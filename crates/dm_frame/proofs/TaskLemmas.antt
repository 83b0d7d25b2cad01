-- Tasks that name only objects which two frames share stand for the same in both.
use Rattle.std.proofs.Common.{◌≡◌, ℕ, ◌≤◌, List, [], ◌∷◌, ◌++◌, length, refl, ap, sym, ◌∙◌, arith}
use Rattle.dm_type.specs.Tables.{Table}
use Rattle.dm_meaning.specs.Operations.{Objects}
use Rattle.dm_meaning.specs.States as states
use Rattle.dm_frame.specs.declared.task.Task.{Task}
use Rattle.dm_frame.specs.declared.task.Task.TheVariants as task
use Rattle.dm_frame.specs.Tasks.{kept, view_of_loop, view_of_task, view_of_tasks, TaskFits, TasksFit, count_behind}
use Rattle.dm_frame.proofs.KeptLemmas.{kept-append, kept-kept}

-- the oldest objects are the same, up to so many
abbrev Share : ℕ → Objects → Objects → Type 0
Share count a b = (n : ℕ) → n ≤ count → kept n a ≡ kept n b

behind-less : (table : Table) (count : ℕ) (one : Task) → TaskFits table count one → count_behind count one ≤ count
behind-less table count (task.Items items) fits = omega arith
behind-less table count (task.Begins tree) fits = omega arith
behind-less table count (task.Declares locals) fits = omega arith
behind-less table count (task.Initials at kind initial) fits = omega arith
behind-less table count (task.Parts at kind next items) fits = omega arith
behind-less table count (task.Again n loop) fits = fits.0
behind-less table count (task.Tests n loop) fits = fits.0
behind-less table count (task.Ends n) fits = fits
behind-less table count (task.EndsSwitch n) fits = fits
behind-less table count task.Leaves fits = omega arith
behind-less table count task.Skips fits = omega arith
behind-less table count (task.HandsBack value) fits = omega arith

same-task : (table : Table) (count : ℕ) (a b : Objects) (one : Task) → Share count a b → TaskFits table count one → view_of_task table a one ≡ view_of_task table b one
same-task table count a b (task.Items items) share fits = refl
same-task table count a b (task.Begins tree) share fits = refl
same-task table count a b (task.Declares locals) share fits = refl
same-task table count a b (task.Initials at kind initial) share fits = refl
same-task table count a b (task.Parts at kind next items) share fits = refl
same-task table count a b (task.Again n loop) share fits = ap (λ objects. states.again objects (view_of_loop table loop) ∷ []) (share n fits.0)
same-task table count a b (task.Tests n loop) share fits = ap (λ objects. states.tests objects (view_of_loop table loop) ∷ []) (share n fits.0)
same-task table count a b (task.Ends n) share fits = ap (λ objects. states.ends objects ∷ []) (share n fits)
same-task table count a b (task.EndsSwitch n) share fits = ap (λ objects. states.ends_switch objects ∷ []) (share n fits)
same-task table count a b task.Leaves share fits = refl
same-task table count a b task.Skips share fits = refl
same-task table count a b (task.HandsBack value) share fits = refl

same-tasks : (table : Table) (count : ℕ) (a b : Objects) (tasks : List Task) → Share count a b → TasksFit table count tasks → view_of_tasks table a tasks ≡ view_of_tasks table b tasks
same-tasks table count a b [] share fits = refl
same-tasks table count a b (first ∷ rest) share fits =
    let less = behind-less table count first fits.0 in
    ap (λ tasks. tasks ++ view_of_tasks table a rest) (same-task table count a b first share fits.0)
    ∙ ap (λ tasks. view_of_task table b first ++ tasks) (same-tasks table (count_behind count first) a b rest (λ n within. share n (omega (arith, less, within))) fits.1)

-- newer objects change nothing
pub newer-objects : (table : Table) (newer objects : Objects) (tasks : List Task) → TasksFit table (length objects) tasks
    → view_of_tasks table (newer ++ objects) tasks ≡ view_of_tasks table objects tasks
newer-objects table newer objects tasks fits = same-tasks table (length objects) (newer ++ objects) objects tasks (λ n within. kept-append newer objects n within) fits

-- nor does it change anything that newer objects end
pub older-objects : (table : Table) (n : ℕ) (objects : Objects) (tasks : List Task) → n ≤ length objects → TasksFit table n tasks
    → view_of_tasks table (kept n objects) tasks ≡ view_of_tasks table objects tasks
older-objects table n objects tasks within fits = same-tasks table n (kept n objects) objects tasks (λ m less. kept-kept m n objects less within) fits

-- ---- what fits fits a greater number of objects

more-task : (table : Table) (m n : ℕ) (one : Task) → m ≤ n → TaskFits table m one → TaskFits table n one
more-task table m n (task.Items items) less fits = fits
more-task table m n (task.Begins tree) less fits = fits
more-task table m n (task.Declares locals) less fits = fits
more-task table m n (task.Initials at kind initial) less fits = fits
more-task table m n (task.Parts at kind next items) less fits = fits
more-task table m n (task.Again k loop) less fits = (omega (arith, less, fits.0), fits.1)
more-task table m n (task.Tests k loop) less fits = (omega (arith, less, fits.0), fits.1)
more-task table m n (task.Ends k) less fits = omega (arith, less, fits)
more-task table m n (task.EndsSwitch k) less fits = omega (arith, less, fits)
more-task table m n task.Leaves less fits = fits
more-task table m n task.Skips less fits = fits
more-task table m n (task.HandsBack value) less fits = fits

more-behind : (m n : ℕ) (one : Task) → m ≤ n → count_behind m one ≤ count_behind n one
more-behind m n (task.Items items) less = less
more-behind m n (task.Begins tree) less = less
more-behind m n (task.Declares locals) less = less
more-behind m n (task.Initials at kind initial) less = less
more-behind m n (task.Parts at kind next items) less = less
more-behind m n (task.Again k loop) less = omega arith
more-behind m n (task.Tests k loop) less = omega arith
more-behind m n (task.Ends k) less = omega arith
more-behind m n (task.EndsSwitch k) less = omega arith
more-behind m n task.Leaves less = less
more-behind m n task.Skips less = less
more-behind m n (task.HandsBack value) less = less

pub more-fit : (table : Table) (m n : ℕ) (tasks : List Task) → m ≤ n → TasksFit table m tasks → TasksFit table n tasks
more-fit table m n [] less fits = tt
more-fit table m n (first ∷ rest) less fits =
    (more-task table m n first less fits.0, more-fit table (count_behind m first) (count_behind n first) rest (more-behind m n first less) fits.1)

-- ---- what fits behind a task

pub behind-fits : (table : Table) (count : ℕ) (first : Task) (rest : List Task) → TasksFit table count (first ∷ rest) → TasksFit table count rest
behind-fits table count first rest fits = more-fit table (count_behind count first) count rest (behind-less table count first fits.0) fits.1
