-- What is left where a statement of a form begins.
use Rattle.std.specs.Prelude.{◌≡◌, ℕ, Bool, List, ◌++◌, length, Option, option_map, IsTrue}
use Rattle.std.proofs.Common.{Bor}
use Rattle.dm_type.specs.Tables.{Table}
use Rattle.dm_tree.specs.declared.tree.Core.{Core}
use Rattle.dm_tree.specs.declared.tree.Form.{Form}
use Rattle.dm_tree.specs.declared.tree.Form.TheVariants as form
use Rattle.dm_tree.specs.Trees.{listed, trees}
use Rattle.dm_tree.specs.TypeNumbers.{are_known_in_form}
use Rattle.dm_tree.specs.Views.{Opened, opened_form}
use Rattle.dm_meaning.specs.Memory.{Memory}
use Rattle.dm_meaning.specs.Programs.{Program}
use Rattle.dm_meaning.specs.Statements.{onward, begin_form}
use Rattle.dm_meaning.specs.Wholes.{are_whole, whole_by}
use Rattle.dm_frame.specs.declared.frame.Frame.{Frame}
use Rattle.dm_frame.specs.declared.task.Begun.{Begun}
use Rattle.dm_frame.specs.Frames.{tasks_of}
use Rattle.dm_frame.specs.Tasks.{view_of_begun}

-- it is no block and no `for`
pub record IsPlain (one : Form) : Type 0 where
  pub no_block : (items : List Core) → one ≡ form.Block items → ⊥
  pub no_for : (a b c : Option Core) (body : Core) → one ≡ form.For a b c body → ⊥

-- no statement is in the full expressions of a statement with this label and these parts
abbrev pub is_whole_form : Opened → Bool
is_whole_form one = whole_by one.label (listed (trees one.parts)) (are_whole (trees one.parts))

-- the types in it have numbers of the table, and no statement is in its full expressions
abbrev pub FormFits : Table → Form → Type 0
FormFits table one = IsTrue (are_known_in_form (length table.shapes) one) × ((types : Table) → IsTrue (is_whole_form (opened_form types one)))

-- what a part of a form is that may be left out
abbrev pub IsInside : Option Core → Option (Bor Core) → Type 0
IsInside tree inside = option_map (λ (one : Bor Core). one.now) inside ≡ tree

-- What is left in the frame and to evaluate is what the definition leaves.
abbrev pub IsBegunForm : Table → Opened → Frame → Option Begun → Frame → Type 0
IsBegunForm table one before begun after = (program : Program) (names : ℕ → ℕ) (memory : Memory) →
    onward after.objects (view_of_begun table begun ++ tasks_of table after) memory
    ≡ begin_form program names before.objects (tasks_of table before) memory one.label (listed (trees one.parts))
