-- The step of a thing that takes one.
use Rattle.std.proofs.Common.{◌≡◌, ℕ, List, ◌∷◌, sym, ◌∙◌, subst, Bor}
use Rattle.dm_type.specs.Tables.{Table}
use Rattle.dm_tree.specs.declared.tree.Core.{Core}
use Rattle.dm_tree.specs.declared.tree.Initial.{Initial}
use Rattle.dm_tree.specs.declared.tree.Local.{Local}
use Rattle.dm_tree.specs.Views.{view, view_of_local}
use Rattle.dm_value.specs.declared.place.At.{At}
use Rattle.dm_value.specs.declared.value.Value.{Value}
use Rattle.dm_value.specs.Places.{view_of_at}
use Rattle.dm_value.specs.Views.{view_of_value}
use Rattle.dm_layout.specs.declared.kinds.ObjectType.{ObjectType}
use Rattle.dm_layout.specs.Kinds.{type_of_object}
use Rattle.dm_memory.specs.Blocks.{view_of_blocks}
use Rattle.dm_program.specs.Initials.{view_of_initial}
use Rattle.dm_meaning.specs.Choices.{chosen, in_order}
use Rattle.dm_meaning.specs.Memory.{Memory}
use Rattle.dm_meaning.specs.Programs.{Program}
use Rattle.dm_meaning.specs.Running.{Run}
use Rattle.dm_meaning.specs.States.{State, Task}
use Rattle.dm_meaning.specs.Statements.{after_break, after_continue, begin_declarator, begin_initialiser, begin_statement, concluded, ended}
use Rattle.dm_meaning.specs.Steps.{expression_steps, handed_back, turned}
use Rattle.dm_frame.specs.declared.next.Next.{Next}
use Rattle.dm_frame.specs.declared.next.Next.TheVariants as one
use Rattle.dm_frame.specs.Frames.{tasks_of}
use Rattle.dm_frame.specs.Nexts.{next_task}
use Rattle.dm_frame.specs.Tasks.{kept, view_of_use}
use Rattle.dm_operate.specs.declared.evaluation.Evaluation.{Evaluation}
use Rattle.dm_operate.specs.declared.evaluation.Operand.{Operand}
use Rattle.dm_operate.specs.Evaluations.{view_of_evaluation}
use Rattle.dm_row.specs.declared.item.Item.{Item}
use Rattle.dm_expression.specs.declared.waiting.Waiting.{Waiting}
use Rattle.dm_state.specs.declared.full.Full.TheVariants.{Goes}
use Rattle.dm_state.specs.declared.full.Ongoing.{Ongoing}
use Rattle.dm_state.specs.declared.running.Running.{Running}
use Rattle.dm_state.specs.declared.turn.Turn.{Turn}
use Rattle.dm_state.specs.declared.turn.Turn.TheVariants as turn
use Rattle.dm_state.specs.Turns.{state_with, IsAfter, IsLeft}
use Rattle.dm_state.specs.Views.{run_of, view_of_full}
use Rattle.dm_exec.specs.Due.{chosen_step}
use Rattle.dm_exec.proofs.EvaluatedLemmas.{IsResult}

abbrev memory_of : Table → Running → Memory
memory_of table running = view_of_blocks table running.blocks

module _ (table : Table) (program : Program) (choice : ℕ) (old new : Running) (tasks : List Task) where
  -- the step where this is next
  abbrev taken : Next → State
  taken next = chosen_step program choice (state_with table tasks old) (next_task table old.frame.objects next ∷ tasks_of table old.frame)

  pub took-begins : (next : Next) (tree : Bor Core) → next ≡ one.Begins tree → IsAfter table new (turned (state_with table tasks old) (begin_statement program (in_order (memory_of table old)) old.frame.objects (tasks_of table old.frame) (memory_of table old) (view table tree.now)))
      → IsLeft table turn.Went new (chosen_step program choice (state_with table tasks old) (next_task table old.frame.objects next ∷ tasks_of table old.frame))
  unfolding chosen_step
  took-begins next tree is after = subst (λ (next : Next). IsAfter table new (taken next)) (sym is) after

  pub took-declares : (next : Next) (local : Bor Local) → next ≡ one.Declares local → IsAfter table new (turned (state_with table tasks old) (begin_declarator program old.frame.objects (tasks_of table old.frame) (memory_of table old) (view_of_local table local.now).declarator (view_of_local table local.now).expressions))
      → IsLeft table turn.Went new (chosen_step program choice (state_with table tasks old) (next_task table old.frame.objects next ∷ tasks_of table old.frame))
  unfolding chosen_step
  took-declares next local is after = subst (λ (next : Next). IsAfter table new (taken next)) (sym is) after

  pub took-initials : (next : Next) (at : At) (kind : ObjectType) (initial : Bor Initial) → next ≡ one.Initials at kind initial → IsAfter table new (turned (state_with table tasks old) (begin_initialiser program old.frame.objects (tasks_of table old.frame) (memory_of table old) (view_of_at at) (type_of_object table kind) (view_of_initial table initial.now).initialiser (view_of_initial table initial.now).expressions))
      → IsLeft table turn.Went new (chosen_step program choice (state_with table tasks old) (next_task table old.frame.objects next ∷ tasks_of table old.frame))
  unfolding chosen_step
  took-initials next at kind initial is after = subst (λ (next : Next). IsAfter table new (taken next)) (sym is) after

  pub took-ends : (next : Next) (alive : ℕ) → next ≡ one.Ends alive → IsAfter table new (turned (state_with table tasks old) (ended (kept alive old.frame.objects) old.frame.objects (tasks_of table old.frame) (memory_of table old)))
      → IsLeft table turn.Went new (chosen_step program choice (state_with table tasks old) (next_task table old.frame.objects next ∷ tasks_of table old.frame))
  unfolding chosen_step
  took-ends next alive is after = subst (λ (next : Next). IsAfter table new (taken next)) (sym is) after

  pub took-switch : (next : Next) (alive : ℕ) → next ≡ one.EndsSwitch alive → IsAfter table new (turned (state_with table tasks old) (ended (kept alive old.frame.objects) old.frame.objects (tasks_of table old.frame) (memory_of table old)))
      → IsLeft table turn.Went new (chosen_step program choice (state_with table tasks old) (next_task table old.frame.objects next ∷ tasks_of table old.frame))
  unfolding chosen_step
  took-switch next alive is after = subst (λ (next : Next). IsAfter table new (taken next)) (sym is) after

  pub took-leaves : (next : Next) → next ≡ one.Leaves → IsAfter table new (turned (state_with table tasks old) (after_break old.frame.objects (memory_of table old) (tasks_of table old.frame)))
      → IsLeft table turn.Went new (chosen_step program choice (state_with table tasks old) (next_task table old.frame.objects next ∷ tasks_of table old.frame))
  unfolding chosen_step
  took-leaves next is after = subst (λ (next : Next). IsAfter table new (taken next)) (sym is) after

  pub took-skips : (next : Next) → next ≡ one.Skips → IsAfter table new (turned (state_with table tasks old) (after_continue old.frame.objects (memory_of table old) (tasks_of table old.frame)))
      → IsLeft table turn.Went new (chosen_step program choice (state_with table tasks old) (next_task table old.frame.objects next ∷ tasks_of table old.frame))
  unfolding chosen_step
  took-skips next is after = subst (λ (next : Next). IsAfter table new (taken next)) (sym is) after

  pub took-value : (next : Next) (value : Value) (did : Turn) → next ≡ one.HandsBack value
      → IsLeft table did new (handed_back (state_with table tasks old) (view_of_value value) (state_with table tasks old).callers)
      → IsLeft table did new (chosen_step program choice (state_with table tasks old) (next_task table old.frame.objects next ∷ tasks_of table old.frame))
  unfolding chosen_step
  took-value next value did is left = subst (λ (next : Next). IsLeft table did new (taken next)) (sym is) left

  -- its end
  pub ended-left : (ongoing : Ongoing) (did : Turn) (row : List (Item Operand Waiting)) (run : Run) (given : Evaluation) (found : IsResult table row run) → run_of table ongoing.expression ≡ run
      → given ≡ found.operand.result
      → IsLeft table did new (turned (state_with table tasks old) (concluded program old.frame.objects (tasks_of table old.frame) (memory_of table old) ongoing.place (view_of_use table ongoing.use_of)
      (view_of_evaluation given)))
      → IsLeft table did new (chosen_step program choice (state_with table tasks old) (view_of_full table (Goes ongoing) ∷ tasks_of table old.frame))
  unfolding chosen_step
  ended-left ongoing did row run given found is same left =
      subst (λ (run : Run). IsLeft table did new (chosen (state_with table tasks old) choice (expression_steps program (in_order (memory_of table old)) (state_with table tasks old) (tasks_of table old.frame)
      ongoing.place (view_of_use table ongoing.use_of) run))) (sym (is ∙ found.is))
      (subst (λ (given : Evaluation). IsLeft table did new (turned (state_with table tasks old)
      (concluded program old.frame.objects (tasks_of table old.frame) (memory_of table old) ongoing.place (view_of_use table ongoing.use_of) (view_of_evaluation given)))) same left)
