-- The forms that statements and declarations have, and what all others have in common.
--     Sorted table one      which of them a form is
--     sorted      each form is one of them
use Rattle.std.proofs.Common.{◌≡◌, ℕ, ℤ, false, List, [], ◌∷◌, Option, refl, sym, subst}
use Rattle.dm_type.specs.CTypes.{CType}
use Rattle.dm_type.specs.Tables.{Table}
use Rattle.dm_tree.specs.declared.tree.Core.{Core}
use Rattle.dm_tree.specs.declared.tree.Form.{Form, roll-Form}
use Rattle.dm_tree.specs.declared.tree.Initial.{Initial}
use Rattle.dm_tree.specs.declared.tree.Local.{Local}
use Rattle.dm_tree.specs.declared.tree.Form.TheOpen as layer
use Rattle.dm_tree.specs.declared.tree.Form.TheFolds as folds
use Rattle.dm_tree.specs.declared.tree.Form.TheVariants as form
use Rattle.dm_tree.specs.Trees.{Label, Spans, Tree, Trees, node}
use Rattle.dm_tree.specs.Views.{Opened, OpenedInitial, OpenedLocal, opened_form, view, view_of_local, form_layer, initial_layer, core_layer, local_layer}
use Rattle.dm_meaning.specs.Memory.{Memory}
use Rattle.dm_meaning.specs.Operations.{Objects}
use Rattle.dm_meaning.specs.Programs.{Program}
use Rattle.dm_meaning.specs.States.{Task, begins, drops, ends}
use Rattle.dm_meaning.specs.Statements.{onward, begin_form, declared_by_label, evaluation, has_case, has_default, item_tasks_by, start_task, unlabelled}

-- What the definition does with a label that is none of a statement that does something, and of no declaration.
pub record IsInert (label : Label) : Type 0 where
  pub item : (tree : Tree) (trees : List Tree) → item_tasks_by tree label trees ≡ begins tree ∷ []
  pub start : (tree : Tree) → start_task tree label ≡ evaluation tree drops ∷ []
  pub declared : (program : Program) → declared_by_label program label ≡ []
  pub begun : (program : Program) (names : ℕ → ℕ) (objects : Objects) (rest : List Task) (memory : Memory) (trees : List Tree)
      → begin_form program names objects rest memory label trees ≡ onward objects (ends objects ∷ rest) memory
  pub no_case : (program : Program) (z : ℤ) (kind : CType) (spans : Spans) (parts : Trees) → has_case program z (node label kind spans parts) ≡ false
  pub no_default : (kind : CType) (spans : Spans) (parts : Trees) → has_default (node label kind spans parts) ≡ false
  pub behind : (kind : CType) (spans : Spans) (parts : Trees) → unlabelled (node label kind spans parts) ≡ node label kind spans parts

pub data Sorted (table : Table) (one : Form) : Type 0 where
  is-Block : (items : List Core) → one ≡ form.Block items → Sorted table one
  is-Declare : (lengths : List Core) (locals : List Local) → one ≡ form.Declare lengths locals → Sorted table one
  is-Full : (a : Core) → one ≡ form.Full a → Sorted table one
  is-If : (a b : Core) (c : Option Core) → one ≡ form.If a b c → Sorted table one
  is-Switch : (a : Core) (items : List Core) → one ≡ form.Switch a items → Sorted table one
  is-Case : (a b : Core) → one ≡ form.Case a b → Sorted table one
  is-Default : (a : Core) → one ≡ form.Default a → Sorted table one
  is-While : (a b : Core) → one ≡ form.While a b → Sorted table one
  is-Do : (a b : Core) → one ≡ form.Do a b → Sorted table one
  is-For : (a b c : Option Core) (body : Core) → one ≡ form.For a b c body → Sorted table one
  is-Break : one ≡ form.Break → Sorted table one
  is-Continue : one ≡ form.Continue → Sorted table one
  is-Return : (a : Option Core) → one ≡ form.Return a → Sorted table one
  is-inert : IsInert (opened_form table one).label → Sorted table one

module _ (table : Table) where
  abbrev Layer : Type 0
  Layer = layer.Form-F Form Initial Core Local

  abbrev seen : Layer → Opened
  seen y = form_layer table (folds.map-Form Form Initial Core Local Opened OpenedInitial Tree OpenedLocal (opened_form table)
      (folds.fold-Initial Opened OpenedInitial Tree OpenedLocal (form_layer table) initial_layer (core_layer table) local_layer) (view table) (view_of_local table) y)

  by-seen : (y : Layer) → IsInert (seen y).label → Sorted table (roll-Form y)
  by-seen y inert = is-inert (subst (λ (o : Opened). IsInert o.label)
      (sym (folds.fold-roll-Form Opened OpenedInitial Tree OpenedLocal (form_layer table) initial_layer (core_layer table) local_layer y)) inert)

  sorted-layer : (y : Layer) → Sorted table (roll-Form y)
  sorted-layer (layer.Number value) = by-seen (layer.Number value) (record { item = λ tree trees. refl; start = λ tree. refl; declared = λ program. refl; begun = λ program names objects rest memory trees. refl; no_case = λ program z kind spans parts. refl; no_default = λ kind spans parts. refl; behind = λ kind spans parts. refl })
  sorted-layer (layer.Enumerator at) = by-seen (layer.Enumerator at) (record { item = λ tree trees. refl; start = λ tree. refl; declared = λ program. refl; begun = λ program names objects rest memory trees. refl; no_case = λ program z kind spans parts. refl; no_default = λ kind spans parts. refl; behind = λ kind spans parts. refl })
  sorted-layer (layer.Literal bytes unit) = by-seen (layer.Literal bytes unit) (record { item = λ tree trees. refl; start = λ tree. refl; declared = λ program. refl; begun = λ program names objects rest memory trees. refl; no_case = λ program z kind spans parts. refl; no_default = λ kind spans parts. refl; behind = λ kind spans parts. refl })
  sorted-layer (layer.Object at) = by-seen (layer.Object at) (record { item = λ tree trees. refl; start = λ tree. refl; declared = λ program. refl; begun = λ program names objects rest memory trees. refl; no_case = λ program z kind spans parts. refl; no_default = λ kind spans parts. refl; behind = λ kind spans parts. refl })
  sorted-layer (layer.Function at) = by-seen (layer.Function at) (record { item = λ tree trees. refl; start = λ tree. refl; declared = λ program. refl; begun = λ program names objects rest memory trees. refl; no_case = λ program z kind spans parts. refl; no_default = λ kind spans parts. refl; behind = λ kind spans parts. refl })
  sorted-layer (layer.Read a) = by-seen (layer.Read a) (record { item = λ tree trees. refl; start = λ tree. refl; declared = λ program. refl; begun = λ program names objects rest memory trees. refl; no_case = λ program z kind spans parts. refl; no_default = λ kind spans parts. refl; behind = λ kind spans parts. refl })
  sorted-layer (layer.Decay a) = by-seen (layer.Decay a) (record { item = λ tree trees. refl; start = λ tree. refl; declared = λ program. refl; begun = λ program names objects rest memory trees. refl; no_case = λ program z kind spans parts. refl; no_default = λ kind spans parts. refl; behind = λ kind spans parts. refl })
  sorted-layer (layer.Convert a lengths) = by-seen (layer.Convert a lengths) (record { item = λ tree trees. refl; start = λ tree. refl; declared = λ program. refl; begun = λ program names objects rest memory trees. refl; no_case = λ program z kind spans parts. refl; no_default = λ kind spans parts. refl; behind = λ kind spans parts. refl })
  sorted-layer (layer.Address a) = by-seen (layer.Address a) (record { item = λ tree trees. refl; start = λ tree. refl; declared = λ program. refl; begun = λ program names objects rest memory trees. refl; no_case = λ program z kind spans parts. refl; no_default = λ kind spans parts. refl; behind = λ kind spans parts. refl })
  sorted-layer (layer.Follow a) = by-seen (layer.Follow a) (record { item = λ tree trees. refl; start = λ tree. refl; declared = λ program. refl; begun = λ program names objects rest memory trees. refl; no_case = λ program z kind spans parts. refl; no_default = λ kind spans parts. refl; behind = λ kind spans parts. refl })
  sorted-layer (layer.Member a n) = by-seen (layer.Member a n) (record { item = λ tree trees. refl; start = λ tree. refl; declared = λ program. refl; begun = λ program names objects rest memory trees. refl; no_case = λ program z kind spans parts. refl; no_default = λ kind spans parts. refl; behind = λ kind spans parts. refl })
  sorted-layer (layer.Unary sign a) = by-seen (layer.Unary sign a) (record { item = λ tree trees. refl; start = λ tree. refl; declared = λ program. refl; begun = λ program names objects rest memory trees. refl; no_case = λ program z kind spans parts. refl; no_default = λ kind spans parts. refl; behind = λ kind spans parts. refl })
  sorted-layer (layer.Binary op a b) = by-seen (layer.Binary op a b) (record { item = λ tree trees. refl; start = λ tree. refl; declared = λ program. refl; begun = λ program names objects rest memory trees. refl; no_case = λ program z kind spans parts. refl; no_default = λ kind spans parts. refl; behind = λ kind spans parts. refl })
  sorted-layer (layer.Both a b) = by-seen (layer.Both a b) (record { item = λ tree trees. refl; start = λ tree. refl; declared = λ program. refl; begun = λ program names objects rest memory trees. refl; no_case = λ program z kind spans parts. refl; no_default = λ kind spans parts. refl; behind = λ kind spans parts. refl })
  sorted-layer (layer.Either a b) = by-seen (layer.Either a b) (record { item = λ tree trees. refl; start = λ tree. refl; declared = λ program. refl; begun = λ program names objects rest memory trees. refl; no_case = λ program z kind spans parts. refl; no_default = λ kind spans parts. refl; behind = λ kind spans parts. refl })
  sorted-layer (layer.Choose a b c) = by-seen (layer.Choose a b c) (record { item = λ tree trees. refl; start = λ tree. refl; declared = λ program. refl; begun = λ program names objects rest memory trees. refl; no_case = λ program z kind spans parts. refl; no_default = λ kind spans parts. refl; behind = λ kind spans parts. refl })
  sorted-layer (layer.Comma a b) = by-seen (layer.Comma a b) (record { item = λ tree trees. refl; start = λ tree. refl; declared = λ program. refl; begun = λ program names objects rest memory trees. refl; no_case = λ program z kind spans parts. refl; no_default = λ kind spans parts. refl; behind = λ kind spans parts. refl })
  sorted-layer (layer.Store a b) = by-seen (layer.Store a b) (record { item = λ tree trees. refl; start = λ tree. refl; declared = λ program. refl; begun = λ program names objects rest memory trees. refl; no_case = λ program z kind spans parts. refl; no_default = λ kind spans parts. refl; behind = λ kind spans parts. refl })
  sorted-layer (layer.Update op works a b) = by-seen (layer.Update op works a b) (record { item = λ tree trees. refl; start = λ tree. refl; declared = λ program. refl; begun = λ program names objects rest memory trees. refl; no_case = λ program z kind spans parts. refl; no_default = λ kind spans parts. refl; behind = λ kind spans parts. refl })
  sorted-layer (layer.Count plus before a) = by-seen (layer.Count plus before a) (record { item = λ tree trees. refl; start = λ tree. refl; declared = λ program. refl; begun = λ program names objects rest memory trees. refl; no_case = λ program z kind spans parts. refl; no_default = λ kind spans parts. refl; behind = λ kind spans parts. refl })
  sorted-layer (layer.Call a arguments) = by-seen (layer.Call a arguments) (record { item = λ tree trees. refl; start = λ tree. refl; declared = λ program. refl; begun = λ program names objects rest memory trees. refl; no_case = λ program z kind spans parts. refl; no_default = λ kind spans parts. refl; behind = λ kind spans parts. refl })
  sorted-layer (layer.SizeofTree a) = by-seen (layer.SizeofTree a) (record { item = λ tree trees. refl; start = λ tree. refl; declared = λ program. refl; begun = λ program names objects rest memory trees. refl; no_case = λ program z kind spans parts. refl; no_default = λ kind spans parts. refl; behind = λ kind spans parts. refl })
  sorted-layer (layer.SizeofKind type lengths) = by-seen (layer.SizeofKind type lengths) (record { item = λ tree trees. refl; start = λ tree. refl; declared = λ program. refl; begun = λ program names objects rest memory trees. refl; no_case = λ program z kind spans parts. refl; no_default = λ kind spans parts. refl; behind = λ kind spans parts. refl })
  sorted-layer layer.Empty = by-seen layer.Empty (record { item = λ tree trees. refl; start = λ tree. refl; declared = λ program. refl; begun = λ program names objects rest memory trees. refl; no_case = λ program z kind spans parts. refl; no_default = λ kind spans parts. refl; behind = λ kind spans parts. refl })
  sorted-layer (layer.Block items) = is-Block items (form.rolls-Block items)
  sorted-layer (layer.Declare lengths locals) = is-Declare lengths locals (form.rolls-Declare lengths locals)
  sorted-layer (layer.Full a) = is-Full a (form.rolls-Full a)
  sorted-layer (layer.If a b c) = is-If a b c (form.rolls-If a b c)
  sorted-layer (layer.Switch a items) = is-Switch a items (form.rolls-Switch a items)
  sorted-layer (layer.Case a b) = is-Case a b (form.rolls-Case a b)
  sorted-layer (layer.Default a) = is-Default a (form.rolls-Default a)
  sorted-layer (layer.While a b) = is-While a b (form.rolls-While a b)
  sorted-layer (layer.Do a b) = is-Do a b (form.rolls-Do a b)
  sorted-layer (layer.For a b c body) = is-For a b c body (form.rolls-For a b c body)
  sorted-layer layer.Break = is-Break form.rolls-Break
  sorted-layer layer.Continue = is-Continue form.rolls-Continue
  sorted-layer (layer.Return a) = is-Return a (form.rolls-Return a)

  -- each form is one of them
  pub sorted : (one : Form) → Sorted table one
  sorted = folds.ind-Form (Sorted table) (λ one. Unit {0}) (λ one. Unit {0}) (λ one. Unit {0}) (λ x y is. sorted-layer x) (λ x y is. tt) (λ x y is. tt) (λ x y is. tt)
