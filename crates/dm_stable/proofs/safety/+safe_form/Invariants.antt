-- The tree that is left has known types, is built as the whole is, and is no deeper.
use Rattle.std.proofs.Common.{◌≡◌, ◌≤◌, length, IsTrue}
use Rattle.dm_tree.specs.declared.tree.Core.{size-Core}
use Rattle.dm_tree.specs.TypeNumbers.{are_known}
use Rattle.dm_tree.specs.Views.{view}
use Rattle.dm_effect.specs.Forms.{is_built}
use Rattle.dm_effect.specs.Safe.{safe_rule}
use Rattle.dm_stable.proofs.safety.+safe_form.Given as goal

abbrev pub invariant-has_safe_form-loop-at : goal.invariant-has_safe_form-loop-at
invariant-has_safe_form-loop-at g l =
    IsTrue (are_known (length l.types.shapes) l.at)
    × (is_built (safe_rule (g.N.Names.test l.names)) (view l.types l.at) ≡ is_built (safe_rule (g.N.Names.test l.names)) (view l.types l.fn.tree))
    × (size-Core l.at ≤ size-Core l.fn.tree)
