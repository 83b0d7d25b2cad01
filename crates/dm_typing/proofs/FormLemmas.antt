-- The forms of expressions: their labels, their parts, and which numbers of types they have.
use Rattle.std.specs.Prelude.{◌≡◌, ℕ, ℤ, Bool, true, ◌&&◌, nat_lt, List, [], ◌∷◌, map}
use Rattle.std.proofs.Common.{rules}
use Rattle.dm_int.specs.declared.Op.{Op}
use Rattle.dm_type.specs.Tables.{Table, type_of}
use Rattle.dm_tree.specs.declared.tree.Core.{Core, out-Core}
use Rattle.dm_tree.specs.declared.tree.Core as q
use Rattle.dm_tree.specs.declared.tree.Form.TheVariants as form
use Rattle.dm_tree.specs.declared.tree.Form.TheFolds as folds
use Rattle.dm_tree.specs.declared.tree.Sign.{Sign}
use Rattle.dm_tree.specs.Trees as label
use Rattle.dm_tree.specs.Trees.{Tree}
use Rattle.dm_tree.specs.TypeNumbers.{are_known, are_known_in_form, form_known, initial_known, core_known, local_known, all_pass}
use Rattle.dm_tree.specs.Views.{Opened, OpenedInitial, OpenedLocal, opened, opened_form, view, node_of, form_layer, initial_layer, core_layer, local_layer}

-- a tree by its form
pub view-core : (types : Table) (core : Core) → view types core ≡ node_of (opened_form types (out-Core core).form) (type_of types (out-Core core).kind) (out-Core core).inner (out-Core core).outer (out-Core core).place
view-core types core = folds.fold_out-Core Opened OpenedInitial Tree OpenedLocal (form_layer types) initial_layer (core_layer types) local_layer core

pub known-core : (n : ℕ) (core : Core) → are_known n core ≡ (nat_lt (out-Core core).kind n && are_known_in_form n (out-Core core).form)
known-core n core = folds.fold_out-Core Bool Bool Bool Bool (form_known n) initial_known (core_known n) local_known core

pub opened-Convert : (types : Table) (a : Core) (lengths : List Core) → opened_form types (form.Convert a lengths) ≡ opened label.convert (view types a ∷ map (view types) lengths)
opened-Convert types a lengths = search (rules, q.the_lemmas)

pub known-Convert : (n : ℕ) (a : Core) (lengths : List Core) → are_known_in_form n (form.Convert a lengths) ≡ (are_known n a && all_pass (map (are_known n) lengths))
known-Convert n a lengths = search (rules, q.the_lemmas)

pub opened-Member : (types : Table) (a : Core) (k : ℕ) → opened_form types (form.Member a k) ≡ opened (label.member k) (view types a ∷ [])
opened-Member types a k = search (rules, q.the_lemmas)
