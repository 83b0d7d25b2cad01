-- Arguments whose value stays the same while the expression round them is evaluated.
--     is_stable unit full path argument      an argument of what stands at a place of a full expression is
--     is_steady unit trees argument      it reads only objects that nothing in these trees can write
use Rattle.std.specs.Prelude.{ℕ, Bool, true, false, ◌&&◌, ◌||◌, not, List, slice_get, Option, Some, None, is_some, if◌then◌else◌}
use Rattle.std.specs.List.{list_any, list_all}
use Rattle.dm_type.specs.CTypes.{CType}
use Rattle.dm_tree.specs.declared.unit.Sort.{Sort}
use Rattle.dm_tree.specs.declared.unit.Sort.TheVariants.{Object}
use Rattle.dm_tree.specs.Paths.{Path, all_in}
use Rattle.dm_tree.specs.Scenes.{is_scalar}
use Rattle.dm_tree.specs.Trees.{Label, number, enumerator, read, decay, address, call, is_statement, Tree, Trees, label_of}
use Rattle.dm_tree.specs.Units.{Declaration, TypedUnit}
use Rattle.dm_effect.specs.Entities.{object_first, is_named, is_store, writes, is_addressed}
use Rattle.dm_effect.specs.Forms.{Ruling, settled, by_parts, is_built}
use Rattle.dm_effect.specs.Quiet.{is_quiet}
use Rattle.dm_effect.specs.Sequencing.{around}

-- ---- it neither calls nor stores, also where it isn't evaluated

abbrev pub is_call : Label → Bool
is_call call = true
is_call label = false

abbrev pub acts : Tree → Bool
acts tree = is_call (label_of tree) || is_store (label_of tree)

abbrev pub is_pure : Tree → Bool
is_pure tree = not (list_any acts (all_in tree))

-- ---- objects that stay as they are

-- an object of automatic storage duration and scalar type
abbrev pub is_automatic_sort : Sort → Bool
is_automatic_sort (Object false) = true
is_automatic_sort sort = false

abbrev pub is_scalar_local : Option Declaration → Bool
is_scalar_local None = false
is_scalar_local (Some entry) = is_automatic_sort entry.sort && is_scalar entry.kind

-- of which no address is taken anywhere, and which none of these trees writes
abbrev pub stays : TypedUnit → List Tree → ℕ → Bool
stays one trees d = is_scalar_local (slice_get one.declared d) && (not (is_addressed one d) && not (list_any (writes d) trees))

-- ---- leaves

-- Its leaves are integer constants, addresses of named objects by & and by decay, and reads of whole objects that pass; there is no
-- other read.
abbrev pub steady_rule : (ℕ → Bool) → Label → CType → Trees → Ruling
steady_rule test (number value) kind parts = settled true
steady_rule test (enumerator at) kind parts = settled true
steady_rule test read kind parts = settled (is_named test (object_first parts))
steady_rule test address kind parts = if is_some (object_first parts) then settled true else by_parts
steady_rule test decay kind parts = if is_some (object_first parts) then settled true else by_parts
steady_rule test label kind parts = if is_statement label then settled false else by_parts

abbrev pub is_steady : TypedUnit → List Tree → Tree → Bool
is_steady one trees argument = is_built (steady_rule (stays one trees)) argument

-- ---- both cases: nothing round it writes, or nothing that it reads is written there

abbrev pub is_stable_among : TypedUnit → List Tree → Tree → Bool
is_stable_among one trees argument = is_pure argument && (list_all (is_quiet one) trees || is_steady one trees argument)

abbrev pub is_stable : TypedUnit → Tree → Path → Tree → Bool
is_stable one full path argument = is_stable_among one (around path full) argument
