-- What stays when more types are numbered.
use Rattle.std.specs.Prelude.{◌≡◌, ℕ, ◌<◌, ◌≤◌, true, IsTrue, List, [], ◌∷◌, ◌++◌, length, map, All, Result, Ok, Err, OnOk, OnErr, refl}
use Rattle.std.proofs.Common.{sym, ap, ◌∙◌, subst, arith, append_assoc, append-nil}
use Rattle.std.proofs.lemmas.Bool.{and_from}
use Rattle.std.proofs.lemmas.List.{length-append}
use Rattle.std.proofs.lemmas.List.Elements.{All-head, All-tail}
use Rattle.dm_type.specs.declared.shape.Shape.{Shape}
use Rattle.dm_type.specs.declared.shape.Shape.TheVariants.{Void, Integer, Pointer, Array, Struct, Function, Const}
use Rattle.dm_type.specs.CTypes.{CType}
use Rattle.dm_type.specs.Sound.{IsBelow}
use Rattle.dm_type.specs.Tables.{Table, at, types_of, type_of, written_out, IsId, IsShape, Extends, Has, shaped}
use Rattle.dm_type.specs.TableLaws.{at-types_of-append, written_out-same, extends-itself}
use Rattle.dm_tree.specs.declared.tree.Core.{Core}
use Rattle.dm_tree.specs.declared.unit.Declared.{Declared}
use Rattle.dm_tree.specs.TypeNumbers.{are_known, all_pass}
use Rattle.dm_tree.specs.ViewLaws.{stays}
use Rattle.dm_tree.specs.Views.{view}
use Rattle.dm_typing.specs.Fitting.{HaveTypes, IsNumbered, AreNumbered}
use Rattle.dm_typing.specs.Views.{Begins, type_over, view_over, IsNumberOf}

pub begins-itself : (shapes : List Shape) → Begins shapes shapes
begins-itself shapes = ([], sym (append-nil shapes))

pub begins-on : (a b c : List Shape) → Begins a b → Begins b c → Begins a c
begins-on a b c first second = (first.0 ++ second.0, second.1 ∙ (ap (λ ss. ss ++ second.0) first.1 ∙ append_assoc a first.0 second.0))

pub begins-length : (a b : List Shape) → Begins a b → length a ≤ length b
begins-length a b first = let l = length-append a first.0 in let n : length b ≡ length (a ++ first.0) = ap length first.1 in omega (arith, l, n)

-- a table that grows where a call succeeds, and is unchanged where it fails, extends the old one anyway
pub extends-anyway : {A E : Type 0} (answer : Result A E) (old new : Table) → OnOk answer (Extends old new) → OnErr answer (new ≡ old) → Extends old new
extends-anyway (Ok it) old new kept same = kept
extends-anyway (Err fault) old new kept same = subst (λ table. Extends old table) (sym same) (extends-itself old)

-- a number keeps its type
pub type-later : (shapes later : List Shape) (id : ℕ) → Begins shapes later → id < length shapes → type_over later id ≡ type_over shapes id
type-later shapes later id begins inside = ap (λ ss. at (types_of ss) id) begins.1 ∙ at-types_of-append shapes begins.0 id inside

-- a tree is the same, and its types are numbered
pub view-later : (shapes later : List Shape) (core : Core) → Begins shapes later → IsTrue (are_known (length shapes) core) → view_over later core ≡ view_over shapes core
view-later shapes later core begins known =
    (stays (length shapes) (length later) (begins-length shapes later begins) (record { shapes = shapes; structs = [] }) (record { shapes = later; structs = [] })
    (λ id inside. type-later shapes later id begins inside) core known).0

pub known-later : (shapes later : List Shape) (core : Core) → Begins shapes later → IsTrue (are_known (length shapes) core) → IsTrue (are_known (length later) core)
known-later shapes later core begins known =
    (stays (length shapes) (length later) (begins-length shapes later begins) (record { shapes = shapes; structs = [] }) (record { shapes = later; structs = [] })
    (λ id inside. type-later shapes later id begins inside) core known).1

-- declarations and trees keep numbered types
pub types-later : (old new : Table) (entries : List Declared) → Begins old.shapes new.shapes → HaveTypes old entries → HaveTypes new entries
types-later old new entries begins all k d inside = let le = begins-length old.shapes new.shapes begins in let one = all k d inside in omega (arith, le, one)

pub trees-later : (old new : Table) (trees : List Core) → Begins old.shapes new.shapes → AreNumbered old trees → AreNumbered new trees
trees-later old new trees begins all k d inside = known-later old.shapes new.shapes _ begins (all k d inside)

-- a shape over a table is made of what is below its lengths
shape-below : (table : Table) (shape : Shape) → IsShape table shape → IsBelow (length table.shapes) (length table.structs) shape
shape-below table Void over = over
shape-below table (Integer kind) over = over
shape-below table (Pointer id) over = over
shape-below table (Array id n) over = over
shape-below table (Struct number) over = over
shape-below table (Function result parameters) over = over
shape-below table (Const id) over = over

-- so it has one type from there on
pub written-later : (table : Table) (later : List Shape) (shape : Shape) → Begins table.shapes later → IsShape table shape
    → written_out (types_of later) shape ≡ written_out (types_of table.shapes) shape
written-later table later shape begins over =
    written_out-same (types_of later) (types_of table.shapes) (length table.shapes) (length table.structs)
    (λ id inside. type-later table.shapes later id begins inside) shape (shape-below table shape over)

-- the number that a table gave a shape is that of the shape from there on
pub numbers-it : (old new : Table) (shape : Shape) (id : ℕ) → Extends old new → IsShape old shape → Has new id (shaped old shape) → IsNumberOf new.shapes id shape
numbers-it old new shape id kept over has = (
  has.0,
  λ later begins. type-later new.shapes later id begins has.0 ∙ (has.1 ∙ sym (written-later old later shape (begins-on old.shapes new.shapes later kept.0 begins) over)),
)

-- trees whose types are numbered pass the test of that
pub trees-known : (table : Table) (trees : List Core) → AreNumbered table trees → all_pass (map (are_known (length table.shapes)) trees) ≡ true
trees-known table [] all = refl
trees-known table (tree ∷ trees) all =
    and_from (are_known (length table.shapes) tree) (all_pass (map (are_known (length table.shapes)) trees)) (All-head (IsNumbered table) tree trees all)
    (trees-known table trees (All-tail (IsNumbered table) tree trees all))
