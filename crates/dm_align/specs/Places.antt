-- Where the expressions of a unit stand, as the code has it: the spans of all of them, and of those in operands of `sizeof`.
--     has set span      a set has a span
--     stands_in span tree      these tokens are an expression somewhere in a tree
--     is_wanted starts span      the token is marked with which a span begins
--     AreWanted starts runs      so are those with which runs and the occurrences in them begin
--     ArePlaces one starts places      the places are those of a unit that begin with marked tokens
use Rattle.std.specs.Prelude.{◌≡◌, ℕ, Bool, false, ◌&&◌, ◌||◌, ◌++◌, IsTrue, List, map, slice_index_or, sum_by}
use Rattle.std.specs.Borrow.{Bor}
use Rattle.std.specs.HashSet.{HashSet, contains}
use Rattle.std.specs.List.{AllByRecursion, list_any}
use Rattle.dm_token.specs.declared.place.Span.{Span}
use Rattle.dm_runs.specs.declared.run.Occurrence.{Occurrence}
use Rattle.dm_runs.specs.declared.run.Run.{Run}
use Rattle.dm_type.specs.Tables.{Table, no_type}
use Rattle.dm_tree.specs.declared.tree.Core.{Core, out-Core}
use Rattle.dm_tree.specs.Paths.{all_in, nodes_in}
use Rattle.dm_tree.specs.Trees.{Tree}
use Rattle.dm_tree.specs.Units.{TypedUnit}
use Rattle.dm_tree.specs.Views.{opened_form, view}
use Rattle.dm_agree.specs.Parts.{nows}
use Rattle.dm_agree.specs.Standing.{stands}
use Rattle.dm_align.specs.contracts.places.ExtentPartialEq.TheImpl as extent_eq
use Rattle.dm_align.specs.declared.places.Extent.{Extent}
use Rattle.dm_align.specs.declared.places.Places.{Places}
use Rattle.dm_align.specs.declared.places.Waiting.{Waiting}
use Rattle.dm_align.specs.Units.{is_expression, is_in_sizeof, is_unevaluated}

abbrev pub extent_of : Span → Extent
extent_of span = record { first = span.first; after = span.after }

abbrev pub same : Extent → Extent → Bool
same = (extent_eq.ghosts).eq

module _ {S : Type 0} where
  abbrev pub has : HashSet Extent S → Span → Bool
  has set span = contains same set (extent_of span)

-- ---- in trees

abbrev pub stands_in : Span → Tree → Bool
stands_in span tree = list_any (stands span) (all_in tree)

abbrev pub is_unevaluated_in : Span → Tree → Bool
is_unevaluated_in span tree = list_any (is_in_sizeof span) (all_in tree)

-- where the tree itself stands in such an operand or not
abbrev pub is_unevaluated_below : Bool → Span → Tree → Bool
is_unevaluated_below unevaluated span tree = (unevaluated && stands_in span tree) || is_unevaluated_in span tree

-- ---- in trees that wait

abbrev pub waits : Table → Span → List Waiting → Bool
waits types span waiting = list_any (λ (one : Waiting). stands_in span (view types one.tree.now)) waiting

abbrev pub waits_unevaluated : Table → Span → List Waiting → Bool
waits_unevaluated types span waiting = list_any (λ (one : Waiting). is_unevaluated_below one.unevaluated span (view types one.tree.now)) waiting

abbrev pub waiting_of : Bool → Bor Core → Waiting
waiting_of unevaluated tree = record { tree = tree; unevaluated = unevaluated }

-- trees, and the parts of a tree, were added to those that wait
abbrev pub AreAdded : Bool → List Core → List Waiting → List Waiting → Type 0
AreAdded unevaluated trees before after = (refs : List (Bor Core)) × (nows refs ≡ trees) × (after ≡ before ++ map (waiting_of unevaluated) refs)

abbrev pub AreAddedBelow : Bool → Core → List Waiting → List Waiting → Type 0
AreAddedBelow unevaluated tree before after =
    (refs : List (Bor Core)) × ((types : Table) → map (view types) (nows refs) ≡ (opened_form types (out-Core tree).form).parts) × (after ≡ before ++ map (waiting_of unevaluated) refs)

abbrev pub nodes_left : List Waiting → ℕ
nodes_left waiting = sum_by (λ (one : Waiting). nodes_in (view no_type one.tree.now)) waiting

-- ---- what is looked for

abbrev pub is_wanted : List Bool → Span → Bool
is_wanted starts span = slice_index_or starts span.first false

-- what was marked still is
abbrev pub AreKept : List Bool → List Bool → Type 0
AreKept before after = (span : Span) → IsTrue (is_wanted before span) → IsTrue (is_wanted after span)

abbrev pub AreOccurrencesWanted : List Bool → List Occurrence → Type 0
AreOccurrencesWanted starts occurrences = AllByRecursion (λ (one : Occurrence). IsTrue (is_wanted starts one.span)) occurrences

abbrev pub IsRunWanted : List Bool → Run → Type 0
IsRunWanted starts run = IsTrue (is_wanted starts run.span) × AreOccurrencesWanted starts run.occurrences

abbrev pub AreWanted : List Bool → List Run → Type 0
AreWanted starts runs = AllByRecursion (IsRunWanted starts) runs

-- ---- in a unit

abbrev pub ArePlaces : TypedUnit → List Bool → Places → Type 0
ArePlaces one starts places = (span : Span) → IsTrue (is_wanted starts span) → (has places.all span ≡ is_expression one span) × (has places.unevaluated span ≡ is_unevaluated one span)
