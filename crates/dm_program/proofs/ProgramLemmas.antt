-- What a program finds by number.
use Rattle.std.proofs.Common.{◌≡◌, ℕ, Bool, true, IsTrue, List, [], ◌∷◌, map, length, Option, Some, None, option_map, slice_get, zero, suc, Bor, ap, sym, ◌∙◌}
use Rattle.std.specs.List.{list_all}
use Rattle.std.specs.Option.{MatchOption, IfSome}
use Rattle.std.proofs.lemmas.Bool.{and_parts, ltb-true}
use Rattle.std.proofs.lemmas.Option.{none-some, slice_get-map}
use Rattle.dm_type.specs.Tables.{Table, IsId}
use Rattle.dm_tree.specs.declared.unit.Declared.{Declared}
use Rattle.dm_tree.specs.TypeNumbers.{entry_has_known}
use Rattle.dm_tree.specs.Views.{view_of_declared}
use Rattle.dm_meaning.specs.Programs.{declaration_at, definition_of}
use Rattle.dm_program.specs.declared.function.Function.{Function}
use Rattle.dm_program.specs.Functions.{view_of_function, FunctionFits}
use Rattle.dm_program.specs.Sources.{Source, meant}

abbrev other : {A : Type 0} → A → Option A → A
other x None = x
other x (Some y) = y

-- what all items pass, each passes
pub each-passes : {A : Type 0} (test : A → Bool) (items : List A) (n : ℕ) (item : A) → IsTrue (list_all test items) → slice_get items n ≡ Some item → test item ≡ true
each-passes test [] n item all found = absurd (none-some item found)
each-passes test (first ∷ rest) zero item all found = ap test (sym (ap (other first) found)) ∙ (and_parts _ _ all).0
each-passes test (first ∷ rest) (suc n) item all found = each-passes test rest n item (and_parts _ _ all).1 found

abbrev Found : Table → List Declared → ℕ → Option (Bor Declared) → Type 0
Found table declared d result = MatchOption result (declaration_at (map (view_of_declared table) declared) d ≡ None)
    (λ entry. (declaration_at (map (view_of_declared table) declared) d ≡ Some (view_of_declared table entry.now)) × IsId table entry.now.kind)

-- the declaration of a number has a type of the table
pub declared-found : (table : Table) (declared items : List Declared) (d : ℕ) (result : Option (Bor Declared)) → items ≡ declared
    → IsTrue (list_all (entry_has_known (length table.shapes)) declared)
    → MatchOption result (slice_get items d ≡ None) (λ entry. slice_get items d ≡ Some entry.now) → Found table declared d result
declared-found table declared items d None same known found =
    slice_get-map (view_of_declared table) declared d ∙ ap (option_map (view_of_declared table)) (ap (λ all. slice_get all d) (sym same) ∙ found)
declared-found table declared items d (Some entry) same known found =
    let at : slice_get declared d ≡ Some entry.now = ap (λ all. slice_get all d) (sym same) ∙ found in (
      slice_get-map (view_of_declared table) declared d ∙ ap (option_map (view_of_declared table)) at,
      ltb-true entry.now.kind (length table.shapes) (each-passes (entry_has_known (length table.shapes)) declared d entry.now known at),
    )

-- the definition of a number fits the program
pub function-found : (source : Source) (d : ℕ) (result : Option Function) → option_map (view_of_function source.table) result ≡ definition_of (meant source) d
    → IfSome result (FunctionFits source) → MatchOption result (definition_of (meant source) d ≡ None) (λ one. (definition_of (meant source) d ≡ Some (view_of_function source.table one)) × FunctionFits source one)
function-found source d None same fits = sym same
function-found source d (Some one) same fits = (sym same, fits)
