-- The names that a scope has, as the code finds them.
use Rattle.std.specs.Prelude.{◌≡◌, ℕ, suc, ◌+◌, ◌<◌, Bool, true, false, if◌then◌else◌, List, [], ◌∷◌, ◌++◌, length, map, drop, Option, Some, None, is_some, refl}
use Rattle.std.specs.Cmp.Lexicographic.{slice_cmp}
use Rattle.std.specs.FinMap as finite
use Rattle.std.specs.Ordering.{nat_cmp}
use Rattle.std.proofs.Common.{sym, ap, ◌∙◌, append_assoc, drop-cons, add-one, get_or}
use Rattle.std.proofs.lemmas.List.{drop-map}
use Rattle.dm_type.specs.Tables.{Table}
use Rattle.dm_scope.specs.Scopes.{Scopes, is_declared}
use Rattle.dm_name_map.specs.Numbers.{Numbers}
use Rattle.dm_tree.specs.declared.unit.Declared.{Declared}
use Rattle.dm_tree.specs.Units.{Declaration}
use Rattle.dm_tree.specs.Views.{view_of_declared, entries_of}
use Rattle.dm_edecl.specs.Units.{innermost}
use Rattle.dm_eunit.specs.declared.naming.Numbered.{Numbered}
use Rattle.dm_eunit.specs.Naming.{key_of, is_number, names_in, with_name_of}

-- ---- one name

-- the innermost scope doesn't declare it
pub not-here : (scopes : Scopes) (name : List ℕ) (number : ℕ) → is_declared scopes name ≡ false → is_number (finite.get (innermost scopes) name) number ≡ false
not-here [] name number h = ap (λ found. is_number found number) (finite.get-empty (slice_cmp nat_cmp) name)
not-here (scope ∷ scopes) name number h = go (finite.get scope name) h
  where
    go : (found : Option ℕ) → is_some found ≡ false → is_number found number ≡ false
    go None e = refl
    go (Some other) e = absurd (cc)

-- ---- all of them

view-got : (types : Table) (entries : List Declared) (n : ℕ) (entry : Declared) → n < length entries → entry ≡ get_or entries n entry
    → drop n (entries_of types entries) ≡ view_of_declared types entry ∷ drop (n + 1) (entries_of types entries)
view-got types entries n entry inside is =
    drop-map (view_of_declared types) n entries ∙ ap (map (view_of_declared types)) (drop-cons entries n entry inside ∙ ap (λ it. it ∷ drop (suc n) entries) (sym is))
    ∙ ap (λ rest. view_of_declared types entry ∷ rest) (sym (drop-map (view_of_declared types) (suc n) entries) ∙ ap (λ m. drop m (entries_of types entries)) (sym (add-one n)))

chosen-behind : (before : List Numbered) (one : Numbered) (others : List Numbered) (test : Bool)
    → (if test then before ++ one ∷ [] else before) ++ others ≡ before ++ (if test then one ∷ others else others)
chosen-behind before one others true = append_assoc before (one ∷ []) others
chosen-behind before one others false = refl

-- a name more, if it is there
pub name-next : (scope : Numbers) (names : List Numbered) (n : ℕ) (types : Table) (entries : List Declared) (entry : Declared) → n < length entries → entry ≡ get_or entries n entry
    → with_name_of scope names n (view_of_declared types entry) ++ names_in scope (n + 1) (drop (n + 1) (entries_of types entries))
    ≡ names ++ names_in scope n (drop n (entries_of types entries))
name-next scope names n types entries entry inside is =
    chosen-behind names (record { name = key_of (view_of_declared types entry); number = n }) (names_in scope (n + 1) (drop (n + 1) (entries_of types entries)))
    (is_number (finite.get scope (key_of (view_of_declared types entry))) n)
    ∙ ap (λ rest. names ++ names_in scope n rest) (sym (view-got types entries n entry inside is))

pub name-so : (scope : Numbers) (names : List Numbered) (n : ℕ) (entry : Declaration) (name : List ℕ) (test : Bool) → name ≡ key_of entry → is_number (finite.get scope name) n ≡ test
    → with_name_of scope names n entry ≡ (if test then names ++ record { name = name; number = n } ∷ [] else names)
name-so scope names n entry name test e h =
    ap (λ key. if is_number (finite.get scope key) n then names ++ record { name = key; number = n } ∷ [] else names) (sym e)
    ∙ ap (λ is. if is then names ++ record { name = name; number = n } ∷ [] else names) h
