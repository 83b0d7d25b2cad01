-- What the code sees of the declarations before.
use Rattle.std.specs.Prelude.{◌≡◌, ℕ, Bool, true, false, ◌&&◌, List, Option, Some, None, option_map, unwrap_or, refl}
use Rattle.std.proofs.Common.{sym, ap, ◌∙◌}
use Rattle.dm_type.specs.declared.shape.Shape.{Shape}
use Rattle.dm_type.specs.CTypes.{CType}
use Rattle.dm_type.specs.Tables.{Table, type_of, IsId}
use Rattle.dm_tree.specs.declared.unit.Sort.{Sort}
use Rattle.dm_tree.specs.declared.unit.Linkage.{Linkage}
use Rattle.dm_token.specs.declared.place.Place.{Place}
use Rattle.dm_tree.specs.Units.{Declaration}
use Rattle.dm_typing.specs.Conversions.{is_same}
use Rattle.dm_typing.specs.Views.{Begins, type_over}
use Rattle.dm_typing.proofs.LaterLemmas.{type-later}
use Rattle.dm_estanding.specs.declared.links.Whole.{Whole}
use Rattle.dm_estanding.specs.Summaries.{kind_of_whole}

-- ---- agreement

pub whole-or : (later : List Shape) (whole : Option Whole) (kind : ℕ) (found : Option CType) → option_map (λ (one : Whole). type_over later one.kind) whole ≡ found
    → unwrap_or found (type_over later kind) ≡ type_over later (kind_of_whole whole kind)
whole-or later None kind found is = ap (λ it. unwrap_or it (type_over later kind)) (sym is)
whole-or later (Some whole) kind found is = ap (λ it. unwrap_or it (type_over later kind)) (sym is)

-- ---- three parts in turn

pub first-fails : (a b c : Bool) → a ≡ false → false ≡ (a && b && c)
first-fails true b c h = absurd (cc)
first-fails false b c h = refl

pub second-fails : (a b c : Bool) → a ≡ true → b ≡ false → false ≡ (a && b && c)
second-fails false b c h k = absurd (cc)
second-fails true true c h k = absurd (cc)
second-fails true false c h k = refl

pub third-says : (a b c test : Bool) → a ≡ true → b ≡ true → test ≡ c → test ≡ (a && b && c)
third-says false b c test h k e = absurd (cc)
third-says true false c test h k e = absurd (cc)
third-says true true c test h k e = e

pub same-later : (table : Table) (later : List Shape) (a b : ℕ) → Begins table.shapes later → IsId table a → IsId table b
    → is_same (type_over later a) (type_over later b) ≡ is_same (type_of table a) (type_of table b)
same-later table later a b begins left right =
    ap (λ t. is_same t (type_over later b)) (type-later table.shapes later a begins left)
    ∙ ap (is_same (type_of table a)) (type-later table.shapes later b begins right)

-- ---- entries

abbrev pub entry-of : CType → List ℕ → Sort → Linkage → Place → Declaration
entry-of kind name sort linkage place = record { name = name; sort = sort; kind = kind; linkage = linkage; place = place }

pub same-entry : (kind : CType) (name name' : List ℕ) (sort sort' : Sort) (linkage linkage' : Linkage) (place place' : Place) → name ≡ name' → sort ≡ sort' → linkage ≡ linkage' → place ≡ place'
    → entry-of kind name sort linkage place ≡ entry-of kind name' sort' linkage' place'
same-entry kind name name' sort sort' linkage linkage' place place' n s l p =
    ap (λ it. entry-of kind it sort linkage place) n ∙ ap (λ it. entry-of kind name' it linkage place) s
    ∙ ap (λ it. entry-of kind name' sort' it place) l ∙ ap (entry-of kind name' sort' linkage') p
