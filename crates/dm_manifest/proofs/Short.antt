-- The defines of lawful units are no longer than a file, and a C file alone is a lawful unit.
use Rattle.std.proofs.Common.{◌≡◌, zero, suc, ℕ, ◌≤◌, true, List, [], ◌∷◌, length, All, refl, sym, subst, arith}
use Rattle.std.proofs.lemmas.Bool.{and_parts, leb-true}
use Rattle.std.specs.List.{list_all}
use Rattle.dm_token.specs.Limits.{source_length_limit}
use Rattle.dm_token.specs.Names.{is_normal_name}
use Rattle.dm_token.specs.declared.unit.Unit.{Unit as Source}
use Rattle.dm_manifest.specs.Defines.{is_define}
use Rattle.dm_manifest.specs.Units.{IsLawful, alone, are_distinct, is_definable}

short_defines : (defines : List (List ℕ)) → list_all is_definable defines ≡ true → All (λ (define : List ℕ). length define ≤ source_length_limit) defines
unfolding is_define
short_defines [] lawful k d below = absurd (omega arith)
short_defines (define ∷ defines) lawful zero d below = leb-true _ _ (and_parts _ _ (and_parts _ _ (and_parts _ _ (and_parts _ _ lawful).0).0).0).0
short_defines (define ∷ defines) lawful (suc k) d below = short_defines defines (and_parts _ _ lawful).1 k d (omega arith)

pub lawful-short : (unit : Source) → IsLawful unit → All (λ (define : List ℕ). length define ≤ source_length_limit) unit.define
lawful-short unit lawful = short_defines unit.define lawful.define

lawful-alone : (file : List ℕ) → is_normal_name file ≡ true → IsLawful (alone file)
unfolding are_distinct
lawful-alone file normal = record { file = normal; include = refl; define = refl; distinct = refl }

pub alone-lawful : (file : List ℕ) (unit : Source) → unit ≡ alone file → is_normal_name file ≡ true → IsLawful unit
alone-lawful file unit is normal = subst IsLawful (sym is) (lawful-alone file normal)
