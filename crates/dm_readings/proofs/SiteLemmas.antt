-- Definitions are told apart by their sites.
use Rattle.std.proofs.Common.{◌≡◌, Bool, true, false, not, ◌||◌, List, [], ◌∷◌, ◌++◌, fold, refl, sym, ap, ◌∙◌}
use Rattle.std.specs.List.{list_any, flat_map}
use Rattle.std.proofs.lemmas.Bool.{cond-true, cond-false}
use Rattle.std.proofs.lemmas.List.Sums.{fold-append}
use Rattle.dm_token.specs.declared.expansion.Definition.{Definition}
use Rattle.dm_token.specs.declared.unit.Read.{Read}
use Rattle.dm_definitions.specs.Counts.{is_in_file}
use Rattle.dm_reading.specs.declared.reading.Reading.{Reading}
use Rattle.dm_readings.specs.declared.distinct.Site.{Site}
use Rattle.dm_readings.specs.contracts.distinct.SitePartialEq.TheImpl as site_eq
use Rattle.dm_readings.specs.Definitions.{is_same, once_more, in_files}
use Rattle.dm_readings.specs.Sites.{site_of, sites_of, with_one}

abbrev pub same_site : Site → Site → Bool
same_site = (site_eq.ghosts).eq

any-site : (one : Definition) (found : List Definition) → list_any (same_site (site_of one)) (sites_of found) ≡ list_any (is_same one) found
any-site one [] = refl
any-site one (other ∷ found) = ap (λ rest. is_same one other || rest) (any-site one found)

not-true : (b : Bool) → true ≡ not b → b ≡ false
not-true false e = refl
not-true true e = absurd (cc)

not-false : (b : Bool) → false ≡ not b → b ≡ true
not-false false e = absurd (cc)
not-false true e = refl

-- one that isn't in a file
pub elsewhere : (one : Definition) (found : List Definition) → is_in_file one.origin ≡ false → found ≡ with_one found one
elsewhere one found is = sym (cond-false (is_in_file one.origin) (once_more found one) found is)

-- one that is there
pub there : (one : Definition) (found : List Definition) (sites : List Site) → is_in_file one.origin ≡ true → sites ≡ sites_of found → false ≡ not (list_any (same_site (site_of one)) sites) → found ≡ with_one found one
there one found sites is are old =
    sym (cond-true (is_in_file one.origin) (once_more found one) found is
    ∙ cond-true (list_any (is_same one) found) found (found ++ one ∷ [])
    (sym (any-site one found) ∙ ap (list_any (same_site (site_of one))) (sym are) ∙ not-false (list_any (same_site (site_of one)) sites) old))

-- a new one
pub added : (one : Definition) (found : List Definition) (sites : List Site) → is_in_file one.origin ≡ true → sites ≡ sites_of found → true ≡ not (list_any (same_site (site_of one)) sites) → found ++ one ∷ [] ≡ with_one found one
added one found sites is are new =
    sym (cond-true (is_in_file one.origin) (once_more found one) found is
    ∙ cond-false (list_any (is_same one) found) found (found ++ one ∷ [])
    (sym (any-site one found) ∙ ap (list_any (same_site (site_of one))) (sym are) ∙ not-true (list_any (same_site (site_of one)) sites) new))

-- those in files, one by one
pub read-more : (one : Read) (rest : List Read) (found : List Definition) → fold once_more found (in_files (one ∷ rest)) ≡ fold once_more (with_one found one.definition) (in_files rest)
read-more one rest found = by (is_in_file one.definition.origin) refl
  where
    by : (b : Bool) → is_in_file one.definition.origin ≡ b → fold once_more found (in_files (one ∷ rest)) ≡ fold once_more (with_one found one.definition) (in_files rest)
    by true is =
        ap (fold once_more found) (cond-true (is_in_file one.definition.origin) (one.definition ∷ in_files rest) (in_files rest) is)
        ∙ ap (λ (ds : List Definition). fold once_more ds (in_files rest)) (sym (cond-true (is_in_file one.definition.origin) (once_more found one.definition) found is))
    by false is =
        ap (fold once_more found) (cond-false (is_in_file one.definition.origin) (one.definition ∷ in_files rest) (in_files rest) is)
        ∙ ap (λ (ds : List Definition). fold once_more ds (in_files rest)) (sym (cond-false (is_in_file one.definition.origin) (once_more found one.definition) found is))

-- the definitions of one unit more
pub unit-more : (one : Reading) (rest : List Reading) (found : List Definition)
    → fold once_more found (flat_map (λ (reading : Reading). in_files reading.pp.read) (one ∷ rest))
    ≡ fold once_more (fold once_more found (in_files one.pp.read)) (flat_map (λ (reading : Reading). in_files reading.pp.read) rest)
unit-more one rest found = fold-append once_more found (in_files one.pp.read) (flat_map (λ (reading : Reading). in_files reading.pp.read) rest)
