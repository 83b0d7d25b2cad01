-- Places that are told by their tokens.
--     IsTold unit site      what is found by the tokens of a place is that place
--     ArePlacesTold unit      so it is of each place of a unit
--     ArePlacesNested unit      what is found by some of the tokens of an expression stands in its tree
--     ArePlacesExpressions unit      the places are those of expressions
use Rattle.std.specs.Prelude.{◌≡◌, ◌<◌, ◌≤◌, true, find, Option, Some}
use Rattle.std.specs.List.{AllByRecursion}
use Rattle.dm_token.specs.declared.place.Span.{Span}
use Rattle.dm_tree.specs.Units.{TypedUnit}
use Rattle.dm_meaning.specs.Wholes.{is_expression}
use Rattle.dm_sites.specs.Sites.{Site, is_site_of, site_of, sites_in, sites_of_unit}
use Rattle.dm_agree.specs.Standing.{stands}

-- an expression of its own, with any of the spans that it has, with some of the parentheses round it or none
abbrev pub IsTold : TypedUnit → Site → Type 0
IsTold one site = (span : Span) → site.apart ≡ true → stands span site.tree ≡ true → site_of one span ≡ Some site

abbrev pub ArePlacesTold : TypedUnit → Type 0
ArePlacesTold one = AllByRecursion (IsTold one) (sites_of_unit one)

-- ---- one in the other

-- these tokens are among others, or have some in common with them
abbrev pub IsInside : Span → Span → Type 0
IsInside part span = (span.first ≤ part.first) × (part.after ≤ span.after)

abbrev pub Meet : Span → Span → Type 0
Meet one other = (one.first < other.after) × (other.first < one.after)

-- what is found by tokens in the tree at a place
abbrev pub site_in : TypedUnit → Site → Span → Option Site
site_in one site span = find (is_site_of span) (sites_in one.declared site.tree site)

-- In its own tree an expression is found by its tokens, and all that is found there has tokens of it.
abbrev pub IsAroundParts : TypedUnit → Site → Type 0
IsAroundParts one site =
    (span : Span) → site.apart ≡ true → stands span site.tree ≡ true
    → (site_in one site span ≡ Some site) × ((part : Span) (other : Site) → site_in one site part ≡ Some other → Meet part span)

-- so it is of each place in its tree
abbrev pub AreAroundParts : TypedUnit → Site → Type 0
AreAroundParts one site = AllByRecursion (IsAroundParts one) (sites_in one.declared site.tree site)

pub record ArePlacesNested (one : TypedUnit) : Type 0 where
  pub inside : (span part : Span) (site other : Site) → site_of one span ≡ Some site → site_of one part ≡ Some other → IsInside part span → site_in one site part ≡ Some other
  pub around : AllByRecursion (AreAroundParts one) (sites_of_unit one)

-- no statement stands there, nor in it (6.8)
abbrev pub ArePlacesExpressions : TypedUnit → Type 0
ArePlacesExpressions one = AllByRecursion (λ (site : Site). is_expression site.tree ≡ true) (sites_of_unit one)
