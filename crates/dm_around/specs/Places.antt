-- Where the parts of expressions stand among the places of a unit.
--     nodes_before n trees      how many nodes the first n of some trees have
--     ArePlain sites      the tree at each place is an expression throughout
--     IsPart sites above n site      the place with the number n is that of a part of the expression at another place
--     AreParents sites numbers      by the number of a place, that of the expression of which it has a part
--     AreEnds sites numbers      by the number of a place, that of the first one behind those inside it
use Rattle.std.specs.Prelude.{◌≡◌, ℕ, zero, suc, ◌+◌, true, List, [], ◌∷◌, Option, Some, None, unwrap_or, slice_get}
use Rattle.dm_tree.specs.Paths.{nodes_in}
use Rattle.dm_tree.specs.Trees.{Tree, label_of, spans_of, parts_of}
use Rattle.dm_meaning.specs.Wholes.{is_expression}
use Rattle.dm_sites.specs.Links.{linked}
use Rattle.dm_sites.specs.Sites.{Site, operand_site}

abbrev pub nodes_before : ℕ → List Tree → ℕ
nodes_before zero parts = 0
nodes_before (suc n) [] = 0
nodes_before (suc n) (part ∷ parts) = nodes_in part + nodes_before n parts

abbrev pub ArePlain : List Site → Type 0
ArePlain sites = (n : ℕ) (site : Site) → slice_get sites n ≡ Some site → is_expression site.tree ≡ true

-- the place of an expression comes before those of its parts, and each of these before those inside it and before the next one
pub record IsPart (sites : List Site) (above n : ℕ) (site : Site) : Type 0 where
  pub upper : Site
  pub part : ℕ
  pub there : slice_get sites above ≡ Some upper
  pub same : site ≡ operand_site upper (label_of upper.tree) (spans_of upper.tree) part site.tree
  pub below : slice_get (parts_of upper.tree) part ≡ Some site.tree
  pub behind : n ≡ above + 1 + nodes_before part (parts_of upper.tree)

-- a full expression has none above
abbrev pub HasAbove : List Site → Option ℕ → ℕ → Site → Type 0
HasAbove sites None n site = site.path ≡ []
HasAbove sites (Some above) n site = IsPart sites above n site

abbrev pub AreParents : List Site → List (Option ℕ) → Type 0
AreParents sites numbers = (n : ℕ) (site : Site) → slice_get sites n ≡ Some site → HasAbove sites (linked numbers n) n site

abbrev pub number_at : List ℕ → ℕ → ℕ
number_at numbers n = unwrap_or (slice_get numbers n) 0

abbrev pub AreEnds : List Site → List ℕ → Type 0
AreEnds sites numbers = (n : ℕ) (site : Site) → slice_get sites n ≡ Some site → number_at numbers n ≡ n + nodes_in site.tree

-- from one place behind so many others, each with those inside it
abbrev pub jumps : List ℕ → ℕ → ℕ → ℕ
jumps ends zero at = at
jumps ends (suc n) at = jumps ends n (number_at ends at)
