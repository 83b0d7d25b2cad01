-- What stands beside the places of a unit (6.5p3).
--     any_beside test site      a test holds of a tree beside a place
--     any_other test n k parts      it holds of one of some parts, which are counted from k, other than the one with the number n
--     AreLinks sites links      by the number of a place: the nearest expression above it that leaves its operands unsequenced
use Rattle.std.specs.Prelude.{◌≡◌, ℕ, suc, Bool, false, ◌&&◌, ◌||◌, not, ◌==◌, List, [], ◌∷◌, length, Option, Some, None, slice_get, if◌then◌else◌}
use Rattle.std.specs.List.{list_any, filter_map}
use Rattle.dm_tree.specs.Paths.{Path, tree_at}
use Rattle.dm_tree.specs.Trees.{Tree, label_of, parts_of}
use Rattle.dm_effect.specs.Sequencing.{beside, is_unsequenced}
use Rattle.dm_sites.specs.Sites.{Site}
use Rattle.dm_around.specs.declared.links.Link.{Link}
use Rattle.dm_around.specs.Places.{IsPart}

abbrev pub any_beside : (Tree → Bool) → Site → Bool
any_beside test site = list_any test (filter_map (λ (way : Path). tree_at way site.full) (beside site.path site.full))

abbrev pub any_other : (Tree → Bool) → ℕ → ℕ → List Tree → Bool
any_other test n k [] = false
any_other test n k (part ∷ parts) = (not (k == n) && test part) || any_other test n (suc k) parts

-- What is beside the place is beside the expression, or another one of its operands than the one in which the place is.
pub record IsLinked (sites : List Site) (site : Site) (link : Link) : Type 0 where
  pub operand : Site
  pub operands : IsPart sites link.above link.part operand
  pub beside : (test : Tree → Bool) → any_beside test site ≡ (any_other test operands.part 0 (parts_of operands.upper.tree) || any_beside test operands.upper)

abbrev pub FitsLink : List Site → Site → Option Link → Type 0
FitsLink sites site None = (test : Tree → Bool) → any_beside test site ≡ false
FitsLink sites site (Some link) = IsLinked sites site link

abbrev pub link_by : Option (Option Link) → Option Link
link_by (Some link) = link
link_by None = None

abbrev pub link_at : List (Option Link) → ℕ → Option Link
link_at links n = link_by (slice_get links n)

abbrev pub AreLinks : List Site → List (Option Link) → Type 0
AreLinks sites links = (n : ℕ) (site : Site) → slice_get sites n ≡ Some site → FitsLink sites site (link_at links n)

-- that of the next place, by those of the places before it
abbrev pub link_from : Option Site → ℕ → List (Option Link) → Option Link
link_from None above links = None
link_from (Some site) above links = if is_unsequenced (label_of site.tree) then Some (record { above = above; part = length links }) else link_at links above

abbrev pub link_below : List Site → List (Option Link) → Option ℕ → Option Link
link_below sites links None = None
link_below sites links (Some above) = link_from (slice_get sites above) above links
