-- The nearest expressions above places that leave their operands unsequenced.
use Rattle.std.proofs.Common.{◌≡◌, ℕ, zero, suc, ◌+◌, ◌<◌, ◌==◌, ◌⊎◌, inl, inr, Bool, true, false, cond, ◌||◌, List, [], ◌∷◌, ◌++◌, length, Option, Some, None, slice_get, length-append, refl, sym, ap, subst, ◌∙◌, arith}
use Rattle.std.specs.List.{list_any, filter_map}
use Rattle.std.proofs.lemmas.Bool.{eqb-false}
use Rattle.std.proofs.lemmas.Bool.Decides.{Decides-eqb}
use Rattle.dm_type.specs.Tables.{Table, no_type}
use Rattle.dm_tree.specs.declared.unit.CoreUnit.{CoreUnit}
use Rattle.dm_tree.specs.Paths.{Path, tree_at}
use Rattle.dm_tree.specs.Trees.{Tree, label_of, parts_of}
use Rattle.dm_tree.specs.Units.{TypedUnit}
use Rattle.dm_tree.specs.Views.{view_of_unit}
use Rattle.dm_effect.specs.Sequencing.{is_unsequenced, beside}
use Rattle.dm_sites.specs.Links.{linked}
use Rattle.dm_sites.specs.Sites.{Site, sites_of_unit}
use Rattle.dm_sites.proofs.LeadLemmas.{fit-at, unit-fits}
use Rattle.dm_around.specs.declared.links.Link.{Link}
use Rattle.dm_around.specs.Places.{ArePlain, AreParents, HasAbove, IsPart}
use Rattle.dm_around.specs.Surroundings.{any_beside, any_other, FitsLink, link_at, link_from, link_below}
use Rattle.dm_around.proofs.ParentLemmas.{all_of}
use Rattle.dm_around.proofs.BesideLemmas.{beside-part}

pub record LinksSoFar (one : CoreUnit) (parents : List (Option ℕ)) (links : List (Option Link)) : Type 0 where
  pub same : (types : Table) → ArePlain (all_of types one) → AreParents (all_of types one) parents → (n : ℕ) (site : Site) → n < length links → slice_get (all_of types one) n ≡ Some site
      → FitsLink (all_of types one) site (link_at links n)
  pub before : (n : ℕ) (link : Link) → link_at links n ≡ Some link → link.above < n

-- ---- lists

link-front : (links : List (Option Link)) (last : Option Link) (n : ℕ) → n < length links → link_at (links ++ last ∷ []) n ≡ link_at links n
link-front [] last n less = absurd (omega (arith, less))
link-front (first ∷ links) last zero less = refl
link-front (first ∷ links) last (suc n) less = link-front links last n (omega (arith, less))

link-last : (links : List (Option Link)) (last : Option Link) → link_at (links ++ last ∷ []) (length links) ≡ last
link-last [] last = refl
link-last (first ∷ links) last = link-last links last

link-within : (links : List (Option Link)) (n : ℕ) (link : Link) → link_at links n ≡ Some link → n < length links
link-within [] n link is = absurd (cc)
link-within (first ∷ links) zero link is = omega arith
link-within (first ∷ links) (suc n) link is = let less = link-within links n link is in omega (arith, less)

pub less-or-last : (n count : ℕ) → n < count + 1 → (n < count) ⊎ (n ≡ count)
less-or-last n count less = by (n == count) refl
  where
    by : (b : Bool) → (n == count) ≡ b → (n < count) ⊎ (n ≡ count)
    by true same = inr ((Decides-eqb n count).0 same)
    by false other = let apart = eqb-false n count other in inl (omega (arith, less, apart))

pub below-by : (sites : List Site) (links : List (Option Link)) (parent : Option ℕ) (above : ℕ) (site : Site) (b : Bool) → parent ≡ Some above → Some site ≡ slice_get sites above
    → is_unsequenced (label_of site.tree) ≡ b → cond b (Some (record { above = above; part = length links })) (link_at links above) ≡ link_below sites links parent
below-by sites links parent above site b is there unsequenced =
    sym (ap (link_below sites links) is
    ∙ (ap (λ (found : Option Site). link_from found above links) (sym there)
    ∙ ap (λ (b : Bool). cond b (Some (record { above = above; part = length links })) (link_at links above)) unsequenced))

-- ---- one more place

above-before : (sites : List Site) (above n : ℕ) (site : Site) → IsPart sites above n site → above < n
above-before sites above n site h = let behind = h.behind in omega (arith, behind)

module _ (one : TypedUnit) (links : List (Option Link)) (site : Site) (there : slice_get (sites_of_unit one) (length links) ≡ Some site) where
  -- below an expression that leaves its operands unsequenced, or below another
  fits-by : (above : ℕ) (h : IsPart (sites_of_unit one) above (length links) site) → FitsLink (sites_of_unit one) h.upper (link_at links above)
      → (b : Bool) → is_unsequenced (label_of h.upper.tree) ≡ b
      → FitsLink (sites_of_unit one) site (cond b (Some (record { above = above; part = length links })) (link_at links above))
  fits-by above h upper true is = record {
    operand = site;
    operands = h;
    beside = λ test.
        beside-part test h.upper site h.part (fit-at (sites_of_unit one) above h.upper (unit-fits one) h.there).0 h.same
        ∙ ap (λ (b : Bool). cond b (any_other test h.part 0 (parts_of h.upper.tree)) false || any_beside test h.upper) is;
  }
  fits-by above h upper false is =
      let same : (test : Tree → Bool) → any_beside test site ≡ any_beside test h.upper =
      λ test.
      beside-part test h.upper site h.part (fit-at (sites_of_unit one) above h.upper (unit-fits one) h.there).0 h.same
      ∙ ap (λ (b : Bool). cond b (any_other test h.part 0 (parts_of h.upper.tree)) false || any_beside test h.upper) is in
      handed same (link_at links above) upper
    where
      handed : ((test : Tree → Bool) → any_beside test site ≡ any_beside test h.upper) → (found : Option Link) → FitsLink (sites_of_unit one) h.upper found → FitsLink (sites_of_unit one) site found
      handed same None fits = λ test. same test ∙ fits test
      handed same (Some link) fits = record { operand = fits.operand; operands = fits.operands; beside = λ test. same test ∙ fits.beside test }

  no-beside : site.path ≡ [] → (test : Tree → Bool) → any_beside test site ≡ false
  no-beside root test = ap (λ path. list_any test (filter_map (λ (way : Path). tree_at way site.full) (beside path site.full))) root

  fits-next : (parent : Option ℕ) → HasAbove (sites_of_unit one) parent (length links) site
      → ((above : ℕ) (upper : Site) → above < length links → slice_get (sites_of_unit one) above ≡ Some upper → FitsLink (sites_of_unit one) upper (link_at links above))
      → FitsLink (sites_of_unit one) site (link_below (sites_of_unit one) links parent)
  fits-next None h known = no-beside h
  fits-next (Some above) h known =
      let fits = fits-by above h (known above h.upper (above-before (sites_of_unit one) above (length links) site h) h.there) (is_unsequenced (label_of h.upper.tree)) refl in
      subst (λ (found : Option Site). FitsLink (sites_of_unit one) site (link_from found above links)) (sym h.there) fits

module _ (one : CoreUnit) (parents : List (Option ℕ)) (links : List (Option Link)) (last : Option Link) (h : LinksSoFar one parents links)
    (before : (n above : ℕ) → linked parents n ≡ Some above → above < n) (is : (types : Table) → last ≡ link_below (all_of types one) links (linked parents (length links))) where
  longer : length (links ++ last ∷ []) ≡ length links + 1
  longer = length-append links (last ∷ [])

  next-same : (types : Table) → ArePlain (all_of types one) → AreParents (all_of types one) parents → (n : ℕ) (site : Site) → (n < length links) ⊎ (n ≡ length links) → slice_get (all_of types one) n ≡ Some site
      → FitsLink (all_of types one) site (link_at (links ++ last ∷ []) n)
  next-same types plain known n site (inl less) got =
      subst (FitsLink (all_of types one) site) (sym (link-front links last n less)) (h.same types plain known n site less got)
  next-same types plain known n site (inr at) got =
      let there = ap (slice_get (all_of types one)) (sym at) ∙ got in
      subst (FitsLink (all_of types one) site) (sym (ap (link_at (links ++ last ∷ [])) at ∙ (link-last links last ∙ is types)))
      (fits-next (view_of_unit types one) links site there (linked parents (length links)) (known (length links) site there) (λ above upper less found. h.same types plain known above upper less found))

  from-before : (found : Option Site) (above : ℕ) (link : Link) → above < length links → link_from found above links ≡ Some link → link.above < length links
  from-before None above link less found = absurd (cc)
  from-before (Some site) above link less found = by (is_unsequenced (label_of site.tree)) found
    where
      by : (b : Bool) → (cond b (Some (record { above = above; part = length links })) (link_at links above)) ≡ Some link → link.above < length links
      by true some =
          let same : above ≡ link.above = cc in omega (arith, same, less)
      by false some = let lower = h.before above link some in omega (arith, lower, less)

  below-before : (parent : Option ℕ) → linked parents (length links) ≡ parent → (types : Table) (link : Link) → link_below (all_of types one) links parent ≡ Some link → link.above < length links
  below-before None none types link found = absurd (cc)
  below-before (Some above) some types link found = from-before (slice_get (all_of types one) above) above link (before (length links) above some) found

  next-before : (types : Table) (n : ℕ) (link : Link) → (n < length links) ⊎ (n ≡ length links) → link_at (links ++ last ∷ []) n ≡ Some link → link.above < n
  next-before types n link (inl less) found = h.before n link (sym (link-front links last n less) ∙ found)
  next-before types n link (inr at) found =
      let lower = below-before (linked parents (length links)) refl types link (sym (is types) ∙ (sym (link-last links last) ∙ (ap (link_at (links ++ last ∷ [])) (sym at) ∙ found))) in
      omega (arith, lower, at)

  step : (n : ℕ) → n < length (links ++ last ∷ []) → (n < length links) ⊎ (n ≡ length links)
  step n less = let more = longer in less-or-last n (length links) (omega (arith, less, more))

  pub links-next : LinksSoFar one parents (links ++ last ∷ [])
  links-next = record {
    same = λ types plain known n site less got. next-same types plain known n site (step n less) got;
    before = λ n link found. next-before no_type n link (step n (link-within (links ++ last ∷ []) n link found)) found;
  }
