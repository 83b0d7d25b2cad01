-- A walk that finds places one after another.
use Rattle.std.proofs.Common.{◌≡◌, ℕ, ◌+◌, true, false, List, [], ◌∷◌, ◌++◌, map, reverse, length, Option, Some, slice_get, append-nil, refl, sym, ap, ◌∙◌, arith}
use Rattle.std.specs.List.{sum_by}
use Rattle.std.specs.Option.{option_map_or}
use Rattle.std.proofs.lemmas.List.{reverse-reverse, length-map}
use Rattle.std.proofs.lemmas.List.Concat.{flat_map-append}
use Rattle.std.proofs.lemmas.List.Sums.{sum_by-cons, sum_by_push}
use Rattle.dm_type.specs.Tables.{Table, no_type}
use Rattle.dm_tree.specs.declared.tree.Core.{Core}
use Rattle.dm_tree.specs.Paths.{Path, nodes_in}
use Rattle.dm_tree.specs.Trees.{Tree, label_of, spans_of, parts_of, is_statement}
use Rattle.dm_tree.specs.Units.{Declaration}
use Rattle.dm_tree.specs.Views.{view}
use Rattle.dm_sites.specs.declared.site.Site.{Site as CodeSite}
use Rattle.dm_sites.specs.Rows.{nodes_left}
use Rattle.dm_sites.specs.Seen.{path_of, path_at, seen}
use Rattle.dm_sites.specs.Sites.{Site, statement_parts, operand_sites, sites_in, all_sites}
use Rattle.dm_sites.specs.Walks.{IsLeft, at_path, operands_at}
use Rattle.dm_sites.proofs.NodeLemmas.{core-divides}
use Rattle.dm_sites.proofs.PlaceLemmas.{tree_of, statement-sites, expression-sites, statement-trees, operand-trees, nodes_at, nodes-fewer, step-left, reversed-last}
use Rattle.dm_sites.proofs.WaitLemmas.{seen-last}

module _ (types : Table) (declared : List Declaration) (all rest : List Site) where
  -- what waited last is found or isn't, and what is below it waits
  enters : (found more waiting after : List CodeSite) (site : CodeSite) (own parts : List Site)
      → sites_in declared (view types site.tree.now) (seen types all site) ≡ own ++ all_sites declared parts
      → map (seen types all) more ≡ map (seen types all) found ++ own
      → map (seen types all) after ≡ map (seen types all) waiting ++ reverse parts
      → IsLeft types declared all rest found (waiting ++ site ∷ []) → IsLeft types declared all rest more after
  enters found more waiting after site own parts is grown pushed left = record {
    same =
        step-left declared all rest (map (seen types all) found) (map (seen types all) waiting) parts own (seen types all site) is
        (left.same ∙ ap (λ (them : List Site). map (seen types all) found ++ (all_sites declared (reverse them) ++ rest)) (seen-last types all waiting site))
        ∙ (ap (λ (them : List Site). them ++ (all_sites declared (reverse (map (seen types all) waiting ++ reverse parts)) ++ rest)) (sym grown)
        ∙ ap (λ (them : List Site). map (seen types all) more ++ (all_sites declared (reverse them) ++ rest)) (sym pushed));
  }

  pub enters-statement : (found waiting after : List CodeSite) (site : CodeSite)
      → is_statement (label_of (view types site.tree.now)) ≡ true
      → map (seen types all) after ≡ map (seen types all) waiting ++ reverse (statement_parts declared (label_of (view types site.tree.now)) (parts_of (view types site.tree.now)))
      → IsLeft types declared all rest found (waiting ++ site ∷ []) → IsLeft types declared all rest found after
  enters-statement found waiting after site statement pushed left =
      enters found found waiting after site [] (statement_parts declared (label_of (view types site.tree.now)) (parts_of (view types site.tree.now)))
      (statement-sites declared (seen types all site) (core-divides types site.tree.now) statement) (sym (append-nil (map (seen types all) found))) pushed left

  at-seam : (front back : List Site) (site : Site) → slice_get (front ++ site ∷ back) (length front) ≡ Some site
  at-seam [] back site = refl
  at-seam (first ∷ front) back site = at-seam front back site

  -- the way to an expression is known by its number before its place is found
  path-known : (found waiting : List CodeSite) (site : CodeSite) → is_statement (label_of (view types site.tree.now)) ≡ false
      → IsLeft types declared all rest found (waiting ++ site ∷ []) → path_at all (length found) ≡ (seen types all site).path
  path-known found waiting site expression left =
      let one = seen types all site in
      let below = all_sites declared (operand_sites one (label_of one.tree) (spans_of one.tree) 0 (parts_of one.tree)) in
      let others = all_sites declared (reverse (map (seen types all) waiting)) in
      let whole : all ≡ map (seen types all) found ++ (one ∷ ((below ++ others) ++ rest)) =
      left.same
      ∙ (ap (λ (them : List Site). map (seen types all) found ++ (all_sites declared (reverse them) ++ rest)) (seen-last types all waiting site)
      ∙ (ap (λ (them : List Site). map (seen types all) found ++ (all_sites declared them ++ rest)) (reversed-last (map (seen types all) waiting) one)
      ∙ ap (λ (here : List Site). map (seen types all) found ++ ((here ++ others) ++ rest)) (expression-sites declared one (core-divides types site.tree.now) expression))) in
      ap (λ (found : Option Site). option_map_or path_of found [])
      (ap (λ (n : ℕ). slice_get all n) (sym (length-map found (seen types all)))
      ∙ (ap (λ (them : List Site). slice_get them (length (map (seen types all) found))) whole ∙ at-seam (map (seen types all) found) ((below ++ others) ++ rest) one))

  pub enters-expression : (found waiting after : List CodeSite) (site : CodeSite) (parts : List Tree)
      → is_statement (label_of (view types site.tree.now)) ≡ false
      → parts ≡ parts_of (view types site.tree.now)
      → map (seen types all) after ≡ map (seen types all) waiting ++ reverse (operands_at (path_at all (length found)) (seen types all site) parts)
      → IsLeft types declared all rest found (waiting ++ site ∷ []) → IsLeft types declared all rest (found ++ site ∷ []) after
  enters-expression found waiting after site parts expression listed pushed left =
      let one = seen types all site in
      enters found (found ++ site ∷ []) waiting after site (one ∷ []) (operand_sites one (label_of one.tree) (spans_of one.tree) 0 (parts_of one.tree))
      (expression-sites declared one (core-divides types site.tree.now) expression) (seen-last types all found site)
      (pushed ∙ ap (λ (them : List Site). map (seen types all) waiting ++ reverse them)
      (ap (λ (path : Path). operands_at path one parts) (path-known found waiting site expression left)
      ∙ ap (λ (them : List Tree). operand_sites one (label_of one.tree) (spans_of one.tree) 0 them) listed))
      left

  -- ---- what a walk ends with, and what it goes on with

  pub nothing-waits : (found waiting : List CodeSite) → waiting ≡ [] → IsLeft types declared all rest found waiting → all ≡ map (seen types all) found ++ rest
  nothing-waits found waiting none left =
      left.same ∙ ap (λ (them : List CodeSite). map (seen types all) found ++ (all_sites declared (reverse (map (seen types all) them)) ++ rest)) none

-- an external declaration, and those behind it
pub external-waits : (types : Table) (declared : List Declaration) (all here behind : List Site) (found waiting after : List CodeSite) → waiting ≡ []
    → map (seen types all) after ≡ map (seen types all) waiting ++ reverse here
    → all ≡ map (seen types all) found ++ all_sites declared (here ++ behind)
    → IsLeft types declared all (all_sites declared behind) found after
external-waits types declared all here behind found waiting after none pushed so = record {
  same =
      so
      ∙ (ap (λ (them : List Site). map (seen types all) found ++ them) (flat_map-append (λ (site : Site). sites_in declared site.tree site) here behind)
      ∙ ap (λ (them : List Site). map (seen types all) found ++ (all_sites declared them ++ all_sites declared behind))
      (sym (ap reverse (pushed ∙ ap (λ (them : List CodeSite). map (seen types all) them ++ reverse here) none) ∙ reverse-reverse here)));
}

-- ---- nodes

left-seen : (sites : List CodeSite) → nodes_left sites ≡ sum_by nodes_at (map (seen no_type []) sites)
left-seen [] = refl
left-seen (site ∷ sites) =
    let one = sum_by-cons (λ (site : CodeSite). nodes_in (view no_type site.tree.now)) site sites in
    let other = sum_by-cons nodes_at (seen no_type [] site) (map (seen no_type []) sites) in
    let rest = left-seen sites in
    omega (arith, one, other, rest)

fewer-by : (waiting after : List CodeSite) (parts : List Site) (tree : Tree) → map tree_of parts ≡ parts_of tree
    → map (seen no_type []) after ≡ map (seen no_type []) waiting ++ reverse parts → nodes_left after + 1 ≡ nodes_left waiting + nodes_in tree
fewer-by waiting after parts tree trees pushed =
    let less = nodes-fewer (map (seen no_type []) waiting) parts tree trees in
    let old = left-seen waiting in
    let new = left-seen after ∙ ap (sum_by nodes_at) pushed in
    omega (arith, less, old, new)

pub fewer-statement : (declared : List Declaration) (waiting after : List CodeSite) (core : Core)
    → map (seen no_type []) after ≡ map (seen no_type []) waiting ++ reverse (statement_parts declared (label_of (view no_type core)) (parts_of (view no_type core)))
    → nodes_left after + 1 ≡ nodes_left waiting + nodes_in (view no_type core)
fewer-statement declared waiting after core pushed =
    let tree = view no_type core in
    fewer-by waiting after (statement_parts declared (label_of tree) (parts_of tree)) tree (statement-trees declared (label_of tree) (parts_of tree) (core-divides no_type core)) pushed

pub fewer-expression : (waiting after : List CodeSite) (site : CodeSite) (path : Path) (parts : List Tree) → parts ≡ parts_of (view no_type site.tree.now)
    → map (seen no_type []) after ≡ map (seen no_type []) waiting ++ reverse (operands_at path (seen no_type [] site) parts)
    → nodes_left after + 1 ≡ nodes_left waiting + nodes_in (view no_type site.tree.now)
fewer-expression waiting after site path parts listed pushed =
    let one = seen no_type [] site in
    fewer-by waiting after (operands_at path one parts) (view no_type site.tree.now) (operand-trees (at_path path one) (label_of one.tree) (spans_of one.tree) 0 parts ∙ listed) pushed

-- one that waited last is taken
pub left-last : (all front : List CodeSite) (site : CodeSite) → all ≡ front ++ site ∷ [] → nodes_left all ≡ nodes_left front + nodes_in (view no_type site.tree.now)
left-last all front site is = ap nodes_left is ∙ sum_by_push (λ (site : CodeSite). nodes_in (view no_type site.tree.now)) front site
