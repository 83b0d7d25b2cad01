-- The places of expressions in a unit, and what stands round each.
--     sites_of_unit unit      all of them, each before those inside it
--     site_of unit span      that of the value of the expression of these tokens
use Rattle.std.specs.Prelude.{ℕ, suc, Bool, true, false, ◌&&◌, ◌||◌, nat_lt, List, [], ◌∷◌, ◌++◌, map, flat_map, find, take, drop, slice_get, Option, Some, None, if◌then◌else◌}
use Rattle.dm_token.specs.declared.place.Span.{Span}
use Rattle.dm_tree.specs.Initialisers.{is_fixed}
use Rattle.dm_tree.specs.Paths.{Path}
use Rattle.dm_tree.specs.Trees.{Label, convert, sizeof_tree, sizeof_kind, declare, case, Spans, Tree, Trees, node, no_trees, more_trees, listed, is_statement}
use Rattle.dm_tree.specs.Units.{Declaration, External, ExternalForm, declares, defines_function, TypedUnit}
use Rattle.dm_meaning.specs.Statements.{Local, with_expressions}
use Rattle.dm_sites.specs.Standing.{stands, is_apart}

pub record Site : Type 0 where
  pub tree : Tree
  -- the full expression in which it stands (6.8p4), and the way to it from there
  pub full : Tree
  pub path : Path
  -- it is an expression of its own, and doesn't come from the same syntax as the node above it
  pub apart : Bool
  -- it stands in an array length (6.7.6.2), in an enumerator's value (6.7.2.2) or in that of a `case` (6.8.4.2p3)
  pub constant : Bool
  -- it stands in an initialiser of an object with static storage duration (6.7.9p4)
  pub fixed : Bool
  -- it stands in an operand of sizeof (6.5.3.4p2)
  pub unevaluated : Bool

-- ---- full expressions

abbrev pub whole : Bool → Bool → Tree → Site
whole constant fixed tree = record { tree = tree; full = tree; path = []; apart = true; constant = constant; fixed = fixed; unevaluated = false }

-- the expressions of a declarator's initialiser
abbrev pub is_fixed_entry : Option Declaration → Bool
is_fixed_entry None = false
is_fixed_entry (Some entry) = is_fixed entry.sort

abbrev pub initial_sites : List Declaration → Local → List Site
initial_sites declared one = map (whole false (is_fixed_entry (slice_get declared one.declarator.declared))) one.expressions

abbrev pub declarator_sites : List Declaration → List Local → List Site
declarator_sites declared locals = flat_map (initial_sites declared) locals

-- the parts of a statement: its expressions are full expressions, and the statements in it have no place of their own
abbrev pub statement_parts : List Declaration → Label → List Tree → List Site
statement_parts declared (declare lengths declarators) parts =
    map (whole true false) (take lengths parts) ++ declarator_sites declared (with_expressions declarators (drop lengths parts))
statement_parts declared case (value ∷ parts) = whole true false value ∷ map (whole false false) parts
statement_parts declared label parts = map (whole false false) parts

-- the other statements
abbrev pub has_full_parts : Label → Bool
has_full_parts (declare lengths declarators) = false
has_full_parts case = false
has_full_parts label = true

-- ---- parts of expressions

-- the part with this number is an array length or an enumerator's value in a type name
abbrev pub is_in_type_name : Label → ℕ → Bool
is_in_type_name convert n = nat_lt 0 n
is_in_type_name (sizeof_kind type) n = true
is_in_type_name label n = false

abbrev pub is_sizeof : Label → Bool
is_sizeof sizeof_tree = true
is_sizeof (sizeof_kind type) = true
is_sizeof label = false

abbrev pub operand_site : Site → Label → Spans → ℕ → Tree → Site
operand_site site label spans n part = record {
  tree = part;
  full = site.full;
  path = site.path ++ n ∷ [];
  apart = is_apart label spans part;
  constant = site.constant || is_in_type_name label n;
  fixed = site.fixed;
  unevaluated = site.unevaluated || is_sizeof label;
}

-- the parts from the one with this number on
abbrev pub operand_sites : Site → Label → Spans → ℕ → List Tree → List Site
operand_sites site label spans n [] = []
operand_sites site label spans n (part ∷ parts) = operand_site site label spans n part ∷ operand_sites site label spans (suc n) parts

-- ---- all of them

abbrev pub part_sites : List Declaration → Site → Label → Spans → List Tree → List Site
part_sites declared site label spans parts = if is_statement label then statement_parts declared label parts else operand_sites site label spans 0 parts

abbrev pub own_site : Label → Site → List Site
own_site label site = if is_statement label then [] else site ∷ []

abbrev mutual
  -- those in a tree, which has this place itself
  pub sites_in : List Declaration → Tree → Site → List Site
  sites_in declared (node label kind spans parts) site = own_site label site ++ sites_below declared parts (part_sites declared site label spans (listed parts))

  -- those in trees, each of which has its place
  pub sites_below : List Declaration → Trees → List Site → List Site
  sites_below declared no_trees sites = []
  sites_below declared (more_trees first rest) [] = []
  sites_below declared (more_trees first rest) (site ∷ sites) = sites_in declared first site ++ sites_below declared rest sites

abbrev pub all_sites : List Declaration → List Site → List Site
all_sites declared sites = flat_map (λ (site : Site). sites_in declared site.tree site) sites

-- the full expressions of an external declaration; for a function the body, as the statement that holds them
abbrev pub form_sites : List Declaration → ExternalForm → List Site
form_sites declared (declares declarators trees) = declarator_sites declared (with_expressions declarators trees)
form_sites declared (defines_function f parameters body) = whole false false body ∷ []

abbrev pub external_sites : List Declaration → External → List Site
external_sites declared one = map (whole true false) one.constants ++ form_sites declared one.form

abbrev pub sites_of_unit : TypedUnit → List Site
sites_of_unit one = all_sites one.declared (flat_map (external_sites one.declared) one.externals)

-- ---- by tokens

abbrev pub is_site_of : Span → Site → Bool
is_site_of span site = site.apart && stands span site.tree

abbrev pub site_of : TypedUnit → Span → Option Site
site_of one span = find (is_site_of span) (sites_of_unit one)
