-- The places in a run's tree at which occurrences of a parameter stand.
--     IsSeat run n here way tree      a way leads to a tree at which an occurrence of the parameter stands, past trees at which none stands
--     Seated n here above tree left      an argument is found by the tokens of an occurrence, at a place to which such a way leads
--     seated_in      so is each argument of a run
use Rattle.std.specs.Prelude.{◌≡◌, refl, ℕ, suc, ◌+◌, Bool, true, false, not, ◌==◌, List, [], ◌∷◌, ◌++◌, Some, option_and_then, if◌then◌else◌}
use Rattle.std.specs.List.{AllByRecursion}
use Rattle.std.proofs.Common.{ap, sym, ◌∙◌, subst, arith, append_assoc, append-nil, inl, inr}
use Rattle.std.proofs.lemmas.Bool.{and_parts}
use Rattle.dm_runs.specs.declared.run.Occurrence.{Occurrence}
use Rattle.dm_runs.specs.declared.run.Run.{Run}
use Rattle.dm_type.specs.CTypes.{CType}
use Rattle.dm_tree.specs.Paths.{Path, tree_in, tree_at}
use Rattle.dm_tree.specs.Trees.{Label, Spans, Tree, Trees, node, no_trees, more_trees, label_of, spans_of, trees_of, listed, is_statement}
use Rattle.dm_tree.specs.Units.{TypedUnit}
use Rattle.dm_meaning.specs.Among.{IsAmong}
use Rattle.dm_meaning.specs.Wholes.{is_expression, are_expressions}
use Rattle.dm_sites.specs.Sites.{Site, operand_site, operand_sites, sites_in, sites_below, site_of}
use Rattle.dm_agree.specs.Standing.{occurrences_below}
use Rattle.dm_agree.specs.Agreement.{Rewriting, here_below, Left, standing_in, standing_below}
use Rattle.dm_told.specs.Told.{IsTold}
use Rattle.dm_standing.proofs.CallLemmas.{AllTold, own_and_parts}
use Rattle.dm_standing.proofs.RunLemmas.{all_append, all_front, all_back, all_weaker, StandsAt, runs_stand_below}
use Rattle.dm_steady.proofs.OccurrenceLemmas.{OccursAt, occurrences_stand_below}
use Rattle.dm_steady.proofs.StableLemmas.{not_false}

equal_nat : (a b : ℕ) → (a == b) ≡ true → a ≡ b
equal_nat a b e = grind (arith, e)

all_among_in : {A : Type 0} (all items : List A) → ((x : A) → IsAmong x items → IsAmong x all) → AllByRecursion (λ (x : A). IsAmong x all) items
all_among_in all [] h = tt
all_among_in all (x ∷ items) h = (h x (inl refl), all_among_in all items (λ y l. h y (inr l)))

pub all_among : {A : Type 0} (items : List A) → AllByRecursion (λ (x : A). IsAmong x items) items
all_among items = all_among_in items items (λ x l. l)

-- ---- the ways to them

abbrev pub IsSeat : Run → ℕ → List Occurrence → Path → Tree → Type 0
IsSeat run n [] [] tree = ⊥
IsSeat run n (first ∷ others) [] tree = first.parameter ≡ n
IsSeat run n here (k ∷ way) tree =
    (here ≡ []) × ((part : Tree) × (tree_in (trees_of tree) k ≡ Some part) × IsSeat run n (occurrences_below run.occurrences (label_of tree) (spans_of tree) part) way part)

module _ (one : TypedUnit) (it : Rewriting) (Keeps : Run → Type 0) (keep : AllByRecursion Keeps it.runs) (run : Run) where
  abbrev pub Standing : Site → List Run → Type 0
  Standing site runs = AllByRecursion (StandsAt Keeps site.apart site.tree) runs

  abbrev pub Occurring : Site → List Occurrence → Type 0
  Occurring site all = AllByRecursion (OccursAt (λ (each : Occurrence). IsAmong each run.occurrences) site.apart site.tree) all

  pub record Seated (n : ℕ) (here : List Occurrence) (above : Site) (tree : Tree) (left : Left) : Type 0 where
    pub occurrence : Occurrence
    pub among : IsAmong occurrence run.occurrences
    pub number : occurrence.parameter ≡ n
    pub place : Site
    pub same : place.tree ≡ left.tree
    pub apart : place.apart ≡ true
    pub found : site_of one occurrence.span ≡ Some place
    pub way : Path
    pub path : place.path ≡ above.path ++ way
    pub full : place.full ≡ above.full
    pub leads : tree_at way tree ≡ Some left.tree
    pub seat : IsSeat run n here way tree
    pub expression : is_expression left.tree ≡ true
    pub told : AllTold one (sites_in one.declared left.tree place)
    pub standing : Standing place left.runs

  -- one of the parts from a number on
  record SeatedBelow (n : ℕ) (label : Label) (spans : Spans) (above : Site) (from : ℕ) (trees : Trees) (left : Left) : Type 0 where
    part_number : ℕ
    part : Tree
    there : tree_in trees part_number ≡ Some part
    seated : Seated n (occurrences_below run.occurrences label spans part) (operand_site above label spans (from + part_number) part) part left

  at_this : (n : ℕ) (first : Occurrence) (others : List Occurrence) (runs : List Run) (tree : Tree) (site : Site) → site.tree ≡ tree → is_expression tree ≡ true
      → AllTold one (sites_in one.declared tree site) → IsTold one site → Occurring site (first ∷ others) → Standing site runs
      → AllByRecursion (Seated n (first ∷ others) site tree) (if first.parameter == n then record { runs = runs; tree = tree } ∷ [] else [])
  at_this n first others runs tree site same expression told own occurs stand = by_test (first.parameter == n) refl
    where
      by_test : (b : Bool) → (first.parameter == n) ≡ b → AllByRecursion (Seated n (first ∷ others) site tree) (if b then record { runs = runs; tree = tree } ∷ [] else [])
      by_test true e = (
        record {
          occurrence = first;
          among = occurs.0.0;
          number = equal_nat first.parameter n e;
          place = site;
          same = same;
          apart = occurs.0.1;
          found = own first.span occurs.0.1 occurs.0.2;
          way = [];
          path = sym (append-nil site.path);
          full = refl;
          leads = refl;
          seat = equal_nat first.parameter n e;
          expression = expression;
          told = told;
          standing = stand;
        },
        tt,
      )
      by_test false e = tt

  above_it : (n : ℕ) (label : Label) (kind : CType) (spans : Spans) (parts : Trees) (site : Site) (left : Left) → SeatedBelow n label spans site 0 parts left
      → Seated n [] site (node label kind spans parts) left
  above_it n label kind spans parts site left h =
      let seated = h.seated in
      let number : 0 + h.part_number ≡ h.part_number = omega arith in
      record {
        occurrence = seated.occurrence;
        among = seated.among;
        number = seated.number;
        place = seated.place;
        same = seated.same;
        apart = seated.apart;
        found = seated.found;
        way = h.part_number ∷ seated.way;
        path = seated.path ∙ (append_assoc site.path ((0 + h.part_number) ∷ []) seated.way ∙ ap (λ (m : ℕ). site.path ++ m ∷ seated.way) number);
        full = seated.full;
        leads = ap (option_and_then (tree_at seated.way)) h.there ∙ seated.leads;
        seat = (refl, (h.part, h.there, seated.seat));
        expression = seated.expression;
        told = seated.told;
        standing = seated.standing;
      }

  further : (n : ℕ) (label : Label) (spans : Spans) (above : Site) (from : ℕ) (first : Tree) (rest : Trees) (left : Left) → SeatedBelow n label spans above (suc from) rest left
      → SeatedBelow n label spans above from (more_trees first rest) left
  further n label spans above from first rest left h =
      let number : suc from + h.part_number ≡ from + suc h.part_number = omega arith in
      record {
        part_number = suc h.part_number;
        part = h.part;
        there = h.there;
        seated = subst (λ (m : ℕ). Seated n (occurrences_below run.occurrences label spans h.part) (operand_site above label spans m h.part) h.part left) number h.seated;
      }

  here_at_first : (n : ℕ) (label : Label) (spans : Spans) (above : Site) (from : ℕ) (first : Tree) (rest : Trees) (left : Left)
      → Seated n (occurrences_below run.occurrences label spans first) (operand_site above label spans from first) first left → SeatedBelow n label spans above from (more_trees first rest) left
  here_at_first n label spans above from first rest left h =
      let number : from ≡ from + 0 = omega arith in
      record {
        part_number = 0;
        part = first;
        there = refl;
        seated = subst (λ (m : ℕ). Seated n (occurrences_below run.occurrences label spans first) (operand_site above label spans m first) first left) number h;
      }

  mutual
    pub seated_in : (n : ℕ) (here : List Occurrence) (runs : List Run) (tree : Tree) (site : Site) → site.tree ≡ tree → is_expression tree ≡ true → AllTold one (sites_in one.declared tree site)
        → Occurring site here → Standing site runs → AllByRecursion (Seated n here site tree) (standing_in it run n (record { occurrences = here; runs = runs }) tree)
    seated_in n [] runs (node label kind spans parts) site same expression told occurs stand =
        let plain = and_parts (not (is_statement label)) (are_expressions parts) expression in
        all_weaker (SeatedBelow n label spans site 0 parts) (Seated n [] site (node label kind spans parts)) (above_it n label kind spans parts site) (standing_below it run n label spans parts)
        (seated_below n label spans site 0 parts plain.1 (own_and_parts one label kind spans parts site (not_false (is_statement label) plain.0) told).1)
    seated_in n (first ∷ others) runs (node label kind spans parts) site same expression told occurs stand =
        let plain = and_parts (not (is_statement label)) (are_expressions parts) expression in
        at_this n first others runs (node label kind spans parts) site same expression told (own_and_parts one label kind spans parts site (not_false (is_statement label) plain.0) told).0 occurs stand

    seated_below : (n : ℕ) (label : Label) (spans : Spans) (above : Site) (from : ℕ) (trees : Trees) → are_expressions trees ≡ true
        → AllTold one (sites_below one.declared trees (operand_sites above label spans from (listed trees))) → AllByRecursion (SeatedBelow n label spans above from trees) (standing_below it run n label spans trees)
    seated_below n label spans above from no_trees expressions told = tt
    seated_below n label spans above from (more_trees first rest) expressions told =
        let plain = and_parts (is_expression first) (are_expressions rest) expressions in
        let here = operand_site above label spans from first in
        let behind = sites_below one.declared rest (operand_sites above label spans (suc from) (listed rest)) in
        let below = here_below it run label spans first in
        all_append (SeatedBelow n label spans above from (more_trees first rest)) (standing_in it run n below first) (standing_below it run n label spans rest)
        (all_weaker (Seated n below.occurrences here first) (SeatedBelow n label spans above from (more_trees first rest)) (here_at_first n label spans above from first rest)
        (standing_in it run n below first)
        (seated_in n below.occurrences below.runs first here refl plain.0 (all_front (IsTold one) (sites_in one.declared first here) behind told)
        (occurrences_stand_below (λ (each : Occurrence). IsAmong each run.occurrences) run.occurrences label spans first (all_among run.occurrences))
        (runs_stand_below Keeps it.runs label spans first keep)))
        (all_weaker (SeatedBelow n label spans above (suc from) rest) (SeatedBelow n label spans above from (more_trees first rest)) (further n label spans above from first rest)
        (standing_below it run n label spans rest)
        (seated_below n label spans above (suc from) rest plain.1 (all_back (IsTold one) (sites_in one.declared first here) behind told)))
