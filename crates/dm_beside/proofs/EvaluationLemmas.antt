-- Rule 14 for a run that stands at a place, and for one that is no expression.
use Rattle.std.proofs.Common.{◌≡◌, Bool, true, false, cond, ◌&&◌, ◌||◌, ◌==◌, List, [], ◌∷◌, filter, map, Option, Some, None, refl, sym, ap, ◌∙◌, eq-eqb, ◌↔◌, IsTrue}
use Rattle.std.specs.List.{list_all}
use Rattle.dm_token.specs.declared.place.Span.{Span}
use Rattle.dm_type.specs.Tables.{Table}
use Rattle.dm_tree.specs.Units.{TypedUnit}
use Rattle.dm_runs.specs.declared.run.Occurrence.{Occurrence}
use Rattle.dm_runs.specs.declared.run.Run.{Run}
use Rattle.dm_sites.specs.Links.{passes}
use Rattle.dm_sites.specs.Sites.{Site, site_of}
use Rattle.dm_beside.specs.Evaluation.{is_first_in, is_stable_in, is_safe_at, is_once_first, may_come_early, evaluates_alike}
use Rattle.dm_beside.specs.Tallies.{fact_in, tally_of, is_passed, spans_for}
use Rattle.dm_beside.proofs.TallyLemmas.{passed-is}

module _ (types : Table) (one : TypedUnit) where
  -- what the rule says, where the run stands at this place, if it is given
  abbrev at_place : Option Site → List Span → Bool
  at_place found spans =
      is_once_first (λ span. passes (λ (site : Site). passes (is_first_in site) (site_of one span)) found) spans
      || may_come_early (λ span. passes (λ (site : Site). passes (is_first_in site) (site_of one span)) found)
      (λ span. passes (λ (site : Site). passes (is_stable_in one site) (site_of one span)) found) (is_safe_at types one) spans

  abbrev all_at : Option Site → List Occurrence → List Occurrence → Bool
  all_at found all occurrences = list_all (λ (each : Occurrence). at_place found (spans_for all each.parameter)) occurrences

  placed-all : (run : Site) (all occurrences : List Occurrence)
      → list_all (λ (each : Occurrence). is_passed (tally_of (fact_in types one run) (spans_for all each.parameter))) occurrences ≡ all_at (Some run) all occurrences
  placed-all run all [] = refl
  placed-all run all (each ∷ occurrences) =
      ap (λ b. b && list_all (λ (each : Occurrence). is_passed (tally_of (fact_in types one run) (spans_for all each.parameter))) occurrences) (passed-is (fact_in types one run) (spans_for all each.parameter))
      ∙ ap (λ b. at_place (Some run) (spans_for all each.parameter) && b) (placed-all run all occurrences)

  pub placed-alike : (run : Run) (site : Site) → site_of one run.span ≡ Some site
      → list_all (λ (each : Occurrence). is_passed (tally_of (fact_in types one site) (spans_for run.occurrences each.parameter))) run.occurrences ≡ evaluates_alike types one run
  placed-alike run site is = placed-all site run.occurrences run.occurrences ∙ ap (λ found. all_at found run.occurrences run.occurrences) (sym is)

  -- ---- no expression

  nothing-first : (spans : List Span) → is_once_first (λ span. false) spans ≡ false
  nothing-first [] = refl
  nothing-first (only ∷ []) = refl
  nothing-first (span ∷ other ∷ spans) = refl

  nowhere-some : (span : Span) (spans : List Span) → at_place None (span ∷ spans) ≡ false
  nowhere-some span spans = ap (λ b. b || false) (nothing-first (span ∷ spans))

  nowhere-own : (each : Occurrence) (occurrences : List Occurrence) (b : Bool) → b ≡ true
      → at_place None (map (λ (one : Occurrence). one.span) (cond b (each ∷ filter (λ (one : Occurrence). one.parameter == each.parameter) occurrences) (filter (λ (one : Occurrence). one.parameter == each.parameter) occurrences))) ≡ false
  nowhere-own each occurrences true is = nowhere-some each.span (map (λ (one : Occurrence). one.span) (filter (λ (one : Occurrence). one.parameter == each.parameter) occurrences))
  nowhere-own each occurrences false is = absurd (cc)

  nowhere-all : (all : List Occurrence) (empty : Bool) → (IsTrue empty ↔ (all ≡ [])) → empty ≡ all_at None all all
  nowhere-all [] empty is = is.1 refl
  nowhere-all (each ∷ occurrences) empty is =
      by empty is.0
      ∙ sym (ap (λ b. b && all_at None (each ∷ occurrences) occurrences) (nowhere-own each occurrences (each.parameter == each.parameter) (eq-eqb each.parameter each.parameter refl)))
    where
      by : (b : Bool) → (IsTrue b → each ∷ occurrences ≡ []) → b ≡ false
      by true h = let none = h refl in absurd (cc)
      by false h = refl

  pub nowhere-alike : (run : Run) (empty : Bool) → (IsTrue empty ↔ (run.occurrences ≡ [])) → site_of one run.span ≡ None → empty ≡ evaluates_alike types one run
  nowhere-alike run empty is none = nowhere-all run.occurrences empty is ∙ ap (λ found. all_at found run.occurrences run.occurrences) (sym none)
