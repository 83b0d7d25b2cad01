-- Runs to which alignment comes.
--     Verdict types one run n      the parameter occurs once, and first, or each occurrence is stable, and one is first or each safe
--     Early one run n      one is first
--     IsMet run inner other site      a run stands at a tree, whose place this is
--     seats      each argument stands at the place of an occurrence
--     verdict_of      the verdict on the parameter of a seat
--     first_seat      a seat whose occurrence is evaluated first is so in the run's tree
--     stable_seat      an argument all of whose parameter's occurrences are stable is so, beside the run's tree and others beside its place
--     once_named      where a parameter occurs once, and first, the added function's expression names it once
--     read_somewhere      it reads each parameter somewhere
use Rattle.std.specs.Prelude.{◌≡◌, refl, ◌⊎◌, ℕ, zero, suc, ◌<◌, Bool, true, false, ◌||◌, ◌==◌, IsTrue, List, [], ◌∷◌, drop, filter, length, Some, slice_get, if◌then◌else◌}
use Rattle.std.specs.List.{list_any, list_all, AllByRecursion}
use Rattle.std.proofs.Common.{ap, sym, ◌∙◌, subst, arith, inl, inr}
use Rattle.std.proofs.lemmas.Bool.{false≢true}
use Rattle.dm_token.specs.declared.place.Span.{Span}
use Rattle.dm_runs.specs.declared.run.Occurrence.{Occurrence}
use Rattle.dm_runs.specs.declared.run.Run.{Run}
use Rattle.dm_type.specs.Tables.{Table}
use Rattle.dm_tree.specs.Paths.{Path, tree_at}
use Rattle.dm_tree.specs.Trees.{Tree}
use Rattle.dm_tree.specs.Units.{TypedUnit}
use Rattle.dm_meaning.specs.Among.{IsAmong}
use Rattle.dm_meaning.specs.CalledWithAll.{times_named}
use Rattle.dm_meaning.specs.Wholes.{is_expression}
use Rattle.dm_meaning.proofs.AmongLemmas.{among-map, among-map_from}
use Rattle.dm_meaning.proofs.GrowLemmas.{equal_is}
use Rattle.dm_meaning.proofs.OptionLemmas.{none_is_some, and_left, and_right}
use Rattle.dm_effect.specs.Quiet.{before, is_quiet, is_one_of, quiet_functions}
use Rattle.dm_effect.specs.Safe.{is_safe}
use Rattle.dm_effect.specs.Sequencing.{is_first, around, beside}
use Rattle.dm_effect.specs.Stable.{is_pure, is_steady, is_stable}
use Rattle.dm_sites.specs.Links.{passes}
use Rattle.dm_sites.specs.Sites.{Site, sites_in, site_of}
use Rattle.dm_agree.specs.Standing.{stands, occurrences_at}
use Rattle.dm_agree.specs.Agreement.{Rewriting, here_at, Left, SameBody, standing_for}
use Rattle.dm_align.specs.Units.{are_different}
use Rattle.dm_beside.specs.Evaluation.{is_first_in, is_stable_in, is_first_at, is_stable_at, is_safe_at, is_once_first, may_come_early, is_evaluated_alike, evaluates_alike, occurrences_of}
use Rattle.dm_central.specs.Arguments.{ReadsSomewhere, ReadsFirst}
use Rattle.dm_plain.specs.Plain.{AreTypesPlain}
use Rattle.dm_late.specs.Late.{Judged, IsStable}
use Rattle.dm_told.specs.Told.{IsTold}
use Rattle.dm_standing.specs.Calls.{IsThere, HasArguments, HasOccurrences, MayCall}
use Rattle.dm_standing.proofs.CallLemmas.{AllTold}
use Rattle.dm_standing.proofs.RunLemmas.{all_weaker, StandsAt}
use Rattle.dm_steady.proofs.OccurrenceLemmas.{IsOnly, OccursAt, only_span, occurrences_stand}
use Rattle.dm_steady.proofs.OnceLemmas.{body_once, concluded, behind_front}
use Rattle.dm_steady.proofs.PutLemmas.{numbered, one_number, only_first, argument_of}
use Rattle.dm_steady.proofs.FirstLemmas.{same_place, body_first, body_somewhere}
use Rattle.dm_steady.proofs.NodeLemmas.{IsBeside, beside_covered}
use Rattle.dm_steady.proofs.PartLemmas.{itself, IsTyped, typed_part}
use Rattle.dm_steady.proofs.SeatLemmas.{all_among, Seated, seated_in}
use Rattle.dm_steady.proofs.StableLemmas.{closed_in, IsCovered, within, found_among, stable_beside, stable_around}

-- ---- lists

all_so : {A : Type 0} (test : A → Bool) (items : List A) → list_all test items ≡ true → (x : A) → IsAmong x items → test x ≡ true
all_so test [] e x l = absurd l
all_so test (first ∷ items) e x (inl same) = ap test same ∙ and_left (test first) (list_all test items) e
all_so test (first ∷ items) e x (inr l) = all_so test items (and_right (test first) (list_all test items) e) x l

record IsSome {A : Type 0} (test : A → Bool) (items : List A) : Type 0 where
  item : A
  among : IsAmong item items
  passes : test item ≡ true

some_so : {A : Type 0} (test : A → Bool) (items : List A) → list_any test items ≡ true → IsSome test items
some_so test [] e = absurd (false≢true e)
some_so test (first ∷ items) e = by_test (test first) refl e (some_so test items)
  where
    by_test : (b : Bool) → test first ≡ b → (b || list_any test items) ≡ true → (list_any test items ≡ true → IsSome test items) → IsSome test (first ∷ items)
    by_test true is k rest = record { item = first; among = inl refl; passes = is }
    by_test false is k rest = let found = rest k in record { item = found.item; among = inr found.among; passes = found.passes }

each_so : {A : Type 0} (P : A → Type 0) (items : List A) → AllByRecursion P items → (x : A) → IsAmong x items → P x
each_so P [] h x l = absurd l
each_so P (first ∷ items) h x (inl e) = subst P (sym e) h.0
each_so P (first ∷ items) h x (inr l) = each_so P items h.1 x l

few_there : (items : List ℕ) (n p : ℕ) → slice_get items n ≡ Some p → n < length items
few_there [] n p e = absurd (none_is_some p e)
few_there (first ∷ items) zero p e = omega arith
few_there (first ∷ items) (suc n) p e = let less = few_there items n p e in omega (arith, less)

equal_nat : (a b : ℕ) → (a == b) ≡ true → a ≡ b
equal_nat a b e = grind (arith, e)

-- ---- the occurrences of a parameter

kept : (n : ℕ) (all : List Occurrence) (each : Occurrence) → IsAmong each all → each.parameter ≡ n → IsAmong each (filter (λ (one : Occurrence). one.parameter == n) all)
kept n [] each l e = absurd l
kept n (first ∷ all) each (inl same) e =
    subst (λ (b : Bool). IsAmong each (if b then first ∷ filter (λ (one : Occurrence). one.parameter == n) all else filter (λ (one : Occurrence). one.parameter == n) all))
    (sym (equal_is first.parameter n (sym (ap (λ (one : Occurrence). one.parameter) same) ∙ e))) (inl same)
kept n (first ∷ all) each (inr l) e = by_test (first.parameter == n) (kept n all each l e)
  where
    by_test : (b : Bool) → IsAmong each (filter (λ (one : Occurrence). one.parameter == n) all)
        → IsAmong each (if b then first ∷ filter (λ (one : Occurrence). one.parameter == n) all else filter (λ (one : Occurrence). one.parameter == n) all)
    by_test true k = inr k
    by_test false k = k

record IsFiltered (n : ℕ) (all : List Occurrence) (each : Occurrence) : Type 0 where
  among : IsAmong each all
  number : each.parameter ≡ n

filtered : (n : ℕ) (all : List Occurrence) (each : Occurrence) → IsAmong each (filter (λ (one : Occurrence). one.parameter == n) all) → IsFiltered n all each
filtered n [] each l = absurd l
filtered n (first ∷ all) each l = by_test (first.parameter == n) refl l (filtered n all each)
  where
    further : IsFiltered n all each → IsFiltered n (first ∷ all) each
    further h = record { among = inr h.among; number = h.number }

    by_side : first.parameter ≡ n → (each ≡ first) ⊎ IsAmong each (filter (λ (one : Occurrence). one.parameter == n) all) → (IsAmong each (filter (λ (one : Occurrence). one.parameter == n) all) → IsFiltered n all each)
        → IsFiltered n (first ∷ all) each
    by_side e (inl same) rest = record { among = inl same; number = ap (λ (one : Occurrence). one.parameter) same ∙ e }
    by_side e (inr k) rest = further (rest k)

    by_test : (b : Bool) → (first.parameter == n) ≡ b
        → IsAmong each (if b then first ∷ filter (λ (one : Occurrence). one.parameter == n) all else filter (λ (one : Occurrence). one.parameter == n) all)
        → (IsAmong each (filter (λ (one : Occurrence). one.parameter == n) all) → IsFiltered n all each) → IsFiltered n (first ∷ all) each
    by_test true e k rest = by_side (equal_nat first.parameter n e) k rest
    by_test false e k rest = further (rest k)

span_of_one : (run : Run) (n : ℕ) (each : Occurrence) → IsAmong each run.occurrences → each.parameter ≡ n → IsAmong each.span (occurrences_of run n)
span_of_one run n each l e = among-map (λ (one : Occurrence). one.span) each (filter (λ (one : Occurrence). one.parameter == n) run.occurrences) (kept n run.occurrences each l e)

-- ---- the rule

pub data Early (one : TypedUnit) (run : Run) (n : ℕ) : Type 0 where
  once : (only : Span) → occurrences_of run n ≡ only ∷ [] → is_first_at one run only ≡ true → Early one run n
  some_first : list_any (is_first_at one run) (occurrences_of run n) ≡ true → Early one run n

pub data Verdict (types : Table) (one : TypedUnit) (run : Run) (n : ℕ) : Type 0 where
  alone : (only : Span) → occurrences_of run n ≡ only ∷ [] → is_first_at one run only ≡ true → Verdict types one run n
  steady : list_all (is_stable_at one run) (occurrences_of run n) ≡ true → list_any (is_first_at one run) (occurrences_of run n) ≡ true → Verdict types one run n
  steady_and_safe : list_all (is_stable_at one run) (occurrences_of run n) ≡ true → list_all (is_safe_at types one) (occurrences_of run n) ≡ true → Verdict types one run n

verdict : (types : Table) (one : TypedUnit) (run : Run) → IsTrue (evaluates_alike types one run) → (n : ℕ) (each : Occurrence) → IsAmong each run.occurrences → each.parameter ≡ n → Verdict types one run n
verdict types one run rule n each among is =
    by_test (is_once_first first spans) refl (sym (ap (is_evaluated_alike types one run) is) ∙ all_so (λ (other : Occurrence). is_evaluated_alike types one run other.parameter) run.occurrences rule each among)
  where
    first : Span → Bool
    first = is_first_at one run

    spans : List Span
    spans = occurrences_of run n

    by_first : (b : Bool) → list_any first spans ≡ b → list_all (is_stable_at one run) spans ≡ true → (b || list_all (is_safe_at types one) spans) ≡ true → Verdict types one run n
    by_first true e stable k = steady stable e
    by_first false e stable k = steady_and_safe stable k

    by_test : (b : Bool) → is_once_first first spans ≡ b → (b || may_come_early first (is_stable_at one run) (is_safe_at types one) spans) ≡ true → Verdict types one run n
    by_test true e k = let it = only_first first spans e in alone it.only it.alone it.is
    by_test false e k =
        by_first (list_any first spans) refl (and_left (list_all (is_stable_at one run) spans) (list_any first spans || list_all (is_safe_at types one) spans) k)
        (and_right (list_all (is_stable_at one run) spans) (list_any first spans || list_all (is_safe_at types one) spans) k)

-- ---- runs

abbrev pub Keeps : Table → TypedUnit → Rewriting → ℕ → Run → Type 0
Keeps types one it count run = MayCall types one run × HasArguments it one count run × HasOccurrences it one run × IsTrue (evaluates_alike types one run)

module _ (types : Table) (one : TypedUnit) (it : Rewriting) (parameters : List ℕ) (body : Tree) (keep : AllByRecursion (Keeps types one it (length parameters)) it.runs) where
  abbrev pub Standing : Site → List Run → Type 0
  Standing site runs = AllByRecursion (StandsAt (Keeps types one it (length parameters)) site.apart site.tree) runs

  pub record IsMet (run : Run) (inner : List Run) (other : Tree) (site : Site) : Type 0 where
    pub same : site.tree ≡ other
    pub expression : is_expression other ≡ true
    pub told : AllTold one (sites_in one.declared other site)
    pub own : IsTold one site
    pub keeps : StandsAt (Keeps types one it (length parameters)) site.apart site.tree run
    pub inner_stand : Standing site inner
    pub body_same : SameBody it parameters run (here_at run inner other) body other

  module _ (run : Run) (inner : List Run) (other : Tree) (site : Site) (met : IsMet run inner other site) where
    abbrev pub Seat : ℕ → Left → Type 0
    Seat n left = Seated one it (Keeps types one it (length parameters)) keep run n (occurrences_at run.occurrences other) site other left

    place_is : site_of one run.span ≡ Some site
    place_is = met.own run.span met.keeps.1 met.keeps.2

    at_site : (P : Occurrence → Type 0) (all : List Occurrence) → AllByRecursion (OccursAt P true other) all → AllByRecursion (OccursAt P site.apart site.tree) all
    at_site P all h =
        all_weaker (OccursAt P true other) (OccursAt P site.apart site.tree) (λ each k. (k.0, met.keeps.1, subst (λ (t : Tree). stands each.span t ≡ true) (sym met.same) k.2)) all h

    pub seats : (n : ℕ) → AllByRecursion (Seat n) (standing_for it run inner n other)
    seats n =
        seated_in one it (Keeps types one it (length parameters)) keep run n (occurrences_at run.occurrences other) inner other site met.same met.expression met.told
        (at_site (λ (each : Occurrence). IsAmong each run.occurrences) (occurrences_at run.occurrences other)
        (occurrences_stand (λ (each : Occurrence). IsAmong each run.occurrences) run.occurrences other (all_among run.occurrences))) met.inner_stand

    pub verdict_of : (n : ℕ) (left : Left) → Seat n left → Verdict types one run n
    verdict_of n left seat = verdict types one run met.keeps.0.3 n seat.occurrence seat.among seat.number

    -- ---- first

    first_by : (n : ℕ) (left : Left) (seat : Seat n left) (span : Span) → site_of one span ≡ Some seat.place → is_first_at one run span ≡ true → is_first seat.way other ≡ true
    first_by n left seat span found e =
        let run_is : passes (λ (run_site : Site). passes (is_first_in run_site) (site_of one span)) (Some site) ≡ true =
        sym (ap (passes (λ (run_site : Site). passes (is_first_in run_site) (site_of one span))) place_is) ∙ e in
        let argument_is : is_first (drop (length site.path) seat.place.path) site.tree ≡ true = sym (ap (passes (is_first_in site)) found) ∙ run_is in
        let way : drop (length site.path) seat.place.path ≡ seat.way = ap (drop (length site.path)) seat.path ∙ behind_front site.path seat.way in
        subst (λ (t : Tree). is_first seat.way t ≡ true) met.same (subst (λ (w : Path). is_first w site.tree ≡ true) way argument_is)

    only_one : (only span : Span) (spans : List Span) → spans ≡ only ∷ [] → IsAmong span spans → span ≡ only
    only_one only span spans e l = by_side (subst (IsAmong span) e l)
      where
        by_side : IsAmong span (only ∷ []) → span ≡ only
        by_side (inl same) = same
        by_side (inr k) = absurd k

    pub first_seat : (n : ℕ) (left : Left) (seat : Seat n left) (only : Span) → occurrences_of run n ≡ only ∷ [] → is_first_at one run only ≡ true → is_first seat.way other ≡ true
    first_seat n left seat only alone_is first =
        first_by n left seat seat.occurrence.span seat.found
        (ap (is_first_at one run) (only_one only seat.occurrence.span (occurrences_of run n) alone_is (span_of_one run n seat.occurrence seat.among seat.number)) ∙ first)

    -- ---- stable

    module _ (judged : Judged) (closed : (d : ℕ) → closed_in one d ≡ true → judged.closed d ≡ true)
        (quiet : (g : ℕ) (tree : Tree) → is_one_of (quiet_functions (before tree one.externals)) g ≡ true → judged.quiet g ≡ true)
        (leads : tree_at site.path site.full ≡ Some other) (typed : IsTyped site.full) where
      stable_by : (n : ℕ) (left : Left) (seat : Seat n left) → is_stable_at one run seat.occurrence.span ≡ true → IsStable judged (around site.path site.full) left.tree
      stable_by n left seat e =
          let run_is : passes (λ (run_site : Site). passes (is_stable_in one run_site) (site_of one seat.occurrence.span)) (Some site) ≡ true =
          sym (ap (passes (λ (run_site : Site). passes (is_stable_in one run_site) (site_of one seat.occurrence.span))) place_is) ∙ e in
          let argument_is : is_stable one site.full site.path seat.place.tree ≡ true = sym (ap (passes (is_stable_in one site)) seat.found) ∙ run_is in
          let own = typed_part left.tree other (record { way = seat.way; leads = seat.leads }) (typed_part other site.full (record { way = site.path; leads = leads }) typed) in
          stable_around one judged closed quiet site.full site.path left.tree typed own (subst (λ (t : Tree). is_stable one site.full site.path t ≡ true) seat.same argument_is)

      pub stable_seat : (outside : List Tree) → AllByRecursion (IsBeside site.full site.path) outside → (n : ℕ) (left : Left) → Seat n left
          → list_all (is_stable_at one run) (occurrences_of run n) ≡ true → IsStable judged (other ∷ outside) left.tree
      stable_seat outside besides n left seat all =
          let here = found_among site.full (site.path ∷ beside site.path site.full) site.path other (inl refl) leads in
          stable_beside judged (around site.path site.full) (other ∷ outside)
          (within other here (itself other), all_weaker (IsBeside site.full site.path) (IsCovered (around site.path site.full)) (beside_covered site.full site.path) outside besides) left.tree left.tree (itself left.tree)
          (stable_by n left seat (all_so (is_stable_at one run) (occurrences_of run n) all seat.occurrence.span (span_of_one run n seat.occurrence seat.among seat.number)))

    -- ---- safe

    pub safe_seat : (n : ℕ) (left : Left) (seat : Seat n left) → list_all (is_safe_at types one) (occurrences_of run n) ≡ true → is_safe types one seat.place.tree ≡ true
    safe_seat n left seat all =
        sym (ap (passes (λ (argument : Site). is_safe types one argument.tree)) seat.found)
        ∙ all_so (is_safe_at types one) (occurrences_of run n) all seat.occurrence.span (span_of_one run n seat.occurrence seat.among seat.number)

    pub pure_seat : (n : ℕ) (left : Left) (seat : Seat n left) → list_all (is_stable_at one run) (occurrences_of run n) ≡ true → is_pure seat.place.tree ≡ true
    pure_seat n left seat all =
        let e = all_so (is_stable_at one run) (occurrences_of run n) all seat.occurrence.span (span_of_one run n seat.occurrence seat.among seat.number) in
        let run_is : passes (λ (run_site : Site). passes (is_stable_in one run_site) (site_of one seat.occurrence.span)) (Some site) ≡ true =
        sym (ap (passes (λ (run_site : Site). passes (is_stable_in one run_site) (site_of one seat.occurrence.span))) place_is) ∙ e in
        let argument_is : is_stable one site.full site.path seat.place.tree ≡ true = sym (ap (passes (is_stable_in one site)) seat.found) ∙ run_is in
        and_left (is_pure seat.place.tree) (list_all (is_quiet one) (around site.path site.full) || is_steady one (around site.path site.full) seat.place.tree) argument_is

    -- ---- the added function's expression

    pub there_for : (n : ℕ) → n < length parameters → IsThere (standing_for it run inner n other)
    there_for n few = subst (λ (t : Tree). IsThere (standing_for it run inner n t)) met.same (met.keeps.0.1 inner site place_is n few)

    module _ (different : are_different parameters ≡ true) (own : (n p : ℕ) → slice_get parameters n ≡ Some p → (d : ℕ) → it.rename d ≡ p → ⊥) (typed : IsTyped body) where
      pub once_named : (n p : ℕ) → slice_get parameters n ≡ Some p → (only : Span) → occurrences_of run n ≡ only ∷ [] → is_first_at one run only ≡ true → times_named p body ≡ 1
      once_named n p there only alone_is first =
          let argument = argument_of one site only (sym (ap (passes (λ (run_site : Site). passes (is_first_in run_site) (site_of one only))) place_is) ∙ first) in
          let occurs = only_span run n only alone_is in
          let here = at_site (IsOnly n only) (occurrences_at run.occurrences other) (occurrences_stand (IsOnly n only) run.occurrences other occurs) in
          let distinct : (m : ℕ) → slice_get parameters m ≡ Some p → m ≡ n = λ m is. one_number parameters different m n p is there in
          let claim = body_once one it parameters run n p there distinct only argument.argument argument.found (own n p there) occurs (occurrences_at run.occurrences other) inner body other site
          typed.0 met.same met.expression met.told here typed.1 met.body_same in
          (concluded one it parameters run n p there distinct only argument.argument argument.found (own n p there) occurs body other site (standing_for it run inner n other) claim
          (there_for n (few_there parameters n p there))
          (subst (λ (t : Tree). is_first (drop (length site.path) argument.argument.path) t ≡ true) met.same argument.first)).0

      reads : (n p : ℕ) → slice_get parameters n ≡ Some p → (left : Left) (seat : Seat n left) → is_first seat.way other ≡ true → ReadsFirst p body
      reads n p there left seat first = body_first it parameters run n p there seat.way (occurrences_at run.occurrences other) inner body other typed.0 typed.1 met.body_same seat.seat first

      abbrev StandsIn : ℕ → Site → Type 0
      StandsIn m argument = (left : Left) × IsAmong left (standing_for it run inner m other) × (left.tree ≡ argument.tree)

      -- an occurrence that is first stands somewhere
      reads_some : (n p : ℕ) → slice_get parameters n ≡ Some p → list_any (is_first_at one run) (occurrences_of run n) ≡ true → ReadsFirst p body
      reads_some n p there any =
          let found = some_so (is_first_at one run) (occurrences_of run n) any in
          let from = among-map_from (λ (each : Occurrence). each.span) found.item (filter (λ (each : Occurrence). each.parameter == n) run.occurrences) found.among in
          let is = filtered n run.occurrences from.0 from.1 in
          let first : is_first_at one run from.0.span ≡ true = sym (ap (is_first_at one run) from.2) ∙ found.passes in
          let argument = argument_of one site from.0.span (sym (ap (passes (λ (run_site : Site). passes (is_first_in run_site) (site_of one from.0.span))) place_is) ∙ first) in
          let stands_there = subst (λ (m : ℕ). StandsIn m argument.argument) is.number
          (subst (λ (t : Tree). (left : Left) × IsAmong left (standing_for it run inner from.0.parameter t) × (left.tree ≡ argument.argument.tree)) met.same
          (met.keeps.0.2 inner site place_is from.0 is.among argument.argument argument.found)) in
          let left = stands_there.0 in
          let seat = each_so (Seat n) (standing_for it run inner n other) (seats n) left stands_there.1 in
          let place = same_place one from.0.span argument.argument seat.place argument.found (subst (λ (t : Tree). is_expression t ≡ true) (sym seat.same) seat.expression)
          (subst (λ (t : Tree). AllTold one (sites_in one.declared t seat.place)) (sym seat.same) seat.told) seat.apart (seat.same ∙ stands_there.2) in
          reads n p there left seat (first_by n left seat from.0.span (argument.found ∙ ap Some place) first)

      pub first_read : (n p : ℕ) → slice_get parameters n ≡ Some p → (left : Left) → Seat n left → Early one run n → ReadsFirst p body
      first_read n p there left seat (once only alone_is first) = reads n p there left seat (first_seat n left seat only alone_is first)
      first_read n p there left seat (some_first any) = reads_some n p there any

      -- wherever its arguments stand
      module _ (automatic : ℕ → Bool) (plain : AreTypesPlain automatic body) (local : (p : ℕ) → IsAmong p parameters → automatic p ≡ true) where
        somewhere_by : (n p : ℕ) → IsAmong p parameters → slice_get parameters n ≡ Some p → (lefts : List Left) → IsThere lefts → AllByRecursion (Seat n) lefts → ReadsSomewhere p body
        somewhere_by n p among there [] some h = absurd some
        somewhere_by n p among there (left ∷ lefts) some h =
            body_somewhere it parameters run n p there automatic (local p among) h.0.way (occurrences_at run.occurrences other) inner body other typed.0 typed.1 plain met.body_same h.0.seat

        pub read_somewhere : (p : ℕ) → IsAmong p parameters → ReadsSomewhere p body
        read_somewhere p among =
            let number = numbered p parameters among in
            somewhere_by number.number p among number.there (standing_for it run inner number.number other) (there_for number.number number.few) (seats number.number)
