-- Expressions of the new unit beside those of the old one, with their places there: the arguments of runs are evaluated alike.
--     Context outside other site      trees are beside a place, or the tree there is stable beside them
--     IsAlike outside standing tree other site      a tree that agrees with one at its place, in such a context, is evaluated alike
--     expression_alike      so is each
use Rattle.std.specs.Prelude.{◌≡◌, refl, ◌⊎◌, ℕ, suc, ◌+◌, ◌<◌, Bool, true, false, not, List, [], ◌∷◌, ◌++◌, Some, option_and_then, slice_get, length}
use Rattle.std.specs.List.{list_all, AllByRecursion}
use Rattle.std.proofs.Common.{ap, ap₂, sym, ◌∙◌, subst, arith, append_assoc, inl, inr}
use Rattle.std.proofs.lemmas.Bool.{and_parts}
use Rattle.dm_token.specs.declared.place.Span.{Span}
use Rattle.dm_runs.specs.declared.run.Run.{Run}
use Rattle.dm_type.specs.Tables.{Table}
use Rattle.dm_tree.specs.Paths.{Path, tree_in, tree_at}
use Rattle.dm_tree.specs.Trees.{Label, Spans, Tree, Trees, node, no_trees, more_trees, label_of, spans_of, trees_of, listed, is_statement}
use Rattle.dm_tree.specs.Units.{TypedUnit}
use Rattle.dm_meaning.specs.Among.{IsAmong}
use Rattle.dm_meaning.specs.CalledWithAll.{times_named}
use Rattle.dm_meaning.specs.Running.{Open, others_open, open_of}
use Rattle.dm_meaning.specs.Wholes.{is_expression, are_expressions}
use Rattle.dm_effect.specs.Safe.{is_safe}
use Rattle.dm_effect.specs.Stable.{is_pure}
use Rattle.dm_effect.specs.Quiet.{before, is_one_of, quiet_functions}
use Rattle.dm_effect.specs.Sequencing.{is_unsequenced}
use Rattle.dm_sites.specs.Sites.{Site, site_of, operand_site, operand_sites, sites_in, sites_below}
use Rattle.dm_agree.specs.Standing.{runs_below, occurrences_at}
use Rattle.dm_agree.specs.Agreement.{Added, added_function, Rewriting, Left, standing_for, AtRun, AllLeft, Agrees, AllAgree, Passes, PassesFrom}
use Rattle.dm_align.specs.Units.{are_different}
use Rattle.dm_beside.specs.Evaluation.{is_first_at, is_stable_at, occurrences_of}
use Rattle.dm_central.specs.Arguments.{ReadsFirst}
use Rattle.dm_late.specs.Settled.{erased, spot}
use Rattle.dm_late.specs.Late.{Judged, IsStable, IsSafe, beside_first, before_others, trees_left, trees_from, AreStable, EvaluatesAlike, AllAlike, PassAlike, PassAlikeFrom}
use Rattle.dm_told.specs.Told.{IsTold}
use Rattle.dm_standing.proofs.CallLemmas.{AllTold, own_and_parts}
use Rattle.dm_standing.proofs.RunLemmas.{all_append, all_front, all_back, all_weaker, StandsAt, runs_stand_below}
use Rattle.dm_steady.proofs.InsideLemmas.{all_beside_first, all_before, all_trees_left, all_left, pure_ones, outside_ones, still_stable}
use Rattle.dm_steady.proofs.MetLemmas.{Keeps, IsMet, Seat, Early, once, some_first, Verdict, alone, steady, steady_and_safe, seats, verdict_of, first_seat, stable_seat, safe_seat, pure_seat, once_named, first_read}
use Rattle.dm_steady.proofs.NodeLemmas.{IsLone, lone_or_unsequenced, node_sort, IsBeside, pure, beside_further, beside_way, beside_operand, two_first}
use Rattle.dm_steady.proofs.PartLemmas.{at_behind, IsPartOf, itself, part_below, IsTyped, typed_part, AreFrom, all_from, parts_from}
use Rattle.dm_steady.proofs.SeatLemmas.{all_among}
use Rattle.dm_steady.proofs.StableLemmas as covered
use Rattle.dm_steady.proofs.StableLemmas.{closed_in, not_false, IsCovered, stable_beside}

-- ---- lists

both_left : (R S : List Run → Tree → Type 0) (P : Left → Type 0) → ((left : Left) → P left → R left.runs left.tree → S left.runs left.tree) → (lefts : List Left) → AllByRecursion P lefts → AllLeft R lefts → AllLeft S lefts
both_left R S P f [] h k = tt
both_left R S P f (left ∷ lefts) h k = (f left h.0 k.0, both_left R S P f lefts h.1 k.1)

-- ---- the place of an argument

leads_at : (site place : Site) (way : Path) (other tree : Tree) → place.path ≡ site.path ++ way → place.full ≡ site.full → tree_at site.path site.full ≡ Some other → tree_at way other ≡ Some tree
    → tree_at place.path place.full ≡ Some tree
leads_at site place way other tree path full leads there = ap₂ (λ (p : Path) (t : Tree). tree_at p t) path full ∙ (at_behind site.path way site.full other leads ∙ there)

besides_at : (site place : Site) (way : Path) (around : List Tree) → place.path ≡ site.path ++ way → place.full ≡ site.full → AllByRecursion (IsBeside site.full (site.path ++ way)) around
    → AllByRecursion (IsBeside place.full place.path) around
besides_at site place way around path full h =
    subst (λ (p : Path). AllByRecursion (IsBeside place.full p) around) (sym path) (subst (λ (t : Tree). AllByRecursion (IsBeside t (site.path ++ way)) around) (sym full) h)

-- ---- the parts of a node

abbrev IsBefore : Tree → ℕ → Tree → Type 0
IsBefore whole n part = (j : ℕ) × (j < n) × (tree_in (trees_of whole) j ≡ Some part)

abbrev IsBehind : Tree → ℕ → Tree → Type 0
IsBehind whole n part = (j : ℕ) × (n < j) × (tree_in (trees_of whole) j ≡ Some part)

all_behind : (whole : Tree) (n from : ℕ) (trees : Trees) → n < from → AreFrom (trees_of whole) from trees → AllByRecursion (IsBehind whole n) (listed trees)
all_behind whole n from no_trees less h = tt
all_behind whole n from (more_trees first rest) less h = ((from, less, h.0), all_behind whole n (suc from) rest (omega (arith, less)) h.1)

-- beside a part: those before it and those behind it, where the node leaves them unsequenced, and what is beside the node
beside_part : (full : Tree) (path : Path) (whole : Tree) (n : ℕ) (opens : Open) (before outside : List Tree) (first : Tree) (rest : Trees) → tree_at path full ≡ Some whole
    → (is_unsequenced (label_of whole) ≡ true) ⊎ IsLone opens before (more_trees first rest) → AllByRecursion (IsBefore whole n) before → AreFrom (trees_of whole) (suc n) rest
    → AllByRecursion (IsBeside full path) outside → AllByRecursion (IsBeside full (path ++ n ∷ [])) (beside_first opens before outside rest)
beside_part full path whole n opens before outside first rest leads sort fronts behinds h = by_sort sort
  where
    beyond : AllByRecursion (IsBeside full (path ++ n ∷ [])) outside
    beyond = all_weaker (IsBeside full path) (IsBeside full (path ++ n ∷ [])) (beside_further full path (n ∷ [])) outside h

    apart_before : (j : ℕ) → j < n → j ≡ n → ⊥
    apart_before j less e = omega (arith, less, e)

    apart_behind : (j : ℕ) → n < j → j ≡ n → ⊥
    apart_behind j less e = omega (arith, less, e)

    by_sort : (is_unsequenced (label_of whole) ≡ true) ⊎ IsLone opens before (more_trees first rest) → AllByRecursion (IsBeside full (path ++ n ∷ [])) (beside_first opens before outside rest)
    by_sort (inl e) =
        all_beside_first (IsBeside full (path ++ n ∷ [])) opens before outside rest
        (all_weaker (IsBefore whole n) (IsBeside full (path ++ n ∷ [])) (λ part k. beside_operand full path whole part n k.0 leads e k.2 (apart_before k.0 k.1)) before fronts)
        (all_weaker (IsBehind whole n) (IsBeside full (path ++ n ∷ [])) (λ part k. beside_operand full path whole part n k.0 leads e k.2 (apart_behind k.0 k.1)) (listed rest)
        (all_behind whole n (suc n) rest (omega arith) behinds)) beyond
    by_sort (inr lone) = subst (AllByRecursion (IsBeside full (path ++ n ∷ []))) (sym (lone.0 outside)) beyond

still : (opens : Open) (label : Label) (before : List Tree) (first : Tree) (rest : Trees) → (is_unsequenced label ≡ true) ⊎ IsLone opens before (more_trees first rest)
    → (is_unsequenced label ≡ true) ⊎ IsLone (others_open opens) (before_others opens before first) rest
still opens label before first rest (inl e) = inl e
still opens label before first rest (inr lone) = inr lone.1

-- where the full expression of a place stands
abbrev pub stood : Site → Spans
stood site = spot (spans_of site.full)

module _ (types : Table) (one : TypedUnit) (it : Rewriting) (f : ℕ) (parameters : List ℕ) (body : Tree) (adds : it.added ≡ added_function f parameters body)
    (judged : Judged) (closed : (d : ℕ) → closed_in one d ≡ true → judged.closed d ≡ true)
    (quiet : (g : ℕ) (tree : Tree) → is_one_of (quiet_functions (before tree one.externals)) g ≡ true → judged.quiet g ≡ true)
    (late : (p : ℕ) → judged.late p ≡ true → times_named p body ≡ 1 → ReadsFirst p body → ⊥) (unless : (p : ℕ) → judged.first p ≡ false → ReadsFirst p body → ⊥)
    (safely : (p : ℕ) → judged.first p ≡ false → (span : Span) (argument : Site) → site_of one span ≡ Some argument → is_pure argument.tree ≡ true → is_safe types one argument.tree ≡ true → judged.safe (erased (stood argument) argument.tree) ≡ true)
    (different : are_different parameters ≡ true) (own : (n p : ℕ) → slice_get parameters n ≡ Some p → (d : ℕ) → it.rename d ≡ p → ⊥) (body_typed : IsTyped body)
    (keep : AllByRecursion (Keeps types one it (length parameters)) it.runs) where
  abbrev pub Standing : Site → List Run → Type 0
  Standing site runs = AllByRecursion (StandsAt (Keeps types one it (length parameters)) site.apart site.tree) runs

  -- these are beside a place, or a tree is stable beside them
  pub data Context (outside : List Tree) (other : Tree) (site : Site) : Type 0 where
    besides : AllByRecursion (IsBeside site.full site.path) outside → Context outside other site
    inside : IsStable judged outside other → Context outside other site

  abbrev pub IsAlike : List Tree → List Run → Tree → Tree → Site → Type 0
  IsAlike outside standing tree other site =
      site.tree ≡ other → is_expression other ≡ true → AllTold one (sites_in one.declared other site) → Standing site standing → tree_at site.path site.full ≡ Some other → IsTyped site.full
      → Context outside other site → Agrees it standing tree other → EvaluatesAlike judged it parameters (stood site) outside standing tree other

  -- ---- the arguments of a run

  module _ (run : Run) (inner : List Run) (other : Tree) (site : Site) (met : IsMet types one it parameters body keep run inner other site) (leads : tree_at site.path site.full ≡ Some other)
      (typed : IsTyped site.full) (outside : List Tree) (context : Context outside other site) where
    abbrev SeatOf : ℕ → Left → Type 0
    SeatOf n left = Seat types one it parameters body keep run inner other site met n left

    seats_of : (n : ℕ) → AllByRecursion (SeatOf n) (standing_for it run inner n other)
    seats_of n = seats types one it parameters body keep run inner other site met n

    judge : (n : ℕ) (left : Left) → SeatOf n left → Verdict types one run n
    judge n left seat = verdict_of types one it parameters body keep run inner other site met n left seat

    part_of_run : (n : ℕ) (left : Left) → SeatOf n left → IsPartOf left.tree other
    part_of_run n left seat = record { way = seat.way; leads = seat.leads }

    read_first_there : (n p : ℕ) → slice_get parameters n ≡ Some p → (left : Left) → SeatOf n left → Early one run n → ReadsFirst p body
    read_first_there n p there left seat is = first_read types one it parameters body keep run inner other site met different own body_typed n p there left seat is

    stable_there : AllByRecursion (IsBeside site.full site.path) outside → (n : ℕ) (left : Left) → SeatOf n left → list_all (is_stable_at one run) (occurrences_of run n) ≡ true → IsStable judged (other ∷ outside) left.tree
    stable_there b n left seat all = stable_seat types one it parameters body keep run inner other site met judged closed quiet leads typed outside b n left seat all

    stable_by : AllByRecursion (IsBeside site.full site.path) outside → (p n : ℕ) → slice_get parameters n ≡ Some p → judged.late p ≡ true → (left : Left) → SeatOf n left → Verdict types one run n
        → IsStable judged (other ∷ outside) left.tree
    stable_by b p n there is left seat (alone only alone_is first) =
        absurd (late p is (once_named types one it parameters body keep run inner other site met different own body_typed n p there only alone_is first)
        (read_first_there n p there left seat (once only alone_is first)))
    stable_by b p n there is left seat (steady all any) = stable_there b n left seat all
    stable_by b p n there is left seat (steady_and_safe all safe) = stable_there b n left seat all

    stable_left : (p n : ℕ) → slice_get parameters n ≡ Some p → judged.late p ≡ true → (left : Left) → SeatOf n left → IsStable judged (other ∷ outside) left.tree
    stable_left p n there is left seat = by_context context
      where
        by_context : Context outside other site → IsStable judged (other ∷ outside) left.tree
        by_context (besides b) = stable_by b p n there is left seat (judge n left seat)
        by_context (inside h) = still_stable judged outside other h (other ∷ outside) (covered.pure h.0, outside_ones judged outside other h) left.tree (part_of_run n left seat)

    safe_by : (p n : ℕ) → slice_get parameters n ≡ Some p → (left : Left) → SeatOf n left → Verdict types one run n → IsSafe judged (stood site) p left.tree
    safe_by p n there left seat (alone only alone_is first) late_one = absurd (unless p late_one (read_first_there n p there left seat (once only alone_is first)))
    safe_by p n there left seat (steady all any) late_one = absurd (unless p late_one (read_first_there n p there left seat (some_first any)))
    safe_by p n there left seat (steady_and_safe all safe) late_one =
        subst (λ (t : Tree). judged.safe (erased (stood site) t) ≡ true) seat.same
        (subst (λ (t : Tree). judged.safe (erased (spot (spans_of t)) seat.place.tree) ≡ true) seat.full
        (safely p late_one seat.occurrence.span seat.place seat.found (pure_seat types one it parameters body keep run inner other site met n left seat all)
        (safe_seat types one it parameters body keep run inner other site met n left seat safe)))

    arguments_stable : (n : ℕ) (qs : List ℕ) → ((m : ℕ) → slice_get qs m ≡ slice_get parameters (n + m)) → AreStable judged it (stood site) outside n qs run inner other
    arguments_stable n [] suffix = tt
    arguments_stable n (q ∷ qs) suffix =
        let number : n + 0 ≡ n = omega arith in
        let there : slice_get parameters n ≡ Some q = sym (suffix 0 ∙ ap (slice_get parameters) number) in (
          λ is. all_left (λ runs tree. IsStable judged (other ∷ outside) tree × IsSafe judged (stood site) q tree) (SeatOf n)
              (λ left seat. (stable_left q n there is left seat, safe_by q n there left seat (judge n left seat))) (standing_for it run inner n other) (seats_of n),
          arguments_stable (suc n) qs (λ m. let more : n + suc m ≡ suc n + m = omega arith in suffix (suc m) ∙ ap (slice_get parameters) more),
        )

    -- an argument of another parameter
    record IsOther (n : ℕ) (tree : Tree) : Type 0 where
      number : ℕ
      differs : n ≡ number → ⊥
      left : Left
      same : left.tree ≡ tree
      seat : SeatOf number left

    record IsFrom (P : ℕ → Type 0) (tree : Tree) : Type 0 where
      number : ℕ
      such : P number
      left : Left
      same : left.tree ≡ tree
      seat : SeatOf number left

    all_such : (P : ℕ → Type 0) (n : ℕ) → P n → (lefts : List Left) → AllByRecursion (SeatOf n) lefts → AllByRecursion (IsFrom P) (trees_left lefts)
    all_such P n such lefts h =
        all_trees_left (IsFrom P) lefts
        (all_weaker (SeatOf n) (λ (left : Left). IsFrom P left.tree) (λ left seat. record { number = n; such = such; left = left; same = refl; seat = seat }) lefts h)

    all_later : (n m : ℕ) → n < m → (trees : Trees) → AllByRecursion (IsFrom (λ (k : ℕ). n < k)) (trees_from it m trees run inner other)
    all_later n m less no_trees = tt
    all_later n m less (more_trees first rest) =
        all_append (IsFrom (λ (k : ℕ). n < k)) (trees_left (standing_for it run inner m other)) (trees_from it (suc m) rest run inner other)
        (all_such (λ (k : ℕ). n < k) m less (standing_for it run inner m other) (seats_of m)) (all_later n (suc m) (omega (arith, less)) rest)

    earlier_other : (n : ℕ) (tree : Tree) → IsFrom (λ (k : ℕ). k < n) tree → IsOther n tree
    earlier_other n tree h = let less = h.such in record { number = h.number; differs = λ e. omega (arith, less, e); left = h.left; same = h.same; seat = h.seat }

    later_other : (n : ℕ) (tree : Tree) → IsFrom (λ (k : ℕ). n < k) tree → IsOther n tree
    later_other n tree h = let less = h.such in record { number = h.number; differs = λ e. omega (arith, less, e); left = h.left; same = h.same; seat = h.seat }

    -- beside an argument that is evaluated first: another one that is so too, or one that neither stores nor calls
    plain_run : (is_expression other ≡ true) × IsTyped other
    plain_run = (met.expression, typed_part other site.full (record { way = site.path; leads = leads }) typed)

    by_verdict : AllByRecursion (IsBeside site.full site.path) outside → (n : ℕ) (left : Left) (seat : SeatOf n left) (only : Span) → occurrences_of run n ≡ only ∷ [] → is_first_at one run only ≡ true
        → (m : ℕ) → (n ≡ m → ⊥) → (another : Left) (there : SeatOf m another) → Verdict types one run m → IsBeside site.full (site.path ++ seat.way) another.tree
    by_verdict b n left seat only alone_is first m differs another there (steady all any) = pure (stable_there b m another there all).0
    by_verdict b n left seat only alone_is first m differs another there (steady_and_safe all safe) = pure (stable_there b m another there all).0
    by_verdict b n left seat only alone_is first m differs another there (alone other_only other_alone other_first) =
        let found = two_first run n m differs seat.way there.way (occurrences_at run.occurrences other) other another.tree seat.seat there.seat plain_run
        (first_seat types one it parameters body keep run inner other site met n left seat only alone_is first)
        (first_seat types one it parameters body keep run inner other site met m another there other_only other_alone other_first) there.leads in
        beside_way site.full site.path seat.way other another.tree found.whole leads found.other found.among found.leads found.part

    other_beside : AllByRecursion (IsBeside site.full site.path) outside → (n : ℕ) (left : Left) (seat : SeatOf n left) (only : Span) → occurrences_of run n ≡ only ∷ [] → is_first_at one run only ≡ true
        → (tree : Tree) → IsOther n tree → IsBeside site.full (site.path ++ seat.way) tree
    other_beside b n left seat only alone_is first tree h =
        subst (IsBeside site.full (site.path ++ seat.way)) h.same
        (by_verdict b n left seat only alone_is first h.number h.differs h.left h.seat (judge h.number h.left h.seat))

    other_part : (n : ℕ) (tree : Tree) → IsOther n tree → IsPartOf tree other
    other_part n tree h = subst (λ (t : Tree). IsPartOf t other) h.same (part_of_run h.number h.left h.seat)

    outside_covered : AllByRecursion (IsCovered (other ∷ outside)) outside
    outside_covered = all_weaker (λ (tree : Tree). IsAmong tree outside) (IsCovered (other ∷ outside)) (λ tree l. covered.within tree (inr l) (itself tree)) outside (all_among outside)

    -- an argument beside the others and what is beside the run
    module _ (n : ℕ) (others : List Tree) (besides_it : AllByRecursion (IsOther n) others) (left : Left) (seat : SeatOf n left) where
      stable_inside : list_all (is_stable_at one run) (occurrences_of run n) ≡ true → AllByRecursion (IsBeside site.full site.path) outside → IsStable judged (others ++ outside) left.tree
      stable_inside all b =
          stable_beside judged (other ∷ outside) (others ++ outside)
          (all_append (IsCovered (other ∷ outside)) others outside
          (all_weaker (IsOther n) (IsCovered (other ∷ outside)) (λ tree h. covered.within other (inl refl) (other_part n tree h)) others besides_it) outside_covered) left.tree left.tree (itself left.tree)
          (stable_there b n left seat all)

      by_place : AllByRecursion (IsBeside site.full site.path) outside → Verdict types one run n → Context (others ++ outside) left.tree seat.place
      by_place b (steady all any) = inside (stable_inside all b)
      by_place b (steady_and_safe all safe) = inside (stable_inside all b)
      by_place b (alone only alone_is first) =
          besides (besides_at site seat.place seat.way (others ++ outside) seat.path seat.full
          (all_append (IsBeside site.full (site.path ++ seat.way)) others outside
          (all_weaker (IsOther n) (IsBeside site.full (site.path ++ seat.way)) (other_beside b n left seat only alone_is first) others besides_it)
          (all_weaker (IsBeside site.full site.path) (IsBeside site.full (site.path ++ seat.way)) (beside_further site.full site.path seat.way) outside b)))

      context_there : Context outside other site → Context (others ++ outside) left.tree seat.place
      context_there (besides b) = by_place b (judge n left seat)
      context_there (inside h) =
          inside (still_stable judged outside other h (others ++ outside)
          (all_append (IsCovered outside) others outside (pure_ones judged outside other h others (all_weaker (IsOther n) (λ (tree : Tree). IsPartOf tree other) (other_part n) others besides_it))
          (outside_ones judged outside other h)) left.tree (part_of_run n left seat))

      argument_alike : (first : Tree) → ((around : List Tree) (standing : List Run) (was : Tree) (place : Site) → IsAlike around standing first was place) → Agrees it left.runs first left.tree
          → EvaluatesAlike judged it parameters (stood site) (others ++ outside) left.runs first left.tree
      argument_alike first into agree =
          subst (λ (t : Tree). EvaluatesAlike judged it parameters (spot (spans_of t)) (others ++ outside) left.runs first left.tree) seat.full
          (into (others ++ outside) left.runs left.tree seat.place seat.same seat.expression seat.told seat.standing (leads_at site seat.place seat.way other left.tree seat.path seat.full leads seat.leads)
          (subst IsTyped (sym seat.full) typed) (context_there context) agree)

    arguments_alike : (first : Tree) → ((around : List Tree) (standing : List Run) (was : Tree) (place : Site) → IsAlike around standing first was place)
        → (n : ℕ) (before : List Tree) → AllByRecursion (IsFrom (λ (k : ℕ). k < n)) before → (rest : Trees) → AllLeft (λ runs tree. Agrees it runs first tree) (standing_for it run inner n other)
        → AllLeft (λ runs tree. EvaluatesAlike judged it parameters (stood site) (before ++ (trees_from it (suc n) rest run inner other ++ outside)) runs first tree) (standing_for it run inner n other)
    arguments_alike first into n before fronts rest agree =
        let behind = trees_from it (suc n) rest run inner other in
        let others_are = all_append (IsOther n) before behind (all_weaker (IsFrom (λ (k : ℕ). k < n)) (IsOther n) (earlier_other n) before fronts)
        (all_weaker (IsFrom (λ (k : ℕ). n < k)) (IsOther n) (later_other n) behind (all_later n (suc n) (omega arith) rest)) in
        both_left (λ runs tree. Agrees it runs first tree) (λ runs tree. EvaluatesAlike judged it parameters (stood site) (before ++ (behind ++ outside)) runs first tree) (SeatOf n)
        (λ left seat same.
        subst (λ (around : List Tree). EvaluatesAlike judged it parameters (stood site) around left.runs first left.tree) (append_assoc before behind outside)
        (argument_alike n (before ++ behind) others_are left seat first into same)) (standing_for it run inner n other) (seats_of n) agree

    one_more : (n : ℕ) (before : List Tree) → AllByRecursion (IsFrom (λ (k : ℕ). k < n)) before → AllByRecursion (IsFrom (λ (k : ℕ). k < suc n)) (before ++ trees_left (standing_for it run inner n other))
    one_more n before fronts =
        all_append (IsFrom (λ (k : ℕ). k < suc n)) before (trees_left (standing_for it run inner n other))
        (all_weaker (IsFrom (λ (k : ℕ). k < n)) (IsFrom (λ (k : ℕ). k < suc n))
        (λ tree h. let less = h.such in record { number = h.number; such = omega (arith, less); left = h.left; same = h.same; seat = h.seat }) before fronts)
        (all_such (λ (k : ℕ). k < suc n) n (omega arith) (standing_for it run inner n other) (seats_of n))

  -- ---- trees

  -- beside a part
  part_context : (outside : List Tree) (whole : Tree) (above : Site) (from : ℕ) (opens : Open) (before : List Tree) (label : Label) (spans : Spans) (first : Tree) (rest : Trees) → tree_at above.path above.full ≡ Some whole
      → (is_unsequenced (label_of whole) ≡ true) ⊎ IsLone opens before (more_trees first rest) → AllByRecursion (IsBefore whole from) before → AreFrom (trees_of whole) from (more_trees first rest)
      → Context outside whole above → Context (beside_first opens before outside rest) first (operand_site above label spans from first)
  part_context outside whole above from opens before label spans first rest leads sort fronts are (besides b) =
      besides (beside_part above.full above.path whole from opens before outside first rest leads sort fronts are.1 b)
  part_context outside whole above from opens before label spans first rest leads sort fronts are (inside h) =
      inside (still_stable judged outside whole h (beside_first opens before outside rest)
      (all_beside_first (IsCovered outside) opens before outside rest
      (pure_ones judged outside whole h before (all_weaker (IsBefore whole from) (λ (tree : Tree). IsPartOf tree whole) (λ tree k. part_below k.0 tree whole k.2) before fronts))
      (pure_ones judged outside whole h (listed rest) (parts_from whole (suc from) rest are.1)) (outside_ones judged outside whole h)) first (part_below from first whole are.0))

  mutual
    pub expression_alike : (outside : List Tree) (standing : List Run) (tree other : Tree) (site : Site) → site.tree ≡ other → is_expression other ≡ true → AllTold one (sites_in one.declared other site)
        → Standing site standing → tree_at site.path site.full ≡ Some other → IsTyped site.full → Context outside other site → Agrees it standing tree other
        → EvaluatesAlike judged it parameters (stood site) outside standing tree other
    expression_alike outside [] (node label kind spans parts) (node other other_kind other_spans others) site same expression told stand leads typed context h =
        let plain = and_parts (not (is_statement other)) (are_expressions others) expression in
        let no_statement = not_false (is_statement other) plain.0 in
        let places = own_and_parts one other other_kind other_spans others site no_statement told in
        let whole = node other other_kind other_spans others in
        let sort = lone_or_unsequenced other others (node_sort other other_kind other_spans others no_statement (typed_part whole site.full (record { way = site.path; leads = leads }) typed)) in
        subst (λ (b : Bool). AllAlike judged it parameters b (open_of other) (stood site) [] outside other other_spans parts others) (sym no_statement)
        (parts_alike whole outside (open_of other) [] other other_spans site 0 parts others leads typed context sort tt (all_from others) plain.1 places.1 h.1)
    expression_alike outside (run ∷ inner) (node label kind spans parts) (node other other_kind other_spans others) site same expression told stand leads typed context h =
        let plain = and_parts (not (is_statement other)) (are_expressions others) expression in
        let places = own_and_parts one other other_kind other_spans others site (not_false (is_statement other) plain.0) told in
        let old = node other other_kind other_spans others in
        let at = subst (λ (added : Added). AtRun it added run inner label kind parts old (Passes it parts run inner old)) adds h in
        let met : IsMet types one it parameters body keep run inner old site =
        record { same = same; expression = expression; told = told; own = places.0; keeps = stand.0; inner_stand = stand.1; body_same = at.0.3 } in (
          arguments_stable run inner old site met leads typed outside context 0 parameters (λ m. let number : m ≡ 0 + m = omega arith in ap (slice_get parameters) number),
          pass_alike run inner old site met leads typed outside context parts at.1,
        )

    parts_alike : (whole : Tree) (outside : List Tree) (opens : Open) (before : List Tree) (label : Label) (spans : Spans) (above : Site) (from : ℕ) (trees others : Trees) → tree_at above.path above.full ≡ Some whole
        → IsTyped above.full → Context outside whole above → (is_unsequenced (label_of whole) ≡ true) ⊎ IsLone opens before others → AllByRecursion (IsBefore whole from) before
        → AreFrom (trees_of whole) from others → are_expressions others ≡ true → AllTold one (sites_below one.declared others (operand_sites above label spans from (listed others))) → AllAgree it label spans trees others
        → AllAlike judged it parameters false opens (stood above) before outside label spans trees others
    parts_alike whole outside opens before label spans above from no_trees others leads typed context sort fronts are expressions told h = tt
    parts_alike whole outside opens before label spans above from (more_trees first rest) no_trees leads typed context sort fronts are expressions told h = absurd h
    parts_alike whole outside opens before label spans above from (more_trees first rest) (more_trees other others) leads typed context sort fronts are expressions told h =
        let plain = and_parts (is_expression other) (are_expressions others) expressions in
        let here = operand_site above label spans from other in
        let behind = sites_below one.declared others (operand_sites above label spans (suc from) (listed others)) in (
          expression_alike (beside_first opens before outside others) (runs_below it.runs label spans other) first other here refl plain.0
              (all_front (IsTold one) (sites_in one.declared other here) behind told) (runs_stand_below (Keeps types one it (length parameters)) it.runs label spans other keep)
              (at_behind above.path (from ∷ []) above.full whole leads ∙ ap (option_and_then (tree_at [])) are.0) typed
              (part_context outside whole above from opens before label spans other others leads sort fronts are context) h.0,
          parts_alike whole outside (others_open opens) (before_others opens before other) label spans above (suc from) rest others leads typed context (still opens (label_of whole) before other others sort)
              (all_before (IsBefore whole (suc from)) opens before other
              (all_weaker (IsBefore whole from) (IsBefore whole (suc from)) (λ part k. let less = k.1 in (k.0, omega (arith, less), k.2)) before fronts) (from, omega arith, are.0))
              are.1 plain.1 (all_back (IsTold one) (sites_in one.declared other here) behind told) h.1,
        )

    pass_alike : (run : Run) (inner : List Run) (other : Tree) (site : Site) (met : IsMet types one it parameters body keep run inner other site) → tree_at site.path site.full ≡ Some other → IsTyped site.full
        → (outside : List Tree) → Context outside other site → (parts : Trees) → Passes it parts run inner other → PassAlike judged it parameters (stood site) outside parts run inner other
    pass_alike run inner other site met leads typed outside context no_trees h = absurd h
    pass_alike run inner other site met leads typed outside context (more_trees named arguments) h = passed_alike run inner other site met leads typed outside context [] 0 tt arguments h

    passed_alike : (run : Run) (inner : List Run) (other : Tree) (site : Site) (met : IsMet types one it parameters body keep run inner other site) (leads : tree_at site.path site.full ≡ Some other) (typed : IsTyped site.full)
        (outside : List Tree) (context : Context outside other site) (before : List Tree) (n : ℕ)
        → AllByRecursion (IsFrom run inner other site met leads typed outside context (λ (k : ℕ). k < n)) before → (trees : Trees) → PassesFrom it n trees run inner other
        → PassAlikeFrom judged it parameters (stood site) before outside n trees run inner other
    passed_alike run inner other site met leads typed outside context before n fronts no_trees h = tt
    passed_alike run inner other site met leads typed outside context before n fronts (more_trees first rest) h = (
      arguments_alike run inner other site met leads typed outside context first (λ around standing was place. expression_alike around standing first was place) n before fronts rest h.0,
      passed_alike run inner other site met leads typed outside context (before ++ trees_left (standing_for it run inner n other)) (suc n)
          (one_more run inner other site met leads typed outside context n before fronts) rest h.1,
    )
