-- What trees that agree have in common: types and the functions that they name, the results of their operands, and locks; and that an operand that
-- wasn't begun agrees wherever it is evaluated.
use Rattle.std.specs.Prelude.{◌≡◌, refl, ◌⊎◌, ℕ, zero, suc, ◌==◌, Bool, true, false, List, [], ◌∷◌, ◌++◌, Option, Some, None, option_map, if◌then◌else◌}
use Rattle.std.proofs.Common.{arith, true≢false, ap, sym, ◌∙◌, subst, inl, inr}
use Rattle.dm_token.specs.declared.place.Place.{Place}
use Rattle.dm_type.specs.CTypes.{CType, bare}
use Rattle.dm_tree.specs.Trees.{Label, object, function, read, call, Tree, Trees, node, no_trees, more_trees, label_of, kind_of}
use Rattle.dm_meaning.specs.Among.{IsAmong}
use Rattle.dm_meaning.specs.Values.{At}
use Rattle.dm_meaning.specs.Objects.{object_of}
use Rattle.dm_meaning.specs.Causes.{is_other}
use Rattle.dm_meaning.specs.Operations.{Result, Operand, World}
use Rattle.dm_meaning.specs.Running.{Doing, evaluates, gives_truth, gives_value, Run, done, to_do, Runs, no_runs, more_runs, begun, all_begun, locks_in, locks_in_all, Open, every, only_first, nothing, first_open, others_open, open_of, open_parts, with_first, first_result, operands_in, Holes, in_first, in_others, filled_in, all_filled_in}
use Rattle.dm_meaning.specs.Expressions.{nth_run, function_in, function_named, kind_of_run}
use Rattle.dm_meaning.specs.Called.{Called, new_of, Gives}
use Rattle.dm_meaning.specs.CalledWithAll.{given}
use Rattle.dm_meaning.specs.Extending.{AreAmong}
use Rattle.dm_meaning.specs.Statements.{type_declared}
use Rattle.dm_meaning.proofs.OptionLemmas.{none_is_some, some_is_some, mapped_some}
use Rattle.dm_meaning.proofs.MoveLemmas.{IsToDo, locks_lift}
use Rattle.dm_meaning.proofs.ConstantLemmas.{no_locks}
use Rattle.dm_meaning.proofs.RunLemmas.{redone}
use Rattle.dm_meaning.proofs.YieldLemmas.{may_give, given_may, doing_gives, Yields, PicksYield}
use Rattle.dm_meaning.proofs.MatchLemmas.{function_in_redone, not_function, relabelled_gives, among_nothing, among_joined, among_both}
use Rattle.dm_meaning.proofs.StandLemmas.{label_in, lock_of}
use Rattle.dm_meaning.proofs.PassRunLemmas.{AllYield, AreGiving}
use Rattle.dm_rewrite.specs.Effects.{Effect, Stage, effects_of, effects_in}
use Rattle.dm_rewrite.proofs.ComputedLemmas.{pure_locks}
use Rattle.dm_central.specs.Added.{IsAdded}
use Rattle.dm_central.specs.Arguments.{Way, at_once, untouched, AllFollowed, runs_at, trees_at, ReadsParameter, IsSameBut, AreSameBut, Stands, StandsWhole}
use Rattle.dm_central.specs.Agreement.{Stood, a_value, a_tree, Entry, Mode, outside, inside, named_object, StandsFor, IsReading, beside_first, before_rest, tree_stood, stood_at, AreUnbegun, IfOpen, IsPassed, RunAgrees, RunsAgree, PassesRun}
use Rattle.dm_central.specs.ArgumentSteps.{IsAtOnce}
use Rattle.dm_central.proofs.AgreementLemmas.{begun_agrees}
use Rattle.dm_central.proofs.ArgumentPlaceLemmas.{at_once_there}

-- ---- trees of the added function of which nothing is evaluated

tree_of : (s : Stood) (t : Tree) → tree_stood s ≡ Some t → s ≡ a_tree t
tree_of a_value t e = absurd (none_is_some t e)
tree_of (a_tree u) t e = ap a_tree (some_is_some u t e)

-- the parameter for which an untouched argument stands
record IsStood (entries : List Entry) (d : ℕ) (tree : Tree) : Type 0 where
  entry : Entry
  among : IsAmong entry entries
  parameter : entry.parameter ≡ d
  stood : entry.stood ≡ a_tree tree

stood_entry : (entries : List Entry) (d : ℕ) (tree : Tree) → stood_at entries d ≡ Some (Some tree) → IsStood entries d tree
stood_entry [] d tree e = absurd (none_is_some (Some tree) e)
stood_entry (entry ∷ entries) d tree e = by_case (entry.parameter == d) refl e (stood_entry entries d tree)
  where
    equal_of : (m n : ℕ) → (m == n) ≡ true → m ≡ n
    equal_of m n f = grind arith

    by_case : (b : Bool) → (entry.parameter == d) ≡ b → (if b then Some (tree_stood entry.stood) else stood_at entries d) ≡ Some (Some tree)
        → (stood_at entries d ≡ Some (Some tree) → IsStood entries d tree) → IsStood (entry ∷ entries) d tree
    by_case true f g later = record {
      entry = entry;
      among = inl refl;
      parameter = equal_of entry.parameter d f;
      stood = tree_of entry.stood tree (some_is_some (tree_stood entry.stood) (Some tree) g);
    }
    by_case false f g later =
        let there = later g in
        record { entry = there.entry; among = inr there.among; parameter = there.parameter; stood = there.stood }

module _ (change : Called) (stage : Stage) (world : World) (entries : List Entry) where
  same_reading : (tree was : Tree) → (reads : ReadsParameter change tree (kind_of was)) → stood_at entries reads.parameter ≡ Some (Some was) → Gives was → IsReading change (inside entries) (begun tree) (begun was)
  same_reading tree was reads e gives =
      let there = stood_entry entries reads.parameter was e in
      record {
        entry = there.entry;
        among = there.among;
        named = false;
        kind = kind_of was;
        place = reads.spans.place;
        named_kind = reads.named_kind;
        named_place = reads.named_spans.place;
        is =
            ap begun reads.is
            ∙ ap (λ d. to_do (evaluates read) (kind_of was) reads.spans.place (more_runs (to_do (evaluates (object d)) reads.named_kind reads.named_spans.place no_runs) no_runs)) (sym there.parameter);
        own = ap (λ d. is_other (kind_of was) (object_of (bare (type_declared (new_of change) d)) false)) there.parameter ∙ reads.own;
        stands = subst (λ s. StandsFor there.entry s (kind_of was) (begun was)) (sym there.stood) (refl, refl, gives);
      }

  mutual
    pub begun_same : (beside : List Effect) (tree was : Tree) → IsSameBut change (stood_at entries) tree was
        → RunAgrees change stage (inside entries) world beside (begun tree) (begun was) ⊎ IsReading change (inside entries) (begun tree) (begun was)
    begun_same beside (node label kind spans parts) (node other other_kind other_spans others) (inl h) =
        inl (inl (ap evaluates h.0, h.1, h.2, all_begun_same [] beside (open_of other) parts others h.3))
    begun_same beside (node label kind spans parts) was (inr (reads, e, gives)) = inr (same_reading (node label kind spans parts) was reads e gives)

    all_begun_same : (before beside : List Effect) (opens : Open) (trees others : Trees) → AreSameBut change (stood_at entries) trees others
        → RunsAgree change stage (inside entries) world before beside opens (all_begun trees) (all_begun others)
    all_begun_same before beside opens no_trees no_trees h = tt
    all_begun_same before beside opens no_trees (more_trees other others) h = absurd h
    all_begun_same before beside opens (more_trees first rest) no_trees h = absurd h
    all_begun_same before beside opens (more_trees first rest) (more_trees other others) h = (
      by_open (first_open opens) (begun_same (beside_first stage opens before beside (all_begun others)) first other h.0),
      all_begun_same (before_rest stage opens before (begun other)) beside (others_open opens) rest others h.1,
    )
      where
        by_open : (b : Bool)
            → RunAgrees change stage (inside entries) world (beside_first stage opens before beside (all_begun others)) (begun first) (begun other) ⊎ IsReading change (inside entries) (begun first) (begun other)
            → IfOpen b (RunAgrees change stage (inside entries) world (beside_first stage opens before beside (all_begun others)) (begun first) (begun other) ⊎ IsReading change (inside entries) (begun first) (begun other))
            (AreUnbegun change stage (inside entries) beside (begun first) (begun other))
        by_open true x = x
        by_open false x = record { tree = first; was = other; is = refl; stands = refl; agrees = h.0 }

-- ---- operands that aren't begun

abbrev pub PartAgrees : Called → Stage → Mode → World → List Effect → Run → Run → Type 0
PartAgrees change stage mode world beside run other = RunAgrees change stage mode world beside run other ⊎ IsReading change mode run other

-- such an operand agrees in any world
pub unbegun_agrees : (change : Called) (stage : Stage) (mode : Mode) (world : World) (beside : List Effect) (run other : Run) → AreUnbegun change stage mode beside run other → PartAgrees change stage mode world beside run other
unbegun_agrees change stage (outside safe) world beside run other h =
    inl (subst (λ r. RunAgrees change stage (outside safe) world beside r other) (sym h.is) (subst (RunAgrees change stage (outside safe) world beside (begun h.tree)) (sym h.stands) (begun_agrees change stage safe world beside h.tree h.was h.agrees)))
unbegun_agrees change stage (inside entries) world beside run other h =
    subst (λ r. PartAgrees change stage (inside entries) world beside r other) (sym h.is)
    (subst (PartAgrees change stage (inside entries) world beside (begun h.tree)) (sym h.stands) (begun_same change stage world entries beside h.tree h.was h.agrees))

module _ (change : Called) (stage : Stage) (mode : Mode) (world : World) where
  nth_unbegun : (n : ℕ) (before beside : List Effect) (parts others : Runs) → RunsAgree change stage mode world before beside nothing parts others → PartAgrees change stage mode world beside (nth_run n parts) (nth_run n others)
  nth_unbegun n before beside no_runs no_runs h = inl (refl, refl, λ lock k. k)
  nth_unbegun n before beside no_runs (more_runs other others) h = absurd h
  nth_unbegun n before beside (more_runs first rest) no_runs h = absurd h
  nth_unbegun zero before beside (more_runs first rest) (more_runs other others) h = unbegun_agrees change stage mode world beside first other h.0
  nth_unbegun (suc n) before beside (more_runs first rest) (more_runs other others) h = nth_unbegun n before beside rest others h.1

  -- the operands behind the one that is evaluated first
  pub nth_later : (n : ℕ) (before beside : List Effect) (parts others : Runs) → RunsAgree change stage mode world before beside only_first parts others
      → PartAgrees change stage mode world beside (nth_run (suc n) parts) (nth_run (suc n) others)
  nth_later n before beside no_runs no_runs h = inl (refl, refl, λ lock k. k)
  nth_later n before beside no_runs (more_runs other others) h = absurd h
  nth_later n before beside (more_runs first rest) no_runs h = absurd h
  nth_later n before beside (more_runs first rest) (more_runs other others) h = nth_unbegun n (before ++ effects_of stage other) beside rest others h.1

-- ---- types, and functions that are named

-- two trees have one type, and name one function if any
abbrev pub SameFacts : Called → Run → Run → Type 0
SameFacts change run other = (kind_of_run run ≡ kind_of_run other) × (function_named run ≡ option_map change.rename (function_named other))

abbrev pub AllSameFacts : Called → Runs → Runs → Type 0
AllSameFacts change no_runs no_runs = Unit {0}
AllSameFacts change (more_runs first rest) (more_runs other others) = SameFacts change first other × AllSameFacts change rest others
AllSameFacts change parts others = ⊥

pub begun_kind : (tree : Tree) → kind_of_run (begun tree) ≡ kind_of tree
begun_kind (node label kind spans parts) = refl

begun_function : (tree : Tree) → may_give (label_of tree) ≡ true → function_named (begun tree) ≡ None
begun_function (node (function d) kind spans parts) e = absurd (true≢false (sym e))
begun_function (node label kind spans parts) e = refl

nothing_renamed : (rename : ℕ → ℕ) (o : Option ℕ) → o ≡ None → None ≡ option_map rename o
nothing_renamed rename o e = sym (ap (option_map rename) e)

reading_facts : (change : Called) (mode : Mode) (run other : Run) → IsReading change mode run other → SameFacts change run other
reading_facts change mode run other h = by_stood h.entry.stood h.stands
  where
    by_stood : (s : Stood) → StandsFor h.entry s h.kind other → SameFacts change run other
    by_stood a_value (locks, e) =
        (ap kind_of_run h.is ∙ sym (ap kind_of_run e), ap function_named h.is ∙ nothing_renamed change.rename (function_named other) (ap function_named e))
    by_stood (a_tree tree) (e, typed, gives) =
        (ap kind_of_run h.is ∙ typed ∙ sym (ap kind_of_run e ∙ begun_kind tree), ap function_named h.is ∙ nothing_renamed change.rename (function_named other) (ap function_named e ∙ begun_function tree (given_may tree gives)))

-- what comes to a value names no function
nameless : (kind : CType) (doing : Doing) (parts : Runs) → (doing_gives doing ≡ true) ⊎ PicksYield kind doing parts → function_in doing ≡ None
nameless kind (evaluates (function d)) parts (inl e) = absurd (true≢false (sym e))
nameless kind (evaluates (function d)) parts (inr h) = absurd h
nameless kind (evaluates label) parts h = refl
nameless kind gives_truth parts h = refl
nameless kind gives_value parts h = refl

yields_nameless : (kind : CType) (run : Run) → Yields kind run → (kind ≡ kind_of_run run) × (function_named run ≡ None)
yields_nameless kind (done own result locks) h = (sym h.0, refl)
yields_nameless kind (to_do doing own place parts) h = (sym h.0, nameless kind doing parts h.1)

-- what arguments come to in the new program, they do in the old one
all_giving : (change : Called) (kinds : List CType) (parts inner : Runs) → AllYield kinds parts → AllSameFacts change parts inner → AreGiving kinds inner
all_giving change [] no_runs no_runs y h = tt
all_giving change [] no_runs (more_runs other others) y h = absurd h
all_giving change [] (more_runs first rest) inner y h = absurd y
all_giving change (kind ∷ kinds) no_runs inner y h = absurd y
all_giving change (kind ∷ kinds) (more_runs first rest) no_runs y h = absurd h
all_giving change (kind ∷ kinds) (more_runs first rest) (more_runs other others) y h =
    let gives_here = yields_nameless kind first y.0 in (
      gives_here.0 ∙ h.0.0,
      unnamed (function_named other) (sym gives_here.1 ∙ h.0.1),
      all_giving change kinds rest others y.2 h.1,
    )
  where
    unnamed : (named : Option ℕ) → None ≡ option_map change.rename named → named ≡ None
    unnamed None e = refl
    unnamed (Some d) e = absurd (none_is_some (change.rename d) e)

-- an argument that stands in the old program
given_giving : (ps : List ℕ) (kinds : List CType) (ways : List Way) (inner : Runs) → AreGiving kinds inner → (d : ℕ) (kind : CType) (run : Run) → given ps kinds d ≡ Some kind → given ps (runs_at ways inner) d ≡ Some (Some run)
    → (kind ≡ kind_of_run run) × (function_named run ≡ None)
given_giving [] kinds ways inner h d kind run e f = absurd (none_is_some kind e)
given_giving (p ∷ ps) [] ways inner h d kind run e f = absurd (none_is_some kind e)
given_giving (p ∷ ps) (own ∷ kinds) [] inner h d kind run e f = absurd (none_is_some (Some run) f)
given_giving (p ∷ ps) (own ∷ kinds) (at_once ∷ ways) no_runs h d kind run e f = absurd (none_is_some (Some run) f)
given_giving (p ∷ ps) (own ∷ kinds) (untouched tree ∷ ways) no_runs h d kind run e f = absurd (none_is_some (Some run) f)
given_giving (p ∷ ps) (own ∷ kinds) (at_once ∷ ways) (more_runs first rest) h d kind run e f = by_case (p == d) e f (given_giving ps kinds ways rest h.2 d kind run)
  where
    by_case : (b : Bool) → (if b then Some own else given ps kinds d) ≡ Some kind → (if b then Some (Some first) else given ps (runs_at ways rest) d) ≡ Some (Some run)
        → (given ps kinds d ≡ Some kind → given ps (runs_at ways rest) d ≡ Some (Some run) → (kind ≡ kind_of_run run) × (function_named run ≡ None)) → (kind ≡ kind_of_run run) × (function_named run ≡ None)
    by_case true g k later =
        let same = some_is_some first run (some_is_some (Some first) (Some run) k) in
        (sym (some_is_some own kind g) ∙ h.0 ∙ ap kind_of_run same, sym (ap function_named same) ∙ h.1)
    by_case false g k later = later g k
given_giving (p ∷ ps) (own ∷ kinds) (untouched tree ∷ ways) (more_runs first rest) h d kind run e f = by_case (p == d) e f (given_giving ps kinds ways rest h.2 d kind run)
  where
    by_case : (b : Bool) → (if b then Some own else given ps kinds d) ≡ Some kind → (if b then Some None else given ps (runs_at ways rest) d) ≡ Some (Some run)
        → (given ps kinds d ≡ Some kind → given ps (runs_at ways rest) d ≡ Some (Some run) → (kind ≡ kind_of_run run) × (function_named run ≡ None)) → (kind ≡ kind_of_run run) × (function_named run ≡ None)
    by_case true g k later = absurd (none_is_some run (some_is_some None (Some run) k))
    by_case false g k later = later g k

-- what stands for the expression has its type, and names no function
pub same_but_kind : (change : Called) (tree_at : ℕ → Option (Option Tree)) (tree was : Tree) → IsSameBut change tree_at tree was → kind_of tree ≡ kind_of was
same_but_kind change tree_at (node label kind spans parts) was (inl h) = h.1
same_but_kind change tree_at (node label kind spans parts) was (inr (reads, e, gives)) = ap kind_of reads.is

pub same_but_gives : (change : Called) (tree_at : ℕ → Option (Option Tree)) (tree was : Tree) → IsSameBut change tree_at tree was → may_give (label_of tree) ≡ true → may_give (label_of was) ≡ true
same_but_gives change tree_at (node label kind spans parts) was (inl h) e = sym (relabelled_gives change.rename (label_of was)) ∙ sym (ap may_give h.0) ∙ e
same_but_gives change tree_at (node label kind spans parts) was (inr (reads, e, gives)) f = given_may was gives

module _ (change : Called) (kind_at : ℕ → Option CType) (tree_at : ℕ → Option (Option Tree)) (run_at : ℕ → Option (Option Run))
    (giving : (d : ℕ) (kind : CType) (run : Run) → kind_at d ≡ Some kind → run_at d ≡ Some (Some run) → (kind ≡ kind_of_run run) × (function_named run ≡ None)) where
  below_kind : (tree : Tree) (other : Run) → Stands change kind_at tree_at run_at tree other → kind_of tree ≡ kind_of_run other
  below_kind tree (done kind result locks) h = absurd h
  below_kind (node label kind spans parts) (to_do doing other_kind place others) h = h.1

  doing_function : (label : Label) (doing : Doing) → evaluates label ≡ redone change.rename doing → may_give label ≡ true → function_in doing ≡ None
  doing_function label (evaluates other) e g = not_function change.rename other (sym (ap may_give (ap label_in e)) ∙ g)
  doing_function label gives_truth e g = refl
  doing_function label gives_value e g = refl

  below_function : (tree : Tree) (other : Run) → Stands change kind_at tree_at run_at tree other → may_give (label_of tree) ≡ true → function_named other ≡ None
  below_function tree (done kind result locks) h g = absurd h
  below_function (node label kind spans parts) (to_do doing other_kind place others) h g = doing_function label doing h.0 g

  whole_kind : (tree : Tree) (other : Run) → StandsWhole change kind_at tree_at run_at tree other → kind_of tree ≡ kind_of_run other
  whole_kind tree other (inl s) = same_but_kind change tree_at tree s.was s.same ∙ sym (ap kind_of_run s.is ∙ begun_kind s.was)
  whole_kind tree other (inr (inl s)) = ap kind_of s.reads.is ∙ (giving s.reads.parameter s.kind other s.typed s.stands).0
  whole_kind tree other (inr (inr s)) = below_kind tree other s

  whole_function : (tree : Tree) (other : Run) → StandsWhole change kind_at tree_at run_at tree other → may_give (label_of tree) ≡ true → function_named other ≡ None
  whole_function tree other (inl s) g = ap function_named s.is ∙ begun_function s.was (same_but_gives change tree_at tree s.was s.same g)
  whole_function tree other (inr (inl s)) g = (giving s.reads.parameter s.kind other s.typed s.stands).1
  whole_function tree other (inr (inr s)) g = below_function tree other s g

module _ (change : Called) (added : IsAdded change) (stage : Stage) (mode : Mode) (world : World) where
  passed_facts : (beside : List Effect) (doing : Doing) (kind : CType) (place : Place) (parts : Runs) (other : Run) (inner : Runs) → (passed : IsPassed change stage mode world beside doing kind other inner) → AreGiving passed.kinds inner
      → SameFacts change (to_do doing kind place parts) other
  passed_facts beside doing kind place parts other inner passed giving =
      let there = given_giving change.added.parameters passed.kinds passed.ways inner giving in (
        passed.typed ∙ whole_kind change (given change.added.parameters passed.kinds) (given change.added.parameters (trees_at passed.ways)) (given change.added.parameters (runs_at passed.ways inner)) there change.body other passed.stands,
        ap function_in passed.is
            ∙ nothing_renamed change.rename (function_named other)
            (whole_function change (given change.added.parameters passed.kinds) (given change.added.parameters (trees_at passed.ways)) (given change.added.parameters (runs_at passed.ways inner)) there change.body other passed.stands (given_may change.body added.gives)),
      )

  part_facts : (beside : List Effect) (run other : Run) → PartAgrees change stage mode world beside run other → (RunAgrees change stage mode world beside run other → SameFacts change run other) → SameFacts change run other
  part_facts beside run other (inl h) later = later h
  part_facts beside run other (inr h) later = reading_facts change mode run other h

  mutual
    pub same_facts : (beside : List Effect) (run other : Run) → RunAgrees change stage mode world beside run other → SameFacts change run other
    same_facts beside (done kind result locks) (done other_kind other_result other_locks) h = (h.0, refl)
    same_facts beside (done kind result locks) (to_do doing other_kind place parts) h = absurd h
    same_facts beside (to_do doing kind place parts) (done other_kind result locks) h =
        passed_facts beside doing kind place parts (done other_kind result locks) h.0 h.1 (passes_giving beside h.1.kinds parts h.0 h.2)
    same_facts beside (to_do doing kind place parts) (to_do other other_kind other_place others) (inl h) = (h.1, ap function_in h.0 ∙ function_in_redone change.rename other)
    same_facts beside (to_do doing kind place parts) (to_do other other_kind other_place others) (inr h) =
        passed_facts beside doing kind place parts (to_do other other_kind other_place others) h.0 h.1 (passes_giving beside h.1.kinds parts h.0 h.2)

    -- arguments, all of which may be evaluated
    all_same_facts : (before beside : List Effect) (parts others : Runs) → RunsAgree change stage mode world before beside every parts others → AllSameFacts change parts others
    all_same_facts before beside no_runs no_runs h = tt
    all_same_facts before beside no_runs (more_runs other others) h = absurd h
    all_same_facts before beside (more_runs first rest) no_runs h = absurd h
    all_same_facts before beside (more_runs first rest) (more_runs other others) h = (
      part_facts (beside_first stage every before beside others) first other h.0 (λ x. same_facts (beside_first stage every before beside others) first other x),
      all_same_facts (before_rest stage every before other) beside rest others h.1,
    )

    pub passes_giving : (beside : List Effect) (kinds : List CType) (parts inner : Runs) → PassesRun change stage mode world beside kinds parts inner → AreGiving kinds inner
    passes_giving beside kinds no_runs inner h = absurd h
    passes_giving beside kinds (more_runs named rest) inner h = all_giving change kinds rest inner h.1 (all_same_facts [] beside rest inner h.2)

  pub unbegun_facts : (beside : List Effect) (run other : Run) → AreUnbegun change stage mode beside run other → SameFacts change run other
  unbegun_facts beside run other h = part_facts beside run other (unbegun_agrees change stage mode world beside run other h) (same_facts beside run other)

-- ---- results of operands

pub reading_to_do : (change : Called) (mode : Mode) (run other : Run) → IsReading change mode run other → IsToDo run
reading_to_do change mode run other h = subst IsToDo (sym h.is) tt

-- a result before others
abbrev pub first_operand : CType → Result → List Operand → List Operand
first_operand kind result operands = record { kind = kind; result = result } ∷ operands

module _ (change : Called) (stage : Stage) (mode : Mode) (world : World) where
  -- where the operands of a new node are evaluated, so are those of the old one
  more_operands : (beside : List Effect) (first other : Run) (rest other_rest : Option (List Operand)) (operands : List Operand) → PartAgrees change stage mode world beside first other
      → ((later : List Operand) → rest ≡ Some later → other_rest ≡ Some later) → first_result true first rest ≡ Some operands → first_result true other other_rest ≡ Some operands
  more_operands beside (done kind result locks) (done other_kind other_result other_locks) rest other_rest operands (inl h) later e =
      let from = mapped_some (first_operand kind result) rest operands e in
      ap (with_first (record { kind = other_kind; result = other_result })) (later from.0 from.1)
      ∙ ap (λ k. Some (first_operand k other_result from.0)) (sym h.0) ∙ ap (λ r. Some (first_operand kind r from.0)) (sym h.1) ∙ ap Some from.2
  more_operands beside (done kind result locks) (to_do doing other_kind place parts) rest other_rest operands (inl h) later e = absurd h
  more_operands beside (done kind result locks) other rest other_rest operands (inr h) later e = absurd (reading_to_do change mode (done kind result locks) other h)
  more_operands beside (to_do doing kind place parts) other rest other_rest operands h later e = absurd (none_is_some operands e)

  pub same_operands : (before beside : List Effect) (opens : Open) (parts others : Runs) (operands : List Operand) → RunsAgree change stage mode world before beside opens parts others
      → operands_in opens parts ≡ Some operands → operands_in opens others ≡ Some operands
  same_operands before beside opens no_runs no_runs operands h e = e
  same_operands before beside opens no_runs (more_runs other others) operands h e = absurd h
  same_operands before beside opens (more_runs first rest) no_runs operands h e = absurd h
  same_operands before beside opens (more_runs first rest) (more_runs other others) operands h e =
      by_open (first_open opens) h.0 e (λ later f. same_operands (before_rest stage opens before other) beside (others_open opens) rest others later h.1 f)
    where
      by_open : (b : Bool) → IfOpen b (PartAgrees change stage mode world (beside_first stage opens before beside others) first other) (AreUnbegun change stage mode beside first other)
          → first_result b first (operands_in (others_open opens) rest) ≡ Some operands
          → ((later : List Operand) → operands_in (others_open opens) rest ≡ Some later → operands_in (others_open opens) others ≡ Some later)
          → first_result b other (operands_in (others_open opens) others) ≡ Some operands
      by_open true x f later = more_operands (beside_first stage opens before beside others) first other (operands_in (others_open opens) rest) (operands_in (others_open opens) others) operands x later f
      by_open false x f later = later operands f

-- ---- locks

pub reading_locks : (change : Called) (mode : Mode) (run other : Run) → IsReading change mode run other → AreAmong (locks_in run) (locks_in other)
reading_locks change mode run other h = among_nothing (locks_in run) (locks_in other) (ap locks_in h.is ∙ none h.named)
  where
    none : (b : Bool) → locks_in (to_do (evaluates read) h.kind h.place (more_runs (named_object h.entry b h.named_kind h.named_place) no_runs)) ≡ []
    none true = refl
    none false = refl

unbegun_locks : (change : Called) (stage : Stage) (mode : Mode) (beside : List Effect) (run other : Run) → AreUnbegun change stage mode beside run other → AreAmong (locks_in run) (locks_in other)
unbegun_locks change stage mode beside run other h = among_nothing (locks_in run) (locks_in other) (ap locks_in h.is ∙ no_locks h.tree)

-- a lock of an argument that stands in the old program; those that are followed aside have none
at_once_lock : (stage : Stage) (world : World) (around : List Effect) (ways : List Way) (holes : Holes) (run : Run) (lock : At) → AllFollowed stage world around ways (all_filled_in holes run) → IsAmong lock (locks_in run) → IsAtOnce ways holes
at_once_lock stage world around [] (in_first hole rest) run lock h k = absurd h
at_once_lock stage world around [] (in_others first holes) run lock h k = absurd h
at_once_lock stage world around (at_once ∷ ways) (in_first hole rest) run lock h k = tt
at_once_lock stage world around (untouched tree ∷ ways) (in_first hole rest) run lock h k =
    absurd (subst (IsAmong lock) (pure_locks (filled_in hole run) h.0.pure_aside) (locks_lift hole run lock k))
at_once_lock stage world around (at_once ∷ ways) (in_others first holes) run lock h k = at_once_lock stage world around ways holes run lock h k
at_once_lock stage world around (untouched tree ∷ ways) (in_others first holes) run lock h k = at_once_lock stage world around ways holes run lock h.1 k

module _ (change : Called) (added : IsAdded change) (stage : Stage) (mode : Mode) (world : World) where
  -- the locks of arguments are among those of the expression
  passed_locks : (beside : List Effect) (kind : CType) (other : Run) (inner : Runs) → IsPassed change stage mode world beside (evaluates call) kind other inner → AreAmong (locks_in_all inner) (locks_in other)
  passed_locks beside kind other inner passed lock l =
      let there = lock_of inner lock l in
      let position =
      at_once_lock stage world (effects_in stage inner ++ beside) passed.ways there.holes there.run lock (subst (AllFollowed stage world (effects_in stage inner ++ beside) passed.ways) there.is passed.followed) there.among in
      let place = at_once_there change stage mode world beside added.distinct added.own kind other inner passed there.holes there.run there.is position in
      subst (λ run. IsAmong lock (locks_in run)) (sym place.is) (locks_lift place.hole there.run lock there.among)

  abbrev pub as_call : (beside : List Effect) (doing : Doing) (kind : CType) (other : Run) (inner : Runs) → IsPassed change stage mode world beside doing kind other inner → IsPassed change stage mode world beside (evaluates call) kind other inner
  as_call beside doing kind other inner h = record {
    safe = h.safe;
    elsewhere = h.elsewhere;
    is = refl;
    typed = h.typed;
    kinds = h.kinds;
    ways = h.ways;
    stands = h.stands;
    each = h.each;
    once = h.once;
    followed = h.followed;
    calm = h.calm;
    late = h.late;
    closed = h.closed;
  }

  mutual
    -- the locks of the new tree are among those of the old one
    pub fewer_locks : (beside : List Effect) (run other : Run) → RunAgrees change stage mode world beside run other → AreAmong (locks_in run) (locks_in other)
    fewer_locks beside (done kind result locks) (done other_kind other_result other_locks) h = h.2
    fewer_locks beside (done kind result locks) (to_do doing other_kind place parts) h = absurd h
    fewer_locks beside (to_do doing kind place parts) (done other_kind result locks) h =
        λ lock l. passed_locks beside kind (done other_kind result locks) h.0 (as_call beside doing kind (done other_kind result locks) h.0 h.1) lock (fewer_passed beside h.1.kinds parts h.0 h.2 lock l)
    fewer_locks beside (to_do doing kind place parts) (to_do other other_kind other_place others) (inl h) = fewer_locks_all [] beside (open_parts other) parts others h.3
    fewer_locks beside (to_do doing kind place parts) (to_do other other_kind other_place others) (inr h) =
        λ lock l.
        passed_locks beside kind (to_do other other_kind other_place others) h.0 (as_call beside doing kind (to_do other other_kind other_place others) h.0 h.1) lock (fewer_passed beside h.1.kinds parts h.0 h.2 lock l)

    pub fewer_locks_all : (before beside : List Effect) (opens : Open) (parts others : Runs) → RunsAgree change stage mode world before beside opens parts others → AreAmong (locks_in_all parts) (locks_in_all others)
    fewer_locks_all before beside opens no_runs no_runs h = λ lock k. k
    fewer_locks_all before beside opens no_runs (more_runs other others) h = absurd h
    fewer_locks_all before beside opens (more_runs first rest) no_runs h = absurd h
    fewer_locks_all before beside opens (more_runs first rest) (more_runs other others) h =
        among_joined (locks_in first) (locks_in_all rest) (locks_in other) (locks_in_all others) (by_open (first_open opens) h.0 (λ x. fewer_locks (beside_first stage opens before beside others) first other x))
        (fewer_locks_all (before_rest stage opens before other) beside (others_open opens) rest others h.1)
      where
        by_part : PartAgrees change stage mode world (beside_first stage opens before beside others) first other
            → (RunAgrees change stage mode world (beside_first stage opens before beside others) first other → AreAmong (locks_in first) (locks_in other)) → AreAmong (locks_in first) (locks_in other)
        by_part (inl x) later = later x
        by_part (inr x) later = reading_locks change mode first other x

        by_open : (b : Bool) → IfOpen b (PartAgrees change stage mode world (beside_first stage opens before beside others) first other) (AreUnbegun change stage mode beside first other)
            → (RunAgrees change stage mode world (beside_first stage opens before beside others) first other → AreAmong (locks_in first) (locks_in other)) → AreAmong (locks_in first) (locks_in other)
        by_open true x later = by_part x later
        by_open false x later = unbegun_locks change stage mode beside first other x

    fewer_passed : (beside : List Effect) (kinds : List CType) (parts inner : Runs) → PassesRun change stage mode world beside kinds parts inner → AreAmong (locks_in_all parts) (locks_in_all inner)
    fewer_passed beside kinds no_runs inner h = absurd h
    fewer_passed beside kinds (more_runs named rest) inner h =
        among_both (locks_in named) (locks_in_all rest) (locks_in_all inner) (among_nothing (locks_in named) (locks_in_all inner) (ap locks_in h.0.is)) (fewer_locks_all [] beside every rest inner h.2)
