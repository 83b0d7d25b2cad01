-- What old trees that agree with new ones have of them.
--     gives_tree      an old tree gives a value where the new one does
--     names_tree      it names a closed object only where it is read or written, as the new one does
--     left_effects      what an argument writes, the expression with it writes
use Rattle.std.specs.Prelude.{◌≡◌, refl, ℕ, zero, suc, ◌+◌, ◌==◌, Bool, true, false, not, List, [], ◌∷◌, ◌++◌, All, Some, option_map, slice_get, if◌then◌else◌}
use Rattle.std.proofs.Common.{arith, ap, sym, ◌∙◌, subst, inl, inr}
use Rattle.std.proofs.lemmas.Bool.{true≢false}
use Rattle.dm_runs.specs.declared.run.Occurrence.{Occurrence}
use Rattle.dm_runs.specs.declared.run.Run.{Run}
use Rattle.dm_type.specs.CTypes.{CType}
use Rattle.dm_type.specs.Tables.{Table}
use Rattle.dm_tree.specs.Constants.{constant}
use Rattle.dm_tree.specs.Scenes.{Scene}
use Rattle.dm_tree.specs.Trees.{Label, enumerator, object, function, call, member, choose, comma, declare, is_statement, Spans, Tree, Trees, node, no_trees, more_trees, kind_of, listed}
use Rattle.dm_tree.specs.Typing.{inside, IsEntry, IsWellTyped, AreWellTyped}
use Rattle.dm_meaning.specs.Among.{IsAmong}
use Rattle.dm_meaning.specs.Called.{Called, new_of, gives_value, Gives, GivesBelow}
use Rattle.dm_meaning.specs.CalledWithAll.{AreDistinct}
use Rattle.dm_meaning.specs.Programs.{declaration_of}
use Rattle.dm_meaning.specs.Replaced.{relabelled, facts_of}
use Rattle.dm_meaning.specs.Running.{evaluates, begun, all_begun}
use Rattle.dm_meaning.specs.Wholes.{is_expression, are_expressions}
use Rattle.dm_meaning.proofs.AmongLemmas.{among_left, among_right, among_either}
use Rattle.dm_meaning.proofs.OptionLemmas.{none_is_some, and_left, and_right}
use Rattle.dm_effect.specs.Scoped.{is_in_scope, names_in_scope, same_scopes, is_scoped, are_scoped}
use Rattle.dm_rewrite.specs.Closed.{May, only_closed, may_name, unseen, names_first, FirstIs}
use Rattle.dm_rewrite.specs.ClosedStates.{IsOther, IsName, NamesOnly, AllNameOnly}
use Rattle.dm_rewrite.specs.Effects.{Effect, Stage, own_effects, effects_of, effects_in}
use Rattle.dm_agree.specs.Standing.{runs_below}
use Rattle.dm_agree.specs.Agreement.{Added, Rewriting, Here, here_at, here_below, SameBody, SameBodies, Left, left_at, standing_in, standing_below, standing_for, IsCallOf, AtRun, Agrees, AllAgree, PassesFrom}
use Rattle.dm_plain.specs.Plain.{AreTypesPlain, AllTypesPlain}
use Rattle.dm_refine.proofs.CallBodyLemmas.{not_true, or_other, not_in_scope, scopes_inside, ReadsHere, IsNodeHere, by_here, left_here}
use Rattle.dm_refine.proofs.CallGivesLemmas.{gives}
use Rattle.dm_refine.proofs.CallTreeLemmas.{AddsFunction, IsAddedEntry, AreArguments, at_run}
use Rattle.dm_refine.proofs.ConstantTreeLemmas.{inside_declared}
use Rattle.dm_refine.proofs.ReadFirstLemmas.{either}
use Rattle.dm_late.specs.Settled.{erased, all_erased}
use Rattle.dm_late.proofs.ErasedLemmas.{erased_kind}
use Rattle.dm_late.proofs.SameTreeLemmas.{all_left_among, call_arguments}

-- ---- effects

module _ (at : Spans) (stage : Stage) (it : Rewriting) (run : Run) (n : ℕ) (left : Left) (effect : Effect) (has : IsAmong effect (effects_of stage (begun (erased at left.tree)))) where
  here_effect : (b : Bool) (runs : List Run) (tree : Tree) → IsAmong {X = Left} left (if b then record { runs = runs; tree = tree } ∷ [] else []) → IsAmong effect (effects_of stage (begun (erased at tree)))
  here_effect true runs tree (inl e) = subst (λ (one : Left). IsAmong effect (effects_of stage (begun (erased at one.tree)))) e has
  here_effect true runs tree (inr k) = absurd k
  here_effect false runs tree k = absurd k

  at_effect : (occurrences : List Occurrence) (runs : List Run) (tree : Tree) (below : List Left) → IsAmong left (left_at n occurrences runs tree below)
      → (IsAmong left below → IsAmong effect (effects_of stage (begun (erased at tree)))) → IsAmong effect (effects_of stage (begun (erased at tree)))
  at_effect [] runs tree below l later = later l
  at_effect (one ∷ others) runs tree below l later = here_effect (one.parameter == n) runs tree l

  mutual
    pub left_effect : (here : Here) (tree : Tree) → IsAmong left (standing_in it run n here tree) → IsAmong effect (effects_of stage (begun (erased at tree)))
    left_effect here (node label kind spans parts) l =
        at_effect here.occurrences here.runs (node label kind spans parts) (standing_below it run n label spans parts) l
        (λ k. among_right effect (own_effects stage (evaluates label) (all_begun (all_erased at parts))) (effects_in stage (all_begun (all_erased at parts))) (lefts_effect label spans parts k))

    lefts_effect : (label : Label) (spans : Spans) (trees : Trees) → IsAmong left (standing_below it run n label spans trees) → IsAmong effect (effects_in stage (all_begun (all_erased at trees)))
    lefts_effect label spans no_trees l = absurd l
    lefts_effect label spans (more_trees first rest) l =
        either (IsAmong left (standing_in it run n (here_below it run label spans first) first)) (IsAmong left (standing_below it run n label spans rest))
        (IsAmong effect (effects_of stage (begun (erased at first)) ++ effects_in stage (all_begun (all_erased at rest))))
        (λ k. among_left effect (effects_of stage (begun (erased at first))) (effects_in stage (all_begun (all_erased at rest))) (left_effect (here_below it run label spans first) first k))
        (λ k. among_right effect (effects_of stage (begun (erased at first))) (effects_in stage (all_begun (all_erased at rest))) (lefts_effect label spans rest k))
        (among_either left (standing_in it run n (here_below it run label spans first) first) (standing_below it run n label spans rest) l)

-- ---- labels

gives_renamed : (rename : ℕ → ℕ) (label : Label) → gives_value (relabelled rename label) ≡ gives_value label
gives_renamed rename (enumerator d) = refl
gives_renamed rename (object d) = refl
gives_renamed rename (function d) = refl
gives_renamed rename (declare lengths declarators) = refl
gives_renamed rename label = refl

first_renamed : (rename : ℕ → ℕ) (label : Label) → names_first (evaluates (relabelled rename label)) ≡ names_first (evaluates label)
first_renamed rename (enumerator d) = refl
first_renamed rename (object d) = refl
first_renamed rename (function d) = refl
first_renamed rename (declare lengths declarators) = refl
first_renamed rename label = refl

module _ (at : Spans) (change : Called) (told : (d : ℕ) → option_map facts_of (declaration_of (new_of change) (change.rename d)) ≡ option_map facts_of (declaration_of change.old d))
    (injective : (c d : ℕ) → change.rename c ≡ change.rename d → c ≡ d) (types : Table) (entries : All IsEntry change.declared)
    (entry : IsAddedEntry types change.declared change.added.function change.added.parameters) (runs : List Run) (added : Added) (adds : AddsFunction change added)
    (distinct : AreDistinct change.added.parameters) (own : (p : ℕ) → IsAmong p change.added.parameters → (d : ℕ) → change.rename d ≡ p → ⊥)
    (apart : (d : ℕ) → change.rename d ≡ change.added.function → ⊥) (body_expression : is_expression change.body ≡ true) where
  abbrev ps : List ℕ
  ps = change.added.parameters

  abbrev it : Rewriting
  it = record { runs = runs; added = added; rename = change.rename; value = constant change.old.table change.old.declared }

  run_here : (run : Run) (inner : List Run) (label : Label) (kind : CType) (parts : Trees) (other : Tree) (Passed : Type 0) → AtRun it added run inner label kind parts other Passed
      → IsCallOf it change.added.function ps change.body run inner label kind parts other × Passed
  run_here run inner label kind parts other Passed h = at_run change told injective types entries entry runs added adds distinct added adds run inner label kind parts other Passed h

  -- what stands where an occurrence is
  it_stands : (one : Occurrence) (more : List Occurrence) (runs : List Run) (tree : Tree) (below : List Left) (occurrences : List Occurrence) → occurrences ≡ one ∷ more
      → IsAmong {X = Left} (record { runs = runs; tree = tree }) (left_at one.parameter occurrences runs tree below)
  it_stands one more runs tree below occurrences e =
      subst (λ (found : List Occurrence). IsAmong {X = Left} (record { runs = runs; tree = tree }) (left_at one.parameter found runs tree below)) (sym e)
      (left_here change own (λ d. true) (λ d g. absurd (true≢false g)) one.parameter one more runs tree below refl)

  -- trees that agree have one type
  pub same_kind : (standing : List Run) (tree other : Tree) → Agrees it standing tree other → kind_of tree ≡ kind_of other
  same_kind [] (node label kind spans parts) other h = h.0.1
  same_kind (run ∷ inner) (node label kind spans parts) other h = (run_here run inner label kind parts other _ h).0.1

  pub body_kind : (run : Run) (here : Here) (tree other : Tree) → SameBody it ps run here tree other → kind_of tree ≡ kind_of other
  body_kind run here (node label kind spans parts) other h =
      either (IsNodeHere it here.occurrences label kind other _) (ReadsHere ps here.occurrences label kind parts other) (kind ≡ kind_of other) (λ same. same.same.1) (λ reads. reads.reads.1)
      (by_here it ps here.occurrences here.runs label kind parts other _ h)

  -- ---- values

  abbrev LeftsGive : (ℕ → List Left) → Type 0
  LeftsGive lefts = (n p : ℕ) → slice_get ps n ≡ Some p → (left : Left) → IsAmong left (lefts n) → Gives (erased at left.tree)

  mutual
    body_gives : (run : Run) (here : Here) (tree other : Tree) → SameBody it ps run here tree other → Gives tree → LeftsGive (λ n. standing_in it run n here other) → Gives (erased at other)
    body_gives run here (node label kind spans parts) (node other other_kind other_spans others) h value lefts =
        let was = node other other_kind other_spans others in
        either (IsNodeHere it here.occurrences label kind was (SameBodies it ps run other other_spans parts others)) (ReadsHere ps here.occurrences label kind parts was) (Gives (erased at was))
        (λ same.
        either (gives_value label ≡ true) (GivesBelow label kind parts) (Gives (erased at was)) (λ e. inl (sym (gives_renamed change.rename other) ∙ (sym (ap gives_value same.same.0) ∙ e)))
        (λ k.
        inr (subst (λ (t : CType). GivesBelow other t (all_erased at others)) same.same.1
        (body_below run other other_spans other kind parts others same.below (subst (λ (l : Label). GivesBelow l kind parts) same.same.0 k)
        (subst (λ (occurrences : List Occurrence). LeftsGive (λ n. left_at n occurrences here.runs was (standing_below it run n other other_spans others))) same.none lefts)))) value)
        (λ reads.
        lefts reads.one.parameter reads.parameter reads.found (record { runs = here.runs; tree = was })
        (it_stands reads.one reads.others here.runs was (standing_below it run reads.one.parameter other other_spans others) here.occurrences reads.is))
        (by_here it ps here.occurrences here.runs label kind parts was _ h)

    -- the operands by which a node gives a value
    body_below : (run : Run) (own_label : Label) (spans : Spans) (label : Label) (kind : CType) (parts others : Trees) → SameBodies it ps run own_label spans parts others → GivesBelow (relabelled change.rename label) kind parts
        → LeftsGive (λ n. standing_below it run n own_label spans others) → GivesBelow label kind (all_erased at others)
    body_below run own_label spans (member m) kind (more_trees operand no_trees) (more_trees other no_trees) h value lefts =
        body_gives run (here_below it run own_label spans other) operand other h.0 value (λ n p e left l. lefts n p e left (among_left left (standing_in it run n (here_below it run own_label spans other) other) [] l))
    body_below run own_label spans (member m) kind (more_trees operand no_trees) no_trees h value lefts = absurd h
    body_below run own_label spans (member m) kind (more_trees operand no_trees) (more_trees other (more_trees second others)) h value lefts = absurd h.1
    body_below run own_label spans choose kind (more_trees first (more_trees second (more_trees third no_trees))) (more_trees one (more_trees two (more_trees three no_trees))) h value lefts = (
      erased_kind at two ∙ (sym (body_kind run (here_below it run own_label spans two) second two h.1.0) ∙ value.0),
      body_gives run (here_below it run own_label spans two) second two h.1.0 value.1
          (λ n p e left l.
          lefts n p e left (among_right left (standing_in it run n (here_below it run own_label spans one) one) (standing_below it run n own_label spans (more_trees two (more_trees three no_trees)))
          (among_left left (standing_in it run n (here_below it run own_label spans two) two) (standing_below it run n own_label spans (more_trees three no_trees)) l))),
      erased_kind at three ∙ (sym (body_kind run (here_below it run own_label spans three) third three h.1.1.0) ∙ value.2),
      body_gives run (here_below it run own_label spans three) third three h.1.1.0 value.3
          (λ n p e left l.
          lefts n p e left (among_right left (standing_in it run n (here_below it run own_label spans one) one) (standing_below it run n own_label spans (more_trees two (more_trees three no_trees)))
          (among_right left (standing_in it run n (here_below it run own_label spans two) two) (standing_below it run n own_label spans (more_trees three no_trees))
          (among_left left (standing_in it run n (here_below it run own_label spans three) three) [] l)))),
    )
    body_below run own_label spans choose kind (more_trees first (more_trees second (more_trees third no_trees))) no_trees h value lefts = absurd h
    body_below run own_label spans choose kind (more_trees first (more_trees second (more_trees third no_trees))) (more_trees one no_trees) h value lefts = absurd h.1
    body_below run own_label spans choose kind (more_trees first (more_trees second (more_trees third no_trees))) (more_trees one (more_trees two no_trees)) h value lefts = absurd h.1.1
    body_below run own_label spans choose kind (more_trees first (more_trees second (more_trees third no_trees))) (more_trees one (more_trees two (more_trees three (more_trees four others)))) h value lefts = absurd h.1.1.1
    body_below run own_label spans comma kind (more_trees first (more_trees second no_trees)) (more_trees one (more_trees two no_trees)) h value lefts = (
      erased_kind at two ∙ (sym (body_kind run (here_below it run own_label spans two) second two h.1.0) ∙ value.0),
      body_gives run (here_below it run own_label spans two) second two h.1.0 value.1
          (λ n p e left l.
          lefts n p e left (among_right left (standing_in it run n (here_below it run own_label spans one) one) (standing_below it run n own_label spans (more_trees two no_trees))
          (among_left left (standing_in it run n (here_below it run own_label spans two) two) [] l))),
    )
    body_below run own_label spans comma kind (more_trees first (more_trees second no_trees)) no_trees h value lefts = absurd h
    body_below run own_label spans comma kind (more_trees first (more_trees second no_trees)) (more_trees one no_trees) h value lefts = absurd h.1
    body_below run own_label spans comma kind (more_trees first (more_trees second no_trees)) (more_trees one (more_trees two (more_trees three others))) h value lefts = absurd h.1.1
    body_below run own_label spans label kind parts others h value lefts = absurd (value)

  module _ (body_value : Gives change.body) where
    mutual
      pub gives_tree : (scene : Scene) → scene.declared ≡ change.declared → (tree : Tree) → IsWellTyped scene tree → (standing : List Run) (other : Tree) → Agrees it standing tree other → Gives tree → Gives (erased at other)
      gives_tree scene e (node label kind spans parts) typed [] (node other other_kind other_spans others) h value =
          either (gives_value label ≡ true) (GivesBelow label kind parts) (Gives (erased at (node other other_kind other_spans others))) (λ g. inl (sym (gives_renamed change.rename other) ∙ (sym (ap gives_value h.0.0) ∙ g)))
          (λ k.
          inr (subst (λ (t : CType). GivesBelow other t (all_erased at others)) h.0.1
          (gives_below (inside scene label (listed parts)) (inside_declared scene label (listed parts) ∙ e) other other_spans other kind parts others typed.1 h.1 (subst (λ (l : Label). GivesBelow l kind parts) h.0.0 k)))) value
      gives_tree scene e (node label kind spans no_trees) typed (run ∷ inner) other h value = absurd (none_is_some change.added.function (run_here run inner label kind no_trees other _ h).0.2)
      gives_tree scene e (node label kind spans (more_trees named rest)) typed (run ∷ inner) other h value =
          let there = run_here run inner label kind (more_trees named rest) other _ h in
          body_gives run (here_at run inner other) change.body other there.0.3 body_value
          (λ n p f left l.
          passed_give (inside scene label (named ∷ listed rest)) (inside_declared scene label (named ∷ listed rest) ∙ e) 0 ps rest
          (call_arguments at change told injective types entries entry runs added adds distinct own apart body_expression scene e label kind named rest there.0.0 there.0.2 typed.0 typed.1.0) typed.1.1 run inner other there.1 n p f n
          (omega arith) left l)

      gives_below : (scene : Scene) → scene.declared ≡ change.declared → (own_label : Label) (spans : Spans) (label : Label) (kind : CType) (parts others : Trees) → AreWellTyped scene parts → AllAgree it own_label spans parts others
          → GivesBelow (relabelled change.rename label) kind parts → GivesBelow label kind (all_erased at others)
      gives_below scene e own_label spans (member m) kind (more_trees operand no_trees) (more_trees other no_trees) typed h value =
          gives_tree scene e operand typed.0 (runs_below runs own_label spans other) other h.0 value
      gives_below scene e own_label spans (member m) kind (more_trees operand no_trees) no_trees typed h value = absurd h
      gives_below scene e own_label spans (member m) kind (more_trees operand no_trees) (more_trees other (more_trees second others)) typed h value = absurd h.1
      gives_below scene e own_label spans choose kind (more_trees first (more_trees second (more_trees third no_trees))) (more_trees one (more_trees two (more_trees three no_trees))) typed h value = (
        erased_kind at two ∙ (sym (same_kind (runs_below runs own_label spans two) second two h.1.0) ∙ value.0),
        gives_tree scene e second typed.1.0 (runs_below runs own_label spans two) two h.1.0 value.1,
        erased_kind at three ∙ (sym (same_kind (runs_below runs own_label spans three) third three h.1.1.0) ∙ value.2),
        gives_tree scene e third typed.1.1.0 (runs_below runs own_label spans three) three h.1.1.0 value.3,
      )
      gives_below scene e own_label spans choose kind (more_trees first (more_trees second (more_trees third no_trees))) no_trees typed h value = absurd h
      gives_below scene e own_label spans choose kind (more_trees first (more_trees second (more_trees third no_trees))) (more_trees one no_trees) typed h value = absurd h.1
      gives_below scene e own_label spans choose kind (more_trees first (more_trees second (more_trees third no_trees))) (more_trees one (more_trees two no_trees)) typed h value = absurd h.1.1
      gives_below scene e own_label spans choose kind (more_trees first (more_trees second (more_trees third no_trees))) (more_trees one (more_trees two (more_trees three (more_trees four others)))) typed h value = absurd h.1.1.1
      gives_below scene e own_label spans comma kind (more_trees first (more_trees second no_trees)) (more_trees one (more_trees two no_trees)) typed h value = (
        erased_kind at two ∙ (sym (same_kind (runs_below runs own_label spans two) second two h.1.0) ∙ value.0),
        gives_tree scene e second typed.1.0 (runs_below runs own_label spans two) two h.1.0 value.1,
      )
      gives_below scene e own_label spans comma kind (more_trees first (more_trees second no_trees)) no_trees typed h value = absurd h
      gives_below scene e own_label spans comma kind (more_trees first (more_trees second no_trees)) (more_trees one no_trees) typed h value = absurd h.1
      gives_below scene e own_label spans comma kind (more_trees first (more_trees second no_trees)) (more_trees one (more_trees two (more_trees three others))) typed h value = absurd h.1.1
      gives_below scene e own_label spans label kind parts others typed h value = absurd (value)

      pub passed_give : (scene : Scene) → scene.declared ≡ change.declared → (m : ℕ) (qs : List ℕ) (rest : Trees) → AreArguments qs rest → AreWellTyped scene rest → (run : Run) (inner : List Run) (other : Tree)
          → PassesFrom it m rest run inner other → (k p : ℕ) → slice_get qs k ≡ Some p → (n : ℕ) → n ≡ m + k → (left : Left) → IsAmong left (standing_for it run inner n other) → Gives (erased at left.tree)
      passed_give scene e m [] rest arguments typed run inner other h i p f n at left l = absurd (none_is_some p f)
      passed_give scene e m (q ∷ qs) no_trees arguments typed run inner other h i p f n at left l = absurd arguments
      passed_give scene e m (q ∷ qs) (more_trees first rest) arguments typed run inner other h zero p f n at left l =
          let same : n ≡ m = omega (arith, at) in
          gives_tree scene e first typed.0 left.runs left.tree
          (all_left_among (λ left_runs left_tree. Agrees it left_runs first left_tree) (standing_for it run inner m other) h.0 left (subst (λ i. IsAmong left (standing_for it run inner i other)) same l))
          (gives change.declared entries scene e first typed.0 arguments.0.0 arguments.0.2)
      passed_give scene e m (q ∷ qs) (more_trees first rest) arguments typed run inner other h (suc i) p f n at left l =
          passed_give scene e (suc m) qs rest arguments.1 typed.1 run inner other h.1 i p f n (omega (arith, at)) left l

  -- ---- closed objects

  module _ (automatic : ℕ → Bool) (d : ℕ) (local : automatic (change.rename d) ≡ true) (body_scoped : is_scoped automatic ps change.body ≡ true) (body_plain : AreTypesPlain automatic change.body) where
    -- the expression names none of them
    other_here : (label other : Label) → label ≡ relabelled change.rename other → names_in_scope automatic ps label ≡ true → IsOther d other
    other_here label (object c) e h =
        λ f. true≢false (sym (ap (λ n. automatic (change.rename n)) f ∙ local)
        ∙ not_true (automatic (change.rename c))
        (or_other (not (automatic (change.rename c))) (is_in_scope ps (change.rename c)) (not_in_scope (change.rename c) ps (λ p k. own p k c)) (sym (ap (names_in_scope automatic ps) e) ∙ h)))
    other_here label other e h = tt

    first_is : (may : May) (P Q : Type 0) → P → FirstIs may P Q
    first_is only_closed P Q h = h
    first_is may_name P Q h = inl h
    first_is unseen P Q h = tt

    abbrev LeftsOnly : (ℕ → List Left) → Type 0
    LeftsOnly lefts = (n p : ℕ) → slice_get ps n ≡ Some p → (left : Left) → IsAmong left (lefts n) → NamesOnly d (erased at left.tree)

    mutual
      body_names : (run : Run) (here : Here) (tree other : Tree) → is_expression tree ≡ true → is_scoped automatic ps tree ≡ true → AreTypesPlain automatic tree → SameBody it ps run here tree other
          → LeftsOnly (λ n. standing_in it run n here other) → NamesOnly d (erased at other)
      body_names run here (node label kind spans parts) (node other other_kind other_spans others) expression scoped plain h lefts =
          let was = node other other_kind other_spans others in
          either (IsNodeHere it here.occurrences label kind was (SameBodies it ps run other other_spans parts others)) (ReadsHere ps here.occurrences label kind parts was) (NamesOnly d (erased at was))
          (λ same. (
            other_here label other same.same.0 (and_left (names_in_scope automatic ps label) _ scoped),
            bodies_name (names_first (evaluates other)) run other other_spans parts others (and_right (not (is_statement label)) _ expression)
                (scopes_inside automatic ps label parts (not_true (is_statement label) (and_left (not (is_statement label)) _ expression)) plain.0 (and_right (names_in_scope automatic ps label) _ scoped)) plain.1 same.below
                (subst (λ (occurrences : List Occurrence). LeftsOnly (λ n. left_at n occurrences here.runs was (standing_below it run n other other_spans others))) same.none lefts),
          ))
          (λ reads.
          lefts reads.one.parameter reads.parameter reads.found (record { runs = here.runs; tree = was })
          (it_stands reads.one reads.others here.runs was (standing_below it run reads.one.parameter other other_spans others) here.occurrences reads.is))
          (by_here it ps here.occurrences here.runs label kind parts was _ h)

      bodies_name : (may : May) (run : Run) (label : Label) (spans : Spans) (trees others : Trees) → are_expressions trees ≡ true → are_scoped automatic (same_scopes ps trees) trees ≡ true → AllTypesPlain automatic trees
          → SameBodies it ps run label spans trees others → LeftsOnly (λ n. standing_below it run n label spans others) → AllNameOnly d may (all_erased at others)
      bodies_name may run label spans no_trees no_trees expression scoped plain h lefts = tt
      bodies_name may run label spans no_trees (more_trees other others) expression scoped plain h lefts = absurd h
      bodies_name may run label spans (more_trees one rest) no_trees expression scoped plain h lefts = absurd h
      bodies_name may run label spans (more_trees one rest) (more_trees other others) expression scoped plain h lefts =
          let here = here_below it run label spans other in (
            first_is may (NamesOnly d (erased at other)) (IsName d (erased at other))
                (body_names run here one other (and_left (is_expression one) _ expression) (and_left (is_scoped automatic ps one) _ scoped) plain.0 h.0
                (λ n p e left l. lefts n p e left (among_left left (standing_in it run n here other) (standing_below it run n label spans others) l))),
            bodies_name only_closed run label spans rest others (and_right (is_expression one) _ expression) (and_right (is_scoped automatic ps one) _ scoped) plain.1 h.1
                (λ n p e left l. lefts n p e left (among_right left (standing_in it run n here other) (standing_below it run n label spans others) l)),
          )

    still_other : (label other : Label) → label ≡ relabelled change.rename other → IsOther (change.rename d) label → IsOther d other
    still_other label (object c) e h = λ f. (subst (IsOther (change.rename d)) e h) (ap change.rename f)
    still_other label other e h = tt

    named_label : (x : ℕ) (label : Label) → object x ≡ relabelled change.rename label → (c : ℕ) × (label ≡ object c) × (x ≡ change.rename c)
    named_label x (object c) e = (c, refl, cc)
    named_label x (enumerator c) e = absurd (cc)
    named_label x (function c) e = absurd (cc)
    named_label x (declare lengths declarators) e = absurd (cc)
    named_label x label e = absurd (cc)

    no_call : (x : ℕ) → object x ≡ call → ⊥
    no_call x e = cc

    name_is : (kind : CType) (spans : Spans) (standing : List Run) (other : Tree) → Agrees it standing (node (object (change.rename d)) kind spans no_trees) other → IsName d (erased at other)
    name_is kind spans [] (node label other_kind other_spans no_trees) h =
        let found = named_label (change.rename d) label h.0.0 in
        (other_kind, _, ap (λ (l : Label). erased at (node l other_kind other_spans no_trees)) (found.1 ∙ ap object (sym (injective d found.0 found.2))))
    name_is kind spans [] (node label other_kind other_spans (more_trees first rest)) h = absurd h.1
    name_is kind spans (run ∷ inner) other h = absurd (no_call (change.rename d) (run_here run inner (object (change.rename d)) kind no_trees other _ h).0.0)

    first_named : (may : May) (first other : Tree) (standing : List Run) → Agrees it standing first other → (NamesOnly (change.rename d) first → NamesOnly d (erased at other))
        → FirstIs may (NamesOnly (change.rename d) first) (IsName (change.rename d) first) → FirstIs may (NamesOnly d (erased at other)) (IsName d (erased at other))
    first_named only_closed first other standing h f k = f k
    first_named may_name first other standing h f (inl k) = inl (f k)
    first_named may_name first other standing h f (inr k) = inr (name_is k.0 k.1 standing other (subst (λ (t : Tree). Agrees it standing t other) k.2 h))
    first_named unseen first other standing h f k = tt

    mutual
      pub names_tree : (scene : Scene) → scene.declared ≡ change.declared → (tree : Tree) → IsWellTyped scene tree → (standing : List Run) (other : Tree) → Agrees it standing tree other
          → NamesOnly (change.rename d) tree → NamesOnly d (erased at other)
      names_tree scene e (node label kind spans parts) typed [] (node other other_kind other_spans others) h only = (
        still_other label other h.0.0 only.0,
        names_trees (inside scene label (listed parts)) (inside_declared scene label (listed parts) ∙ e) (names_first (evaluates other)) other other_spans parts others typed.1 h.1
            (subst (λ (may : May). AllNameOnly (change.rename d) may parts) (ap (λ (l : Label). names_first (evaluates l)) h.0.0 ∙ first_renamed change.rename other) only.1),
      )
      names_tree scene e (node label kind spans no_trees) typed (run ∷ inner) other h only = absurd (none_is_some change.added.function (run_here run inner label kind no_trees other _ h).0.2)
      names_tree scene e (node label kind spans (more_trees named rest)) typed (run ∷ inner) other h only =
          let there = run_here run inner label kind (more_trees named rest) other _ h in
          body_names run (here_at run inner other) change.body other body_expression body_scoped body_plain there.0.3
          (λ n p f left l.
          passed_names (inside scene label (named ∷ listed rest)) (inside_declared scene label (named ∷ listed rest) ∙ e) 0 ps rest
          (call_arguments at change told injective types entries entry runs added adds distinct own apart body_expression scene e label kind named rest there.0.0 there.0.2 typed.0 typed.1.0) typed.1.1 only.1.1 run inner other there.1 n p f
          n (omega arith) left l)

      pub names_trees : (scene : Scene) → scene.declared ≡ change.declared → (may : May) (label : Label) (spans : Spans) (trees others : Trees) → AreWellTyped scene trees → AllAgree it label spans trees others
          → AllNameOnly (change.rename d) may trees → AllNameOnly d may (all_erased at others)
      names_trees scene e may label spans no_trees no_trees typed h only = tt
      names_trees scene e may label spans no_trees (more_trees other others) typed h only = absurd h
      names_trees scene e may label spans (more_trees first rest) no_trees typed h only = absurd h
      names_trees scene e may label spans (more_trees first rest) (more_trees other others) typed h only = (
        first_named may first other (runs_below runs label spans other) h.0 (λ k. names_tree scene e first typed.0 (runs_below runs label spans other) other h.0 k) only.0,
        names_trees scene e only_closed label spans rest others typed.1 h.1 only.1,
      )

      pub passed_names : (scene : Scene) → scene.declared ≡ change.declared → (m : ℕ) (qs : List ℕ) (rest : Trees) → AreArguments qs rest → AreWellTyped scene rest → AllNameOnly (change.rename d) only_closed rest
          → (run : Run) (inner : List Run) (other : Tree) → PassesFrom it m rest run inner other → (k p : ℕ) → slice_get qs k ≡ Some p → (n : ℕ) → n ≡ m + k → (left : Left)
          → IsAmong left (standing_for it run inner n other) → NamesOnly d (erased at left.tree)
      passed_names scene e m [] rest arguments typed only run inner other h i p f n at left l = absurd (none_is_some p f)
      passed_names scene e m (q ∷ qs) no_trees arguments typed only run inner other h i p f n at left l = absurd arguments
      passed_names scene e m (q ∷ qs) (more_trees first rest) arguments typed only run inner other h zero p f n at left l =
          let same : n ≡ m = omega (arith, at) in
          names_tree scene e first typed.0 left.runs left.tree
          (all_left_among (λ left_runs left_tree. Agrees it left_runs first left_tree) (standing_for it run inner m other) h.0 left (subst (λ i. IsAmong left (standing_for it run inner i other)) same l)) only.0
      passed_names scene e m (q ∷ qs) (more_trees first rest) arguments typed only run inner other h (suc i) p f n at left l =
          passed_names scene e (suc m) qs rest arguments.1 typed.1 only.1 run inner other h.1 i p f n (omega (arith, at)) left l
