-- Where all trees of the old program name what a declaration declares only where it is read or written, so do those of the new program.
use Rattle.std.specs.Prelude.{◌≡◌, refl, ◌⊎◌, ℕ, ◌==◌, Bool, true, false, List, [], ◌∷◌, Option, Some, None, if◌then◌else◌}
use Rattle.std.proofs.Common.{true≢false, ap, sym, ◌∙◌, subst, inl, inr}
use Rattle.dm_type.specs.CTypes.{CType}
use Rattle.dm_tree.specs.Trees.{Label, object, function, read, store, update, count, call, sizeof_tree, is_statement, Spans, Tree, Trees, node, no_trees, more_trees, trees_of, listed, parts_of}
use Rattle.dm_meaning.specs.Among.{IsAmong}
use Rattle.dm_meaning.specs.Called.{Called, new_of}
use Rattle.dm_meaning.specs.Operations.{designates, Objects, object_named, whole}
use Rattle.dm_meaning.specs.Programs.{Definition, definition_of}
use Rattle.dm_meaning.specs.Replaced.{relabelled}
use Rattle.dm_meaning.specs.Running.{evaluates, done, to_do, no_runs, begun, all_begun, Open, every}
use Rattle.dm_meaning.specs.Values.{numbered}
use Rattle.dm_meaning.proofs.GrowLemmas.{equal_is, equal_of}
use Rattle.dm_meaning.proofs.MatchLemmas.{IsNamedRun}
use Rattle.dm_meaning.proofs.OptionLemmas.{none_is_some, some_is_some}
use Rattle.dm_meaning.proofs.RunLemmas.{OptionAgrees}
use Rattle.dm_meaning.proofs.YieldLemmas.{may_give}
use Rattle.dm_rewrite.specs.Closed.{May, only_closed, may_name, unseen, names_first, FirstIs, IsNotNamed, IsClosedIn, IsClosedInAll, IsPlace}
use Rattle.dm_rewrite.specs.ClosedStates.{IsOther, IsName, NamesOnly, AllNameOnly, ListNamesOnly, ProgramNamesOnly}
use Rattle.dm_rewrite.specs.Effects.{Effect, Stage}
use Rattle.dm_rewrite.proofs.ClosedStateLemmas.{begun_closed}
use Rattle.dm_central.specs.Agreement.{beside_first, before_rest, BegunOutside, AllBegun, BegunPasses}
use Rattle.dm_central.specs.Bodies.{Known, frame_stage, AreNamedOnce, Agrees, AllAgree, DefinitionAgrees, CallsInPlace}
use Rattle.dm_central.specs.ClosedPrograms.{AreListed}
use Rattle.dm_central.proofs.BodyLemmas.{gives_label, named_runs}
use Rattle.dm_central.proofs.SteadyLemmas.{closed_among}
use Rattle.dm_central.proofs.TopLemmas.{found_among}

module _ (change : Called) (known : Known) (calling : CallsInPlace change known) (d : ℕ) (picked : known.closed d ≡ true) where
  -- a frame in which the declaration names an object
  abbrev here : Objects
  here = (d, 0) ∷ []

  abbrev stage : Stage
  stage = frame_stage change known [] here

  named_is : (e n : ℕ) → object_named here e ≡ Some n → (d ≡ e) × (n ≡ 0)
  named_is e n h = by_case (d == e) refl h
    where
      by_case : (b : Bool) → (d == e) ≡ b → (if b then Some 0 else None) ≡ Some n → (d ≡ e) × (n ≡ 0)
      by_case true f g = (equal_of d e f, sym (some_is_some 0 n g))
      by_case false f g = absurd (none_is_some n g)

  is_closed : IsAmong 0 stage.closed
  is_closed = closed_among known.closed here d 0 picked (inl refl)

  once : AreNamedOnce known [] here
  once = record {
    apart = λ c e n f g. sym (named_is c n f).0 ∙ (named_is e n g).0;
    closed_ones = λ e n k f. subst (λ m. IsAmong m stage.closed) (sym (named_is e n f).1) is_closed;
    closed_names = λ e n l f. subst (λ c. known.closed c ≡ true) (named_is e n f).0 picked;
  }

  -- ---- labels

  is_other : (label : Label) → IsNotNamed 0 here (evaluates label) → IsOther (change.rename d) (relabelled change.rename label)
  is_other (object e) h = λ f. h (ap (λ b. if b then Some 0 else None) (equal_is d e (sym (calling.injective e d f))))
  is_other label h = tt

  still_other : (label : Label) → IsOther d label → IsOther (change.rename d) (relabelled change.rename label)
  still_other (object e) h = λ f. h (calling.injective e d f)
  still_other label h = tt

  same_first : (label : Label) → names_first (evaluates (relabelled change.rename label)) ≡ names_first (evaluates label)
  same_first label = by_label label
    where
      by_label : (l : Label) → names_first (evaluates (relabelled change.rename l)) ≡ names_first (evaluates l)
      by_label (object e) = refl
      by_label l = refl

  with_label : (label other : Label) (parts : Trees) → label ≡ relabelled change.rename other → IsOther (change.rename d) (relabelled change.rename other) → AllNameOnly (change.rename d) (names_first (evaluates other)) parts
      → IsOther (change.rename d) label × AllNameOnly (change.rename d) (names_first (evaluates label)) parts
  with_label label other parts e h k = (
    subst (IsOther (change.rename d)) (sym e) h,
    subst (λ may. AllNameOnly (change.rename d) may parts) (sym (ap (λ l. names_first (evaluates l)) e ∙ same_first other)) k,
  )

  -- ---- expressions

  -- a name of it
  no_parts : (beside before : List Effect) (opens : Open) (parts others : Trees) → AllBegun change stage known.safe before beside opens parts others → others ≡ no_trees → parts ≡ no_trees
  no_parts beside before opens no_trees others h e = refl
  no_parts beside before opens (more_trees first rest) no_trees h e = absurd h
  no_parts beside before opens (more_trees first rest) (more_trees other others) h e = absurd (not_none e)
    where
      not_none : more_trees other others ≡ no_trees → ⊥
      not_none f = cc

  name_is : (beside : List Effect) (tree other : Tree) → BegunOutside change stage known.safe beside tree other → IsPlace 0 here (begun other) → IsName (change.rename d) tree
  name_is beside tree (node label kind spans parts) h (inr (k, locks, e)) = absurd (not_done e)
    where
      not_done : to_do (evaluates label) kind spans.place (all_begun parts) ≡ done k (designates (whole (numbered 0))) locks → ⊥
      not_done f = cc
  name_is beside (node label kind spans parts) (node other other_kind other_spans others) h (inl (e, k, place, is, found)) = by_case h
    where
      its_label : to_do (evaluates other) other_kind other_spans.place (all_begun others) ≡ to_do (evaluates (object e)) k place no_runs → other ≡ object e
      its_label f = cc

      its_parts : to_do (evaluates other) other_kind other_spans.place (all_begun others) ≡ to_do (evaluates (object e)) k place no_runs → all_begun others ≡ no_runs
      its_parts f = cc

      renamed : other ≡ object d
      renamed = its_label is ∙ ap object (sym (named_is e 0 found).0)

      by_case : BegunOutside change stage known.safe beside (node label kind spans parts) (node other other_kind other_spans others) → IsName (change.rename d) (node label kind spans parts)
      by_case (inl g) = (
        kind,
        spans,
        ap (λ l. node l kind spans parts) (g.0 ∙ ap (relabelled change.rename) renamed)
            ∙ ap (λ ps. node (object (change.rename d)) kind spans ps) (no_parts beside [] _ parts others g.2 (named_runs others (its_parts is))),
      )
      by_case (inr g) =
          absurd (true≢false (sym (gives_label change calling.added.gives stage known.safe beside (node label kind spans parts) (node other other_kind other_spans others) h (ap may_give g.1.is)) ∙ ap may_give renamed))

  first_names : (may : May) (beside : List Effect) (first other : Tree) → BegunOutside change stage known.safe beside first other → (IsClosedIn 0 here (begun other) → NamesOnly (change.rename d) first)
      → FirstIs may (IsClosedIn 0 here (begun other)) (IsPlace 0 here (begun other)) → FirstIs may (NamesOnly (change.rename d) first) (IsName (change.rename d) first)
  first_names only_closed beside first other h later c = later c
  first_names may_name beside first other h later (inl c) = inl (later c)
  first_names may_name beside first other h later (inr c) = inr (name_is beside first other h c)
  first_names unseen beside first other h later c = tt

  -- the name of the added function
  function_names : (named : Tree) → IsNamedRun change (begun named) → NamesOnly (change.rename d) named
  function_names (node label kind spans parts) h =
      subst (λ ps. NamesOnly (change.rename d) (node label kind spans ps)) (sym (named_runs parts (its_parts h.is)))
      (subst (λ l. NamesOnly (change.rename d) (node l kind spans no_trees)) (sym (its_label h.is)) (tt, tt))
    where
      its_label : to_do (evaluates label) kind spans.place (all_begun parts) ≡ to_do (evaluates (function change.added.function)) h.kind h.place no_runs → label ≡ function change.added.function
      its_label e = cc

      its_parts : to_do (evaluates label) kind spans.place (all_begun parts) ≡ to_do (evaluates (function change.added.function)) h.kind h.place no_runs → all_begun parts ≡ no_runs
      its_parts e = cc

  call_names : (label : Label) (kind : CType) (spans : Spans) (parts : Trees) → label ≡ call → AllNameOnly (change.rename d) only_closed parts → NamesOnly (change.rename d) (node label kind spans parts)
  call_names label kind spans parts e h = subst (λ l. NamesOnly (change.rename d) (node l kind spans parts)) (sym e) (tt, h)

  mutual
    tree_names : (beside : List Effect) (tree other : Tree) → BegunOutside change stage known.safe beside tree other → IsClosedIn 0 here (begun other) → NamesOnly (change.rename d) tree
    tree_names beside (node label kind spans parts) (node other other_kind other_spans others) (inl h) c =
        with_label label other parts h.0 (is_other other c.0) (all_names (names_first (evaluates other)) [] beside _ parts others h.2 c.1)
    tree_names beside (node label kind spans parts) other (inr h) c =
        call_names label kind spans parts h.1.is (passes_names beside h.1.kinds parts h.0 h.2 (h.1.closed 0 is_closed))

    all_names : (may : May) (before beside : List Effect) (opens : Open) (trees others : Trees) → AllBegun change stage known.safe before beside opens trees others → IsClosedInAll 0 here may (all_begun others)
        → AllNameOnly (change.rename d) may trees
    all_names may before beside opens no_trees others h c = tt
    all_names may before beside opens (more_trees first rest) no_trees h c = absurd h
    all_names may before beside opens (more_trees first rest) (more_trees other others) h c = (
      first_names may (beside_first stage opens before beside (all_begun others)) first other h.0 (λ k. tree_names (beside_first stage opens before beside (all_begun others)) first other h.0 k) c.0,
      all_names only_closed (before_rest stage opens before (begun other)) beside _ rest others h.1 c.1,
    )

    passes_names : (beside : List Effect) (kinds : List CType) (parts arguments : Trees) → BegunPasses change stage known.safe beside kinds parts arguments → IsClosedInAll 0 here only_closed (all_begun arguments)
        → AllNameOnly (change.rename d) only_closed parts
    passes_names beside kinds no_trees arguments h c = absurd h
    passes_names beside kinds (more_trees named rest) arguments h c = (function_names named h.0, all_names only_closed [] beside every rest arguments h.2 c)

  -- ---- statements

  statement_first : (label : Label) → is_statement label ≡ true → names_first (evaluates label) ≡ only_closed
  statement_first label e = by_label label e
    where
      by_label : (l : Label) → is_statement l ≡ true → names_first (evaluates l) ≡ only_closed
      by_label read f = absurd (true≢false (sym f))
      by_label store f = absurd (true≢false (sym f))
      by_label (update op works) f = absurd (true≢false (sym f))
      by_label (count plus before) f = absurd (true≢false (sym f))
      by_label sizeof_tree f = absurd (true≢false (sym f))
      by_label l f = refl

  mutual
    statement_names : (tree other : Tree) → Agrees change known tree other → NamesOnly d other → NamesOnly (change.rename d) tree
    statement_names (node label kind spans parts) (node other other_kind other_spans others) (inl h) k =
        with_label label other parts h.1 (still_other other k.0)
        (subst (λ may. AllNameOnly (change.rename d) may parts) (sym (statement_first other h.0)) (all_statements parts others h.4 (subst (λ may. AllNameOnly d may others) (statement_first other h.0) k.1)))
    statement_names (node label kind spans parts) other (inr h) k =
        tree_names [] (node label kind spans parts) other (h.1 [] here once) (begun_closed 0 d here ((λ e. refl), tt) other k)

    all_statements : (trees others : Trees) → AllAgree change known trees others → AllNameOnly d only_closed others → AllNameOnly (change.rename d) only_closed trees
    all_statements no_trees others h k = tt
    all_statements (more_trees first rest) no_trees h k = absurd h
    all_statements (more_trees first rest) (more_trees other others) h k = (statement_names first other h.0 k.0, all_statements rest others h.1 k.1)

  -- ---- functions

  listed_names : (trees : Trees) → AllNameOnly (change.rename d) only_closed trees → ListNamesOnly (change.rename d) (listed trees)
  listed_names no_trees h = tt
  listed_names (more_trees first rest) h = (h.0, listed_names rest h.1)

  names_listed : (trees : Trees) → ListNamesOnly d (listed trees) → AllNameOnly d only_closed trees
  names_listed no_trees h = tt
  names_listed (more_trees first rest) h = (h.0, names_listed rest h.1)

  body_names : (definition other : Definition) → DefinitionAgrees change known definition other → ListNamesOnly d (parts_of other.body) → ListNamesOnly (change.rename d) (parts_of definition.body)
  body_names definition other h k = listed_names (trees_of definition.body) (all_statements (trees_of definition.body) (trees_of other.body) h.2 (names_listed (trees_of other.body) k))

  pub new_names : AreListed change → ProgramNamesOnly d change.old → NamesOnly (change.rename d) change.body → ProgramNamesOnly (change.rename d) (new_of change)
  new_names all old body definition l = by_origin (all definition l)
    where
      by_found : (g : ℕ) (one other : Option Definition) → OptionAgrees (DefinitionAgrees change known) one other → one ≡ Some definition → definition_of change.old g ≡ other → ListNamesOnly (change.rename d) (parts_of definition.body)
      by_found g None other h e f = absurd (none_is_some definition e)
      by_found g (Some one) None h e f = absurd h
      by_found g (Some one) (Some other) h e f =
          body_names definition other (subst (λ x. DefinitionAgrees change known x other) (some_is_some one definition e) h) (old other (found_among change.old.functions g other f))

      by_origin : (definition ≡ change.added) ⊎ ((g : ℕ) × (definition_of (new_of change) (change.rename g) ≡ Some definition)) → ListNamesOnly (change.rename d) (parts_of definition.body)
      by_origin (inl e) = subst (λ (x : Definition). ListNamesOnly (change.rename d) (parts_of x.body)) (sym e) (subst (ListNamesOnly (change.rename d)) (sym calling.returns) ((tt, (body, tt)), tt))
      by_origin (inr (g, e)) = by_found g (definition_of (new_of change) (change.rename g)) (definition_of change.old g) (calling.functions g) e refl
