-- Trees of statements that agree: their nodes are the same, or calls of the added function, so that statements begin, decide and end alike.
use Rattle.std.specs.Prelude.{◌≡◌, refl, ◌⊎◌, ℕ, ◌+◌, ◌≤◌, ◌==◌, Bool, true, false, not, ◌&&◌, List, [], ◌∷◌, Option, Some, None, if◌then◌else◌}
use Rattle.std.proofs.Common.{arith, true≢false, ap, sym, ◌∙◌, inl, inr}
use Rattle.dm_type.specs.CTypes.{CType}
use Rattle.dm_tree.specs.Trees.{Label, function, choose, comma, member, call, case, is_statement, Spans, Tree, Trees, node, no_trees, more_trees, label_of, kind_of, trees_of, parts_of}
use Rattle.dm_meaning.specs.Called.{Called, SameCase, Gives}
use Rattle.dm_meaning.specs.CalledWithAll.{given}
use Rattle.dm_meaning.specs.Operations.{Objects}
use Rattle.dm_meaning.specs.Programs.{Definition}
use Rattle.dm_meaning.specs.Replaced.{relabelled, Zipped}
use Rattle.dm_meaning.specs.Running.{evaluates, to_do, no_runs, more_runs, begun, all_begun, open_of, Open, every}
use Rattle.dm_meaning.specs.Wholes.{is_expression, are_expressions}
use Rattle.dm_meaning.proofs.GrowLemmas.{differ_is, equal_is}
use Rattle.dm_meaning.proofs.LikenessLemmas.{AllAlike, SameNode, CallNode, Likeness, listed_agrees}
use Rattle.dm_meaning.proofs.MatchLemmas.{relabelled_gives, IsNamedRun}
use Rattle.dm_meaning.proofs.OptionLemmas.{none_is_some, some_is_some}
use Rattle.dm_meaning.proofs.PassRunLemmas.{AllYield}
use Rattle.dm_meaning.proofs.PassStatementLemmas.{limit, IsSmall}
use Rattle.dm_meaning.proofs.RunLemmas.{OptionAgrees, redone}
use Rattle.dm_meaning.proofs.ShrinkLemmas.{left_in, all_left_in}
use Rattle.dm_meaning.proofs.StandLemmas.{label_in}
use Rattle.dm_meaning.proofs.YieldLemmas.{may_give, given_may, doing_gives, Yields, PicksYield}
use Rattle.dm_rewrite.specs.Effects.{Effect, Stage}
use Rattle.dm_central.specs.Agreement.{beside_first, before_rest, BegunOutside, AllBegun, BegunPasses, IsCall}
use Rattle.dm_central.specs.Arguments.{Way, at_once, untouched, runs_at, trees_at, StandsWhole, Stands}
use Rattle.dm_central.specs.Bodies.{Known, frame_stage, AreNamedOnce, ExpressionAgrees, AllAgree, DefinitionAgrees, CallsInPlace}
use Rattle.dm_central.specs.StateAgreement.{TreeFits, DefinitionFits, RunFits}
use Rattle.dm_central.proofs.AgreementLemmas.{begun_beside_less}
use Rattle.dm_central.proofs.FactLemmas.{same_but_gives}

-- ---- what gives a value in the new program does in the old one

same_label : (tree was : Tree) → begun tree ≡ begun was → label_of tree ≡ label_of was
same_label (node label kind spans parts) (node other other_kind other_spans others) e = cc

yields_may : (kind : CType) (tree : Tree) → Yields kind (begun tree) → may_give (label_of tree) ≡ true
yields_may kind (node label own spans parts) h = by_label label h.1
  where
    by_label : (l : Label) → (doing_gives (evaluates l) ≡ true) ⊎ PicksYield kind (evaluates l) (all_begun parts) → may_give l ≡ true
    by_label choose g = refl
    by_label comma g = refl
    by_label (member n) g = refl
    by_label l (inl g) = g
    by_label l (inr g) = absurd g

-- each of them does
abbrev AllMayGive : Trees → Type 0
AllMayGive no_trees = Unit {0}
AllMayGive (more_trees first rest) = (may_give (label_of first) ≡ true) × AllMayGive rest

given_label : (ps : List ℕ) (ways : List Way) (arguments : Trees) → AllMayGive arguments → (d : ℕ) (tree : Tree) → given ps (runs_at ways (all_begun arguments)) d ≡ Some (Some (begun tree)) → may_give (label_of tree) ≡ true
given_label [] ways arguments h d tree e = absurd (none_is_some (Some (begun tree)) e)
given_label (p ∷ ps) [] arguments h d tree e = absurd (none_is_some (Some (begun tree)) e)
given_label (p ∷ ps) (at_once ∷ ways) no_trees h d tree e = absurd (none_is_some (Some (begun tree)) e)
given_label (p ∷ ps) (untouched a ∷ ways) no_trees h d tree e = absurd (none_is_some (Some (begun tree)) e)
given_label (p ∷ ps) (at_once ∷ ways) (more_trees first rest) h d tree e = by_case (p == d) e (given_label ps ways rest h.1 d tree)
  where
    by_case : (b : Bool) → (if b then Some (Some (begun first)) else given ps (runs_at ways (all_begun rest)) d) ≡ Some (Some (begun tree))
        → (given ps (runs_at ways (all_begun rest)) d ≡ Some (Some (begun tree)) → may_give (label_of tree) ≡ true) → may_give (label_of tree) ≡ true
    by_case true f later = ap may_give (sym (same_label first tree (some_is_some (begun first) (begun tree) (some_is_some (Some (begun first)) (Some (begun tree)) f)))) ∙ h.0
    by_case false f later = later f
given_label (p ∷ ps) (untouched a ∷ ways) (more_trees first rest) h d tree e = by_case (p == d) e (given_label ps ways rest h.1 d tree)
  where
    by_case : (b : Bool) → (if b then Some None else given ps (runs_at ways (all_begun rest)) d) ≡ Some (Some (begun tree))
        → (given ps (runs_at ways (all_begun rest)) d ≡ Some (Some (begun tree)) → may_give (label_of tree) ≡ true) → may_give (label_of tree) ≡ true
    by_case true f later = absurd (none_is_some (begun tree) (some_is_some None (Some (begun tree)) f))
    by_case false f later = later f

module _ (change : Called) (gives : Gives change.body) (stage : Stage) (safe : Tree → Bool) where
  doing_label : (label other : Label) → evaluates label ≡ redone change.rename (evaluates other) → may_give label ≡ true → may_give other ≡ true
  doing_label label other e g = sym (relabelled_gives change.rename other) ∙ sym (ap may_give (ap label_in e)) ∙ g

  whole_label : (beside : List Effect) (label : Label) (kind : CType) (other : Tree) (arguments : Trees) → AllMayGive arguments → (h : IsCall change stage safe beside label kind other arguments)
      → may_give (label_of other) ≡ true
  whole_label beside label kind (node other other_kind other_spans others) arguments all h = by_stands h.stands
    where
      by_body : (tree : Tree) → may_give (label_of tree) ≡ true
          → Stands change (given change.added.parameters h.kinds) (given change.added.parameters (trees_at h.ways)) (given change.added.parameters (runs_at h.ways (all_begun arguments))) tree (to_do (evaluates other) other_kind other_spans.place (all_begun others)) → may_give other ≡ true
      by_body (node l k s ps) g stood = doing_label l other stood.0 g

      by_stands : StandsWhole change (given change.added.parameters h.kinds) (given change.added.parameters (trees_at h.ways)) (given change.added.parameters (runs_at h.ways (all_begun arguments))) change.body (begun (node other other_kind other_spans others)) → may_give other ≡ true
      by_stands (inl u) = ap may_give (same_label (node other other_kind other_spans others) u.was u.is) ∙ same_but_gives change (given change.added.parameters (trees_at h.ways)) change.body u.was u.same (given_may change.body gives)
      by_stands (inr (inl s)) = given_label change.added.parameters h.ways arguments all s.reads.parameter (node other other_kind other_spans others) s.stands
      by_stands (inr (inr s)) = by_body change.body (given_may change.body gives) s

  mutual
    pub gives_label : (beside : List Effect) (tree other : Tree) → BegunOutside change stage safe beside tree other → may_give (label_of tree) ≡ true → may_give (label_of other) ≡ true
    gives_label beside (node label kind spans parts) other (inl h) g = sym (relabelled_gives change.rename (label_of other)) ∙ sym (ap may_give h.0) ∙ g
    gives_label beside (node label kind spans parts) other (inr h) g = whole_label beside label kind other h.0 (passes_labels beside h.1.kinds parts h.0 h.2) h.1

    passes_labels : (beside : List Effect) (kinds : List CType) (parts arguments : Trees) → BegunPasses change stage safe beside kinds parts arguments → AllMayGive arguments
    passes_labels beside kinds no_trees arguments h = absurd h
    passes_labels beside kinds (more_trees named rest) arguments h = all_labels [] beside kinds rest arguments h.1 h.2

    all_labels : (before beside : List Effect) (kinds : List CType) (trees others : Trees) → AllYield kinds (all_begun trees) → AllBegun change stage safe before beside every trees others → AllMayGive others
    all_labels before beside kinds no_trees no_trees y h = tt
    all_labels before beside kinds no_trees (more_trees other others) y h = absurd h
    all_labels before beside kinds (more_trees first rest) no_trees y h = absurd h
    all_labels before beside [] (more_trees first rest) (more_trees other others) y h = absurd y
    all_labels before beside (kind ∷ kinds) (more_trees first rest) (more_trees other others) y h = (
      gives_label (beside_first stage every before beside (all_begun others)) first other h.0 (yields_may kind first y.0),
      all_labels (before_rest stage every before (begun other)) beside kinds rest others y.2 h.1,
    )

-- ---- which nodes are calls of the added function

abbrev names_added : Called → Trees → Bool
names_added change (more_trees (node (function d) kind spans no_trees) rest) = d == change.added.function
names_added change trees = false

abbrev calls_added : Called → Label → Trees → Bool
calls_added change call parts = names_added change parts
calls_added change label parts = false

pub named_runs : (trees : Trees) → all_begun trees ≡ no_runs → trees ≡ no_trees
named_runs no_trees e = refl
named_runs (more_trees first rest) e = absurd (not_none e)
  where
    not_none : more_runs (begun first) (all_begun rest) ≡ no_runs → ⊥
    not_none f = cc

named_is : (change : Called) (named : Tree) (rest : Trees) → IsNamedRun change (begun named) → names_added change (more_trees named rest) ≡ true
named_is change (node label kind spans parts) rest h =
    ap (λ l. names_added change (more_trees (node l kind spans parts) rest)) (its_label h.is)
    ∙ ap (λ ps. names_added change (more_trees (node (function change.added.function) kind spans ps) rest)) (named_runs parts (its_parts h.is))
    ∙ equal_is change.added.function change.added.function refl
  where
    its_label : to_do (evaluates label) kind spans.place (all_begun parts) ≡ to_do (evaluates (function change.added.function)) h.kind h.place no_runs → label ≡ function change.added.function
    its_label e = cc

    its_parts : to_do (evaluates label) kind spans.place (all_begun parts) ≡ to_do (evaluates (function change.added.function)) h.kind h.place no_runs → all_begun parts ≡ no_runs
    its_parts e = cc

module _ (change : Called) (apart : (d : ℕ) → change.rename d ≡ change.added.function → ⊥) (stage : Stage) (safe : Tree → Bool) where
  -- the name of an old function isn't that of the added one
  old_name : (beside : List Effect) (named other : Tree) (rest : Trees) → BegunOutside change stage safe beside named other → names_added change (more_trees named rest) ≡ true → ⊥
  old_name beside (node (function d) kind spans no_trees) other rest (inl h) e = by_label (label_of other) h.0
    where
      by_label : (l : Label) → function d ≡ relabelled change.rename l → ⊥
      by_label (function g) f = true≢false (sym e ∙ differ_is d change.added.function (λ k. apart g (sym (its_number f) ∙ k)))
        where
          its_number : function d ≡ function (change.rename g) → d ≡ change.rename g
          its_number k = cc
      by_label l f = absurd (cc)
  old_name beside (node (function d) kind spans no_trees) other rest (inr h) e = not_call h.1.is
    where
      not_call : function d ≡ call → ⊥
      not_call f = cc
  old_name beside (node (function d) kind spans (more_trees first parts)) other rest h e = true≢false (sym e)
  old_name beside (node label kind spans parts) other rest h e = true≢false (sym e)

  -- a call of the added function stands for its expression
  called_here : (label : Label) (kind : CType) (spans : Spans) (parts : Trees) (other : Tree) → BegunOutside change stage safe [] (node label kind spans parts) other → calls_added change label parts ≡ true
      → (label ≡ call) × ((arguments : Trees) × (called : IsCall change stage safe [] label kind other arguments) × BegunPasses change stage safe [] called.kinds parts arguments)
  called_here label kind spans parts other (inr h) e = (h.1.is, h)
  called_here label kind spans no_trees other (inl h) e = absurd (by_label label e)
    where
      by_label : (l : Label) → calls_added change l no_trees ≡ true → ⊥
      by_label call f = true≢false (sym f)
      by_label l f = true≢false (sym f)
  called_here label kind spans (more_trees named rest) (node other other_kind other_spans others) (inl h) e = absurd (by_label label other h.0 e others h.2)
    where
      by_label : (l o : Label) → l ≡ relabelled change.rename o → calls_added change l (more_trees named rest) ≡ true → (os : Trees) → AllBegun change stage safe [] [] (open_of o) (more_trees named rest) os → ⊥
      by_label call o f g no_trees k = k
      by_label call o f g (more_trees first os) k = old_name (beside_first stage (open_of o) [] [] (all_begun os)) named first rest k.0 g
      by_label l o f g os k = true≢false (sym g)

  -- other nodes are the same
  same_here : (label : Label) (kind : CType) (spans : Spans) (parts : Trees) (other : Tree) → BegunOutside change stage safe [] (node label kind spans parts) other → calls_added change label parts ≡ false
      → (label ≡ relabelled change.rename (label_of other)) × (kind ≡ kind_of other) × AllBegun change stage safe [] [] (open_of (label_of other)) parts (trees_of other)
  same_here label kind spans parts other (inl h) e = h
  same_here label kind spans no_trees other (inr h) e = absurd h.2
  same_here label kind spans (more_trees named rest) other (inr h) e =
      absurd (true≢false (sym (named_is change named rest h.2.0) ∙ sym (ap (λ l. calls_added change l (more_trees named rest)) h.1.is) ∙ e))

-- ---- expressions

pub both_true : (a b : Bool) → (a && b) ≡ true → (a ≡ true) × (b ≡ true)
both_true true true e = (refl, refl)
both_true true false e = absurd (true≢false (sym e))
both_true false b e = absurd (true≢false (sym e))

pub not_true : (b : Bool) → not b ≡ true → b ≡ false
not_true true e = absurd (true≢false (sym e))
not_true false e = refl

none_named : (known : Known) → AreNamedOnce known [] []
none_named known = record {
  apart = λ c d n e f. absurd (none_is_some n e);
  closed_ones = λ d n picked e. absurd (none_is_some n e);
  closed_names = λ d n l e. absurd (none_is_some n e);
}

same_case : (change : Called) (label : Label) (parts others : Trees) → is_statement label ≡ false → SameCase change label parts others
same_case change case parts others e = absurd (true≢false e)
same_case change label parts others e = tt

module _ (change : Called) (known : Known) where
  abbrev Below : Objects → Objects → Open → Trees → Trees → Type 0
  Below statics objects opens trees others =
      (before : List Effect) × (beside : List Effect) × AllBegun change (frame_stage change known statics objects) known.safe before beside opens trees others

  -- the parts of expressions that agree do
  parts_agree : (opens : Open) (trees others : Trees) → are_expressions others ≡ true → ((statics objects : Objects) → AreNamedOnce known statics objects → Below statics objects opens trees others) → AllAgree change known trees others
  parts_agree opens no_trees no_trees e h = tt
  parts_agree opens no_trees (more_trees other others) e h = absurd (h [] [] (none_named known)).2
  parts_agree opens (more_trees first rest) no_trees e h = absurd (h [] [] (none_named known)).2
  parts_agree opens (more_trees (node label kind spans parts) rest) (more_trees other others) e h =
      let both = both_true (is_expression other) (are_expressions others) e in (
        inr (
          both.0,
          λ statics objects names.
              let below = h statics objects names in
              begun_beside_less change (frame_stage change known statics objects) known.safe _ [] (λ n free effect l. absurd l) (node label kind spans parts) other below.2.0,
        ),
        parts_agree _ rest others both.1 (λ statics objects names. let below = h statics objects names in (_, _, below.2.1)),
      )

  part_small : (n m k : ℕ) → n + m ≤ k → m ≤ k
  part_small n m k f = omega (arith, f)

  alike_parts : (trees others : Trees) → AllAgree change known trees others → all_left_in (all_begun trees) ≤ limit change → AllAlike (TreeFits change known) trees others
  alike_parts no_trees no_trees h small = tt
  alike_parts no_trees (more_trees other others) h small = absurd h
  alike_parts (more_trees first rest) no_trees h small = absurd h
  alike_parts (more_trees first rest) (more_trees other others) h small = (
    (h.0, whole_small (left_in (begun first)) (all_left_in (all_begun rest)) (limit change) small),
    alike_parts rest others h.1 (part_small (left_in (begun first)) (all_left_in (all_begun rest)) (limit change) small),
  )
    where
      whole_small : (n m k : ℕ) → n + m ≤ k → n ≤ k
      whole_small n m k f = omega (arith, f)

  -- the statements of a body
  pub body_fits : (definition other : Definition) → DefinitionFits change known definition other → Zipped (TreeFits change known) (parts_of definition.body) (parts_of other.body)
  body_fits definition other h = listed_agrees (TreeFits change known) (trees_of definition.body) (trees_of other.body) (alike_parts (trees_of definition.body) (trees_of other.body) h.0.2 h.1)

  pub option_fits : (one other : Option Definition) → OptionAgrees (DefinitionAgrees change known) one other → IsSmall (limit change) one → OptionAgrees (DefinitionFits change known) one other
  option_fits None None h k = tt
  option_fits None (Some other) h k = absurd h
  option_fits (Some one) None h k = absurd h
  option_fits (Some one) (Some other) h k = (h, k)

  module _ (calling : CallsInPlace change known) where
    expression_opened : (label : Label) (kind : CType) (spans : Spans) (parts : Trees) (other : Label) (other_kind : CType) (other_spans : Spans) (others : Trees)
        → ExpressionAgrees change known (node label kind spans parts) (node other other_kind other_spans others) → all_left_in (all_begun parts) ≤ limit change
        → (b : Bool) → calls_added change label parts ≡ b → SameNode change (TreeFits change known) label kind parts other other_kind others ⊎ CallNode label other
    expression_opened label kind spans parts other other_kind other_spans others h small true e =
        let there = called_here change calling.apart (frame_stage change known [] []) known.safe label kind spans parts (node other other_kind other_spans others) (h.1 [] [] (none_named known)) e in
        inr (there.0, gives_label change calling.added.gives (frame_stage change known [] []) known.safe [] (node label kind spans parts) (node other other_kind other_spans others) (inr there.1) (ap may_give there.0))
    expression_opened label kind spans parts other other_kind other_spans others h small false e =
        let shapes = both_true (not (is_statement other)) (are_expressions others) h.0 in
        let same : (statics objects : Objects) → AreNamedOnce known statics objects → (label ≡ relabelled change.rename other) × (kind ≡ other_kind)
        × AllBegun change (frame_stage change known statics objects) known.safe [] [] (open_of other) parts others =
        λ statics objects names. same_here change calling.apart (frame_stage change known statics objects) known.safe label kind spans parts (node other other_kind other_spans others) (h.1 statics objects names) e in
        let first = same [] [] (none_named known) in
        inl (
          first.0,
          first.1,
          same_case change other parts others (not_true (is_statement other) shapes.0),
          alike_parts parts others (parts_agree (open_of other) parts others shapes.1 (λ statics objects names. ([], [], (same statics objects names).2))) small,
        )

    opened : (label : Label) (kind : CType) (spans : Spans) (parts : Trees) (other : Label) (other_kind : CType) (other_spans : Spans) (others : Trees)
        → TreeFits change known (node label kind spans parts) (node other other_kind other_spans others) → SameNode change (TreeFits change known) label kind parts other other_kind others ⊎ CallNode label other
    opened label kind spans parts other other_kind other_spans others (inl h, small) =
        inl (h.1, h.2, h.3, alike_parts parts others h.4 (part_small 2 (all_left_in (all_begun parts)) (limit change) small))
    opened label kind spans parts other other_kind other_spans others (inr h, small) =
        expression_opened label kind spans parts other other_kind other_spans others h (part_small 2 (all_left_in (all_begun parts)) (limit change) small) (calls_added change label parts) refl

    -- Statements that agree begin, decide and end alike.
    pub likeness : Likeness change (TreeFits change known) (RunFits change known)
    likeness = record {
      injective = calling.injective;
      told = calling.added.told;
      opened = opened;
      begun = λ tree other h. record { tree = tree; was = other; is = refl; stands = refl; fits = h };
    }
