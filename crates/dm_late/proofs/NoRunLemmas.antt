-- Where the added function has no result, but its expression has a value, no run stands in the unit: a call would have the type of its run. So the
-- units agree also where there are no runs, and the function is never called.
--     units_alone      the external declarations agree without runs
--     units_without      so they do whatever is added, where there are none
--     uncalled      no other function names the added one
--     alike_alone      without runs nothing is read late
use Rattle.std.specs.Prelude.{◌≡◌, refl, ◌⊎◌, ℕ, Bool, true, false, ◌&&◌, IsTrue, IfSome, All, List, [], ◌∷◌, flat_map, Option, Some, None, slice_get}
use Rattle.std.proofs.Common.{ap, sym, ◌∙◌, subst, inl, inr}
use Rattle.std.proofs.lemmas.Bool.{true≢false, false≢true}
use Rattle.std.proofs.lemmas.List.Elements.{All-head, All-tail}
use Rattle.dm_token.specs.declared.place.Span.{Span}
use Rattle.dm_runs.specs.declared.run.Occurrence.{Occurrence}
use Rattle.dm_runs.specs.declared.run.Run.{Run}
use Rattle.dm_type.specs.CTypes.{CType, CTypes, void, integer, pointer, array, struct, function as function_type, const, bare}
use Rattle.dm_type.specs.Tables.{Table}
use Rattle.dm_tree.specs.Composites.{covers, cover_parameters}
use Rattle.dm_tree.specs.Initialisers.{is_function_sort}
use Rattle.dm_tree.specs.Operands.{FitsCall}
use Rattle.dm_tree.specs.Scenes.{Scene, is_void}
use Rattle.dm_tree.specs.Trees.{Label, enumerator, object, function, call, declare, is_statement, Spans, Tree, Trees, node, no_trees, more_trees, label_of, spans_of, kind_of, trees_of, parts_of, listed}
use Rattle.dm_tree.specs.Typing.{Fits, FitsExpression, inside, IsWellTyped, AreWellTyped, FormFits, ExternalFits, file_scene, body_scene}
use Rattle.dm_tree.specs.Units.{Declaration, External, ExternalForm, declares, defines_function}
use Rattle.dm_meaning.specs.Among.{IsAmong}
use Rattle.dm_meaning.specs.Programs.{Definition}
use Rattle.dm_meaning.specs.Replaced.{relabelled, Zipped}
use Rattle.dm_meaning.specs.Running.{Open, others_open, open_of}
use Rattle.dm_meaning.specs.Units.{definitions_by, definitions_in}
use Rattle.dm_meaning.proofs.AmongLemmas.{among_either}
use Rattle.dm_meaning.proofs.OptionLemmas.{none_is_some, some_is_some, and_left, and_right}
use Rattle.dm_effect.specs.Entities.{function_first}
use Rattle.dm_agree.specs.Standing.{runs_at, runs_below, runs_with, extents_of, extents_below}
use Rattle.dm_agree.specs.Agreement.{Added, added_function, Rewriting, Here, here_at, IsReadOf, BodyBy, SameBody, IsCallOf, AtRun, Agrees, AllAgree, AgreesWhole, AllAgreeWhole}
use Rattle.dm_align.specs.Units as aligned
use Rattle.dm_void.specs.Bodies.{IsOtherName, NotNamed, NoneNamed, AllNotNamed}
use Rattle.dm_refine.proofs.ConstantTreeLemmas.{inside_declared}
use Rattle.dm_refine.proofs.TypedLemmas.{typed_body}
use Rattle.dm_late.specs.Settled.{spot}
use Rattle.dm_late.specs.Late.{Judged, before_others, beside_part, EvaluatesAlike, AllAlike, FormAlike, EvaluateAlike, part_at}

-- ---- types

covered_plain : (other : CType) → covers void other ≡ true → is_void other ≡ true
covered_plain void h = refl
covered_plain (integer kind) h = absurd (false≢true h)
covered_plain (pointer type) h = absurd (false≢true h)
covered_plain (array type n) h = absurd (false≢true h)
covered_plain (struct n) h = absurd (false≢true h)
covered_plain (function_type result kinds) h = absurd (false≢true h)
covered_plain (const type) h = absurd (false≢true h)

still_void : (type : CType) → is_void type ≡ true → is_void (bare type) ≡ true
still_void void e = refl
still_void (integer kind) e = absurd (false≢true e)
still_void (pointer type) e = absurd (false≢true e)
still_void (array type n) e = absurd (false≢true e)
still_void (struct n) e = absurd (false≢true e)
still_void (function_type result kinds) e = absurd (false≢true e)
still_void (const type) e = absurd (false≢true e)

-- what a type says that is void but for its const
covered_const : (type other : CType) → is_void type ≡ true → covers (const type) other ≡ true → is_void (bare other) ≡ true
covered_const void (const other) e h = covered_plain other h
covered_const void void e h = absurd (false≢true h)
covered_const void (integer kind) e h = absurd (false≢true h)
covered_const void (pointer type) e h = absurd (false≢true h)
covered_const void (array type n) e h = absurd (false≢true h)
covered_const void (struct n) e h = absurd (false≢true h)
covered_const void (function_type result kinds) e h = absurd (false≢true h)
covered_const (integer kind) other e h = absurd (false≢true e)
covered_const (pointer type) other e h = absurd (false≢true e)
covered_const (array type n) other e h = absurd (false≢true e)
covered_const (struct n) other e h = absurd (false≢true e)
covered_const (function_type result kinds) other e h = absurd (false≢true e)
covered_const (const type) other e h = absurd (false≢true e)

covered_void : (type other : CType) → is_void (bare type) ≡ true → covers type other ≡ true → is_void (bare other) ≡ true
covered_void void other e h = still_void other (covered_plain other h)
covered_void (const type) other e h = covered_const type other e h
covered_void (integer kind) other e h = absurd (false≢true e)
covered_void (pointer type) other e h = absurd (false≢true e)
covered_void (array type n) other e h = absurd (false≢true e)
covered_void (struct n) other e h = absurd (false≢true e)
covered_void (function_type result kinds) other e h = absurd (false≢true e)

-- a call of a function that such a type covers
call_void : (result : CType) (kinds : CTypes) → is_void (bare result) ≡ true → (named : CType) (arguments : List Tree) (kind : CType) → covers (function_type result kinds) named ≡ true → FitsCall named arguments kind → is_void (bare kind) ≡ true
call_void result kinds e (function_type other others) arguments kind covered fits =
    let void = covered_void result other e (and_left (covers result other) (cover_parameters kinds others) covered) in
    ap (λ (t : CType). is_void (bare t)) fits.1 ∙ still_void (bare other) void
call_void result kinds e void arguments kind covered fits = absurd fits
call_void result kinds e (integer one) arguments kind covered fits = absurd fits
call_void result kinds e (pointer type) arguments kind covered fits = absurd fits
call_void result kinds e (array type n) arguments kind covered fits = absurd fits
call_void result kinds e (struct n) arguments kind covered fits = absurd fits
call_void result kinds e (const type) arguments kind covered fits = absurd fits

-- ---- no runs

none_with : (spans : List Span) → flat_map (runs_with []) spans ≡ []
none_with [] = refl
none_with (span ∷ spans) = none_with spans

pub none_at : (other : Tree) → runs_at [] other ≡ []
none_at other = none_with (extents_of other)

none_below : (label : Label) (spans : Spans) (part : Tree) → runs_below [] label spans part ≡ []
none_below label spans part = none_with (extents_below label spans part)

-- the run's tree has the type of the expression
read_kind : (found : Option ℕ) (label : Label) (kind : CType) (parts : Trees) (other : Tree) → IsReadOf found label kind parts other → kind ≡ kind_of other
read_kind None label kind parts other h = absurd h
read_kind (Some d) label kind parts other h = h.1

body_kind : (it : Rewriting) (ps : List ℕ) (occurrences : List Occurrence) (runs : List Run) (label : Label) (kind : CType) (parts : Trees) (other : Tree) (Below : Type 0)
    → BodyBy it ps occurrences runs label kind parts other Below → kind ≡ kind_of other
body_kind it ps [] [] label kind parts other Below h = h.0.1
body_kind it ps [] (run ∷ runs) label kind parts other Below h = absurd h
body_kind it ps (one ∷ others) runs label kind parts other Below h = read_kind (slice_get ps one.parameter) label kind parts other h

same_kind : (it : Rewriting) (ps : List ℕ) (run : Run) (here : Here) (body other : Tree) → SameBody it ps run here body other → kind_of body ≡ kind_of other
same_kind it ps run here (node label kind spans parts) other h = body_kind it ps here.occurrences here.runs label kind parts other _ h

module _ (it : Rewriting) (added : Added) where
  -- the rewriting without runs, of which any function may be the added one
  abbrev pub alone : Rewriting
  alone = record { runs = []; added = added; rename = it.rename; value = it.value }

  module _ (types : Table) (declared : List Declaration) (f : ℕ) (parameters : List ℕ) (body : Tree) (is_function : it.added ≡ added_function f parameters body) (entry : Declaration) (found : slice_get declared f ≡ Some entry)
      (result : CType) (kinds : CTypes) (typed_entry : entry.kind ≡ function_type result kinds) (valueless : is_void (bare result) ≡ true) (valued : is_void (bare (kind_of body)) ≡ false) where
    -- the call of a run has no value
    named_void : (scene : Scene) → scene.declared ≡ declared → (kind : CType) (named : Tree) (rest : Trees) → function_first (more_trees named rest) ≡ Some f → FitsExpression scene call kind (named ∷ listed rest)
        → IsWellTyped (inside scene call (named ∷ listed rest)) named → is_void (bare kind) ≡ true
    named_void scene e kind (node (function d) type spans no_trees) rest first fits t =
        let same : slice_get scene.declared d ≡ Some entry = ap (λ (ds : List Declaration). slice_get ds d) e ∙ (ap (slice_get declared) (some_is_some d f first) ∙ found) in
        let here : IsTrue (is_function_sort entry.sort && covers entry.kind type) = subst (λ (o : Option Declaration). IfSome o (λ (one : Declaration). IsTrue (is_function_sort one.sort && covers one.kind type))) same t.0.0 in
        call_void result kinds valueless type (listed rest) kind (ap (λ k. covers k type) (sym typed_entry) ∙ and_right (is_function_sort entry.sort) (covers entry.kind type) here) fits
    named_void scene e kind (node (function d) type spans (more_trees below others)) rest first fits t = absurd fits
    named_void scene e kind (node label type spans below) rest first fits t = absurd (none_is_some f first)

    no_run : (scene : Scene) → scene.declared ≡ declared → (run : Run) (inner : List Run) (label : Label) (kind : CType) (parts : Trees) (other : Tree) → Fits scene label kind (listed parts) → AreWellTyped (inside scene label (listed parts)) parts
        → IsCallOf it f parameters body run inner label kind parts other → ⊥
    no_run scene e run inner label kind no_trees other fits t h = none_is_some f h.2
    no_run scene e run inner label kind (more_trees named rest) other fits t h =
        let void = named_void scene e kind named rest h.2 (subst (λ (l : Label). Fits scene l kind (named ∷ listed rest)) h.0 fits) (subst (λ (l : Label). IsWellTyped (inside scene l (named ∷ listed rest)) named) h.0 t.0) in
        true≢false (sym void ∙ (ap (λ (k : CType). is_void (bare k)) (h.1 ∙ sym (same_kind it parameters run (here_at run inner other) body other h.3)) ∙ valued))

    at_run : (one : Added) → one ≡ added_function f parameters body → (run : Run) (inner : List Run) (label : Label) (kind : CType) (parts : Trees) (other : Tree) (Passed : Type 0)
        → AtRun it one run inner label kind parts other Passed → IsCallOf it f parameters body run inner label kind parts other
    at_run one e run inner label kind parts other Passed h = (subst (λ (a : Added). AtRun it a run inner label kind parts other Passed) e h).0

    mutual
      tree_alone : (scene : Scene) → scene.declared ≡ declared → (standing : List Run) (tree other : Tree) → IsWellTyped scene tree → Agrees it standing tree other → Agrees alone [] tree other
      tree_alone scene e [] (node label kind spans parts) other t h =
          (h.0, trees_alone (inside scene label (listed parts)) (inside_declared scene label (listed parts) ∙ e) (label_of other) (spans_of other) parts (trees_of other) t.1 h.1)
      tree_alone scene e (run ∷ inner) (node label kind spans parts) other t h = absurd (no_run scene e run inner label kind parts other t.0 t.1 (at_run it.added is_function run inner label kind parts other _ h))

      trees_alone : (scene : Scene) → scene.declared ≡ declared → (label : Label) (spans : Spans) (trees others : Trees) → AreWellTyped scene trees → AllAgree it label spans trees others → AllAgree alone label spans trees others
      trees_alone scene e label spans no_trees no_trees t h = tt
      trees_alone scene e label spans no_trees (more_trees other others) t h = absurd h
      trees_alone scene e label spans (more_trees first rest) no_trees t h = absurd h
      trees_alone scene e label spans (more_trees first rest) (more_trees other others) t h = (
        subst (λ (runs : List Run). Agrees alone runs first other) (sym (none_below label spans other)) (tree_alone scene e (runs_below it.runs label spans other) first other t.0 h.0),
        trees_alone scene e label spans rest others t.1 h.1,
      )

    whole_alone : (scene : Scene) → scene.declared ≡ declared → (tree other : Tree) → IsWellTyped scene tree → AgreesWhole it tree other → AgreesWhole alone tree other
    whole_alone scene e tree other t h = subst (λ (runs : List Run). Agrees alone runs tree other) (sym (none_at other)) (tree_alone scene e (runs_at it.runs other) tree other t h)

    list_alone : (scene : Scene) → scene.declared ≡ declared → (trees others : List Tree) → All (IsWellTyped scene) trees → AllAgreeWhole it trees others → AllAgreeWhole alone trees others
    list_alone scene e [] [] t h = tt
    list_alone scene e [] (other ∷ others) t h = absurd h
    list_alone scene e (tree ∷ trees) [] t h = absurd h
    list_alone scene e (tree ∷ trees) (other ∷ others) t h =
        (whole_alone scene e tree other (All-head (IsWellTyped scene) tree trees t) h.0, list_alone scene e trees others (All-tail (IsWellTyped scene) tree trees t) h.1)

    form_alone : (form other : ExternalForm) → FormFits (file_scene types declared) form → aligned.FormsAgree it form other → aligned.FormsAgree alone form other
    form_alone (declares declarators trees) (declares others other_trees) t h = (h.0, list_alone (file_scene types declared) refl trees other_trees t.0 h.1)
    form_alone (declares declarators trees) (defines_function g others other) t h = absurd h
    form_alone (defines_function g names tree) (declares others other_trees) t h = absurd h
    form_alone (defines_function g names tree) (defines_function k others other) t h =
        let whole = typed_body types declared g names tree t in
        (h.0, h.1, whole_alone (body_scene (file_scene types declared) whole.result) refl tree other whole.typed h.2)

    external_alone : (one other : External) → ExternalFits (file_scene types declared) one → aligned.ExternalsAgree it one other → aligned.ExternalsAgree alone one other
    external_alone one other fits h = (list_alone (file_scene types declared) refl one.constants other.constants fits.0 h.0, form_alone one.form other.form fits.2 h.1)

    pub units_alone : (externals others : List External) → All (ExternalFits (file_scene types declared)) externals → Zipped (aligned.ExternalsAgree it) externals others → Zipped (aligned.ExternalsAgree alone) externals others
    units_alone [] [] t h = tt
    units_alone [] (other ∷ others) t h = absurd h
    units_alone (one ∷ externals) [] t h = absurd h
    units_alone (one ∷ externals) (other ∷ others) t h =
        (external_alone one other (All-head (ExternalFits (file_scene types declared)) one externals t) h.0, units_alone externals others (All-tail (ExternalFits (file_scene types declared)) one externals t) h.1)

  -- ---- the function's name

  module _ (f : ℕ) (apart : (d : ℕ) → it.rename d ≡ f → ⊥) where
    renamed_other : (other : Label) → IsOtherName f (relabelled it.rename other)
    renamed_other (function d) = apart d
    renamed_other (object d) = tt
    renamed_other (enumerator d) = tt
    renamed_other (declare lengths declarators) = tt
    renamed_other other = tt

    mutual
      tree_unnamed : (tree other : Tree) → Agrees alone [] tree other → NotNamed f tree
      tree_unnamed (node label kind spans parts) other h = (subst (IsOtherName f) (sym h.0.0) (renamed_other (label_of other)), trees_unnamed (label_of other) (spans_of other) parts (trees_of other) h.1)

      trees_unnamed : (label : Label) (spans : Spans) (trees others : Trees) → AllAgree alone label spans trees others → NoneNamed f trees
      trees_unnamed label spans no_trees no_trees h = tt
      trees_unnamed label spans no_trees (more_trees other others) h = absurd h
      trees_unnamed label spans (more_trees first rest) no_trees h = absurd h
      trees_unnamed label spans (more_trees first rest) (more_trees other others) h =
          (tree_unnamed first other (subst (λ (runs : List Run). Agrees alone runs first other) (none_below label spans other) h.0), trees_unnamed label spans rest others h.1)

    list_unnamed : (trees : Trees) → NoneNamed f trees → AllNotNamed f (listed trees)
    list_unnamed no_trees h = tt
    list_unnamed (more_trees first rest) h = (h.0, list_unnamed rest h.1)

    parts_unnamed : (tree : Tree) → NotNamed f tree → AllNotNamed f (parts_of tree)
    parts_unnamed (node label kind spans parts) h = list_unnamed parts h.1

    form_uncalled : (form other : ExternalForm) → aligned.FormsAgree alone form other → (definition : Definition) → IsAmong definition (definitions_by form) → AllNotNamed f (parts_of definition.body)
    form_uncalled (declares declarators trees) other h definition l = absurd l
    form_uncalled (defines_function g names tree) (declares others other_trees) h definition l = absurd h
    form_uncalled (defines_function g names tree) (defines_function k others other) h definition (inl e) =
        subst (λ (d : Definition). AllNotNamed f (parts_of d.body)) (sym e) (parts_unnamed tree (tree_unnamed tree other (subst (λ (runs : List Run). Agrees alone runs tree other) (none_at other) h.2)))
    form_uncalled (defines_function g names tree) (defines_function k others other) h definition (inr l) = absurd l

    pub uncalled : (externals others : List External) → Zipped (aligned.ExternalsAgree alone) externals others → (definition : Definition) → IsAmong definition (definitions_in externals) → AllNotNamed f (parts_of definition.body)
    uncalled [] others h definition l = absurd l
    uncalled (one ∷ externals) [] h definition l = absurd h
    uncalled (one ∷ externals) (other ∷ others) h definition l =
        by_side (λ k. uncalled externals others h.1 definition k) (among_either definition (definitions_by one.form) (definitions_in externals) l)
      where
        by_side : (IsAmong definition (definitions_in externals) → AllNotNamed f (parts_of definition.body)) → IsAmong definition (definitions_by one.form) ⊎ IsAmong definition (definitions_in externals)
            → AllNotNamed f (parts_of definition.body)
        by_side later (inl k) = form_uncalled one.form other.form h.0.1 definition k
        by_side later (inr k) = later k

  -- ---- what is read late

  module _ (judged : Judged) (ps : List ℕ) where
    mutual
      tree_alike : (at : Spans) (beside : List Tree) (tree other : Tree) → EvaluatesAlike judged alone ps at beside [] tree other
      tree_alike at beside (node label kind spans parts) other = trees_alike (is_statement (label_of other)) (open_of (label_of other)) at [] beside (label_of other) (spans_of other) parts (trees_of other)

      trees_alike : (statement : Bool) (opens : Open) (at : Spans) (before beside : List Tree) (label : Label) (spans : Spans) (trees others : Trees) → AllAlike judged alone ps statement opens at before beside label spans trees others
      trees_alike statement opens at before beside label spans no_trees others = tt
      trees_alike statement opens at before beside label spans (more_trees first rest) no_trees = tt
      trees_alike statement opens at before beside label spans (more_trees first rest) (more_trees other others) = (
        subst (λ (runs : List Run). EvaluatesAlike judged alone ps (part_at statement at other) (beside_part statement opens before beside others) runs first other) (sym (none_below label spans other)) (tree_alike (part_at statement at other) (beside_part statement opens before beside others) first other),
        trees_alike statement (others_open opens) at (before_others opens before other) beside label spans rest others,
      )

    form_alike : (form other : ExternalForm) → FormAlike judged alone ps form other
    form_alike (defines_function f parameters tree) (defines_function g others other) =
        subst (λ (runs : List Run). EvaluatesAlike judged alone ps (spot (spans_of other)) [] runs tree other) (sym (none_at other)) (tree_alike (spot (spans_of other)) [] tree other)
    form_alike (defines_function f parameters tree) (declares others other_trees) = tt
    form_alike (declares declarators trees) other = tt

    pub alike_alone : (externals others : List External) → EvaluateAlike judged alone ps externals others
    alike_alone [] others = tt
    alike_alone (one ∷ externals) [] = tt
    alike_alone (one ∷ externals) (other ∷ others) = (form_alike one.form other.form, alike_alone externals others)

-- ---- other things added

module _ (it : Rewriting) (one two : Added) where
  mutual
    tree_without : (tree other : Tree) → Agrees (alone it one) [] tree other → Agrees (alone it two) [] tree other
    tree_without (node label kind spans parts) other h = (h.0, trees_without (label_of other) (spans_of other) parts (trees_of other) h.1)

    trees_without : (label : Label) (spans : Spans) (trees others : Trees) → AllAgree (alone it one) label spans trees others → AllAgree (alone it two) label spans trees others
    trees_without label spans no_trees no_trees h = tt
    trees_without label spans no_trees (more_trees other others) h = absurd h
    trees_without label spans (more_trees first rest) no_trees h = absurd h
    trees_without label spans (more_trees first rest) (more_trees other others) h = (
      subst (λ (runs : List Run). Agrees (alone it two) runs first other) (sym (none_below label spans other))
          (tree_without first other (subst (λ (runs : List Run). Agrees (alone it one) runs first other) (none_below label spans other) h.0)),
      trees_without label spans rest others h.1,
    )

  whole_without : (tree other : Tree) → AgreesWhole (alone it one) tree other → AgreesWhole (alone it two) tree other
  whole_without tree other h =
      subst (λ (runs : List Run). Agrees (alone it two) runs tree other) (sym (none_at other)) (tree_without tree other (subst (λ (runs : List Run). Agrees (alone it one) runs tree other) (none_at other) h))

  list_without : (trees others : List Tree) → AllAgreeWhole (alone it one) trees others → AllAgreeWhole (alone it two) trees others
  list_without [] [] h = tt
  list_without [] (other ∷ others) h = absurd h
  list_without (tree ∷ trees) [] h = absurd h
  list_without (tree ∷ trees) (other ∷ others) h = (whole_without tree other h.0, list_without trees others h.1)

  form_without : (form other : ExternalForm) → aligned.FormsAgree (alone it one) form other → aligned.FormsAgree (alone it two) form other
  form_without (declares declarators trees) (declares others other_trees) h = (h.0, list_without trees other_trees h.1)
  form_without (declares declarators trees) (defines_function g others other) h = absurd h
  form_without (defines_function g names tree) (declares others other_trees) h = absurd h
  form_without (defines_function g names tree) (defines_function k others other) h = (h.0, h.1, whole_without tree other h.2)

  pub units_without : (externals others : List External) → Zipped (aligned.ExternalsAgree (alone it one)) externals others → Zipped (aligned.ExternalsAgree (alone it two)) externals others
  units_without [] [] h = tt
  units_without [] (other ∷ others) h = absurd h
  units_without (external ∷ externals) [] h = absurd h
  units_without (external ∷ externals) (other ∷ others) h =
      ((list_without external.constants other.constants h.0.0, form_without external.form other.form h.0.1), units_without externals others h.1)
