-- Nodes of the code.
use Rattle.std.proofs.Common.{◌≡◌, ℕ, Bool, true, false, List, [], ◌∷◌, ◌++◌, map, length, drop, Option, Some, None, slice_get, append-nil, rules, refl, sym, ap, subst, ◌∙◌}
use Rattle.std.specs.List.{flat_map}
use Rattle.std.proofs.lemmas.List.{map-append}
use Rattle.std.proofs.lemmas.List.Concat.{flat_map-append}
use Rattle.std.proofs.Math.Seq.{drop-append_seam, take-append_seam}
use Rattle.std.proofs.lemmas.List.Folds.{flat_map-map}
use Rattle.dm_type.specs.Tables.{Table}
use Rattle.dm_tree.specs.declared.tree.Core.{Core, out-Core}
use Rattle.dm_tree.specs.declared.tree.Core as q
use Rattle.dm_tree.specs.declared.tree.Form.{Form, out-Form}
use Rattle.dm_tree.specs.declared.tree.Form.TheVariants as form
use Rattle.dm_tree.specs.declared.tree.Form.TheOpen as layer
use Rattle.dm_tree.specs.declared.tree.Form.TheFolds as folds
use Rattle.dm_tree.specs.declared.tree.Initial.{Initial}
use Rattle.dm_tree.specs.declared.tree.Local.{Local, out-Local}
use Rattle.dm_tree.specs.Initialisers.{shares_tokens}
use Rattle.dm_tree.specs.Trees as label
use Rattle.dm_tree.specs.Trees.{Label, Spans, Tree, trees, label_of, spans_of, parts_of}
use Rattle.dm_tree.specs.Units.{Declaration}
use Rattle.dm_tree.specs.Views.{Opened, OpenedInitial, OpenedLocal, opened, opened_form, view, view_of_local, form_layer, initial_layer, core_layer, local_layer, local_of, declarators_of, expressions_of_locals}
use Rattle.dm_tree.proofs.ListLemmas.{listed-trees}
use Rattle.dm_tree.proofs.ViewLemmas.{view-core, opened-Convert}
use Rattle.dm_meaning.specs.Statements as statements
use Rattle.dm_meaning.specs.Statements.{with_expressions}
use Rattle.dm_meaning.specs.Wholes.{view_of_initial}
use Rattle.dm_effect.specs.Questions.{as_local}
use Rattle.dm_effect.proofs.DeclaratorLemmas.{locals-with}
use Rattle.dm_effect.proofs.EffectLemmas.{seen-as}
use Rattle.dm_sites.specs.Sites.{Site, whole, is_fixed_entry, initial_sites, declarator_sites, statement_parts, has_full_parts}
use Rattle.dm_sites.specs.Standing.{is_implied_conversion}
use Rattle.dm_sites.proofs.PlaceLemmas.{Divides}

-- a node by its form
pub label-view : (types : Table) (core : Core) → label_of (view types core) ≡ (opened_form types (out-Core core).form).label
label-view types core = ap label_of (view-core types core)

abbrev pub spans_in : Core → Spans
spans_in core = record { inner = (out-Core core).inner; outer = (out-Core core).outer; place = (out-Core core).place }

pub spans-view : (types : Table) (core : Core) → spans_of (view types core) ≡ spans_in core
spans-view types core = ap spans_of (view-core types core)

pub parts-view : (types : Table) (core : Core) → parts_of (view types core) ≡ (opened_form types (out-Core core).form).parts
parts-view types core = ap parts_of (view-core types core) ∙ listed-trees (opened_form types (out-Core core).form).parts

-- a conversion
pub implied-Convert : (types : Table) (core operand : Core) (lengths : List Core) → (out-Core core).form ≡ form.Convert operand lengths
    → is_implied_conversion (view types core) ≡ shares_tokens (spans_of (view types core)) (view types operand)
implied-Convert types core operand lengths is =
    seen-as types core is_implied_conversion (form.Convert operand lengths) (opened label.convert (view types operand ∷ map (view types) lengths)) is (opened-Convert types operand lengths)
    ∙ ap (λ (spans : Spans). shares_tokens spans (view types operand)) (sym (spans-view types core))

-- ---- the declarators of a declaration have its trees

module _ (types : Table) where
  abbrev seen_in : layer.Form-F Form Initial Core Local → Opened
  seen_in y = form_layer types (folds.map-Form Form Initial Core Local Opened OpenedInitial Tree OpenedLocal (opened_form types) (view_of_initial types) (view types) (view_of_local types) y)

  declared-divides : (front : List Tree) (locals : List Local)
      → Divides (label.declare (length front) (declarators_of (map (view_of_local types) locals))) (front ++ expressions_of_locals (map (view_of_local types) locals))
  declared-divides front locals =
      let behind = expressions_of_locals (map (view_of_local types) locals) in
      let declarators = declarators_of (map (view_of_local types) locals) in
      subst (λ (trees : List Tree). flat_map (λ (one : statements.Local). one.expressions) (with_expressions declarators trees) ≡ trees) (sym (drop-append_seam front behind))
      (ap (flat_map (λ (one : statements.Local). one.expressions)) (locals-with types locals)
      ∙ flat_map-map (λ (one : statements.Local). one.expressions) as_local (map (view_of_local types) locals))

  layer-divides : (y : layer.Form-F Form Initial Core Local) → Divides (seen_in y).label (seen_in y).parts
  layer-divides (layer.Declare lengths locals) = declared-divides (map (view types) lengths) locals
  layer-divides y = tt

  form-divides : (form : Form) → Divides (opened_form types form).label (opened_form types form).parts
  form-divides form =
      subst (λ (o : Opened). Divides o.label o.parts)
      (sym (folds.fold_out-Form Opened OpenedInitial Tree OpenedLocal (form_layer types) initial_layer (core_layer types) local_layer form))
      (layer-divides (out-Form form))

  pub core-divides : (core : Core) → Divides (label_of (view types core)) (parts_of (view types core))
  core-divides core =
      let o = opened_form types (out-Core core).form in
      subst (λ (tree : Tree). Divides (label_of tree) (parts_of tree)) (sym (view-core types core))
      (subst (Divides o.label) (sym (listed-trees o.parts)) (form-divides (out-Core core).form))

  -- ---- the parts of statements, by their form

  opened-Declare : (lengths : List Core) (locals : List Local) → opened_form types (form.Declare lengths locals)
      ≡ opened (label.declare (length (map (view types) lengths)) (declarators_of (map (view_of_local types) locals))) (map (view types) lengths ++ expressions_of_locals (map (view_of_local types) locals))
  opened-Declare lengths locals = search (rules, q.the_lemmas)

  opened-Case : (a b : Core) → opened_form types (form.Case a b) ≡ opened label.case (view types a ∷ view types b ∷ [])
  opened-Case a b = search (rules, q.the_lemmas)

  abbrev parts_at : List Declaration → Tree → List Site
  parts_at declared tree = statement_parts declared (label_of tree) (parts_of tree)

  pub parts-Declare : (declared : List Declaration) (core : Core) (lengths : List Core) (locals : List Local) → (out-Core core).form ≡ form.Declare lengths locals
      → parts_at declared (view types core) ≡ map (whole true false) (map (view types) lengths) ++ declarator_sites declared (map as_local (map (view_of_local types) locals))
  parts-Declare declared core lengths locals is =
      let front = map (view types) lengths in
      let behind = expressions_of_locals (map (view_of_local types) locals) in
      let declarators = declarators_of (map (view_of_local types) locals) in
      seen-as types core (parts_at declared) (form.Declare lengths locals) (opened (label.declare (length front) declarators) (front ++ behind)) is (opened-Declare lengths locals)
      ∙ (ap (statement_parts declared (label.declare (length front) declarators)) (listed-trees (front ++ behind))
      ∙ (ap (λ (taken : List Tree). map (whole true false) taken ++ declarator_sites declared (with_expressions declarators (drop (length front) (front ++ behind)))) (take-append_seam front behind)
      ∙ (ap (λ (left : List Tree). map (whole true false) front ++ declarator_sites declared (with_expressions declarators left)) (drop-append_seam front behind)
      ∙ ap (λ (all : List statements.Local). map (whole true false) front ++ declarator_sites declared all) (locals-with types locals))))

  pub parts-Case : (declared : List Declaration) (core a b : Core) → (out-Core core).form ≡ form.Case a b
      → parts_at declared (view types core) ≡ whole true false (view types a) ∷ whole false false (view types b) ∷ []
  parts-Case declared core a b is =
      seen-as types core (parts_at declared) (form.Case a b) (opened label.case (view types a ∷ view types b ∷ [])) is (opened-Case a b)

full-parts : (declared : List Declaration) (label : Label) (parts : List Tree) → has_full_parts label ≡ true → statement_parts declared label parts ≡ map (whole false false) parts
full-parts declared (label.declare lengths declarators) parts h = absurd (cc)
full-parts declared label.case parts h = absurd (cc)
full-parts declared label parts h = refl

pub parts-full : (types : Table) (declared : List Declaration) (core : Core) → has_full_parts (opened_form types (out-Core core).form).label ≡ true
    → statement_parts declared (label_of (view types core)) (parts_of (view types core)) ≡ map (whole false false) (opened_form types (out-Core core).form).parts
parts-full types declared core h =
    full-parts declared (label_of (view types core)) (parts_of (view types core)) (ap has_full_parts (label-view types core) ∙ h) ∙ ap (map (whole false false)) (parts-view types core)

-- ---- declarators

declared-by : (declared : ℕ) (defines : Bool) (initial : Option OpenedInitial) → (local_of declared defines initial).declarator.declared ≡ declared
declared-by declared defines None = refl
declared-by declared defines (Some initial) = refl

local-declared : (types : Table) (local : Local) → (view_of_local types local).declarator.declared ≡ (out-Local local).declared
local-declared types local =
    ap (λ (one : OpenedLocal). one.declarator.declared) (folds.fold_out-Local Opened OpenedInitial Tree OpenedLocal (form_layer types) initial_layer (core_layer types) local_layer local)
    ∙ declared-by (out-Local local).declared (out-Local local).defines _

pub local-sites : (types : Table) (declared : List Declaration) (local : Local) (fixed : Bool) (trees : List Tree)
    → is_fixed_entry (slice_get declared (out-Local local).declared) ≡ fixed → trees ≡ (view_of_local types local).expressions
    → map (whole false fixed) trees ≡ initial_sites declared (as_local (view_of_local types local))
local-sites types declared local fixed trees is listed =
    let expressions = (view_of_local types local).expressions in
    ap (map (whole false fixed)) listed
    ∙ (ap (λ (b : Bool). map (whole false b) expressions) (sym is)
    ∙ ap (λ (n : ℕ). map (whole false (is_fixed_entry (slice_get declared n))) expressions) (sym (local-declared types local)))

-- one more declarator
pub locals-last : (types : Table) (declared : List Declaration) (all before : List Local) (local : Local) → all ≡ before ++ local ∷ []
    → declarator_sites declared (map as_local (map (view_of_local types) all))
    ≡ declarator_sites declared (map as_local (map (view_of_local types) before)) ++ initial_sites declared (as_local (view_of_local types local))
locals-last types declared all before local is =
    ap (λ (them : List Local). declarator_sites declared (map as_local (map (view_of_local types) them))) is
    ∙ (ap (λ (them : List OpenedLocal). declarator_sites declared (map as_local them)) (map-append (view_of_local types) before (local ∷ []))
    ∙ (ap (declarator_sites declared) (map-append as_local (map (view_of_local types) before) (view_of_local types local ∷ []))
    ∙ (flat_map-append (initial_sites declared) (map as_local (map (view_of_local types) before)) (as_local (view_of_local types local) ∷ [])
    ∙ ap (λ (rest : List Site). declarator_sites declared (map as_local (map (view_of_local types) before)) ++ rest) (append-nil (initial_sites declared (as_local (view_of_local types local)))))))
