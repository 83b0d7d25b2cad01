-- Which statements a tree of the code holds doesn't depend on what types its numbers stand for.
--     whole-anywhere      of a tree
--     initial-anywhere      of an initialiser
use Rattle.std.specs.Prelude.{◌≡◌, ℕ, suc, Bool, true, false, not, ◌&&◌, List, [], ◌∷◌, ◌++◌, map, length, Option, Some, None, refl}
use Rattle.std.proofs.Common.{sym, ap, ap₂, ◌∙◌, subst}
use Rattle.dm_type.specs.CTypes.{CType, void}
use Rattle.dm_type.specs.Tables.{Table, type_of}
use Rattle.dm_token.specs.declared.place.Place.{Place}
use Rattle.dm_token.specs.declared.place.Span.{Span}
use Rattle.dm_tree.specs.declared.tree.Core.{Core, roll-Core}
use Rattle.dm_tree.specs.declared.tree.Form.{Form, roll-Form}
use Rattle.dm_tree.specs.declared.tree.Initial.{Initial, roll-Initial}
use Rattle.dm_tree.specs.declared.tree.Local.{Local, roll-Local}
use Rattle.dm_tree.specs.declared.tree.Form.TheOpen as layer
use Rattle.dm_tree.specs.declared.tree.Form.TheFolds as folds
use Rattle.dm_tree.specs.Trees as label
use Rattle.dm_tree.specs.Trees.{Label, Tree, Trees, Declarator, Initialisers, node, no_trees, more_trees, listed, trees, in_braces, more_items, is_statement}
use Rattle.dm_tree.specs.TypeNumbers.{all_pass}
use Rattle.dm_tree.specs.Views.{Opened, OpenedInitial, OpenedLocal, opened, view, opened_form, view_of_local, form_layer, initial_layer, core_layer, local_layer, node_of, items_of, expressions_of_items, declarators_of, expressions_of_locals, local_of}
use Rattle.dm_meaning.specs.Wholes.{is_expression, are_expressions, all_expressions, is_whole_start, first_and, loop_whole, do_whole, whole_by, is_whole, are_whole, view_of_initial}

-- ---- trees without their types

abbrev untyped : Label → Label
untyped (label.update op works) = label.update op void
untyped (label.sizeof_kind type) = label.sizeof_kind void
untyped form = form

abbrev mutual
  plain : Tree → Tree
  plain (node form kind spans parts) = node (untyped form) void spans (all_plain parts)

  all_plain : Trees → Trees
  all_plain no_trees = no_trees
  all_plain (more_trees first rest) = more_trees (plain first) (all_plain rest)

abbrev plain_form : Opened → Opened
plain_form one = opened (untyped one.label) (map plain one.parts)

abbrev plain_initial : OpenedInitial → OpenedInitial
plain_initial one = record { initialiser = one.initialiser; expressions = map plain one.expressions }

abbrev plain_local : OpenedLocal → OpenedLocal
plain_local one = record { declarator = one.declarator; expressions = map plain one.expressions }

plain-trees : (all : List Tree) → all_plain (trees all) ≡ trees (map plain all)
plain-trees [] = refl
plain-trees (first ∷ rest) = ap (more_trees (plain first)) (plain-trees rest)

plain-node : (one : Opened) (kind : CType) (inner outer : Span) (place : Place) → plain (node_of one kind inner outer place) ≡ node_of (plain_form one) void inner outer place
plain-node one kind inner outer place =
    ap (node (untyped one.label) void (record { inner = inner; outer = outer; place = place })) (plain-trees one.parts)

plain-append : (left right : List Tree) → map plain (left ++ right) ≡ map plain left ++ map plain right
plain-append [] right = refl
plain-append (first ∷ rest) right = ap (λ all. plain first ∷ all) (plain-append rest right)

plain-length : (all : List Tree) → length (map plain all) ≡ length all
plain-length [] = refl
plain-length (first ∷ rest) = ap suc (plain-length rest)

-- declarators keep their numbers
plain-declarators : (locals : List OpenedLocal) → declarators_of (map plain_local locals) ≡ declarators_of locals
plain-declarators [] = refl
plain-declarators (local ∷ locals) = ap (λ all. local.declarator ∷ all) (plain-declarators locals)

plain-expressions : (locals : List OpenedLocal) → map plain (expressions_of_locals locals) ≡ expressions_of_locals (map plain_local locals)
plain-expressions [] = refl
plain-expressions (local ∷ locals) = plain-append local.expressions (expressions_of_locals locals) ∙ ap (λ all. map plain local.expressions ++ all) (plain-expressions locals)

abbrev declaration_of : List Tree → List OpenedLocal → Opened
declaration_of lengths locals = opened (label.declare (length lengths) (declarators_of locals)) (lengths ++ expressions_of_locals locals)

plain-declaration : (lengths : List Tree) (locals : List OpenedLocal) → plain_form (declaration_of lengths locals) ≡ declaration_of (map plain lengths) (map plain_local locals)
plain-declaration lengths locals =
    ap (λ n. opened (label.declare n (declarators_of locals)) (map plain (lengths ++ expressions_of_locals locals))) (sym (plain-length lengths))
    ∙ ap (λ all. opened (label.declare (length (map plain lengths)) all) (map plain (lengths ++ expressions_of_locals locals))) (sym (plain-declarators locals))
    ∙ ap (opened (label.declare (length (map plain lengths)) (declarators_of (map plain_local locals)))) (plain-append lengths (expressions_of_locals locals) ∙ ap (λ all. map plain lengths ++ all) (plain-expressions locals))

-- initialisers keep their form
plain-items : (items : List OpenedInitial) → items_of (map plain_initial items) ≡ items_of items
plain-items [] = refl
plain-items (item ∷ items) = ap (more_items item.initialiser) (plain-items items)

plain-values : (items : List OpenedInitial) → map plain (expressions_of_items items) ≡ expressions_of_items (map plain_initial items)
plain-values [] = refl
plain-values (item ∷ items) = plain-append item.expressions (expressions_of_items items) ∙ ap (λ all. map plain item.expressions ++ all) (plain-values items)

abbrev braces_of : List OpenedInitial → OpenedInitial
braces_of items = record { initialiser = in_braces (items_of items); expressions = expressions_of_items items }

abbrev initial_with : Initialisers → List Tree → OpenedInitial
initial_with items expressions = record { initialiser = in_braces items; expressions = expressions }

plain-braces : (items : List OpenedInitial) → plain_initial (braces_of items) ≡ braces_of (map plain_initial items)
plain-braces items =
    ap (λ all. initial_with all (map plain (expressions_of_items items))) (sym (plain-items items))
    ∙ ap (initial_with (items_of (map plain_initial items))) (plain-values items)

-- ---- over any two tables

module _ (a b : Table) where
  abbrev FormSame : Form → Type 0
  FormSame x = plain_form (opened_form a x) ≡ plain_form (opened_form b x)

  abbrev InitialSame : Initial → Type 0
  InitialSame x = plain_initial (view_of_initial a x) ≡ plain_initial (view_of_initial b x)

  abbrev CoreSame : Core → Type 0
  CoreSame x = plain (view a x) ≡ plain (view b x)

  abbrev LocalSame : Local → Type 0
  LocalSame x = plain_local (view_of_local a x) ≡ plain_local (view_of_local b x)

  abbrev Forms : Type 0
  Forms = (x : Form) × FormSame x

  abbrev Initials : Type 0
  Initials = (x : Initial) × InitialSame x

  abbrev Cores : Type 0
  Cores = (x : Core) × CoreSame x

  abbrev Locals : Type 0
  Locals = (x : Local) × LocalSame x

  abbrev cores_in : List Cores → List Core
  cores_in items = map (λ (e : Cores). e.0) items

  cores-same : (items : List Cores) → map plain (map (view a) (cores_in items)) ≡ map plain (map (view b) (cores_in items))
  cores-same [] = refl
  cores-same (e ∷ items) = ap₂ (λ first rest. first ∷ rest) e.1 (cores-same items)

  locals-same : (items : List Locals) → map plain_local (map (view_of_local a) (map (λ (e : Locals). e.0) items)) ≡ map plain_local (map (view_of_local b) (map (λ (e : Locals). e.0) items))
  locals-same [] = refl
  locals-same (e ∷ items) = ap₂ (λ first rest. first ∷ rest) e.1 (locals-same items)

  initials-same : (items : List Initials) → map plain_initial (map (view_of_initial a) (map (λ (e : Initials). e.0) items)) ≡ map plain_initial (map (view_of_initial b) (map (λ (e : Initials). e.0) items))
  initials-same [] = refl
  initials-same (e ∷ items) = ap₂ (λ first rest. first ∷ rest) e.1 (initials-same items)

  -- one layer
  abbrev stripped_form : layer.Form-F Forms Initials Cores Locals → layer.Form-F Form Initial Core Local
  stripped_form y = folds.map-Form Forms Initials Cores Locals Form Initial Core Local (λ e. e.0) (λ e. e.0) (λ e. e.0) (λ e. e.0) y

  abbrev seen_in : Table → layer.Form-F Forms Initials Cores Locals → Opened
  seen_in types y = form_layer types (folds.map-Form Form Initial Core Local Opened OpenedInitial Tree OpenedLocal (opened_form types) (view_of_initial types) (view types) (view_of_local types) (stripped_form y))

  single : (form : Label) (x : Cores) → opened form (plain (view a x.0) ∷ []) ≡ opened form (plain (view b x.0) ∷ [])
  single form x = ap (λ t. opened form (t ∷ [])) x.1

  double : (form : Label) (x y : Cores) → opened form (plain (view a x.0) ∷ plain (view a y.0) ∷ []) ≡ opened form (plain (view b x.0) ∷ plain (view b y.0) ∷ [])
  double form x y = ap₂ (λ t u. opened form (t ∷ u ∷ [])) x.1 y.1

  triple : (form : Label) (x y z : Cores) → opened form (plain (view a x.0) ∷ plain (view a y.0) ∷ plain (view a z.0) ∷ []) ≡ opened form (plain (view b x.0) ∷ plain (view b y.0) ∷ plain (view b z.0) ∷ [])
  triple form x y z = ap₂ (λ t ts. opened form (t ∷ ts)) x.1 (ap₂ (λ t u. t ∷ u ∷ []) y.1 z.1)

  fourfold : (form : Label) (w x y z : Cores) → opened form (plain (view a w.0) ∷ plain (view a x.0) ∷ plain (view a y.0) ∷ plain (view a z.0) ∷ [])
      ≡ opened form (plain (view b w.0) ∷ plain (view b x.0) ∷ plain (view b y.0) ∷ plain (view b z.0) ∷ [])
  fourfold form w x y z = ap₂ (λ t ts. opened form (t ∷ ts)) w.1 (ap₂ (λ t ts. t ∷ ts) x.1 (ap₂ (λ t u. t ∷ u ∷ []) y.1 z.1))

  led : (form : Label) (x : Cores) (items : List Cores) → opened form (plain (view a x.0) ∷ map plain (map (view a) (cores_in items))) ≡ opened form (plain (view b x.0) ∷ map plain (map (view b) (cores_in items)))
  led form x items = ap₂ (λ t ts. opened form (t ∷ ts)) x.1 (cores-same items)

  form-step : (y : layer.Form-F Forms Initials Cores Locals) → plain_form (seen_in a y) ≡ plain_form (seen_in b y)
  form-step (layer.Number value) = refl
  form-step (layer.Enumerator at) = refl
  form-step (layer.Literal bytes unit) = refl
  form-step (layer.Object at) = refl
  form-step (layer.Function at) = refl
  form-step layer.Empty = refl
  form-step layer.Break = refl
  form-step layer.Continue = refl
  form-step (layer.Read x) = single label.read x
  form-step (layer.Decay x) = single label.decay x
  form-step (layer.Address x) = single label.address x
  form-step (layer.Follow x) = single label.follow x
  form-step (layer.SizeofTree x) = single label.sizeof_tree x
  form-step (layer.Full x) = single label.full x
  form-step (layer.Default x) = single label.default x
  form-step (layer.Member x k) = single (label.member k) x
  form-step (layer.Unary sign x) = single (label.unary sign) x
  form-step (layer.Count plus before x) = single (label.count plus before) x
  form-step (layer.Both x y) = double label.both x y
  form-step (layer.Either x y) = double label.either x y
  form-step (layer.Comma x y) = double label.comma x y
  form-step (layer.Store x y) = double label.store x y
  form-step (layer.Case x y) = double label.case x y
  form-step (layer.While x y) = double label.while_loop x y
  form-step (layer.Do x y) = double label.do_loop x y
  form-step (layer.Binary op x y) = double (label.binary op) x y
  form-step (layer.Update op works x y) = double (label.update op void) x y
  form-step (layer.Choose x y z) = triple label.choose x y z
  form-step (layer.Convert x items) = led label.convert x items
  form-step (layer.Call x items) = led label.call x items
  form-step (layer.Switch x items) = led label.switch x items
  form-step (layer.Block items) = ap (opened label.block) (cores-same items)
  form-step (layer.SizeofKind type items) = ap (opened (label.sizeof_kind void)) (cores-same items)
  form-step (layer.Declare items locals) =
      plain-declaration (map (view a) (cores_in items)) (map (view_of_local a) (map (λ (e : Locals). e.0) locals))
      ∙ ap₂ declaration_of (cores-same items) (locals-same locals)
      ∙ sym (plain-declaration (map (view b) (cores_in items)) (map (view_of_local b) (map (λ (e : Locals). e.0) locals)))
  form-step (layer.If x y None) = double label.if_statement x y
  form-step (layer.If x y (Some z)) = triple label.if_statement x y z
  form-step (layer.For None None None body) = single (label.for_loop false false false) body
  form-step (layer.For None None (Some z) body) = double (label.for_loop false false true) z body
  form-step (layer.For None (Some y) None body) = double (label.for_loop false true false) y body
  form-step (layer.For None (Some y) (Some z) body) = triple (label.for_loop false true true) y z body
  form-step (layer.For (Some x) None None body) = double (label.for_loop true false false) x body
  form-step (layer.For (Some x) None (Some z) body) = triple (label.for_loop true false true) x z body
  form-step (layer.For (Some x) (Some y) None body) = triple (label.for_loop true true false) x y body
  form-step (layer.For (Some x) (Some y) (Some z) body) = fourfold (label.for_loop true true true) x y z body
  form-step (layer.Return None) = refl
  form-step (layer.Return (Some x)) = single label.return x

  form-whole : (y : layer.Form-F Forms Initials Cores Locals) → FormSame (roll-Form (stripped_form y))
  form-whole y =
      let here : opened_form a (roll-Form (stripped_form y)) ≡ seen_in a y = folds.fold-roll-Form Opened OpenedInitial Tree OpenedLocal (form_layer a) initial_layer (core_layer a) local_layer (stripped_form y) in
      let there : opened_form b (roll-Form (stripped_form y)) ≡ seen_in b y = folds.fold-roll-Form Opened OpenedInitial Tree OpenedLocal (form_layer b) initial_layer (core_layer b) local_layer (stripped_form y) in
      ap plain_form here ∙ form-step y ∙ ap plain_form (sym there)

  -- an initialiser
  abbrev stripped_initial : layer.Initial-F Forms Initials Cores Locals → layer.Initial-F Form Initial Core Local
  stripped_initial y = folds.map-Initial Forms Initials Cores Locals Form Initial Core Local (λ e. e.0) (λ e. e.0) (λ e. e.0) (λ e. e.0) y

  abbrev initial_seen_in : Table → layer.Initial-F Forms Initials Cores Locals → OpenedInitial
  initial_seen_in types y = initial_layer (folds.map-Initial Form Initial Core Local Opened OpenedInitial Tree OpenedLocal (opened_form types) (view_of_initial types) (view types) (view_of_local types) (stripped_initial y))

  initial-step : (y : layer.Initial-F Forms Initials Cores Locals) → plain_initial (initial_seen_in a y) ≡ plain_initial (initial_seen_in b y)
  initial-step (layer.Value x) = ap (λ t. initial_layer (layer.Value t)) x.1
  initial-step (layer.Parts items) =
      plain-braces (map (view_of_initial a) (map (λ (e : Initials). e.0) items)) ∙ ap braces_of (initials-same items)
      ∙ sym (plain-braces (map (view_of_initial b) (map (λ (e : Initials). e.0) items)))

  initial-whole : (y : layer.Initial-F Forms Initials Cores Locals) → InitialSame (roll-Initial (stripped_initial y))
  initial-whole y =
      let here : view_of_initial a (roll-Initial (stripped_initial y)) ≡ initial_seen_in a y = folds.fold-roll-Initial Opened OpenedInitial Tree OpenedLocal (form_layer a) initial_layer (core_layer a) local_layer (stripped_initial y) in
      let there : view_of_initial b (roll-Initial (stripped_initial y)) ≡ initial_seen_in b y = folds.fold-roll-Initial Opened OpenedInitial Tree OpenedLocal (form_layer b) initial_layer (core_layer b) local_layer (stripped_initial y) in
      ap plain_initial here ∙ initial-step y ∙ ap plain_initial (sym there)

  -- a tree
  abbrev stripped_core : layer.Core-F Forms Initials Cores Locals → layer.Core-F Form Initial Core Local
  stripped_core y = folds.map-Core Forms Initials Cores Locals Form Initial Core Local (λ e. e.0) (λ e. e.0) (λ e. e.0) (λ e. e.0) y

  core-whole : (y : layer.Core-F Forms Initials Cores Locals) → CoreSame (roll-Core (stripped_core y))
  core-whole y =
      let here : view a (roll-Core (stripped_core y)) ≡ node_of (opened_form a y.form.0) (type_of a y.kind) y.inner y.outer y.place = folds.fold-roll-Core Opened OpenedInitial Tree OpenedLocal (form_layer a) initial_layer (core_layer a) local_layer (stripped_core y) in
      let there : view b (roll-Core (stripped_core y)) ≡ node_of (opened_form b y.form.0) (type_of b y.kind) y.inner y.outer y.place = folds.fold-roll-Core Opened OpenedInitial Tree OpenedLocal (form_layer b) initial_layer (core_layer b) local_layer (stripped_core y) in
      ap plain here ∙ plain-node (opened_form a y.form.0) (type_of a y.kind) y.inner y.outer y.place
      ∙ ap (λ form. node_of form void y.inner y.outer y.place) y.form.1
      ∙ sym (plain-node (opened_form b y.form.0) (type_of b y.kind) y.inner y.outer y.place) ∙ ap plain (sym there)

  -- a declarator
  abbrev stripped_local : layer.Local-F Forms Initials Cores Locals → layer.Local-F Form Initial Core Local
  stripped_local y = folds.map-Local Forms Initials Cores Locals Form Initial Core Local (λ e. e.0) (λ e. e.0) (λ e. e.0) (λ e. e.0) y

  abbrev local_layer_of : ℕ → Bool → Option Initials → layer.Local-F Forms Initials Cores Locals
  local_layer_of declared defines initial = record { declared = declared; defines = defines; initial = initial }

  abbrev local_seen_in : Table → layer.Local-F Forms Initials Cores Locals → OpenedLocal
  local_seen_in types y = local_layer (folds.map-Local Form Initial Core Local Opened OpenedInitial Tree OpenedLocal (opened_form types) (view_of_initial types) (view types) (view_of_local types) (stripped_local y))

  local-step : (declared : ℕ) (defines : Bool) (initial : Option Initials) → plain_local (local_seen_in a (local_layer_of declared defines initial)) ≡ plain_local (local_seen_in b (local_layer_of declared defines initial))
  local-step declared defines None = refl
  local-step declared defines (Some i) = ap (λ t. local_of declared defines (Some t)) i.1

  local-whole : (y : layer.Local-F Forms Initials Cores Locals) → LocalSame (roll-Local (stripped_local y))
  local-whole y =
      let here : view_of_local a (roll-Local (stripped_local y)) ≡ local_seen_in a y = folds.fold-roll-Local Opened OpenedInitial Tree OpenedLocal (form_layer a) initial_layer (core_layer a) local_layer (stripped_local y) in
      let there : view_of_local b (roll-Local (stripped_local y)) ≡ local_seen_in b y = folds.fold-roll-Local Opened OpenedInitial Tree OpenedLocal (form_layer b) initial_layer (core_layer b) local_layer (stripped_local y) in
      ap plain_local here ∙ local-step y.declared y.defines y.initial ∙ ap plain_local (sym there)

  core-same : (core : Core) → CoreSame core
  core-same = folds.ind-Core FormSame InitialSame CoreSame LocalSame
      (λ x y is. subst (λ z. FormSame (roll-Form z)) is (form-whole y))
      (λ x y is. subst (λ z. InitialSame (roll-Initial z)) is (initial-whole y))
      (λ x y is. subst (λ z. CoreSame (roll-Core z)) is (core-whole y))
      (λ x y is. subst (λ z. LocalSame (roll-Local z)) is (local-whole y))

  initial-same : (initial : Initial) → InitialSame initial
  initial-same = folds.ind-Initial FormSame InitialSame CoreSame LocalSame
      (λ x y is. subst (λ z. FormSame (roll-Form z)) is (form-whole y))
      (λ x y is. subst (λ z. InitialSame (roll-Initial z)) is (initial-whole y))
      (λ x y is. subst (λ z. CoreSame (roll-Core z)) is (core-whole y))
      (λ x y is. subst (λ z. LocalSame (roll-Local z)) is (local-whole y))

-- ---- statements in trees without their types

untyped-statement : (form : Label) → is_statement (untyped form) ≡ is_statement form
untyped-statement (label.update op works) = refl
untyped-statement (label.sizeof_kind type) = refl
untyped-statement form = refl

mutual
  plain-expression : (tree : Tree) → is_expression (plain tree) ≡ is_expression tree
  plain-expression (node form kind spans parts) = ap₂ (λ is are. not is && are) (untyped-statement form) (plain-parts parts)

  plain-parts : (parts : Trees) → are_expressions (all_plain parts) ≡ are_expressions parts
  plain-parts no_trees = refl
  plain-parts (more_trees first rest) = ap₂ (λ is are. is && are) (plain-expression first) (plain-parts rest)

plain-all : (all : List Tree) → all_expressions (map plain all) ≡ all_expressions all
plain-all [] = refl
plain-all (first ∷ rest) = ap₂ (λ is are. is && are) (plain-expression first) (plain-all rest)

plain-listed : (parts : Trees) → listed (all_plain parts) ≡ map plain (listed parts)
plain-listed no_trees = refl
plain-listed (more_trees first rest) = ap (λ all. plain first ∷ all) (plain-listed rest)

plain-start : (tree : Tree) → is_whole_start (plain tree) ≡ is_whole_start tree
plain-start (node (label.declare lengths declarators) kind spans parts) = ap all_expressions (plain-listed parts) ∙ plain-all (listed parts)
plain-start (node form kind spans parts) = plain-expression (node form kind spans parts)

plain-first : (parts : List Tree) (wholes : List Bool) → first_and is_expression (map plain parts) wholes ≡ first_and is_expression parts wholes
plain-first [] wholes = refl
plain-first (first ∷ parts) [] = refl
plain-first (first ∷ parts) (whole ∷ wholes) = ap (λ is. is && all_pass wholes) (plain-expression first)

plain-do : (parts : List Tree) (wholes : List Bool) → do_whole (map plain parts) wholes ≡ do_whole parts wholes
plain-do [] wholes = refl
plain-do (first ∷ parts) [] = refl
plain-do (first ∷ parts) (whole ∷ wholes) = ap (λ are. whole && are) (plain-all parts)

plain-loop : (first second third : Bool) (parts : List Tree) (wholes : List Bool) → loop_whole first second third (map plain parts) wholes ≡ loop_whole first second third parts wholes
plain-loop true second third [] wholes = refl
plain-loop true second third (start ∷ parts) [] = refl
plain-loop true second third (start ∷ parts) (whole ∷ wholes) = ap₂ (λ is are. is && are) (plain-start start) (plain-loop false second third parts wholes)
plain-loop false true third [] wholes = refl
plain-loop false true third (condition ∷ parts) [] = refl
plain-loop false true third (condition ∷ parts) (whole ∷ wholes) = ap₂ (λ is are. is && are) (plain-expression condition) (plain-loop false false third parts wholes)
plain-loop false false true [] wholes = refl
plain-loop false false true (last ∷ parts) [] = refl
plain-loop false false true (last ∷ parts) (whole ∷ wholes) = ap₂ (λ is are. is && are) (plain-expression last) (plain-loop false false false parts wholes)
plain-loop false false false parts wholes = refl

plain-by : (form : Label) (parts : List Tree) (wholes : List Bool) → whole_by (untyped form) (map plain parts) wholes ≡ whole_by form parts wholes
plain-by label.block parts wholes = refl
plain-by label.default parts wholes = refl
plain-by label.if_statement parts wholes = plain-first parts wholes
plain-by label.switch parts wholes = plain-first parts wholes
plain-by label.case parts wholes = plain-first parts wholes
plain-by label.while_loop parts wholes = plain-first parts wholes
plain-by label.do_loop parts wholes = plain-do parts wholes
plain-by (label.for_loop first second third) parts wholes = plain-loop first second third parts wholes
plain-by form parts wholes = plain-all parts

mutual
  plain-whole : (tree : Tree) → is_whole (plain tree) ≡ is_whole tree
  plain-whole (node form kind spans parts) =
      ap₂ (λ all wholes. whole_by (untyped form) all wholes) (plain-listed parts) (plain-wholes parts) ∙ plain-by form (listed parts) (are_whole parts)

  plain-wholes : (parts : Trees) → are_whole (all_plain parts) ≡ are_whole parts
  plain-wholes no_trees = refl
  plain-wholes (more_trees first rest) = ap₂ (λ is are. is ∷ are) (plain-whole first) (plain-wholes rest)

-- ---- what is so over one table

pub whole-anywhere : (a b : Table) (core : Core) → is_whole (view a core) ≡ is_whole (view b core)
whole-anywhere a b core = sym (plain-whole (view a core)) ∙ ap is_whole (core-same a b core) ∙ plain-whole (view b core)

pub initial-anywhere : (a b : Table) (initial : Initial) → all_expressions (view_of_initial a initial).expressions ≡ all_expressions (view_of_initial b initial).expressions
initial-anywhere a b initial =
    sym (plain-all (view_of_initial a initial).expressions) ∙ ap (λ (one : OpenedInitial). all_expressions one.expressions) (initial-same a b initial) ∙ plain-all (view_of_initial b initial).expressions
