-- The declarators of a typed unit: those of its declarations in file scope, and those in the bodies of its functions.
--     locals_below tree      the declarators at all nodes of a tree
--     FromUnit one local      a declarator is one of a declaration in file scope, or in the body of a function
--     unit_local      so is each of the unit
--     local_there      each of a body is one of the unit
--     local_listed      each of the unit is one of those that may define objects of static storage duration
use Rattle.std.specs.Prelude.{◌≡◌, refl, ◌⊎◌, ℕ, Bool, true, false, not, ◌&&◌, All, IfSome, IsSome, List, [], ◌∷◌, ◌++◌, drop, flat_map, Option, Some, None, slice_get, if◌then◌else◌}
use Rattle.std.proofs.Common.{ap, ap₂, sym, ◌∙◌, subst, inl, inr}
use Rattle.std.proofs.lemmas.Bool.{true≢false, false≢true}
use Rattle.std.proofs.lemmas.Grind.{flat_map-append}
use Rattle.std.proofs.lemmas.List.Elements.{All-head, All-tail}
use Rattle.dm_type.specs.CTypes.{CType, function as function_type}
use Rattle.dm_type.specs.Tables.{Table}
use Rattle.dm_tree.specs.Paths.{all_in, all_in_trees}
use Rattle.dm_tree.specs.Scenes.{IsConstant, Scene}
use Rattle.dm_tree.specs.Trees.{Declarator, Label, declare, is_statement, Spans, Tree, Trees, node, no_trees, more_trees, listed}
use Rattle.dm_tree.specs.Typing.{body_scene, DefinitionFits, ExternalFits, file_scene, FormFits, FunctionFits, inside, IsWellTyped, AreWellTyped, IsWellTypedUnit}
use Rattle.dm_tree.specs.Units.{Declaration, External, ExternalForm, declares, defines_function, TypedUnit}
use Rattle.dm_tree.proofs.ExpressionLemmas.{value-expression}
use Rattle.dm_meaning.specs.Among.{IsAmong}
use Rattle.dm_meaning.specs.Statements.{Local, with_expressions}
use Rattle.dm_meaning.specs.Units.{locals_by, locals_in, locals_in_all, locals_of, all_locals}
use Rattle.dm_meaning.specs.Wholes.{is_expression, are_expressions, all_expressions}
use Rattle.dm_meaning.proofs.AmongLemmas.{among_left, among_right, among_either}
use Rattle.dm_meaning.proofs.OptionLemmas.{and_left, and_right}
use Rattle.dm_meaning.proofs.WholeLemmas.{typed-declared, typed-expression, typed-whole}
use Rattle.dm_effect.specs.Entities.{locals_here, locals_of_form, locals_of_external, locals_of_unit, nodes_of_external, trees_in_form}

-- ---- lists

both_true : (a b : Bool) → a ≡ true → b ≡ true → (a && b) ≡ true
both_true true b e f = f
both_true false b e f = absurd (false≢true e)

pub among_each : {X Y : Type 0} (f : X → List Y) (x : X) (xs : List X) (y : Y) → IsAmong x xs → IsAmong y (f x) → IsAmong y (flat_map f xs)
among_each f x [] y a k = absurd a
among_each f x (first ∷ rest) y (inl e) k = among_left y (f first) (flat_map f rest) (subst (λ z. IsAmong y (f z)) e k)
among_each f x (first ∷ rest) y (inr a) k = among_right y (f first) (flat_map f rest) (among_each f x rest y a k)

module _ {X Y : Type 0} (f : X → List Y) where
  abbrev Source : List X → Y → Type 0
  Source xs y = (x : X) × IsAmong x xs × IsAmong y (f x)

  pub from_each : (xs : List X) (y : Y) → IsAmong y (flat_map f xs) → Source xs y
  from_each [] y a = absurd a
  from_each (first ∷ rest) y a = pick (among_either y (f first) (flat_map f rest) a) (from_each rest y)
    where
      pick : IsAmong y (f first) ⊎ IsAmong y (flat_map f rest) → (IsAmong y (flat_map f rest) → Source rest y) → Source (first ∷ rest) y
      pick (inl k) later = (first, inl refl, k)
      pick (inr k) later = let found = later k in (found.0, inr found.1, found.2)

pub one_of_all : {X : Type 0} (P : X → Type 0) (x : X) (xs : List X) → All P xs → IsAmong x xs → P x
one_of_all P x [] h a = absurd a
one_of_all P x (first ∷ rest) h (inl e) = subst P (sym e) (All-head P first rest h)
one_of_all P x (first ∷ rest) h (inr a) = one_of_all P x rest (All-tail P first rest h) a

-- ---- declarators in trees

abbrev mutual
  pub locals_below : Tree → List Local
  locals_below (node label kind spans parts) = locals_here (node label kind spans parts) ++ locals_below_all parts

  pub locals_below_all : Trees → List Local
  locals_below_all no_trees = []
  locals_below_all (more_trees first rest) = locals_below first ++ locals_below_all rest

mutual
  pub nodes_locals : (tree : Tree) → flat_map locals_here (all_in tree) ≡ locals_below tree
  nodes_locals (node label kind spans parts) = ap (λ them. locals_here (node label kind spans parts) ++ them) (all_nodes_locals parts)

  all_nodes_locals : (trees : Trees) → flat_map locals_here (all_in_trees trees) ≡ locals_below_all trees
  all_nodes_locals no_trees = refl
  all_nodes_locals (more_trees first rest) =
      flat_map-append locals_here (all_in first) (all_in_trees rest) ∙ ap₂ (λ (front back : List Local). front ++ back) (nodes_locals first) (all_nodes_locals rest)

none_here : (label : Label) (kind : CType) (spans : Spans) (parts : Trees) → is_statement label ≡ false → locals_here (node label kind spans parts) ≡ []
none_here (declare lengths declarators) kind spans parts e = absurd (true≢false e)
none_here label kind spans parts e = refl

no_statement : (b : Bool) → not b ≡ true → b ≡ false
no_statement true e = absurd (false≢true e)
no_statement false e = refl

mutual
  pub expression_locals : (tree : Tree) → is_expression tree ≡ true → locals_below tree ≡ []
  expression_locals (node label kind spans parts) e =
      ap₂ (λ (front back : List Local). front ++ back) (none_here label kind spans parts (no_statement (is_statement label) (and_left (not (is_statement label)) (are_expressions parts) e)))
      (expressions_locals parts (and_right (not (is_statement label)) (are_expressions parts) e))

  pub expressions_locals : (trees : Trees) → are_expressions trees ≡ true → locals_below_all trees ≡ []
  expressions_locals no_trees e = refl
  expressions_locals (more_trees first rest) e =
      ap₂ (λ (front back : List Local). front ++ back) (expression_locals first (and_left (is_expression first) (are_expressions rest) e))
      (expressions_locals rest (and_right (is_expression first) (are_expressions rest) e))

pub listed_expressions : (trees : Trees) → all_expressions (listed trees) ≡ true → are_expressions trees ≡ true
listed_expressions no_trees e = refl
listed_expressions (more_trees first rest) e =
    both_true (is_expression first) (are_expressions rest) (and_left (is_expression first) (all_expressions (listed rest)) e)
    (listed_expressions rest (and_right (is_expression first) (all_expressions (listed rest)) e))

-- the parts of a declaration are expressions
pub declared_expressions : (scene : Scene) (lengths : ℕ) (declarators : List Declarator) (kind : CType) (spans : Spans) (parts : Trees) → IsWellTyped scene (node (declare lengths declarators) kind spans parts) → are_expressions parts ≡ true
declared_expressions scene lengths declarators kind spans parts typed = listed_expressions parts (typed-whole scene (node (declare lengths declarators) kind spans parts) typed refl)

-- ---- in statements

module _ (local : Local) where
  by_form : (scene : Scene) (label : Label) (kind : CType) (spans : Spans) (parts : Trees) → is_statement label ≡ true → IsWellTyped scene (node label kind spans parts)
      → IsAmong local (locals_here (node label kind spans parts) ++ locals_below_all parts) → (IsAmong local (locals_below_all parts) → IsAmong local (locals_in_all parts))
      → IsAmong local (locals_by label (listed parts) (locals_in_all parts))
  by_form scene (declare lengths declarators) kind spans parts e typed a below =
      pick (among_either local (with_expressions declarators (drop lengths (listed parts))) (locals_below_all parts) a)
    where
      pick : IsAmong local (with_expressions declarators (drop lengths (listed parts))) ⊎ IsAmong local (locals_below_all parts) → IsAmong local (with_expressions declarators (drop lengths (listed parts)))
      pick (inl k) = k
      pick (inr k) = absurd (subst (IsAmong local) (expressions_locals parts (declared_expressions scene lengths declarators kind spans parts typed)) k)
  by_form scene label kind spans parts e typed a below = subst (λ b. IsAmong local (if b then locals_in_all parts else [])) (sym e) (below a)

  mutual
    pub in_statement : (scene : Scene) (tree : Tree) → IsWellTyped scene tree → IsAmong local (locals_below tree) → IsAmong local (locals_in tree)
    in_statement scene (node label kind spans parts) typed a = by_label (is_statement label) refl (in_statements (inside scene label (listed parts)) parts typed.1)
      where
        by_label : (b : Bool) → is_statement label ≡ b → (IsAmong local (locals_below_all parts) → IsAmong local (locals_in_all parts)) → IsAmong local (locals_by label (listed parts) (locals_in_all parts))
        by_label true e below = by_form scene label kind spans parts e typed a below
        by_label false e below = absurd (subst (IsAmong local) (expression_locals (node label kind spans parts) (typed-expression scene (node label kind spans parts) typed (ap not e))) a)

    in_statements : (scene : Scene) (trees : Trees) → AreWellTyped scene trees → IsAmong local (locals_below_all trees) → IsAmong local (locals_in_all trees)
    in_statements scene no_trees typed a = absurd a
    in_statements scene (more_trees first rest) typed a =
        pick (among_either local (locals_below first) (locals_below_all rest) a) (in_statement scene first typed.0) (in_statements scene rest typed.1)
      where
        pick : IsAmong local (locals_below first) ⊎ IsAmong local (locals_below_all rest) → (IsAmong local (locals_below first) → IsAmong local (locals_in first))
            → (IsAmong local (locals_below_all rest) → IsAmong local (locals_in_all rest)) → IsAmong local (locals_in first ++ locals_in_all rest)
        pick (inl k) here later = among_left local (locals_in first) (locals_in_all rest) (here k)
        pick (inr k) here later = among_right local (locals_in first) (locals_in_all rest) (later k)

-- ---- in units

-- a declarator in file scope, or in the body of a function
abbrev pub InForm : Local → ExternalForm → Type 0
InForm local (declares declarators trees) = IsAmong local (with_expressions declarators trees)
InForm local (defines_function f parameters body) = IsAmong local (locals_below body)

abbrev pub FromUnit : TypedUnit → Local → Type 0
FromUnit one local = (external : External) × IsAmong external one.externals × InForm local external.form

pub body_typed : (scene : Scene) (parameters : List ℕ) (body : Tree) (type : CType) → DefinitionFits scene parameters body type → (inner : Scene) × IsWellTyped inner body
body_typed scene parameters body (function_type result types) h = (body_scene scene result, h.2)
body_typed scene parameters body type h = absurd h

pub function_typed : (scene : Scene) (parameters : List ℕ) (body : Tree) (o : Option Declaration) → IfSome o (FunctionFits scene parameters body) → IsSome o → (inner : Scene) × IsWellTyped inner body
function_typed scene parameters body None h is = absurd (cc)
function_typed scene parameters body (Some entry) h is = body_typed scene parameters body entry.kind h.1

module _ (types : Table) (one : TypedUnit) (typed : IsWellTypedUnit types one) where
  abbrev scene : Scene
  scene = file_scene types one.declared

  pub external_typed : (external : External) → IsAmong external one.externals → ExternalFits scene external
  external_typed external a = one_of_all (ExternalFits scene) external one.externals typed.externals a

  -- no declarator is in trees that are expressions
  in_expressions : (trees : List Tree) → ((tree : Tree) → IsAmong tree trees → is_expression tree ≡ true) → (local : Local) → IsAmong local (flat_map locals_here (flat_map all_in trees)) → ⊥
  in_expressions trees are local a =
      let from = from_each locals_here (flat_map all_in trees) local a in
      let above = from_each all_in trees from.0 from.1 in
      subst (IsAmong local) (nodes_locals above.0 ∙ expression_locals above.0 (are above.0 above.1)) (among_each locals_here from.0 (all_in above.0) local above.2 from.2)

  constant_expression : (external : External) → IsAmong external one.externals → (tree : Tree) → IsAmong tree external.constants → is_expression tree ≡ true
  constant_expression external a tree k =
      let fits = external_typed external a in
      typed-expression scene tree (one_of_all (IsWellTyped scene) tree external.constants fits.0 k) (value-expression tree (one_of_all (IsConstant scene) tree external.constants fits.1 k).0)

  listed_one : (tree : Tree) (trees : List Tree) → all_expressions trees ≡ true → IsAmong tree trees → is_expression tree ≡ true
  listed_one tree [] e a = absurd a
  listed_one tree (first ∷ rest) e (inl same) = ap is_expression same ∙ and_left (is_expression first) (all_expressions rest) e
  listed_one tree (first ∷ rest) e (inr a) = listed_one tree rest (and_right (is_expression first) (all_expressions rest) e) a

  at_nodes : (form : ExternalForm) → FormFits scene form → (local : Local) → IsAmong local (flat_map locals_here (flat_map all_in (trees_in_form form))) → InForm local form
  at_nodes (declares declarators trees) fits local a =
      absurd (in_expressions trees (λ tree k. listed_one tree trees (typed-declared scene declarators trees fits.0 fits.1) k) local a)
  at_nodes (defines_function f parameters body) fits local a = by_either (among_either local (flat_map locals_here (all_in body)) [] (subst (IsAmong local) (flat_map-append locals_here (all_in body) []) a))
    where
      by_either : IsAmong local (flat_map locals_here (all_in body)) ⊎ IsAmong local [] → IsAmong local (locals_below body)
      by_either (inl k) = subst (IsAmong local) (nodes_locals body) k
      by_either (inr k) = absurd k

  own_form : (form : ExternalForm) (local : Local) → IsAmong local (locals_of_form form) → InForm local form
  own_form (declares declarators trees) local a = a
  own_form (defines_function f parameters body) local a = absurd a

  pub unit_local : (local : Local) → IsAmong local (locals_of_unit one) → FromUnit one local
  unit_local local a =
      let from = from_each locals_of_external one.externals local a in
      (from.0, from.1, pick from.0 from.1 (among_either local (locals_of_form from.0.form) (flat_map locals_here (nodes_of_external from.0)) from.2))
    where
      by_node : (external : External) → IsAmong external one.externals
          → IsAmong local (flat_map locals_here (flat_map all_in external.constants)) ⊎ IsAmong local (flat_map locals_here (flat_map all_in (trees_in_form external.form))) → InForm local external.form
      by_node external k (inl c) = absurd (in_expressions external.constants (constant_expression external k) local c)
      by_node external k (inr c) = at_nodes external.form (external_typed external k).2 local c

      pick : (external : External) → IsAmong external one.externals → IsAmong local (locals_of_form external.form) ⊎ IsAmong local (flat_map locals_here (nodes_of_external external)) → InForm local external.form
      pick external k (inl c) = own_form external.form local c
      pick external k (inr c) =
          by_node external k
          (among_either local (flat_map locals_here (flat_map all_in external.constants)) (flat_map locals_here (flat_map all_in (trees_in_form external.form)))
          (subst (IsAmong local)
          (ap (flat_map locals_here) (flat_map-append all_in external.constants (trees_in_form external.form))
          ∙ flat_map-append locals_here (flat_map all_in external.constants) (flat_map all_in (trees_in_form external.form))) c))

  -- ---- back

  pub local_there : (external : External) (f : ℕ) (parameters : List ℕ) (body : Tree) → IsAmong external one.externals → external.form ≡ defines_function f parameters body
      → (local : Local) → IsAmong local (locals_below body) → IsAmong local (locals_of_unit one)
  local_there external f parameters body k e local a =
      among_each locals_of_external external one.externals local k
      (among_right local (locals_of_form external.form) (flat_map locals_here (nodes_of_external external))
      (subst (IsAmong local)
      (sym (ap (flat_map locals_here) (flat_map-append all_in external.constants (trees_in_form external.form))
      ∙ flat_map-append locals_here (flat_map all_in external.constants) (flat_map all_in (trees_in_form external.form))))
      (among_right local (flat_map locals_here (flat_map all_in external.constants)) (flat_map locals_here (flat_map all_in (trees_in_form external.form)))
      (subst (λ (form : ExternalForm). IsAmong local (flat_map locals_here (flat_map all_in (trees_in_form form)))) (sym e)
      (subst (IsAmong local) (sym (flat_map-append locals_here (all_in body) []))
      (among_left local (flat_map locals_here (all_in body)) [] (subst (IsAmong local) (sym (nodes_locals body)) a)))))))

  -- ---- those that may define objects of static storage duration

  listed_in : (form : ExternalForm) → FormFits scene form → (local : Local) → InForm local form → IsAmong local (locals_of form)
  listed_in (declares declarators trees) fits local a = a
  listed_in (defines_function f parameters body) fits local a =
      let inner = function_typed scene parameters body (slice_get one.declared f) fits.0 fits.1 in
      in_statement local inner.0 body inner.1 a

  all_listed : (externals : List External) (external : External) → IsAmong external externals → (local : Local) → IsAmong local (locals_of external.form) → IsAmong local (all_locals externals)
  all_listed [] external a local k = absurd a
  all_listed (first ∷ rest) external (inl e) local k = among_left local (locals_of first.form) (all_locals rest) (subst (λ (it : External). IsAmong local (locals_of it.form)) e k)
  all_listed (first ∷ rest) external (inr a) local k = among_right local (locals_of first.form) (all_locals rest) (all_listed rest external a local k)

  pub local_listed : (local : Local) → IsAmong local (locals_of_unit one) → IsAmong local (all_locals one.externals)
  local_listed local a =
      let from = unit_local local a in
      all_listed one.externals from.0 from.1 local (listed_in from.0.form (external_typed from.0 from.1).2 local from.2)
