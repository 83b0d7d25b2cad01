-- The function that is put in names no automatic object but its parameters.
--     lacking      an expression in whose scope an automatic object isn't doesn't name it
--     added_items      so it is of the items of its body
use Rattle.std.specs.Prelude.{◌≡◌, refl, ℕ, Bool, true, false, ◌&&◌, ◌||◌, not, ◌==◌, IfSome, IsSome, List, [], ◌∷◌, Option, Some, None, slice_get}
use Rattle.std.specs.List.{AllByRecursion}
use Rattle.std.specs.Option.{IsSomeAnd}
use Rattle.std.proofs.Common.{ap, sym, ◌∙◌, subst, arith, inl, inr}
use Rattle.std.proofs.lemmas.Bool.{true≢false, false≢true}
use Rattle.dm_type.specs.CTypes.{CType, CTypes, void, integer, pointer, array, struct, function as function_type, const, no_types, more_types}
use Rattle.dm_type.specs.Tables.{Table}
use Rattle.dm_tree.specs.Scenes.{Scene, is_lvalue}
use Rattle.dm_tree.specs.Trees.{Label, object, convert, sizeof_kind, block, declare, for_loop, full, return, Spans, Tree, Trees, node, no_trees, more_trees, label_of, parts_of, listed, is_statement}
use Rattle.dm_tree.specs.Typing.{inside, IsWellTyped, AreWellTyped, ParameterFits, ParametersFit, DefinitionFits, FunctionFits, FormFits, file_scene, body_scene}
use Rattle.dm_tree.specs.Units.{Declaration, ExternalForm, declares, defines_function, TypedUnit}
use Rattle.dm_meaning.specs.Among.{IsAmong}
use Rattle.dm_meaning.specs.Programs.{Definition}
use Rattle.dm_meaning.specs.Running.{evaluates}
use Rattle.dm_meaning.specs.Statements.{is_automatic_sort, is_automatic_declaration}
use Rattle.dm_meaning.specs.Units.{definitions_by}
use Rattle.dm_meaning.specs.Wholes.{is_expression, are_expressions}
use Rattle.dm_meaning.proofs.OptionLemmas.{and_left, and_right}
use Rattle.dm_meaning.proofs.WholeLemmas.{typed-expression}
use Rattle.dm_effect.specs.Scoped.{Scope, is_in_scope, same_scopes, names_in_scope, is_scoped, are_scoped, is_automatic, is_scoped_form}
use Rattle.dm_rewrite.specs.Closed.{May, only_closed, may_name, unseen, names_first}
use Rattle.dm_rewrite.specs.ClosedStates.{IsOther, NamesOnly, AllNameOnly, ListNamesOnly}
use Rattle.dm_agree.specs.Agreement.{added_function}
use Rattle.dm_align.specs.Units.{Insertion, IsPut, IsBodyOf, FormAdds}
use Rattle.dm_plain.specs.Plain.{IsNoLocal, NamesNoLocal, NameNoLocal, AreTypesPlain, AllTypesPlain, HasPlainTypes}
use Rattle.dm_standing.proofs.TypedLemmas.{typed_body}

-- ---- expressions

module _ (automatic : ℕ → Bool) (scope : Scope) (d : ℕ) (local : automatic d ≡ true) (outside : is_in_scope scope d ≡ false) where
  other_name : (c : ℕ) → (not (automatic c) || is_in_scope scope c) ≡ true → c ≡ d → ⊥
  other_name c e same = by_both (automatic d) (is_in_scope scope d) local outside (subst (λ (n : ℕ). (not (automatic n) || is_in_scope scope n) ≡ true) same e)
    where
      by_both : (a b : Bool) → a ≡ true → b ≡ false → (not a || b) ≡ true → ⊥
      by_both true b f g h = true≢false (sym h ∙ g)
      by_both false b f g h = false≢true f

  abbrev AllLack : Trees → Type 0
  AllLack no_trees = Unit {0}
  AllLack (more_trees first rest) = NamesOnly d first × AllLack rest

  only_parts : (may : May) (trees : Trees) → AllLack trees → AllNameOnly d may trees
  only_parts may no_trees h = tt
  only_parts only_closed (more_trees first rest) h = (h.0, only_parts only_closed rest h.1)
  only_parts may_name (more_trees first rest) h = (inl h.0, only_parts only_closed rest h.1)
  only_parts unseen (more_trees first rest) h = (tt, only_parts only_closed rest h.1)

  label_other : (label : Label) → names_in_scope automatic scope label ≡ true → IsOther d label
  label_other (object c) e = other_name c e
  label_other label e = tt

  lack_node : (label : Label) (kind : CType) (spans : Spans) (parts : Trees) → names_in_scope automatic scope label ≡ true → AllLack parts → NamesOnly d (node label kind spans parts)
  lack_node label kind spans parts e h = (label_other label e, only_parts (names_first (evaluates label)) parts h)

  -- lengths and enumerator values in type names name no automatic object
  no_local : (label : Label) → IsNoLocal automatic label → IsOther d label
  no_local (object c) e = λ same. true≢false (sym local ∙ (ap automatic (sym same) ∙ e))
  no_local label e = tt

  mutual
    plain_lacking : (tree : Tree) → NamesNoLocal automatic tree → NamesOnly d tree
    plain_lacking (node label kind spans parts) h = (no_local label h.0, only_parts (names_first (evaluates label)) parts (all_plain_lacking parts h.1))

    all_plain_lacking : (trees : Trees) → NameNoLocal automatic trees → AllLack trees
    all_plain_lacking no_trees h = tt
    all_plain_lacking (more_trees first rest) h = (plain_lacking first h.0, all_plain_lacking rest h.1)

  mutual
    pub lacking : (tree : Tree) → AreTypesPlain automatic tree → is_expression tree ≡ true → is_scoped automatic scope tree ≡ true → NamesOnly d tree
    lacking (node convert kind spans (more_trees operand lengths)) h e s =
        lack_node convert kind spans (more_trees operand lengths) refl
        (lacking operand h.1.0 (and_left (is_expression operand) (are_expressions lengths) e) (and_left (is_scoped automatic scope operand) (are_scoped automatic [] lengths) s), all_plain_lacking lengths h.0)
    lacking (node convert kind spans no_trees) h e s = lack_node convert kind spans no_trees refl tt
    lacking (node (sizeof_kind type) kind spans lengths) h e s = lack_node (sizeof_kind type) kind spans lengths refl (all_plain_lacking lengths h.0)
    lacking (node block kind spans parts) h e s = absurd (false≢true e)
    lacking (node (declare lengths declarators) kind spans parts) h e s = absurd (false≢true e)
    lacking (node (for_loop first second third) kind spans parts) h e s = absurd (false≢true e)
    lacking (node label kind spans parts) h e s =
        lack_node label kind spans parts (and_left (names_in_scope automatic scope label) (are_scoped automatic (same_scopes scope parts) parts) s)
        (all_lacking parts h.1 (and_right (not (is_statement label)) (are_expressions parts) e) (and_right (names_in_scope automatic scope label) (are_scoped automatic (same_scopes scope parts) parts) s))

    all_lacking : (trees : Trees) → AllTypesPlain automatic trees → are_expressions trees ≡ true → are_scoped automatic (same_scopes scope trees) trees ≡ true → AllLack trees
    all_lacking no_trees h e s = tt
    all_lacking (more_trees first rest) h e s = (
      lacking first h.0 (and_left (is_expression first) (are_expressions rest) e) (and_left (is_scoped automatic scope first) (are_scoped automatic (same_scopes scope rest) rest) s),
      all_lacking rest h.1 (and_right (is_expression first) (are_expressions rest) e) (and_right (is_scoped automatic scope first) (are_scoped automatic (same_scopes scope rest) rest) s),
    )

-- ---- bodies are blocks

block_by_type : (scene : Scene) (parameters : List ℕ) (body : Tree) (kind : CType) → DefinitionFits scene parameters body kind → label_of body ≡ block
block_by_type scene parameters body (function_type result kinds) fits = fits.1
block_by_type scene parameters body void fits = absurd fits
block_by_type scene parameters body (integer kind) fits = absurd fits
block_by_type scene parameters body (pointer kind) fits = absurd fits
block_by_type scene parameters body (array kind n) fits = absurd fits
block_by_type scene parameters body (struct n) fits = absurd fits
block_by_type scene parameters body (const kind) fits = absurd fits

block_by_entry : (scene : Scene) (parameters : List ℕ) (body : Tree) (found : Option Declaration) → IfSome found (FunctionFits scene parameters body) → IsSome found → label_of body ≡ block
block_by_entry scene parameters body None fits is = absurd (false≢true is)
block_by_entry scene parameters body (Some entry) fits is = block_by_type scene parameters body entry.kind fits.1

pub body_block : (types : Table) (declared : List Declaration) (f : ℕ) (parameters : List ℕ) (body : Tree) → FormFits (file_scene types declared) (defines_function f parameters body) → label_of body ≡ block
body_block types declared f parameters body fits = block_by_entry (file_scene types declared) parameters body (slice_get declared f) fits.0 fits.1

-- ---- the function that is put in

not_statement : (scene : Scene) (tree : Tree) → IsWellTyped scene tree → (not (is_lvalue tree) && not (is_statement (label_of tree))) ≡ true → is_expression tree ≡ true
not_statement scene tree typed value = typed-expression scene tree typed (and_right (not (is_lvalue tree)) (not (is_statement (label_of tree))) value)

module _ (automatic : ℕ → Bool) (d : ℕ) (local : automatic d ≡ true) (body : Tree) (lengths : AreTypesPlain automatic body) where
  -- its one item
  item_lacks : (scope : Scope) → is_in_scope scope d ≡ false → (label : Label) (value : Tree) → (scene : Scene) → IsWellTyped scene value → (not (is_lvalue value) && not (is_statement (label_of value))) ≡ true
      → body ≡ value → (is_scoped automatic scope value && true) ≡ true → NamesOnly d value
  item_lacks scope outside label value scene typed is same e =
      lacking automatic scope d local outside value (subst (AreTypesPlain automatic) same lengths) (not_statement scene value typed is) (and_left (is_scoped automatic scope value) true e)

  items_lack : (scope : Scope) → is_in_scope scope d ≡ false → (result : CType) (scene : Scene) (kind : CType) (spans : Spans) (items : Trees) → IsBodyOf result body (listed items) → AreWellTyped scene items
      → is_scoped automatic scope (node block kind spans items) ≡ true → ListNamesOnly d (listed items)
  items_lack scope outside result scene kind spans (more_trees (node return item_kind item_spans (more_trees value no_trees)) no_trees) h typed e =
      ((tt, (item_lacks scope outside return value (inside scene return (value ∷ [])) typed.0.1.0 typed.0.0.0.0 h.0 (and_left (is_scoped automatic scope value && true) true e), tt)), tt)
  items_lack scope outside result scene kind spans (more_trees (node full item_kind item_spans (more_trees value no_trees)) no_trees) h typed e =
      ((tt, (item_lacks scope outside full value (inside scene full (value ∷ [])) typed.0.1.0 typed.0.0.0 h.0 (and_left (is_scoped automatic scope value && true) true e), tt)), tt)
  items_lack scope outside result scene kind spans items h typed e = absurd h

  whole_lacks : (scope : Scope) → is_in_scope scope d ≡ false → (result : CType) (scene : Scene) (whole : Tree) → label_of whole ≡ block → IsBodyOf result body (parts_of whole) → IsWellTyped scene whole
      → is_scoped automatic scope whole ≡ true → ListNamesOnly d (parts_of whole)
  whole_lacks scope outside result scene (node label kind spans items) is h typed e =
      items_lack scope outside result (inside scene label (listed items)) kind spans items h typed.1 (subst (λ (l : Label). is_scoped automatic scope (node l kind spans items) ≡ true) is e)

some_body : (found : Option Declaration) (Name Sort Linkage : Declaration → Type 0) (result_in : Declaration → CType) (body : Tree) (parts : List Tree)
    → IsSomeAnd found (λ (entry : Declaration). Name entry × (Sort entry × Linkage entry × IsBodyOf (result_in entry) body parts)) → (result : CType) × IsBodyOf result body parts
some_body None Name Sort Linkage result_in body parts h = absurd h
some_body (Some entry) Name Sort Linkage result_in body parts h = (result_in entry, h.1.2)

equal_nat : (a b : ℕ) → (a == b) ≡ true → a ≡ b
equal_nat a b e = grind (arith, e)

-- what is put in doesn't have the number of another declaration
no_parameter : (put : Insertion) (d : ℕ) → (IsPut put d → ⊥) → (parameters : List ℕ) → AllByRecursion (IsPut put) parameters → is_in_scope parameters d ≡ false
no_parameter put d apart [] h = refl
no_parameter put d apart (p ∷ parameters) h = by_test (p == d) refl (no_parameter put d apart parameters h.1)
  where
    by_test : (b : Bool) → (p == d) ≡ b → is_in_scope parameters d ≡ false → (b || is_in_scope parameters d) ≡ false
    by_test true e rest = absurd (apart (subst (IsPut put) (equal_nat p d e) h.0))
    by_test false e rest = rest

pub added_items : (types : Table) (new : TypedUnit) (put : Insertion) (f : ℕ) (parameters : List ℕ) (body : Tree) → HasPlainTypes new body → (d : ℕ) → is_automatic new.declared d ≡ true → (IsPut put d → ⊥)
    → (form : ExternalForm) → FormFits (file_scene types new.declared) form → FormAdds types new put (added_function f parameters body) form → is_scoped_form (is_automatic new.declared) form ≡ true
    → (definition : Definition) → IsAmong definition (definitions_by form) → ListNamesOnly d (parts_of definition.body)
added_items types new put f parameters body lengths d local apart (declares declarators trees) fits h scoped definition l = absurd h
added_items types new put f parameters body lengths d local apart (defines_function g others whole) fits h scoped definition (inl same) =
    let it = typed_body types new.declared g others whole fits in
    let is = some_body (slice_get new.declared f) _ _ _ _ body (parts_of whole) h.3.1 in
    subst (λ (one : Definition). ListNamesOnly d (parts_of one.body)) (sym same)
    (whole_lacks (is_automatic new.declared) d local body lengths others
    (no_parameter put d apart others (subst (AllByRecursion (IsPut put)) h.1 h.2.0)) is.0 (body_scene (file_scene types new.declared) it.result) whole
    (body_block types new.declared g others whole fits) is.1 it.typed scoped)
added_items types new put f parameters body lengths d local apart (defines_function g others whole) fits h scoped definition (inr l) = absurd l

-- ---- its parameters

module _ (declared : List Declaration) (scene : Scene) (same : scene.declared ≡ declared) where
  entry_automatic : (p : ℕ) (type : CType) (found : Option Declaration) → slice_get scene.declared p ≡ found → IfSome found (ParameterFits scene type) → IsSome found → is_automatic declared p ≡ true
  entry_automatic p type None e fits is = absurd (false≢true is)
  entry_automatic p type (Some entry) e fits is =
      ap is_automatic_declaration (ap (λ (ds : List Declaration). slice_get ds p) (sym same) ∙ e) ∙ ap is_automatic_sort fits.0

  all_automatic : (parameters : List ℕ) (types : CTypes) → ParametersFit scene parameters types → (p : ℕ) → IsAmong p parameters → is_automatic declared p ≡ true
  all_automatic [] types fits p l = absurd l
  all_automatic (q ∷ parameters) no_types fits p l = absurd fits
  all_automatic (q ∷ parameters) (more_types type types) fits p (inl e) =
      ap (is_automatic declared) e ∙ entry_automatic q type (slice_get scene.declared q) refl fits.0.0 fits.0.1
  all_automatic (q ∷ parameters) (more_types type types) fits p (inr l) = all_automatic parameters types fits.1 p l

automatic_by_type : (types : Table) (declared : List Declaration) (parameters : List ℕ) (body : Tree) (kind : CType) → DefinitionFits (file_scene types declared) parameters body kind
    → (p : ℕ) → IsAmong p parameters → is_automatic declared p ≡ true
automatic_by_type types declared parameters body (function_type result kinds) fits = all_automatic declared (file_scene types declared) refl parameters kinds fits.0
automatic_by_type types declared parameters body void fits = absurd fits
automatic_by_type types declared parameters body (integer kind) fits = absurd fits
automatic_by_type types declared parameters body (pointer kind) fits = absurd fits
automatic_by_type types declared parameters body (array kind n) fits = absurd fits
automatic_by_type types declared parameters body (struct n) fits = absurd fits
automatic_by_type types declared parameters body (const kind) fits = absurd fits

automatic_by_entry : (types : Table) (declared : List Declaration) (parameters : List ℕ) (body : Tree) (found : Option Declaration) → IfSome found (FunctionFits (file_scene types declared) parameters body)
    → IsSome found → (p : ℕ) → IsAmong p parameters → is_automatic declared p ≡ true
automatic_by_entry types declared parameters body None fits is = absurd (false≢true is)
automatic_by_entry types declared parameters body (Some entry) fits is = automatic_by_type types declared parameters body entry.kind fits.1

pub automatic_parameters : (types : Table) (new : TypedUnit) (put : Insertion) (f : ℕ) (parameters : List ℕ) (body : Tree) (form : ExternalForm) → FormFits (file_scene types new.declared) form
    → FormAdds types new put (added_function f parameters body) form → (p : ℕ) → IsAmong p parameters → is_automatic new.declared p ≡ true
automatic_parameters types new put f parameters body (declares declarators trees) fits h p l = absurd h
automatic_parameters types new put f parameters body (defines_function g others whole) fits h p l =
    automatic_by_entry types new.declared others whole (slice_get new.declared g) fits.0 fits.1 p (subst (IsAmong p) h.1 l)
