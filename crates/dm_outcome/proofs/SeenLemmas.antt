-- A typed unit is seen the same over two tables that have the same types at its numbers, and its numbers are below some number.
use Rattle.std.specs.Prelude.{◌≡◌, ℕ, ◌<◌, Bool, true, ◌&&◌, nat_lt, List, [], ◌∷◌, map, option_map, Option, Some, None, refl}
use Rattle.std.specs.List.{list_all}
use Rattle.std.proofs.Common.{rules, sym, ap, ap₂, ◌∙◌, arith}
use Rattle.std.proofs.lemmas.Bool.{and_parts, ltb-true}
use Rattle.dm_token.specs.declared.place.Place.{Place}
use Rattle.dm_token.specs.declared.place.Span.{Span}
use Rattle.dm_type.specs.declared.shape.Content.{Content}
use Rattle.dm_type.specs.declared.shape.Member.{Member}
use Rattle.dm_type.specs.declared.shape.Struct.{Struct}
use Rattle.dm_type.specs.Structs.{shown_member, shown_content, shown_struct}
use Rattle.dm_type.specs.Tables.{Table, type_of}
use Rattle.dm_tree.specs.declared.tree.Core.{Core}
use Rattle.dm_tree.specs.declared.tree.Core as q
use Rattle.dm_tree.specs.declared.tree.Form.TheVariants.{Block, Declare}
use Rattle.dm_tree.specs.declared.tree.Local.{Local}
use Rattle.dm_tree.specs.declared.unit.CoreExternal.{CoreExternal}
use Rattle.dm_tree.specs.declared.unit.CoreExternalForm.{CoreExternalForm}
use Rattle.dm_tree.specs.declared.unit.CoreExternalForm.TheVariants.{Declaration as DeclarationForm, Function}
use Rattle.dm_tree.specs.declared.unit.CoreUnit.{CoreUnit}
use Rattle.dm_tree.specs.declared.unit.Declared.{Declared}
use Rattle.dm_tree.specs.Trees.{Label, Tree, Declarator, label_of, parts_of}
use Rattle.dm_tree.specs.Trees as label
use Rattle.dm_tree.specs.TypeNumbers.{are_known, entry_has_known}
use Rattle.dm_tree.specs.Units.{Declaration, External, ExternalForm, declares, defines_function, TypedUnit}
use Rattle.dm_tree.specs.ViewLaws.{stays}
use Rattle.dm_tree.specs.Views.{view, view_of_local, declarators_of, expressions_of_locals, opened, node_of, view_of_declared, view_of_form, view_of_external, view_of_unit}
use Rattle.dm_tree.proofs.ListLemmas.{listed-trees}
use Rattle.dm_outcome.proofs.BoundLemmas.{Bounded, number-bounded, both-bounded, list-bounded, core-bounded}

-- ---- the trees of an external declaration as parts of trees

abbrev nowhere : Span
nowhere = record { first = 0; after = 0 }

abbrev no_place : Place
no_place = record { file = 0; byte = 0; line = 0; column = 0 }

abbrev block_of : List Core → Core
block_of trees = record { form = Block trees; kind = 0; inner = nowhere; outer = nowhere; place = no_place }

abbrev declaration_of : List Local → Core
declaration_of locals = record { form = Declare [] locals; kind = 0; inner = nowhere; outer = nowhere; place = no_place }

view-block : (types : Table) (trees : List Core) → view types (block_of trees) ≡ node_of (opened label.block (map (view types) trees)) (type_of types 0) nowhere nowhere no_place
view-block types trees = search (rules, q.the_lemmas)

view-declaration : (types : Table) (locals : List Local) → view types (declaration_of locals)
    ≡ node_of (opened (label.declare 0 (declarators_of (map (view_of_local types) locals))) (expressions_of_locals (map (view_of_local types) locals))) (type_of types 0) nowhere nowhere no_place
view-declaration types locals = search (rules, q.the_lemmas)

abbrev pub tree_of_form : CoreExternalForm → Core
tree_of_form (DeclarationForm locals) = declaration_of locals
tree_of_form (Function function parameters body) = body

abbrev pub trees_of : CoreExternal → List Core
trees_of one = block_of one.constants ∷ tree_of_form one.form ∷ []

-- ---- numbers below some number

abbrev pub content_below : ℕ → Option Content → Bool
content_below n None = true
content_below n (Some content) = list_all (λ (member : Member). nat_lt member.kind n) content.members

abbrev pub struct_below : ℕ → Struct → Bool
struct_below n entry = content_below n entry.content

abbrev pub trees_below : ℕ → CoreExternal → Bool
trees_below n one = list_all (are_known n) (trees_of one)

-- all numbers of types in a typed unit and its structs
abbrev pub unit_below : CoreUnit × Table → ℕ → Bool
unit_below made n = list_all (entry_has_known n) made.0.declared && (list_all (trees_below n) made.0.externals && list_all (struct_below n) made.1.structs)

content-bounded : (content : Option Content) → Bounded (λ n. content_below n content)
content-bounded None = (0, λ m le. refl)
content-bounded (Some content) = list-bounded (λ n (member : Member). nat_lt member.kind n) (λ member. number-bounded member.kind) content.members

pub unit-bounded : (made : CoreUnit × Table) → Bounded (unit_below made)
unit-bounded made =
    both-bounded (λ n. list_all (entry_has_known n) made.0.declared) (λ n. list_all (trees_below n) made.0.externals && list_all (struct_below n) made.1.structs)
    (list-bounded entry_has_known (λ entry. number-bounded entry.kind) made.0.declared)
    (both-bounded (λ n. list_all (trees_below n) made.0.externals) (λ n. list_all (struct_below n) made.1.structs)
    (list-bounded trees_below (λ one. list-bounded are_known core-bounded (trees_of one)) made.0.externals)
    (list-bounded struct_below (λ entry. content-bounded entry.content) made.1.structs))

-- ---- what is seen

abbrev declared_in : Label → List Declarator
declared_in (label.declare n declarators) = declarators
declared_in form = []

module _ (n : ℕ) (old new : Table) (same : (id : ℕ) → id < n → type_of new id ≡ type_of old id) where
  tree-same : (tree : Core) → are_known n tree ≡ true → view new tree ≡ view old tree
  tree-same tree h = (stays n n (omega arith) old new same tree h).0

  constants-same : (trees : List Core) → are_known n (block_of trees) ≡ true → map (view new) trees ≡ map (view old) trees
  constants-same trees h =
      let e = sym (view-block new trees) ∙ tree-same (block_of trees) h ∙ view-block old trees in
      sym (listed-trees (map (view new) trees)) ∙ ap parts_of e ∙ listed-trees (map (view old) trees)

  form-same : (form : CoreExternalForm) → are_known n (tree_of_form form) ≡ true → view_of_form new form ≡ view_of_form old form
  form-same (DeclarationForm locals) h =
      let e = sym (view-declaration new locals) ∙ tree-same (declaration_of locals) h ∙ view-declaration old locals in
      ap₂ declares (ap (λ tree. declared_in (label_of tree)) e)
      (sym (listed-trees (expressions_of_locals (map (view_of_local new) locals))) ∙ ap parts_of e ∙ listed-trees (expressions_of_locals (map (view_of_local old) locals)))
  form-same (Function function parameters body) h = ap (defines_function function parameters) (tree-same body h)

  external_of : Span → List Tree → ExternalForm → External
  external_of span constants form = record { span = span; constants = constants; form = form }

  external-same : (one : CoreExternal) → trees_below n one ≡ true → view_of_external new one ≡ view_of_external old one
  unfolding external_of
  external-same one h =
      let first = and_parts (are_known n (block_of one.constants)) (list_all (are_known n) (tree_of_form one.form ∷ [])) h in
      let second = and_parts (are_known n (tree_of_form one.form)) true first.1 in
      ap₂ (external_of one.span) (constants-same one.constants first.0) (form-same one.form second.0)

  externals-same : (all : List CoreExternal) → list_all (trees_below n) all ≡ true → map (view_of_external new) all ≡ map (view_of_external old) all
  externals-same [] h = refl
  externals-same (one ∷ others) h =
      let parts = and_parts (trees_below n one) (list_all (trees_below n) others) h in ap₂ (λ x xs. x ∷ xs) (external-same one parts.0) (externals-same others parts.1)

  entry-same : (entry : Declared) → entry_has_known n entry ≡ true → view_of_declared new entry ≡ view_of_declared old entry
  entry-same entry h = ap (λ kind. record { name = entry.name; sort = entry.sort; kind = kind; linkage = entry.linkage; place = entry.place }) (same entry.kind (ltb-true entry.kind n h))

  entries-same : (entries : List Declared) → list_all (entry_has_known n) entries ≡ true → map (view_of_declared new) entries ≡ map (view_of_declared old) entries
  entries-same [] h = refl
  entries-same (entry ∷ others) h =
      let parts = and_parts (entry_has_known n entry) (list_all (entry_has_known n) others) h in ap₂ (λ x xs. x ∷ xs) (entry-same entry parts.0) (entries-same others parts.1)

  unit_of : List Declaration → List External → TypedUnit
  unit_of declared externals = record { declared = declared; externals = externals }

  pub unit-same : (one : CoreUnit) → list_all (entry_has_known n) one.declared ≡ true → list_all (trees_below n) one.externals ≡ true → view_of_unit new one ≡ view_of_unit old one
  unfolding unit_of
  unit-same one entries externals = ap₂ unit_of (entries-same one.declared entries) (externals-same one.externals externals)

  members-same : (members : List Member) → list_all (λ (member : Member). nat_lt member.kind n) members ≡ true → map (shown_member new) members ≡ map (shown_member old) members
  members-same [] h = refl
  members-same (member ∷ others) h =
      let parts = and_parts (nat_lt member.kind n) (list_all (λ (it : Member). nat_lt it.kind n) others) h in
      ap₂ (λ kind rest. (member.name, kind) ∷ rest) (same member.kind (ltb-true member.kind n parts.0)) (members-same others parts.1)

  struct-same : (entry : Struct) → struct_below n entry ≡ true → shown_struct new entry ≡ shown_struct old entry
  struct-same entry h = ap (λ content. (entry.tag, content)) (go entry.content h)
    where
      go : (content : Option Content) → content_below n content ≡ true → option_map (shown_content new) content ≡ option_map (shown_content old) content
      go None h = refl
      go (Some content) h = ap (λ members. Some (members, content.layout)) (members-same content.members h)

  pub structs-same : (entries : List Struct) → list_all (struct_below n) entries ≡ true → map (shown_struct new) entries ≡ map (shown_struct old) entries
  structs-same [] h = refl
  structs-same (entry ∷ others) h =
      let parts = and_parts (struct_below n entry) (list_all (struct_below n) others) h in ap₂ (λ x xs. x ∷ xs) (struct-same entry parts.0) (structs-same others parts.1)
