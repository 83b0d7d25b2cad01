-- The trees of a program with other places.
--     settled_statement, settled_expression      what a statement and a full expression are
--     erased_refines      the program with such trees refines the program
use Rattle.std.specs.Prelude.{◌≡◌, refl, Bool, true, false, not, ◌&&◌, List, [], ◌∷◌, map, if◌then◌else◌}
use Rattle.std.proofs.Common.{ap, sym, ◌∙◌, inl, map-id}
use Rattle.dm_type.specs.CTypes.{CType}
use Rattle.dm_tree.specs.Trees.{Label, enumerator, object, function, declare, Declarator, Spans, Tree, Trees, node, no_trees, more_trees, label_of, kind_of, spans_of, trees_of, listed, is_statement}
use Rattle.dm_meaning.specs.Programs.{Definition, Static, Program}
use Rattle.dm_meaning.specs.Refinement.{Refines}
use Rattle.dm_meaning.specs.Replaced.{Replaced, renamed_declarator, relabelled, Zipped, Agrees, AllAgree, DefinitionAgrees, StaticAgrees}
use Rattle.dm_meaning.specs.Units.{machine_of}
use Rattle.dm_meaning.specs.Wholes.{is_expression, are_expressions}
use Rattle.dm_meaning.proofs.StartLemmas.{enumerated_refines}
use Rattle.dm_late.specs.Settled.{nowhere, erased, all_erased, spot, settled, all_settled, erased_definition, erased_static, erased_program}

pub erased_kind : (at : Spans) (tree : Tree) → kind_of (erased at tree) ≡ kind_of tree
erased_kind at (node label kind spans parts) = refl

pub erased_list : (at : Spans) (trees : Trees) → listed (all_erased at trees) ≡ map (erased at) (listed trees)
erased_list at no_trees = refl
erased_list at (more_trees first rest) = ap (λ (ts : List Tree). erased at first ∷ ts) (erased_list at rest)

mutual
  pub erased_expression : (at : Spans) (tree : Tree) → is_expression (erased at tree) ≡ is_expression tree
  erased_expression at (node label kind spans parts) = ap (λ b. not (is_statement label) && b) (erased_expressions at parts)

  erased_expressions : (at : Spans) (trees : Trees) → are_expressions (all_erased at trees) ≡ are_expressions trees
  erased_expressions at no_trees = refl
  erased_expressions at (more_trees first rest) =
      ap (λ b. b && are_expressions (all_erased at rest)) (erased_expression at first) ∙ ap (λ b. is_expression first && b) (erased_expressions at rest)

-- ---- statements

pub settled_statement : (label : Label) (kind : CType) (spans : Spans) (parts : Trees) → is_statement label ≡ true → settled (node label kind spans parts) ≡ node label kind nowhere (all_settled parts)
settled_statement label kind spans parts e = ap (λ b. if b then node label kind nowhere (all_settled parts) else node label kind (spot spans) (all_erased (spot spans) parts)) e

pub settled_expression : (tree : Tree) → is_statement (label_of tree) ≡ false → settled tree ≡ erased (spot (spans_of tree)) tree
settled_expression (node label kind spans parts) e = ap (λ b. if b then node label kind nowhere (all_settled parts) else node label kind (spot spans) (all_erased (spot spans) parts)) e

pub settled_list : (trees : Trees) → listed (all_settled trees) ≡ map settled (listed trees)
settled_list no_trees = refl
settled_list (more_trees first rest) = ap (λ (ts : List Tree). settled first ∷ ts) (settled_list rest)

-- ---- programs

-- no number changes
same_declarators : (declarators : List Declarator) → map (renamed_declarator (λ d. d)) declarators ≡ declarators
same_declarators [] = refl
same_declarators (one ∷ others) = ap (λ (ds : List Declarator). one ∷ ds) (same_declarators others)

same_label : (label : Label) → label ≡ relabelled (λ d. d) label
same_label (enumerator d) = refl
same_label (object d) = refl
same_label (function d) = refl
same_label (declare lengths declarators) = ap (λ (ds : List Declarator). declare lengths ds) (sym (same_declarators declarators))
same_label label = refl

module _ (program : Program) where
  abbrev change : Replaced
  change = record {
    old = program;
    declared = program.declared;
    functions = map erased_definition program.functions;
    statics = map erased_static program.statics;
    rename = λ d. d;
  }

  mutual
    erased_agrees : (at : Spans) (tree : Tree) → Agrees change (erased at tree) tree
    erased_agrees at (node label kind spans parts) = inl (same_label label, refl, all_erased_agree at parts)

    all_erased_agree : (at : Spans) (trees : Trees) → AllAgree change (all_erased at trees) trees
    all_erased_agree at no_trees = tt
    all_erased_agree at (more_trees first rest) = (erased_agrees at first, all_erased_agree at rest)

  by_statement : (label : Label) (kind : CType) (spans : Spans) (parts : Trees) (b : Bool) → AllAgree change (all_settled parts) parts
      → Agrees change (if b then node label kind nowhere (all_settled parts) else node label kind (spot spans) (all_erased (spot spans) parts)) (node label kind spans parts)
  by_statement label kind spans parts true h = inl (same_label label, refl, h)
  by_statement label kind spans parts false h = inl (same_label label, refl, all_erased_agree (spot spans) parts)

  mutual
    settled_agrees : (tree : Tree) → Agrees change (settled tree) tree
    settled_agrees (node label kind spans parts) = by_statement label kind spans parts (is_statement label) (all_settled_agree parts)

    all_settled_agree : (trees : Trees) → AllAgree change (all_settled trees) trees
    all_settled_agree no_trees = tt
    all_settled_agree (more_trees first rest) = (settled_agrees first, all_settled_agree rest)

  body_agrees : (body : Tree) → AllAgree change (trees_of (settled body)) (trees_of body)
  body_agrees (node label kind spans parts) = by_bool (is_statement label)
    where
      by_bool : (b : Bool) → AllAgree change (trees_of (if b then node label kind nowhere (all_settled parts) else node label kind (spot spans) (all_erased (spot spans) parts))) parts
      by_bool true = all_settled_agree parts
      by_bool false = all_erased_agree (spot spans) parts

  functions_agree : (definitions : List Definition) → Zipped (DefinitionAgrees change) (map erased_definition definitions) definitions
  functions_agree [] = tt
  functions_agree (one ∷ others) = ((refl, sym (map-id one.parameters), body_agrees one.body), functions_agree others)

  expressions_agree : (trees : List Tree) → Zipped (Agrees change) (map (erased nowhere) trees) trees
  expressions_agree [] = tt
  expressions_agree (tree ∷ trees) = (erased_agrees nowhere tree, expressions_agree trees)

  statics_agree : (statics : List Static) → Zipped (StaticAgrees change) (map erased_static statics) statics
  statics_agree [] = tt
  statics_agree (one ∷ others) = ((refl, refl, expressions_agree one.expressions), statics_agree others)

  pub erased_refines : Refines (machine_of (erased_program program)) (machine_of program)
  erased_refines = enumerated_refines change (record {
    injective = λ c d e. e;
    told = λ d. refl;
    functions = functions_agree program.functions;
    statics = statics_agree program.statics;
  })
