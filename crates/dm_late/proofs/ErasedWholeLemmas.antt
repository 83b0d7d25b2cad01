-- Trees without their places are whole, quiet and so on as they were.
--     all_whole_settled      no statement stands in their full expressions
--     quiet_settled      they write nothing
--     all_names_settled      they name an object only where they read or write it
--     still_nowhere      no object becomes local
use Rattle.std.specs.Prelude.{◌≡◌, refl, ℕ, ◌==◌, Bool, true, false, not, ◌&&◌, ◌||◌, List, [], ◌∷◌, map, if◌then◌else◌}
use Rattle.std.specs.List.{list_all, list_any}
use Rattle.std.proofs.Common.{ap, sym, ◌∙◌, inl, inr}
use Rattle.std.proofs.lemmas.Bool.{false≢true}
use Rattle.dm_type.specs.CTypes.{CType}
use Rattle.dm_tree.specs.Trees.{Label, function, read, store, update, count, call, sizeof_tree, block, declare, if_statement, switch, case, default, while_loop, do_loop, for_loop, Spans, Tree, Trees, node, no_trees, more_trees, label_of, trees_of, listed, is_statement}
use Rattle.dm_tree.specs.TypeNumbers.{all_pass}
use Rattle.dm_meaning.specs.Called.{is_parameter, is_nowhere_local}
use Rattle.dm_meaning.specs.Programs.{Definition, Program, declaration_of}
use Rattle.dm_meaning.specs.Running.{evaluates}
use Rattle.dm_meaning.specs.Statements.{is_automatic_declaration}
use Rattle.dm_meaning.specs.Wholes.{is_expression, are_expressions, all_expressions, is_whole_start, first_and, loop_whole, do_whole, whole_by, is_whole, are_whole}
use Rattle.dm_rewrite.specs.Closed.{May, only_closed, may_name, unseen, names_first, FirstIs}
use Rattle.dm_rewrite.specs.ClosedStates.{IsName, NamesOnly, AllNameOnly}
use Rattle.dm_central.specs.QuietFrames.{is_quiet_node, WritesNothing, AllWriteNothing}
use Rattle.dm_late.specs.Settled.{nowhere, erased, all_erased, spot, settled, all_settled, erased_definition, erased_program}
use Rattle.dm_late.proofs.ErasedLemmas.{erased_list, erased_expression, settled_list}

-- where expressions stay expressions
module _ (f : Tree → Tree) (same : (tree : Tree) → is_expression (f tree) ≡ is_expression tree) (same_start : (tree : Tree) → is_whole_start (f tree) ≡ is_whole_start tree) where
  expressions_same : (trees : List Tree) → all_expressions (map f trees) ≡ all_expressions trees
  expressions_same [] = refl
  expressions_same (first ∷ rest) = ap (λ b. b && all_expressions (map f rest)) (same first) ∙ ap (λ b. is_expression first && b) (expressions_same rest)

  first_same : (trees : List Tree) (wholes : List Bool) → first_and is_expression (map f trees) wholes ≡ first_and is_expression trees wholes
  first_same [] wholes = refl
  first_same (first ∷ rest) [] = refl
  first_same (first ∷ rest) (whole ∷ wholes) = ap (λ b. b && all_pass wholes) (same first)

  loop_same : (first second third : Bool) (trees : List Tree) (wholes : List Bool) → loop_whole first second third (map f trees) wholes ≡ loop_whole first second third trees wholes
  loop_same true second third [] wholes = refl
  loop_same true second third (tree ∷ trees) [] = refl
  loop_same true second third (tree ∷ trees) (whole ∷ wholes) =
      ap (λ b. b && loop_whole false second third (map f trees) wholes) (same_start tree) ∙ ap (λ b. is_whole_start tree && b) (loop_same false second third trees wholes)
  loop_same false true third [] wholes = refl
  loop_same false true third (tree ∷ trees) [] = refl
  loop_same false true third (tree ∷ trees) (whole ∷ wholes) =
      ap (λ b. b && loop_whole false false third (map f trees) wholes) (same tree) ∙ ap (λ b. is_expression tree && b) (loop_same false false third trees wholes)
  loop_same false false true [] wholes = refl
  loop_same false false true (tree ∷ trees) [] = refl
  loop_same false false true (tree ∷ trees) (whole ∷ wholes) =
      ap (λ b. b && loop_whole false false false (map f trees) wholes) (same tree) ∙ ap (λ b. is_expression tree && b) (loop_same false false false trees wholes)
  loop_same false false false trees wholes = refl

  do_same : (trees : List Tree) (wholes : List Bool) → do_whole (map f trees) wholes ≡ do_whole trees wholes
  do_same [] wholes = refl
  do_same (first ∷ rest) [] = refl
  do_same (first ∷ rest) (whole ∷ wholes) = ap (λ b. whole && b) (expressions_same rest)

  label_same : (label : Label) (trees : List Tree) (wholes : List Bool) → whole_by label (map f trees) wholes ≡ whole_by label trees wholes
  label_same block trees wholes = refl
  label_same if_statement trees wholes = first_same trees wholes
  label_same switch trees wholes = first_same trees wholes
  label_same case trees wholes = first_same trees wholes
  label_same default trees wholes = refl
  label_same while_loop trees wholes = first_same trees wholes
  label_same do_loop trees wholes = do_same trees wholes
  label_same (for_loop first second third) trees wholes = loop_same first second third trees wholes
  label_same label trees wholes = expressions_same trees

-- ---- expressions

start_erased : (at : Spans) (tree : Tree) → is_whole_start (erased at tree) ≡ is_whole_start tree
start_erased at (node (declare lengths declarators) kind spans parts) =
    ap all_expressions (erased_list at parts) ∙ all_of at (listed parts)
  where
    all_of : (at : Spans) (trees : List Tree) → all_expressions (map (erased at) trees) ≡ all_expressions trees
    all_of at [] = refl
    all_of at (first ∷ rest) = ap (λ b. b && all_expressions (map (erased at) rest)) (erased_expression at first) ∙ ap (λ b. is_expression first && b) (all_of at rest)
start_erased at (node label kind spans parts) = erased_expression at (node label kind spans parts)

mutual
  whole_erased : (at : Spans) (tree : Tree) → is_whole (erased at tree) ≡ is_whole tree
  whole_erased at (node label kind spans parts) =
      ap (λ (trees : List Tree). whole_by label trees (are_whole (all_erased at parts))) (erased_list at parts)
      ∙ (label_same (erased at) (erased_expression at) (start_erased at) label (listed parts) (are_whole (all_erased at parts)) ∙ ap (whole_by label (listed parts)) (wholes_erased at parts))

  wholes_erased : (at : Spans) (trees : Trees) → are_whole (all_erased at trees) ≡ are_whole trees
  wholes_erased at no_trees = refl
  wholes_erased at (more_trees first rest) = ap (λ b. b ∷ are_whole (all_erased at rest)) (whole_erased at first) ∙ ap (λ bs. is_whole first ∷ bs) (wholes_erased at rest)

-- ---- statements

expression_settled : (tree : Tree) → is_expression (settled tree) ≡ is_expression tree
expression_settled (node label kind spans parts) = by_statement (is_statement label) refl
  where
    by_statement : (b : Bool) → is_statement label ≡ b
        → is_expression (if b then node label kind nowhere (all_settled parts) else node label kind (spot spans) (all_erased (spot spans) parts)) ≡ is_expression (node label kind spans parts)
    by_statement true e = ap (λ c. not c && are_expressions (all_settled parts)) e ∙ sym (ap (λ c. not c && are_expressions parts) e)
    by_statement false e = erased_expression (spot spans) (node label kind spans parts)

start_settled : (tree : Tree) → is_whole_start (settled tree) ≡ is_whole_start tree
start_settled (node (declare lengths declarators) kind spans parts) = ap all_expressions (settled_list parts) ∙ all_of (listed parts)
  where
    all_of : (trees : List Tree) → all_expressions (map settled trees) ≡ all_expressions trees
    all_of [] = refl
    all_of (first ∷ rest) = ap (λ b. b && all_expressions (map settled rest)) (expression_settled first) ∙ ap (λ b. is_expression first && b) (all_of rest)
start_settled (node label kind spans parts) = expression_settled (node label kind spans parts)

whole_by_form : (label : Label) (kind : CType) (spans : Spans) (parts : Trees) (b : Bool) → are_whole (all_settled parts) ≡ are_whole parts
    → is_whole (if b then node label kind nowhere (all_settled parts) else node label kind (spot spans) (all_erased (spot spans) parts)) ≡ is_whole (node label kind spans parts)
whole_by_form label kind spans parts true h =
    ap (λ (trees : List Tree). whole_by label trees (are_whole (all_settled parts))) (settled_list parts)
    ∙ (label_same settled expression_settled start_settled label (listed parts) (are_whole (all_settled parts)) ∙ ap (whole_by label (listed parts)) h)
whole_by_form label kind spans parts false h = whole_erased (spot spans) (node label kind spans parts)

mutual
  whole_settled : (tree : Tree) → is_whole (settled tree) ≡ is_whole tree
  whole_settled (node label kind spans parts) = whole_by_form label kind spans parts (is_statement label) (wholes_settled parts)

  wholes_settled : (trees : Trees) → are_whole (all_settled trees) ≡ are_whole trees
  wholes_settled no_trees = refl
  wholes_settled (more_trees first rest) = ap (λ b. b ∷ are_whole (all_settled rest)) (whole_settled first) ∙ ap (λ bs. is_whole first ∷ bs) (wholes_settled rest)

pub all_whole_settled : (trees : List Tree) → list_all is_whole (map settled trees) ≡ list_all is_whole trees
all_whole_settled [] = refl
all_whole_settled (first ∷ rest) = ap (λ b. b && list_all is_whole (map settled rest)) (whole_settled first) ∙ ap (λ b. is_whole first && b) (all_whole_settled rest)

-- ---- quiet trees

node_quiet : (at : Spans) (quiet : ℕ → Bool) (label : Label) (parts : Trees) → is_quiet_node quiet label parts ≡ true → is_quiet_node quiet label (all_erased at parts) ≡ true
node_quiet at quiet call (more_trees (node (function g) kind spans no_trees) rest) e = e
node_quiet at quiet call (more_trees (node (function g) kind spans (more_trees below others)) rest) e = absurd (false≢true e)
node_quiet at quiet call (more_trees (node label kind spans parts) rest) e = absurd (false≢true e)
node_quiet at quiet call no_trees e = absurd (false≢true e)
node_quiet at quiet label parts e = e

mutual
  pub quiet_erased : (at : Spans) (quiet : ℕ → Bool) (tree : Tree) → WritesNothing quiet tree → WritesNothing quiet (erased at tree)
  quiet_erased at quiet (node label kind spans parts) h = (node_quiet at quiet label parts h.0, all_quiet_erased at quiet parts h.1)

  all_quiet_erased : (at : Spans) (quiet : ℕ → Bool) (trees : Trees) → AllWriteNothing quiet trees → AllWriteNothing quiet (all_erased at trees)
  all_quiet_erased at quiet no_trees h = tt
  all_quiet_erased at quiet (more_trees first rest) h = (quiet_erased at quiet first h.0, all_quiet_erased at quiet rest h.1)

statement_quiet : (quiet : ℕ → Bool) (label : Label) (parts : Trees) → is_statement label ≡ true → is_quiet_node quiet label parts ≡ true
statement_quiet quiet store parts e = absurd (false≢true e)
statement_quiet quiet (update op works) parts e = absurd (false≢true e)
statement_quiet quiet (count plus before) parts e = absurd (false≢true e)
statement_quiet quiet call parts e = absurd (false≢true e)
statement_quiet quiet label parts e = refl

quiet_by : (quiet : ℕ → Bool) (label : Label) (kind : CType) (spans : Spans) (parts : Trees) (b : Bool) → is_statement label ≡ b → WritesNothing quiet (node label kind spans parts) → AllWriteNothing quiet (all_settled parts)
    → WritesNothing quiet (if b then node label kind nowhere (all_settled parts) else node label kind (spot spans) (all_erased (spot spans) parts))
quiet_by quiet label kind spans parts true e h k = (statement_quiet quiet label (all_settled parts) e, k)
quiet_by quiet label kind spans parts false e h k = quiet_erased (spot spans) quiet (node label kind spans parts) h

mutual
  pub quiet_settled : (quiet : ℕ → Bool) (tree : Tree) → WritesNothing quiet tree → WritesNothing quiet (settled tree)
  quiet_settled quiet (node label kind spans parts) h = quiet_by quiet label kind spans parts (is_statement label) refl h (all_quiet_settled quiet parts h.1)

  all_quiet_settled : (quiet : ℕ → Bool) (trees : Trees) → AllWriteNothing quiet trees → AllWriteNothing quiet (all_settled trees)
  all_quiet_settled quiet no_trees h = tt
  all_quiet_settled quiet (more_trees first rest) h = (quiet_settled quiet first h.0, all_quiet_settled quiet rest h.1)

-- ---- names

name_moved : (d : ℕ) (at other : Spans) (tree : Tree) → IsName d (erased at tree) → IsName d (erased other tree)
name_moved d at other (node label kind spans no_trees) h = (kind, other, ap (λ (l : Label). node l kind other no_trees) (ap label_of h.2))
name_moved d at other (node label kind spans (more_trees first rest)) h = absurd (more_none (trees_are h.2))
  where
    trees_are : {a b : Tree} → a ≡ b → trees_of a ≡ trees_of b
    trees_are e = ap trees_of e

    more_none : more_trees (erased at first) (all_erased at rest) ≡ no_trees → ⊥
    more_none e = cc

first_moved : (d : ℕ) (at other : Spans) (may : May) (tree : Tree) → (NamesOnly d (erased at tree) → NamesOnly d (erased other tree)) → FirstIs may (NamesOnly d (erased at tree)) (IsName d (erased at tree))
    → FirstIs may (NamesOnly d (erased other tree)) (IsName d (erased other tree))
first_moved d at other only_closed tree f h = f h
first_moved d at other may_name tree f (inl h) = inl (f h)
first_moved d at other may_name tree f (inr h) = inr (name_moved d at other tree h)
first_moved d at other unseen tree f h = tt

mutual
  names_moved : (d : ℕ) (at other : Spans) (tree : Tree) → NamesOnly d (erased at tree) → NamesOnly d (erased other tree)
  names_moved d at other (node label kind spans parts) h = (h.0, all_names_moved d at other (names_first (evaluates label)) parts h.1)

  all_names_moved : (d : ℕ) (at other : Spans) (may : May) (trees : Trees) → AllNameOnly d may (all_erased at trees) → AllNameOnly d may (all_erased other trees)
  all_names_moved d at other may no_trees h = tt
  all_names_moved d at other may (more_trees first rest) h = (first_moved d at other may first (names_moved d at other first) h.0, all_names_moved d at other only_closed rest h.1)

only_by : (d : ℕ) (label : Label) (parts : Trees) → is_statement label ≡ true → AllNameOnly d (names_first (evaluates label)) parts → AllNameOnly d only_closed parts
only_by d read parts e h = absurd (false≢true e)
only_by d store parts e h = absurd (false≢true e)
only_by d (update op works) parts e h = absurd (false≢true e)
only_by d (count plus before) parts e h = absurd (false≢true e)
only_by d sizeof_tree parts e h = absurd (false≢true e)
only_by d label parts e h = h

by_only : (d : ℕ) (label : Label) (parts : Trees) → is_statement label ≡ true → AllNameOnly d only_closed parts → AllNameOnly d (names_first (evaluates label)) parts
by_only d read parts e h = absurd (false≢true e)
by_only d store parts e h = absurd (false≢true e)
by_only d (update op works) parts e h = absurd (false≢true e)
by_only d (count plus before) parts e h = absurd (false≢true e)
by_only d sizeof_tree parts e h = absurd (false≢true e)
by_only d label parts e h = h

names_by : (d : ℕ) (at : Spans) (label : Label) (kind : CType) (spans : Spans) (parts : Trees) (b : Bool) → is_statement label ≡ b → NamesOnly d (erased at (node label kind spans parts))
    → (AllNameOnly d only_closed (all_erased at parts) → AllNameOnly d only_closed (all_settled parts))
    → NamesOnly d (if b then node label kind nowhere (all_settled parts) else node label kind (spot spans) (all_erased (spot spans) parts))
names_by d at label kind spans parts true e h f = (h.0, by_only d label (all_settled parts) e (f (only_by d label (all_erased at parts) e h.1)))
names_by d at label kind spans parts false e h f = names_moved d at (spot spans) (node label kind spans parts) h

mutual
  names_settled : (d : ℕ) (at : Spans) (tree : Tree) → NamesOnly d (erased at tree) → NamesOnly d (settled tree)
  names_settled d at (node label kind spans parts) h = names_by d at label kind spans parts (is_statement label) refl h (all_names_settled d at parts)

  pub all_names_settled : (d : ℕ) (at : Spans) (trees : Trees) → AllNameOnly d only_closed (all_erased at trees) → AllNameOnly d only_closed (all_settled trees)
  all_names_settled d at no_trees h = tt
  all_names_settled d at (more_trees first rest) h = (names_settled d at first h.0, all_names_settled d at rest h.1)

-- ---- parameters

same_parameters : (definitions : List Definition) (d : ℕ) → is_parameter (map erased_definition definitions) d ≡ is_parameter definitions d
same_parameters [] d = refl
same_parameters (one ∷ others) d = ap (λ b. list_any (λ p. p == d) one.parameters || b) (same_parameters others d)

pub still_nowhere : (program : Program) (d : ℕ) → is_nowhere_local program d ≡ true → is_nowhere_local (erased_program program) d ≡ true
still_nowhere program d e = ap (λ b. not (is_automatic_declaration (declaration_of program d)) && not b) (same_parameters program.functions d) ∙ e
