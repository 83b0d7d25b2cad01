-- Statements and declarations in two programs of which one reads an added const object: what begins, what a full expression decides and what
-- ends agree, by any relation between trees whose nodes are the same but at such reads.
use Rattle.std.specs.Prelude.{◌≡◌, refl, ◌⊎◌, ℕ, suc, Bool, true, false, ◌&&◌, ◌||◌, List, [], ◌∷◌, ◌++◌, map, drop, Option, Some, None, option_map, ℤ, if◌then◌else◌}
use Rattle.std.proofs.Common.{ap, sym, ◌∙◌, subst, inl, inr}
use Rattle.dm_token.specs.declared.place.Place.{Place}
use Rattle.dm_type.specs.CTypes.{CType, void}
use Rattle.dm_tree.specs.declared.unit.Sort.{Sort}
use Rattle.dm_tree.specs.Trees.{Label, block, declare, full, if_statement, switch, case, default, while_loop, do_loop, for_loop, break, continue, return, read, Spans, Declarator, Initialiser, Initialisers, one_expression, in_braces, no_items, more_items, expressions_in, Tree, Trees, node, no_trees, more_trees, listed}
use Rattle.dm_tree.specs.Units.{Declaration}
use Rattle.dm_meaning.specs.Values.{At, Value, integer_value, pointer_value, parts as compound, unset}
use Rattle.dm_meaning.specs.Objects.{Layout}
use Rattle.dm_meaning.specs.Memory.{Memory, new_block, written, killed}
use Rattle.dm_meaning.specs.Programs.{layout, declaration_of, constant_of}
use Rattle.dm_meaning.specs.Operations.{Result, Objects, object_named, Truth, holds, untold, truth_of}
use Rattle.dm_meaning.specs.Running.{Run, begun}
use Rattle.dm_meaning.specs.Expressions.{value_of}
use Rattle.dm_meaning.specs.States.{Loop, Use, drops, chooses, selects, repeats, continues, returns, initialises, Task, begins, declares, initials, evaluates, again, tests, ends, ends_switch, leaves, skips, hands_back}
use Rattle.dm_meaning.specs.Statements.{Turned, onward, refused, evaluation, is_automatic_sort, is_automatic_declaration, is_automatic, automatic_in, declared_by_label, declared_by, declared_in, kind_declared, type_declared, named_from, made_from, named_since, expressions_of, declarator_tasks, item_tasks_by, item_tasks, items_tasks, unlabelled, entered, memory_entered, start_task, start_tasks, as_list, begin_for, on_one_tree, on_first_tree, on_option_tree, on_tree_if, loop_with, returning, begin_form, begin_tree, begin_statement, initial_of, begin_declarator, part_tasks, begin_initialiser, initial_value, is_number, has_case, has_default, from_first, or_items, selected_by, by_test, begins_one, concluded, tested, continued, unfolded, ended, after_break, after_continue}
use Rattle.dm_meaning.specs.Replaced.{renamed_declarator, relabelled, Zipped, facts_of}
use Rattle.dm_meaning.proofs.RunLemmas.{renamed_objects, object_renamed, OptionAgrees}
use Rattle.dm_meaning.proofs.StatementLemmas.{map_append, zipped_append, zipped_take, zipped_drop, since_renamed, named_from_renamed}
use Rattle.dm_meaning.proofs.YieldLemmas.{may_give}
use Rattle.dm_rewrite.specs.NamedConstants.{Named, new_of, SameCase}

-- ---- how tasks agree

-- the trees of two lists are related one by one
abbrev pub AllAlike : (Tree → Tree → Type 0) → Trees → Trees → Type 0
AllAlike A no_trees no_trees = Unit {0}
AllAlike A (more_trees first rest) (more_trees other others) = A first other × AllAlike A rest others
AllAlike A parts others = ⊥

abbrev pub LoopAgrees : (Tree → Tree → Type 0) → Loop → Loop → Type 0
LoopAgrees A loop other =
    OptionAgrees A loop.condition other.condition × OptionAgrees A loop.after other.after × A loop.body other.body

abbrev pub UseAgrees : (Tree → Tree → Type 0) → Use → Use → Type 0
UseAgrees A drops drops = Unit {0}
UseAgrees A (chooses first second) (chooses other others) = A first other × OptionAgrees A second others
UseAgrees A (selects items) (selects others) = Zipped A items others
UseAgrees A (repeats loop) (repeats other) = LoopAgrees A loop other
UseAgrees A (continues loop) (continues other) = LoopAgrees A loop other
UseAgrees A returns returns = Unit {0}
UseAgrees A (initialises at kind) (initialises other other_kind) = (at ≡ other) × (kind ≡ other_kind)
UseAgrees A a b = ⊥

abbrev pub TaskAgrees : Named → (Tree → Tree → Type 0) → (Run → Run → Type 0) → Task → Task → Type 0
TaskAgrees change A R (begins tree) (begins other) = A tree other
TaskAgrees change A R (declares declarator expressions) (declares other others) = (declarator ≡ renamed_declarator change.rename other) × Zipped A expressions others
TaskAgrees change A R (initials at kind initialiser expressions) (initials other other_kind others_initialiser others) =
    (at ≡ other) × (kind ≡ other_kind) × (initialiser ≡ others_initialiser) × Zipped A expressions others
TaskAgrees change A R (evaluates place run use_of) (evaluates at other other_use) = R run other × UseAgrees A use_of other_use
TaskAgrees change A R (again objects loop) (again others other) = (objects ≡ renamed_objects change.rename others) × LoopAgrees A loop other
TaskAgrees change A R (tests objects loop) (tests others other) = (objects ≡ renamed_objects change.rename others) × LoopAgrees A loop other
TaskAgrees change A R (ends objects) (ends others) = objects ≡ renamed_objects change.rename others
TaskAgrees change A R (ends_switch objects) (ends_switch others) = objects ≡ renamed_objects change.rename others
TaskAgrees change A R leaves leaves = Unit {0}
TaskAgrees change A R skips skips = Unit {0}
TaskAgrees change A R (hands_back value) (hands_back other) = value ≡ other
TaskAgrees change A R a b = ⊥

abbrev pub TasksAgree : Named → (Tree → Tree → Type 0) → (Run → Run → Type 0) → List Task → List Task → Type 0
TasksAgree change A R tasks others = Zipped (TaskAgrees change A R) tasks others

abbrev pub TurnedAgrees : Named → (Tree → Tree → Type 0) → (Run → Run → Type 0) → Turned → Turned → Type 0
TurnedAgrees change A R (onward objects tasks memory) (onward others other_tasks other) =
    (objects ≡ renamed_objects change.rename others) × TasksAgree change A R tasks other_tasks × (memory ≡ other)
TurnedAgrees change A R (refused cause place) (refused other at) = Unit {0}
TurnedAgrees change A R (onward objects tasks memory) (refused other at) = ⊥
TurnedAgrees change A R (refused cause place) (onward others other_tasks other) = ⊥

pub listed_agrees : (A : Tree → Tree → Type 0) (trees others : Trees) → AllAlike A trees others → Zipped A (listed trees) (listed others)
listed_agrees A no_trees no_trees h = tt
listed_agrees A no_trees (more_trees other others) h = absurd h
listed_agrees A (more_trees first rest) no_trees h = absurd h
listed_agrees A (more_trees first rest) (more_trees other others) h = (h.0, listed_agrees A rest others h.1)

-- two nodes are the same but for what is below them
abbrev pub SameNode : Named → (Tree → Tree → Type 0) → Label → CType → Trees → Label → CType → Trees → Type 0
SameNode change A label kind parts other other_kind others =
    (label ≡ relabelled change.rename other) × (kind ≡ other_kind) × SameCase change other parts others × AllAlike A parts others

-- a node is a read, where the old program has an expression that gives a value
abbrev pub ReadNode : Label → Label → Type 0
ReadNode label other = (label ≡ read) × (may_give other ≡ true)

-- What statements ask of a relation between trees, and between trees under evaluation: nodes that are related are the same, or one is a read.
pub record Likeness (change : Named) (A : Tree → Tree → Type 0) (R : Run → Run → Type 0) : Type 0 where
  pub injective : (c d : ℕ) → change.rename c ≡ change.rename d → c ≡ d
  pub told : (d : ℕ) → option_map facts_of (declaration_of (new_of change) (change.rename d)) ≡ option_map facts_of (declaration_of change.old d)
  pub opened : (label : Label) (kind : CType) (spans : Spans) (parts : Trees) (other : Label) (other_kind : CType) (other_spans : Spans) (others : Trees)
      → A (node label kind spans parts) (node other other_kind other_spans others) → SameNode change A label kind parts other other_kind others ⊎ ReadNode label other
  pub begun : (tree other : Tree) → A tree other → R (begun tree) (begun other)

-- ---- facts of declarations

pub automatic_fact : Option (List ℕ × Sort × CType) → Bool
automatic_fact None = false
automatic_fact (Some facts) = is_automatic_sort facts.1

pub automatic_is : (o : Option Declaration) → is_automatic_declaration o ≡ automatic_fact (option_map facts_of o)
unfolding automatic_fact
automatic_is None = refl
automatic_is (Some declaration) = refl

pub type_fact : Option (List ℕ × Sort × CType) → CType
type_fact None = void
type_fact (Some facts) = facts.2

pub type_is : (o : Option Declaration) → kind_declared o ≡ type_fact (option_map facts_of o)
unfolding type_fact
type_is None = refl
type_is (Some declaration) = refl

module _ (change : Named) {A : Tree → Tree → Type 0} {R : Run → Run → Type 0} (naming : Likeness change A R) where
  same_automatic : (d : ℕ) → is_automatic_declaration (declaration_of (new_of change) (change.rename d)) ≡ is_automatic_declaration (declaration_of change.old d)
  same_automatic d = automatic_is (declaration_of (new_of change) (change.rename d)) ∙ ap automatic_fact (naming.told d) ∙ sym (automatic_is (declaration_of change.old d))

  pub same_type : (d : ℕ) → type_declared (new_of change) (change.rename d) ≡ type_declared change.old d
  same_type d = type_is (declaration_of (new_of change) (change.rename d)) ∙ ap type_fact (naming.told d) ∙ sym (type_is (declaration_of change.old d))

  same_is_automatic : (declarator : Declarator) → is_automatic (new_of change) (renamed_declarator change.rename declarator) ≡ is_automatic change.old declarator
  same_is_automatic declarator = ap (λ b. declarator.defines && b) (same_automatic declarator.declared)

  -- ---- what blocks declare

  if_renamed : (b : Bool) (d : ℕ) (xs : List ℕ) → (if b then change.rename d ∷ [] else []) ++ map change.rename xs ≡ map change.rename ((if b then d ∷ [] else []) ++ xs)
  if_renamed true d xs = refl
  if_renamed false d xs = refl

  automatic_renamed : (declarators : List Declarator) → automatic_in (new_of change) (map (renamed_declarator change.rename) declarators) ≡ map change.rename (automatic_in change.old declarators)
  automatic_renamed [] = refl
  automatic_renamed (declarator ∷ declarators) =
      ap (λ b. (if b then change.rename declarator.declared ∷ [] else []) ++ automatic_in (new_of change) (map (renamed_declarator change.rename) declarators)) (same_is_automatic declarator)
      ∙ ap (λ l. (if is_automatic change.old declarator then change.rename declarator.declared ∷ [] else []) ++ l) (automatic_renamed declarators)
      ∙ if_renamed (is_automatic change.old declarator) declarator.declared (automatic_in change.old declarators)

  label_declares : (label : Label) → declared_by_label (new_of change) (relabelled change.rename label) ≡ map change.rename (declared_by_label change.old label)
  label_declares (declare lengths declarators) = automatic_renamed declarators
  label_declares label = refl

  -- an expression that gives a value declares nothing
  value_declares : (label : Label) → may_give label ≡ true → declared_by_label change.old label ≡ []
  value_declares (declare lengths declarators) h = absurd (cc)
  value_declares label h = refl

  declared_agrees : (tree other : Tree) → A tree other → declared_by (new_of change) tree ≡ map change.rename (declared_by change.old other)
  declared_agrees (node label kind spans parts) (node other other_kind other_spans others) h = by_form (naming.opened label kind spans parts other other_kind other_spans others h)
    where
      by_form : SameNode change A label kind parts other other_kind others ⊎ ReadNode label other → declared_by_label (new_of change) label ≡ map change.rename (declared_by_label change.old other)
      by_form (inl s) = ap (declared_by_label (new_of change)) s.0 ∙ label_declares other
      by_form (inr s) = ap (declared_by_label (new_of change)) s.0 ∙ sym (ap (map change.rename) (value_declares other s.1))

  pub declared_in_agrees : (trees others : List Tree) → Zipped A trees others → declared_in (new_of change) trees ≡ map change.rename (declared_in change.old others)
  declared_in_agrees [] [] h = refl
  declared_in_agrees [] (other ∷ others) h = absurd h
  declared_in_agrees (tree ∷ trees) [] h = absurd h
  declared_in_agrees (tree ∷ trees) (other ∷ others) h =
      ap (λ l. l ++ declared_in (new_of change) trees) (declared_agrees tree other h.0)
      ∙ ap (λ l. map change.rename (declared_by change.old other) ++ l) (declared_in_agrees trees others h.1)
      ∙ sym (map_append change.rename (declared_by change.old other) (declared_in change.old others))

  pub made_from_agrees : (names : ℕ → ℕ) (i : ℕ) (ds : List ℕ) (memory : Memory) → made_from (new_of change) names i (map change.rename ds) memory ≡ made_from change.old names i ds memory
  made_from_agrees names i [] memory = refl
  made_from_agrees names i (d ∷ ds) memory =
      ap (λ kind. made_from (new_of change) names (suc i) (map change.rename ds) ((names i, new_block (layout change.old) kind) ∷ memory)) (same_type d)
      ∙ made_from_agrees names (suc i) ds ((names i, new_block (layout change.old) (type_declared change.old d)) ∷ memory)

  pub entered_agrees : (names : ℕ → ℕ) (trees others : List Tree) (objects : Objects) → Zipped A trees others
      → entered (new_of change) names trees (renamed_objects change.rename objects) ≡ renamed_objects change.rename (entered change.old names others objects)
  entered_agrees names trees others objects h =
      ap (λ ds. named_from names 0 ds (renamed_objects change.rename objects)) (declared_in_agrees trees others h) ∙ named_from_renamed change.rename names 0 (declared_in change.old others) objects

  pub memory_entered_agrees : (names : ℕ → ℕ) (trees others : List Tree) (memory : Memory) → Zipped A trees others
      → memory_entered (new_of change) names trees memory ≡ memory_entered change.old names others memory
  memory_entered_agrees names trees others memory h =
      ap (λ ds. made_from (new_of change) names 0 ds memory) (declared_in_agrees trees others h) ∙ made_from_agrees names 0 (declared_in change.old others) memory

  -- ---- tasks

  evaluation_agrees : (tree other : Tree) (use_of other_use : Use) → A tree other → UseAgrees A use_of other_use → TaskAgrees change A R (evaluation tree use_of) (evaluation other other_use)
  evaluation_agrees tree other use_of other_use h k = (naming.begun tree other h, k)

  declarators_agree : (declarators : List Declarator) (trees others : List Tree) → Zipped A trees others
      → TasksAgree change A R (declarator_tasks (map (renamed_declarator change.rename) declarators) trees) (declarator_tasks declarators others)
  declarators_agree [] trees others h = tt
  declarators_agree (declarator ∷ declarators) trees others h = (
    (refl, zipped_take A (expressions_of declarator.initialiser) trees others h),
    declarators_agree declarators (drop (expressions_of declarator.initialiser) trees) (drop (expressions_of declarator.initialiser) others)
        (zipped_drop A (expressions_of declarator.initialiser) trees others h),
  )

  item_by_label : (label : Label) (tree other : Tree) (trees others : List Tree) → A tree other → Zipped A trees others
      → TasksAgree change A R (item_tasks_by tree (relabelled change.rename label) trees) (item_tasks_by other label others)
  item_by_label (declare lengths declarators) tree other trees others h k = declarators_agree declarators (drop lengths trees) (drop lengths others) (zipped_drop A lengths trees others k)
  item_by_label label tree other trees others h k = (h, tt)

  value_item : (label : Label) (tree : Tree) (trees : List Tree) → may_give label ≡ true → item_tasks_by tree label trees ≡ begins tree ∷ []
  value_item (declare lengths declarators) tree trees h = absurd (cc)
  value_item label tree trees h = refl

  item_agrees : (tree other : Tree) → A tree other → TasksAgree change A R (item_tasks tree) (item_tasks other)
  item_agrees (node label kind spans parts) (node other other_kind other_spans others) h = by_form (naming.opened label kind spans parts other other_kind other_spans others h)
    where
      by_form : SameNode change A label kind parts other other_kind others ⊎ ReadNode label other → TasksAgree change A R (item_tasks_by (node label kind spans parts) label (listed parts)) (item_tasks (node other other_kind other_spans others))
      by_form (inl s) =
          subst (λ l. TasksAgree change A R (item_tasks_by (node label kind spans parts) l (listed parts)) (item_tasks (node other other_kind other_spans others))) (sym s.0)
          (item_by_label other (node label kind spans parts) (node other other_kind other_spans others) (listed parts) (listed others) h (listed_agrees A parts others s.3))
      by_form (inr s) =
          subst (λ l. TasksAgree change A R (item_tasks_by (node label kind spans parts) l (listed parts)) (item_tasks (node other other_kind other_spans others))) (sym s.0)
          (subst (λ tasks. TasksAgree change A R (begins (node label kind spans parts) ∷ []) tasks) (sym (value_item other (node other other_kind other_spans others) (listed others) s.1)) (h, tt))

  pub items_agree : (trees others : List Tree) → Zipped A trees others → TasksAgree change A R (items_tasks trees) (items_tasks others)
  items_agree [] [] h = tt
  items_agree [] (other ∷ others) h = absurd h
  items_agree (tree ∷ trees) [] h = absurd h
  items_agree (tree ∷ trees) (other ∷ others) h = zipped_append (TaskAgrees change A R) (item_tasks tree) (item_tasks other) _ _ (item_agrees tree other h.0) (items_agree trees others h.1)

  start_by_label : (label : Label) (tree other : Tree) → A tree other → TasksAgree change A R (start_task tree (relabelled change.rename label)) (start_task other label)
  start_by_label (declare lengths declarators) tree other h = item_agrees tree other h
  start_by_label label tree other h = (evaluation_agrees tree other drops drops h tt, tt)

  value_start : (label : Label) (tree : Tree) → may_give label ≡ true → start_task tree label ≡ evaluation tree drops ∷ []
  value_start (declare lengths declarators) tree h = absurd (cc)
  value_start label tree h = refl

  start_agrees : (start other : Option Tree) → OptionAgrees A start other → TasksAgree change A R (start_tasks start) (start_tasks other)
  start_agrees None None h = tt
  start_agrees None (Some other) h = absurd h
  start_agrees (Some tree) None h = absurd h
  start_agrees (Some (node label kind spans parts)) (Some (node other other_kind other_spans others)) h = by_form (naming.opened label kind spans parts other other_kind other_spans others h)
    where
      by_form : SameNode change A label kind parts other other_kind others ⊎ ReadNode label other → TasksAgree change A R (start_task (node label kind spans parts) label) (start_task (node other other_kind other_spans others) other)
      by_form (inl s) =
          subst (λ l. TasksAgree change A R (start_task (node label kind spans parts) l) (start_task (node other other_kind other_spans others) other)) (sym s.0) (start_by_label other (node label kind spans parts) (node other other_kind other_spans others) h)
      by_form (inr s) =
          subst (λ l. TasksAgree change A R (start_task (node label kind spans parts) l) (start_task (node other other_kind other_spans others) other)) (sym s.0)
          (subst (λ tasks. TasksAgree change A R (evaluation (node label kind spans parts) drops ∷ []) tasks) (sym (value_start other (node other other_kind other_spans others) s.1))
          (evaluation_agrees (node label kind spans parts) (node other other_kind other_spans others) drops drops h tt, tt))

  as_list_agrees : (start other : Option Tree) → OptionAgrees A start other → Zipped A (as_list start) (as_list other)
  as_list_agrees None None h = tt
  as_list_agrees None (Some other) h = absurd h
  as_list_agrees (Some tree) None h = absurd h
  as_list_agrees (Some tree) (Some other) h = (h, tt)

  -- ---- labels

  -- what holds of each tree in a list
  abbrev Unlabels : Tree → Type 0
  Unlabels tree = (other : Tree) → A tree other → A (unlabelled tree) (unlabelled other)

  abbrev AllUnlabel : Trees → Type 0
  AllUnlabel no_trees = Unit {0}
  AllUnlabel (more_trees first rest) = Unlabels first × AllUnlabel rest

  -- a label without a statement stays
  unlabel_case : (kind other_kind : CType) (spans other_spans : Spans) (parts others : Trees) → A (node case kind spans parts) (node case other_kind other_spans others) → AllAlike A parts others → AllUnlabel parts
      → A (unlabelled (node case kind spans parts)) (unlabelled (node case other_kind other_spans others))
  unlabel_case kind other_kind spans other_spans no_trees no_trees whole h below = whole
  unlabel_case kind other_kind spans other_spans no_trees (more_trees other others) whole h below = absurd h
  unlabel_case kind other_kind spans other_spans (more_trees first rest) no_trees whole h below = absurd h
  unlabel_case kind other_kind spans other_spans (more_trees first no_trees) (more_trees other no_trees) whole h below = whole
  unlabel_case kind other_kind spans other_spans (more_trees first no_trees) (more_trees other (more_trees second others)) whole h below = absurd h.1
  unlabel_case kind other_kind spans other_spans (more_trees first (more_trees second rest)) (more_trees other no_trees) whole h below = absurd h.1
  unlabel_case kind other_kind spans other_spans (more_trees first (more_trees second rest)) (more_trees other (more_trees another others)) whole h below = below.1.0 another h.1.0

  unlabel_default : (kind other_kind : CType) (spans other_spans : Spans) (parts others : Trees) → A (node default kind spans parts) (node default other_kind other_spans others) → AllAlike A parts others → AllUnlabel parts
      → A (unlabelled (node default kind spans parts)) (unlabelled (node default other_kind other_spans others))
  unlabel_default kind other_kind spans other_spans no_trees no_trees whole h below = whole
  unlabel_default kind other_kind spans other_spans no_trees (more_trees other others) whole h below = absurd h
  unlabel_default kind other_kind spans other_spans (more_trees first rest) no_trees whole h below = absurd h
  unlabel_default kind other_kind spans other_spans (more_trees first rest) (more_trees other others) whole h below = below.0 other h.0

  unlabel_by : (label : Label) (kind other_kind : CType) (spans other_spans : Spans) (parts others : Trees) → A (node (relabelled change.rename label) kind spans parts) (node label other_kind other_spans others) → AllAlike A parts others → AllUnlabel parts
      → A (unlabelled (node (relabelled change.rename label) kind spans parts)) (unlabelled (node label other_kind other_spans others))
  unlabel_by case kind other_kind spans other_spans parts others whole h below = unlabel_case kind other_kind spans other_spans parts others whole h below
  unlabel_by default kind other_kind spans other_spans parts others whole h below = unlabel_default kind other_kind spans other_spans parts others whole h below
  unlabel_by label kind other_kind spans other_spans parts others whole h below = whole

  value_unlabelled : (label : Label) (kind : CType) (spans : Spans) (parts : Trees) → may_give label ≡ true → unlabelled (node label kind spans parts) ≡ node label kind spans parts
  value_unlabelled case kind spans parts h = absurd (cc)
  value_unlabelled default kind spans parts h = absurd (cc)
  value_unlabelled label kind spans parts h = refl

  unlabelled_node : (label : Label) (kind : CType) (spans : Spans) (parts : Trees) → AllUnlabel parts → Unlabels (node label kind spans parts)
  unlabelled_node label kind spans parts below (node other other_kind other_spans others) h = by_form (naming.opened label kind spans parts other other_kind other_spans others h)
    where
      by_form : SameNode change A label kind parts other other_kind others ⊎ ReadNode label other → A (unlabelled (node label kind spans parts)) (unlabelled (node other other_kind other_spans others))
      by_form (inl s) =
          subst (λ l. A (unlabelled (node l kind spans parts)) (unlabelled (node other other_kind other_spans others))) (sym s.0)
          (unlabel_by other kind other_kind spans other_spans parts others (subst (λ l. A (node l kind spans parts) (node other other_kind other_spans others)) s.0 h) s.3 below)
      by_form (inr s) =
          let leaf : unlabelled (node label kind spans parts) ≡ (node label kind spans parts) = subst (λ l. unlabelled (node l kind spans parts) ≡ node l kind spans parts) (sym s.0) refl in
          subst (λ t. A t (unlabelled (node other other_kind other_spans others))) (sym leaf) (subst (λ t. A (node label kind spans parts) t) (sym (value_unlabelled other other_kind other_spans others s.1)) h)

  mutual
    unlabelled_agrees : (tree : Tree) → Unlabels tree
    unlabelled_agrees (node label kind spans parts) = unlabelled_node label kind spans parts (all_unlabel parts)

    all_unlabel : (trees : Trees) → AllUnlabel trees
    all_unlabel no_trees = tt
    all_unlabel (more_trees first rest) = (unlabelled_agrees first, all_unlabel rest)

  -- ---- the parts of statements

  one_agrees : (trees others : List Tree) (next other : Tree → Turned) (a b : Turned) → Zipped A trees others
      → ((x y : Tree) → A x y → TurnedAgrees change A R (next x) (other y)) → TurnedAgrees change A R a b → TurnedAgrees change A R (on_one_tree trees next a) (on_one_tree others other b)
  one_agrees [] [] next other a b h k l = l
  one_agrees [] (y ∷ ys) next other a b h k l = absurd h
  one_agrees (x ∷ xs) [] next other a b h k l = absurd h
  one_agrees (x ∷ []) (y ∷ []) next other a b h k l = k x y h.0
  one_agrees (x ∷ []) (y ∷ z ∷ ys) next other a b h k l = absurd h.1
  one_agrees (x ∷ z ∷ xs) (y ∷ []) next other a b h k l = absurd h.1
  one_agrees (x ∷ z ∷ xs) (y ∷ w ∷ ys) next other a b h k l = l

  first_agrees : (trees others : List Tree) (next other : Tree → List Tree → Turned) (a b : Turned) → Zipped A trees others
      → ((x y : Tree) (xs ys : List Tree) → A x y → Zipped A xs ys → TurnedAgrees change A R (next x xs) (other y ys))
      → TurnedAgrees change A R a b → TurnedAgrees change A R (on_first_tree trees next a) (on_first_tree others other b)
  first_agrees [] [] next other a b h k l = l
  first_agrees [] (y ∷ ys) next other a b h k l = absurd h
  first_agrees (x ∷ xs) [] next other a b h k l = absurd h
  first_agrees (x ∷ xs) (y ∷ ys) next other a b h k l = k x y xs ys h.0 h.1

  option_agrees : (trees others : List Tree) (next other : Option Tree → Turned) (a b : Turned) → Zipped A trees others
      → ((x y : Option Tree) → OptionAgrees A x y → TurnedAgrees change A R (next x) (other y)) → TurnedAgrees change A R a b
      → TurnedAgrees change A R (on_option_tree trees next a) (on_option_tree others other b)
  option_agrees [] [] next other a b h k l = k None None tt
  option_agrees [] (y ∷ ys) next other a b h k l = absurd h
  option_agrees (x ∷ xs) [] next other a b h k l = absurd h
  option_agrees (x ∷ []) (y ∷ []) next other a b h k l = k (Some x) (Some y) h.0
  option_agrees (x ∷ []) (y ∷ z ∷ ys) next other a b h k l = absurd h.1
  option_agrees (x ∷ z ∷ xs) (y ∷ []) next other a b h k l = absurd h.1
  option_agrees (x ∷ z ∷ xs) (y ∷ w ∷ ys) next other a b h k l = l

  if_tree_agrees : (there : Bool) (trees others : List Tree) (next other : Option Tree → List Tree → Turned) (a b : Turned) → Zipped A trees others
      → ((x y : Option Tree) (xs ys : List Tree) → OptionAgrees A x y → Zipped A xs ys → TurnedAgrees change A R (next x xs) (other y ys))
      → TurnedAgrees change A R a b → TurnedAgrees change A R (on_tree_if there trees next a) (on_tree_if there others other b)
  if_tree_agrees false trees others next other a b h k l = k None None trees others tt h
  if_tree_agrees true [] [] next other a b h k l = l
  if_tree_agrees true [] (y ∷ ys) next other a b h k l = absurd h
  if_tree_agrees true (x ∷ xs) [] next other a b h k l = absurd h
  if_tree_agrees true (x ∷ xs) (y ∷ ys) next other a b h k l = k (Some x) (Some y) xs ys h.0 h.1

  for_agrees : (names : ℕ → ℕ) (objects : Objects) (rest others : List Task) (memory : Memory) → TasksAgree change A R rest others
      → (start other : Option Tree) (loop other_loop : Loop) → OptionAgrees A start other → LoopAgrees A loop other_loop
      → TurnedAgrees change A R (begin_for (new_of change) names (renamed_objects change.rename objects) rest memory start loop) (begin_for change.old names objects others memory other other_loop)
  for_agrees names objects rest others memory r start other loop other_loop h k =
      let same = entered_agrees names (as_list start) (as_list other) objects (as_list_agrees start other h) in (
        same,
        zipped_append (TaskAgrees change A R) (start_tasks start) (start_tasks other) _ _ (start_agrees start other h) ((same, k), (refl, r)),
        memory_entered_agrees names (as_list start) (as_list other) memory (as_list_agrees start other h),
      )

  begin_by_label : (names : ℕ → ℕ) (objects : Objects) (rest others : List Task) (memory : Memory) → TasksAgree change A R rest others
      → (label : Label) (trees other_trees : List Tree) → Zipped A trees other_trees
      → TurnedAgrees change A R (begin_form (new_of change) names (renamed_objects change.rename objects) rest memory (relabelled change.rename label) trees) (begin_form change.old names objects others memory label other_trees)
  begin_by_label names objects rest others memory r block trees other_trees h = (
    entered_agrees names trees other_trees objects h,
    zipped_append (TaskAgrees change A R) (items_tasks trees) (items_tasks other_trees) _ _ (items_agree trees other_trees h) (refl, r),
    memory_entered_agrees names trees other_trees memory h,
  )
  begin_by_label names objects rest others memory r full trees other_trees h =
      one_agrees trees other_trees _ _ _ _ h (λ x y k. (refl, (evaluation_agrees x y drops drops k tt, (refl, r)), refl)) (refl, (refl, r), refl)
  begin_by_label names objects rest others memory r if_statement trees other_trees h =
      first_agrees trees other_trees _ _ _ _ h
      (λ x y xs ys k ks. first_agrees xs ys _ _ _ _ ks
      (λ x' y' xs' ys' k' ks'. option_agrees xs' ys' _ _ _ _ ks'
      (λ a b l. (refl, (evaluation_agrees x y (chooses x' a) (chooses y' b) k (k', l), (refl, r)), refl)) (refl, (refl, r), refl))
      (refl, (refl, r), refl))
      (refl, (refl, r), refl)
  begin_by_label names objects rest others memory r switch trees other_trees h =
      first_agrees trees other_trees _ _ _ _ h (λ x y xs ys k ks. (refl, (evaluation_agrees x y (selects xs) (selects ys) k ks, (refl, r)), refl)) (refl, (refl, r), refl)
  begin_by_label names objects rest others memory r while_loop trees other_trees h =
      first_agrees trees other_trees _ _ _ _ h
      (λ x y xs ys k ks. one_agrees xs ys _ _ _ _ ks (λ a b l. (refl, ((refl, (k, tt, l)), (refl, r)), refl)) (refl, (refl, r), refl)) (refl, (refl, r), refl)
  begin_by_label names objects rest others memory r do_loop trees other_trees h =
      first_agrees trees other_trees _ _ _ _ h
      (λ x y xs ys k ks. one_agrees xs ys _ _ _ _ ks (λ a b l. (refl, (k, ((refl, (l, tt, k)), (refl, r))), refl)) (refl, (refl, r), refl)) (refl, (refl, r), refl)
  begin_by_label names objects rest others memory r (for_loop first second third) trees other_trees h =
      if_tree_agrees first trees other_trees _ _ _ _ h
      (λ x y xs ys k ks. if_tree_agrees second xs ys _ _ _ _ ks
      (λ x' y' xs' ys' k' ks'. if_tree_agrees third xs' ys' _ _ _ _ ks'
      (λ x'' y'' xs'' ys'' k'' ks''. one_agrees xs'' ys'' _ _ _ _ ks''
      (λ a b l. for_agrees names objects rest others memory r x y (loop_with x' x'' a) (loop_with y' y'' b) k (k', k'', l)) (refl, (refl, r), refl))
      (refl, (refl, r), refl))
      (refl, (refl, r), refl))
      (refl, (refl, r), refl)
  begin_by_label names objects rest others memory r break trees other_trees h = (refl, (tt, r), refl)
  begin_by_label names objects rest others memory r continue trees other_trees h = (refl, (tt, r), refl)
  begin_by_label names objects rest others memory r return trees other_trees h =
      option_agrees trees other_trees _ _ _ _ h returning_agrees (refl, (refl, r), refl)
    where
      returning_agrees : (x y : Option Tree) → OptionAgrees A x y → TurnedAgrees change A R (returning (renamed_objects change.rename objects) memory x) (returning objects memory y)
      returning_agrees None None k = (refl, (refl, tt), refl)
      returning_agrees None (Some y) k = absurd k
      returning_agrees (Some x) None k = absurd k
      returning_agrees (Some x) (Some y) k = (refl, (evaluation_agrees x y returns returns k tt, tt), refl)
  begin_by_label names objects rest others memory r label trees other_trees h = (refl, (refl, r), refl)

  value_begins : (names : ℕ → ℕ) (objects : Objects) (rest : List Task) (memory : Memory) (label : Label) (trees : List Tree) → may_give label ≡ true
      → begin_form change.old names objects rest memory label trees ≡ onward objects (ends objects ∷ rest) memory
  value_begins names objects rest memory block trees h = absurd (cc)
  value_begins names objects rest memory full trees h = absurd (cc)
  value_begins names objects rest memory if_statement trees h = absurd (cc)
  value_begins names objects rest memory switch trees h = absurd (cc)
  value_begins names objects rest memory while_loop trees h = absurd (cc)
  value_begins names objects rest memory do_loop trees h = absurd (cc)
  value_begins names objects rest memory (for_loop first second third) trees h = absurd (cc)
  value_begins names objects rest memory break trees h = absurd (cc)
  value_begins names objects rest memory continue trees h = absurd (cc)
  value_begins names objects rest memory return trees h = absurd (cc)
  value_begins names objects rest memory label trees h = refl

  tree_begins : (names : ℕ → ℕ) (objects : Objects) (rest others : List Task) (memory : Memory) → TasksAgree change A R rest others
      → (tree other : Tree) → A tree other
      → TurnedAgrees change A R (begin_tree (new_of change) names (renamed_objects change.rename objects) rest memory tree) (begin_tree change.old names objects others memory other)
  tree_begins names objects rest others memory r (node label kind spans parts) (node other other_kind other_spans other_parts) h = by_form (naming.opened label kind spans parts other other_kind other_spans other_parts h)
    where
      by_form : SameNode change A label kind parts other other_kind other_parts ⊎ ReadNode label other
          → TurnedAgrees change A R (begin_form (new_of change) names (renamed_objects change.rename objects) rest memory label (listed parts)) (begin_form change.old names objects others memory other (listed other_parts))
      by_form (inl s) =
          subst (λ l. TurnedAgrees change A R (begin_form (new_of change) names (renamed_objects change.rename objects) rest memory l (listed parts)) (begin_form change.old names objects others memory other (listed other_parts))) (sym s.0)
          (begin_by_label names objects rest others memory r other (listed parts) (listed other_parts) (listed_agrees A parts other_parts s.3))
      by_form (inr s) =
          subst (λ l. TurnedAgrees change A R (begin_form (new_of change) names (renamed_objects change.rename objects) rest memory l (listed parts)) (begin_form change.old names objects others memory other (listed other_parts))) (sym s.0)
          (subst (λ turned. TurnedAgrees change A R (onward (renamed_objects change.rename objects) (ends (renamed_objects change.rename objects) ∷ rest) memory) turned)
          (sym (value_begins names objects others memory other (listed other_parts) s.1)) (refl, (refl, r), refl))

  pub statement_begins : (names : ℕ → ℕ) (objects : Objects) (rest others : List Task) (memory : Memory) → TasksAgree change A R rest others
      → (tree other : Tree) → A tree other
      → TurnedAgrees change A R (begin_statement (new_of change) names (renamed_objects change.rename objects) rest memory tree) (begin_statement change.old names objects others memory other)
  statement_begins names objects rest others memory r tree other h = tree_begins names objects rest others memory r (unlabelled tree) (unlabelled other) (unlabelled_agrees tree other h)

  -- ---- initialisers

  initial_agrees : (kind : CType) (n : Option ℕ) (initialiser : Option Initialiser) (trees others : List Tree) → Zipped A trees others
      → TasksAgree change A R (initial_of kind n initialiser trees) (initial_of kind n initialiser others)
  initial_agrees kind None None trees others h = tt
  initial_agrees kind None (Some initialiser) trees others h = tt
  initial_agrees kind (Some n) None trees others h = tt
  initial_agrees kind (Some n) (Some initialiser) trees others h = ((refl, refl, refl, h), tt)

  if_tasks_agree : (b : Bool) (tasks others : List Task) → TasksAgree change A R tasks others → TasksAgree change A R (if b then tasks else []) (if b then others else [])
  if_tasks_agree true tasks others h = h
  if_tasks_agree false tasks others h = tt

  pub declarator_begins : (objects : Objects) (rest others : List Task) (memory : Memory) → TasksAgree change A R rest others
      → (declarator : Declarator) (trees other_trees : List Tree) → Zipped A trees other_trees
      → TurnedAgrees change A R (begin_declarator (new_of change) (renamed_objects change.rename objects) rest memory (renamed_declarator change.rename declarator) trees)
      (begin_declarator change.old objects others memory declarator other_trees)
  declarator_begins objects rest others memory r declarator trees other_trees h =
      let d = declarator.declared in
      let olds = initial_of (type_declared change.old d) (object_named objects d) declarator.initialiser other_trees in
      let agree : TasksAgree change A R (initial_of (type_declared (new_of change) (change.rename d)) (object_named (renamed_objects change.rename objects) (change.rename d)) declarator.initialiser trees) olds =
      subst (λ kind. TasksAgree change A R (initial_of kind (object_named (renamed_objects change.rename objects) (change.rename d)) declarator.initialiser trees) olds) (sym (same_type d))
      (subst (λ n. TasksAgree change A R (initial_of (type_declared change.old d) n declarator.initialiser trees) olds) (sym (object_renamed change.rename naming.injective objects d))
      (initial_agrees (type_declared change.old d) (object_named objects d) declarator.initialiser trees other_trees h)) in
      let news = initial_of (type_declared (new_of change) (change.rename d)) (object_named (renamed_objects change.rename objects) (change.rename d)) declarator.initialiser trees in (
        refl,
        subst (λ b. TasksAgree change A R ((if b then news else []) ++ rest) ((if is_automatic change.old declarator then olds else []) ++ others)) (sym (same_is_automatic declarator))
            (zipped_append (TaskAgrees change A R) _ _ rest others (if_tasks_agree (is_automatic change.old declarator) news olds agree) r),
        refl,
      )

  parts_agree : (layout : Layout) (at : At) (kind : CType) (n : ℕ) (items : Initialisers) (trees others : List Tree) → Zipped A trees others
      → TasksAgree change A R (part_tasks layout at kind n items trees) (part_tasks layout at kind n items others)
  parts_agree layout at kind n no_items trees others h = tt
  parts_agree layout at kind n (more_items item items) trees others h = (
    (refl, refl, refl, zipped_take A (expressions_in item) trees others h),
    parts_agree layout at kind (suc n) items (drop (expressions_in item) trees) (drop (expressions_in item) others) (zipped_drop A (expressions_in item) trees others h),
  )

  pub initialiser_begins : (objects : Objects) (rest others : List Task) (memory : Memory) → TasksAgree change A R rest others
      → (at : At) (kind : CType) (initialiser : Initialiser) (trees other_trees : List Tree) → Zipped A trees other_trees
      → TurnedAgrees change A R (begin_initialiser (new_of change) (renamed_objects change.rename objects) rest memory at kind initialiser trees)
      (begin_initialiser change.old objects others memory at kind initialiser other_trees)
  initialiser_begins objects rest others memory r at kind one_expression trees other_trees h =
      one_agrees trees other_trees _ _ _ _ h (λ x y k. (refl, (evaluation_agrees x y (initialises at kind) (initialises at kind) k (refl, refl), r), refl)) (refl, r, refl)
  initialiser_begins objects rest others memory r at kind (in_braces items) trees other_trees h =
      (refl, zipped_append (TaskAgrees change A R) _ _ rest others (parts_agree (layout change.old) at kind 0 items trees other_trees h) r, refl)

  -- ---- switch

  abbrev AllCases : ℤ → Trees → Type 0
  AllCases z no_trees = Unit {0}
  AllCases z (more_trees first rest) = ((other : Tree) → A first other → has_case (new_of change) z first ≡ has_case change.old z other) × AllCases z rest

  case_case : (z : ℤ) (kind other_kind : CType) (spans other_spans : Spans) (parts others : Trees) → SameCase change case parts others → AllAlike A parts others → AllCases z parts
      → has_case (new_of change) z (node case kind spans parts) ≡ has_case change.old z (node case other_kind other_spans others)
  case_case z kind other_kind spans other_spans no_trees no_trees c h below = refl
  case_case z kind other_kind spans other_spans no_trees (more_trees other others) c h below = absurd h
  case_case z kind other_kind spans other_spans (more_trees first rest) no_trees c h below = absurd h
  case_case z kind other_kind spans other_spans (more_trees first no_trees) (more_trees other no_trees) c h below = refl
  case_case z kind other_kind spans other_spans (more_trees first no_trees) (more_trees other (more_trees second others)) c h below = absurd h.1
  case_case z kind other_kind spans other_spans (more_trees first (more_trees second rest)) (more_trees other no_trees) c h below = absurd h.1
  case_case z kind other_kind spans other_spans (more_trees first (more_trees second rest)) (more_trees other (more_trees another others)) c h below =
      ap (λ o. is_number z o || has_case (new_of change) z second) c
      ∙ ap (λ b. is_number z (constant_of change.old other) || b) (below.1.0 another h.1.0)

  case_default : (z : ℤ) (kind other_kind : CType) (spans other_spans : Spans) (parts others : Trees) → AllAlike A parts others → AllCases z parts
      → has_case (new_of change) z (node default kind spans parts) ≡ has_case change.old z (node default other_kind other_spans others)
  case_default z kind other_kind spans other_spans no_trees no_trees h below = refl
  case_default z kind other_kind spans other_spans no_trees (more_trees other others) h below = absurd h
  case_default z kind other_kind spans other_spans (more_trees first rest) no_trees h below = absurd h
  case_default z kind other_kind spans other_spans (more_trees first rest) (more_trees other others) h below = below.0 other h.0

  case_by_label : (z : ℤ) (label : Label) (kind other_kind : CType) (spans other_spans : Spans) (parts others : Trees) → SameCase change label parts others → AllAlike A parts others → AllCases z parts
      → has_case (new_of change) z (node (relabelled change.rename label) kind spans parts) ≡ has_case change.old z (node label other_kind other_spans others)
  case_by_label z case kind other_kind spans other_spans parts others c h below = case_case z kind other_kind spans other_spans parts others c h below
  case_by_label z default kind other_kind spans other_spans parts others c h below = case_default z kind other_kind spans other_spans parts others h below
  case_by_label z label kind other_kind spans other_spans parts others c h below = refl

  value_no_case : (z : ℤ) (label : Label) (kind : CType) (spans : Spans) (parts : Trees) → may_give label ≡ true → has_case change.old z (node label kind spans parts) ≡ false
  value_no_case z case kind spans parts h = absurd (cc)
  value_no_case z default kind spans parts h = absurd (cc)
  value_no_case z label kind spans parts h = refl

  case_node : (z : ℤ) (label : Label) (kind : CType) (spans : Spans) (parts : Trees) → AllCases z parts
      → (other : Tree) → A (node label kind spans parts) other → has_case (new_of change) z (node label kind spans parts) ≡ has_case change.old z other
  case_node z label kind spans parts below (node other other_kind other_spans others) h = by_form (naming.opened label kind spans parts other other_kind other_spans others h)
    where
      by_form : SameNode change A label kind parts other other_kind others ⊎ ReadNode label other → has_case (new_of change) z (node label kind spans parts) ≡ has_case change.old z (node other other_kind other_spans others)
      by_form (inl s) = ap (λ l. has_case (new_of change) z (node l kind spans parts)) s.0 ∙ case_by_label z other kind other_kind spans other_spans parts others s.2 s.3 below
      by_form (inr s) = ap (λ l. has_case (new_of change) z (node l kind spans parts)) s.0 ∙ sym (value_no_case z other other_kind other_spans others s.1)

  abbrev AllDefaults : Trees → Type 0
  AllDefaults no_trees = Unit {0}
  AllDefaults (more_trees first rest) = ((other : Tree) → A first other → has_default first ≡ has_default other) × AllDefaults rest

  default_case : (kind other_kind : CType) (spans other_spans : Spans) (parts others : Trees) → AllAlike A parts others → AllDefaults parts
      → has_default (node case kind spans parts) ≡ has_default (node case other_kind other_spans others)
  default_case kind other_kind spans other_spans no_trees no_trees h below = refl
  default_case kind other_kind spans other_spans no_trees (more_trees other others) h below = absurd h
  default_case kind other_kind spans other_spans (more_trees first rest) no_trees h below = absurd h
  default_case kind other_kind spans other_spans (more_trees first no_trees) (more_trees other no_trees) h below = refl
  default_case kind other_kind spans other_spans (more_trees first no_trees) (more_trees other (more_trees second others)) h below = absurd h.1
  default_case kind other_kind spans other_spans (more_trees first (more_trees second rest)) (more_trees other no_trees) h below = absurd h.1
  default_case kind other_kind spans other_spans (more_trees first (more_trees second rest)) (more_trees other (more_trees another others)) h below = below.1.0 another h.1.0

  default_by_label : (label : Label) (kind other_kind : CType) (spans other_spans : Spans) (parts others : Trees) → AllAlike A parts others → AllDefaults parts
      → has_default (node (relabelled change.rename label) kind spans parts) ≡ has_default (node label other_kind other_spans others)
  default_by_label case kind other_kind spans other_spans parts others h below = default_case kind other_kind spans other_spans parts others h below
  default_by_label label kind other_kind spans other_spans parts others h below = refl

  value_no_default : (label : Label) (kind : CType) (spans : Spans) (parts : Trees) → may_give label ≡ true → has_default (node label kind spans parts) ≡ false
  value_no_default case kind spans parts h = absurd (cc)
  value_no_default default kind spans parts h = absurd (cc)
  value_no_default label kind spans parts h = refl

  default_node : (label : Label) (kind : CType) (spans : Spans) (parts : Trees) → AllDefaults parts
      → (other : Tree) → A (node label kind spans parts) other → has_default (node label kind spans parts) ≡ has_default other
  default_node label kind spans parts below (node other other_kind other_spans others) h = by_form (naming.opened label kind spans parts other other_kind other_spans others h)
    where
      by_form : SameNode change A label kind parts other other_kind others ⊎ ReadNode label other → has_default (node label kind spans parts) ≡ has_default (node other other_kind other_spans others)
      by_form (inl s) = ap (λ l. has_default (node l kind spans parts)) s.0 ∙ default_by_label other kind other_kind spans other_spans parts others s.3 below
      by_form (inr s) = ap (λ l. has_default (node l kind spans parts)) s.0 ∙ sym (value_no_default other other_kind other_spans others s.1)

  mutual
    agreeing_case : (z : ℤ) (tree other : Tree) → A tree other → has_case (new_of change) z tree ≡ has_case change.old z other
    agreeing_case z (node label kind spans parts) other h = case_node z label kind spans parts (all_cases z parts) other h

    all_cases : (z : ℤ) (trees : Trees) → AllCases z trees
    all_cases z no_trees = tt
    all_cases z (more_trees first rest) = (agreeing_case z first, all_cases z rest)

  mutual
    agreeing_default : (tree other : Tree) → A tree other → has_default tree ≡ has_default other
    agreeing_default (node label kind spans parts) other h = default_node label kind spans parts (all_defaults parts) other h

    all_defaults : (trees : Trees) → AllDefaults trees
    all_defaults no_trees = tt
    all_defaults (more_trees first rest) = (agreeing_default first, all_defaults rest)

  from_first_agrees : (test other : Tree → Bool) → ((x y : Tree) → A x y → test x ≡ other y) → (trees others : List Tree) → Zipped A trees others
      → OptionAgrees (Zipped A) (from_first test trees) (from_first other others)
  from_first_agrees test other same [] [] h = tt
  from_first_agrees test other same [] (y ∷ ys) h = absurd h
  from_first_agrees test other same (x ∷ xs) [] h = absurd h
  from_first_agrees test other same (x ∷ xs) (y ∷ ys) h =
      subst (λ b. OptionAgrees (Zipped A) (if b then Some (x ∷ xs) else from_first test xs) (from_first other (y ∷ ys))) (sym (same x y h.0))
      (by_bool (other y) (from_first_agrees test other same xs ys h.1))
    where
      by_bool : (b : Bool) → OptionAgrees (Zipped A) (from_first test xs) (from_first other ys)
          → OptionAgrees (Zipped A) (if b then Some (x ∷ xs) else from_first test xs) (if b then Some (y ∷ ys) else from_first other ys)
      by_bool true k = h
      by_bool false k = k

  or_agrees : (a b : Option (List Tree)) (xs ys : List Tree) → OptionAgrees (Zipped A) a b → Zipped A xs ys → Zipped A (or_items a xs) (or_items b ys)
  or_agrees None None xs ys h k = k
  or_agrees None (Some b) xs ys h k = absurd h
  or_agrees (Some a) None xs ys h k = absurd h
  or_agrees (Some a) (Some b) xs ys h k = h

  selected_agrees : (value : Value) (trees others : List Tree) → Zipped A trees others → Zipped A (selected_by (new_of change) value trees) (selected_by change.old value others)
  selected_agrees (integer_value kind z) trees others h =
      or_agrees _ _ _ _ (from_first_agrees (has_case (new_of change) z) (has_case change.old z) (agreeing_case z) trees others h)
      (or_agrees _ _ [] [] (from_first_agrees has_default has_default agreeing_default trees others h) tt)
  selected_agrees (pointer_value p) trees others h = tt
  selected_agrees (compound all) trees others h = tt
  selected_agrees unset trees others h = tt

  -- ---- the end of a full expression

  test_agrees : (place at : Place) (truth : Truth) (next other : Bool → Turned) → ((b : Bool) → TurnedAgrees change A R (next b) (other b)) → TurnedAgrees change A R (by_test place truth next) (by_test at truth other)
  test_agrees place at (holds b) next other h = h b
  test_agrees place at (untold cause) next other h = tt

  begins_agree : (a b : Option Tree) → OptionAgrees A a b → TasksAgree change A R (begins_one a) (begins_one b)
  begins_agree None None h = tt
  begins_agree None (Some b) h = absurd h
  begins_agree (Some a) None h = absurd h
  begins_agree (Some a) (Some b) h = (h, tt)

  pub conclusion_agrees : (objects : Objects) (rest others : List Task) (memory : Memory) → TasksAgree change A R rest others
      → (place at : Place) (use_of other_use : Use) → UseAgrees A use_of other_use → (result : Result)
      → TurnedAgrees change A R (concluded (new_of change) (renamed_objects change.rename objects) rest memory place use_of result) (concluded change.old objects others memory at other_use result)
  conclusion_agrees objects rest others memory r place at drops drops h result = (refl, r, refl)
  conclusion_agrees objects rest others memory r place at (chooses first second) (chooses other another) h result =
      test_agrees place at (truth_of memory (value_of result)) _ _ (λ b. (refl, zipped_append (TaskAgrees change A R) _ _ rest others (begins_agree _ _ (chosen_agrees b)) r, refl))
    where
      chosen_agrees : (b : Bool) → OptionAgrees A (if b then Some first else second) (if b then Some other else another)
      chosen_agrees true = h.0
      chosen_agrees false = h.1
  conclusion_agrees objects rest others memory r place at (selects items) (selects other_items) h result =
      (refl, zipped_append (TaskAgrees change A R) _ _ rest others (items_agree _ _ (selected_agrees (value_of result) items other_items h)) r, refl)
  conclusion_agrees objects rest others memory r place at (repeats loop) (repeats other) h result =
      test_agrees place at (truth_of memory (value_of result)) _ _ again_agrees
    where
      again_agrees : (b : Bool) → TurnedAgrees change A R (onward (renamed_objects change.rename objects) (if b then begins loop.body ∷ again (renamed_objects change.rename objects) loop ∷ rest else rest) memory)
          (onward objects (if b then begins other.body ∷ again objects other ∷ others else others) memory)
      again_agrees true = (refl, (h.2, ((refl, h), r)), refl)
      again_agrees false = (refl, r, refl)
  conclusion_agrees objects rest others memory r place at (continues loop) (continues other) h result = (refl, ((refl, h), r), refl)
  conclusion_agrees objects rest others memory r place at returns returns h result = (refl, (refl, tt), refl)
  conclusion_agrees objects rest others memory r place at (initialises target kind) (initialises other other_kind) h result =
      (refl, r, ap (λ t. written memory t (initial_value kind result)) h.0 ∙ ap (λ k. written memory other (initial_value k result)) h.1)
  conclusion_agrees objects rest others memory r place at use_of other_use h result = absurd h

  -- ---- loops and ends

  tested_agrees : (objects : Objects) (loop other : Loop) (rest others : List Task) → LoopAgrees A loop other → TasksAgree change A R rest others
      → (condition another : Option Tree) → OptionAgrees A condition another
      → TasksAgree change A R (tested (renamed_objects change.rename objects) loop rest condition) (tested objects other others another)
  tested_agrees objects loop other rest others h r None None k = (h.2, ((refl, h), r))
  tested_agrees objects loop other rest others h r None (Some another) k = absurd k
  tested_agrees objects loop other rest others h r (Some condition) None k = absurd k
  tested_agrees objects loop other rest others h r (Some condition) (Some another) k = (evaluation_agrees condition another (repeats loop) (repeats other) k h, r)

  continued_agrees : (objects : Objects) (loop other : Loop) (rest others : List Task) → LoopAgrees A loop other → TasksAgree change A R rest others
      → (after another : Option Tree) → OptionAgrees A after another
      → TasksAgree change A R (continued (renamed_objects change.rename objects) loop rest after) (continued objects other others another)
  continued_agrees objects loop other rest others h r None None k = tested_agrees objects loop other rest others h r loop.condition other.condition h.0
  continued_agrees objects loop other rest others h r None (Some another) k = absurd k
  continued_agrees objects loop other rest others h r (Some after) None k = absurd k
  continued_agrees objects loop other rest others h r (Some after) (Some another) k = (evaluation_agrees after another (continues loop) (continues other) k h, r)

  pub unfolded_agree : (tasks others : List Task) → TasksAgree change A R tasks others → TasksAgree change A R (unfolded tasks) (unfolded others)
  unfolded_agree [] [] h = tt
  unfolded_agree [] (u ∷ us) h = absurd h
  unfolded_agree (t ∷ ts) [] h = absurd h
  unfolded_agree (tests objects loop ∷ ts) (tests others other ∷ us) h =
      subst (λ saved. TasksAgree change A R (tested saved loop ts loop.condition) (tested others other us other.condition)) (sym h.0.0)
      (tested_agrees others loop other ts us h.0.1 h.1 loop.condition other.condition h.0.1.0)
  unfolded_agree (again objects loop ∷ ts) (again others other ∷ us) h =
      subst (λ saved. TasksAgree change A R (continued saved loop ts loop.after) (continued others other us other.after)) (sym h.0.0)
      (continued_agrees others loop other ts us h.0.1 h.1 loop.after other.after h.0.1.1)
  unfolded_agree (begins tree ∷ ts) (begins other ∷ us) h = h
  unfolded_agree (declares declarator expressions ∷ ts) (declares other others ∷ us) h = h
  unfolded_agree (initials at kind initialiser expressions ∷ ts) (initials other other_kind others_initialiser others ∷ us) h = h
  unfolded_agree (evaluates place run use_of ∷ ts) (evaluates at other other_use ∷ us) h = h
  unfolded_agree (ends objects ∷ ts) (ends others ∷ us) h = h
  unfolded_agree (ends_switch objects ∷ ts) (ends_switch others ∷ us) h = h
  unfolded_agree (leaves ∷ ts) (leaves ∷ us) h = h
  unfolded_agree (skips ∷ ts) (skips ∷ us) h = h
  unfolded_agree (hands_back value ∷ ts) (hands_back other ∷ us) h = h
  unfolded_agree (t ∷ ts) (u ∷ us) h = absurd h.0

  pub ended_agrees : (saved others objects : Objects) (rest other_rest : List Task) (memory : Memory) → saved ≡ renamed_objects change.rename others → TasksAgree change A R rest other_rest
      → TurnedAgrees change A R (ended saved (renamed_objects change.rename objects) rest memory) (ended others objects other_rest memory)
  ended_agrees saved others objects rest other_rest memory e r =
      (e, r, ap (λ s. killed (named_since s (renamed_objects change.rename objects)) memory) e ∙ ap (λ ns. killed ns memory) (since_renamed change.rename others objects))

  pub break_agrees : (objects : Objects) (memory : Memory) (tasks others : List Task) → TasksAgree change A R tasks others
      → TurnedAgrees change A R (after_break (renamed_objects change.rename objects) memory tasks) (after_break objects memory others)
  break_agrees objects memory [] [] h = (refl, tt, refl)
  break_agrees objects memory [] (u ∷ us) h = absurd h
  break_agrees objects memory (t ∷ ts) [] h = absurd h
  break_agrees objects memory (again saved loop ∷ ts) (again others other ∷ us) h = ended_agrees saved others objects ts us memory h.0.0 h.1
  break_agrees objects memory (ends_switch saved ∷ ts) (ends_switch others ∷ us) h = ended_agrees saved others objects (ends_switch saved ∷ ts) (ends_switch others ∷ us) memory h.0 h
  break_agrees objects memory (tests saved loop ∷ ts) (tests others other ∷ us) h = break_agrees objects memory ts us h.1
  break_agrees objects memory (begins tree ∷ ts) (begins other ∷ us) h = break_agrees objects memory ts us h.1
  break_agrees objects memory (declares declarator expressions ∷ ts) (declares other others ∷ us) h = break_agrees objects memory ts us h.1
  break_agrees objects memory (initials at kind initialiser expressions ∷ ts) (initials other other_kind others_initialiser others ∷ us) h = break_agrees objects memory ts us h.1
  break_agrees objects memory (evaluates place run use_of ∷ ts) (evaluates at other other_use ∷ us) h = break_agrees objects memory ts us h.1
  break_agrees objects memory (ends saved ∷ ts) (ends others ∷ us) h = break_agrees objects memory ts us h.1
  break_agrees objects memory (leaves ∷ ts) (leaves ∷ us) h = break_agrees objects memory ts us h.1
  break_agrees objects memory (skips ∷ ts) (skips ∷ us) h = break_agrees objects memory ts us h.1
  break_agrees objects memory (hands_back value ∷ ts) (hands_back other ∷ us) h = break_agrees objects memory ts us h.1
  break_agrees objects memory (t ∷ ts) (u ∷ us) h = absurd h.0

  pub continue_agrees : (objects : Objects) (memory : Memory) (tasks others : List Task) → TasksAgree change A R tasks others
      → TurnedAgrees change A R (after_continue (renamed_objects change.rename objects) memory tasks) (after_continue objects memory others)
  continue_agrees objects memory [] [] h = (refl, tt, refl)
  continue_agrees objects memory [] (u ∷ us) h = absurd h
  continue_agrees objects memory (t ∷ ts) [] h = absurd h
  continue_agrees objects memory (again saved loop ∷ ts) (again others other ∷ us) h = ended_agrees saved others objects (again saved loop ∷ ts) (again others other ∷ us) memory h.0.0 h
  continue_agrees objects memory (ends_switch saved ∷ ts) (ends_switch others ∷ us) h = continue_agrees objects memory ts us h.1
  continue_agrees objects memory (tests saved loop ∷ ts) (tests others other ∷ us) h = continue_agrees objects memory ts us h.1
  continue_agrees objects memory (begins tree ∷ ts) (begins other ∷ us) h = continue_agrees objects memory ts us h.1
  continue_agrees objects memory (declares declarator expressions ∷ ts) (declares other others ∷ us) h = continue_agrees objects memory ts us h.1
  continue_agrees objects memory (initials at kind initialiser expressions ∷ ts) (initials other other_kind others_initialiser others ∷ us) h = continue_agrees objects memory ts us h.1
  continue_agrees objects memory (evaluates place run use_of ∷ ts) (evaluates at other other_use ∷ us) h = continue_agrees objects memory ts us h.1
  continue_agrees objects memory (ends saved ∷ ts) (ends others ∷ us) h = continue_agrees objects memory ts us h.1
  continue_agrees objects memory (leaves ∷ ts) (leaves ∷ us) h = continue_agrees objects memory ts us h.1
  continue_agrees objects memory (skips ∷ ts) (skips ∷ us) h = continue_agrees objects memory ts us h.1
  continue_agrees objects memory (hands_back value ∷ ts) (hands_back other ∷ us) h = continue_agrees objects memory ts us h.1
  continue_agrees objects memory (t ∷ ts) (u ∷ us) h = absurd h.0
