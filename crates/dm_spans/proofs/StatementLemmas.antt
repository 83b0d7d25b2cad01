-- Statements are typed where their full expressions stand elsewhere, each at one place.
use Rattle.std.specs.Prelude.{◌≡◌, refl, ◌≤◌, ℕ, zero, suc, Bool, true, false, not, IsTrue, MatchBool, All, List, [], ◌∷◌, ◌++◌, length, take, drop, Option, Some, None, IfSome, slice_get, flat_map, ℤ}
use Rattle.std.specs.List.{AllByRecursion, IsDistinct}
use Rattle.std.proofs.Common.{ap, sym, ◌∙◌, subst, true≢false}
use Rattle.std.proofs.lemmas.List.Elements.{All-head, All-tail, All-from_recursion}
use Rattle.dm_type.specs.CTypes.{CType, void, array, integer, bare}
use Rattle.dm_tree.specs.Composites.{covers}
use Rattle.dm_tree.specs.Constants.{integer_kind}
use Rattle.dm_tree.specs.Initialisers.{Initialises, AllInitialise, InitialiserFits, FitsEntry, DeclaratorsFit, expressions_of, targets, is_fixed, IsStaticValue}
use Rattle.dm_tree.specs.Operands.{IsPromoted}
use Rattle.dm_tree.specs.Scenes.{Scene, IsConstant, IsStatement, IsValue, is_integer, is_lvalue, is_scalar}
use Rattle.dm_tree.specs.Trees.{Declarator, Initialiser, Label, Spans, Tree, Trees, node, no_trees, more_trees, label_of, kind_of, spans_of, trees_of, is_statement, listed}
use Rattle.dm_tree.specs.Trees as label
use Rattle.dm_tree.specs.Typing.{Fits, FitsExpression, FitsLoop, FitsReturn, FitsStatement, FitsSwitch, IsCondition, IsStart, IsWellTyped, AreWellTyped, inside, is_same_label, labels_at, labels_of, labels_below, switch_kind}
use Rattle.dm_tree.specs.Units.{Declaration}
use Rattle.dm_meaning.proofs.OptionLemmas.{and_right}
use Rattle.dm_meaning.proofs.WholeLemmas.{typed-expression}
use Rattle.dm_spans.specs.MovedPrograms.{AllMoved, AllStandAt, AreMoved, IsMoved}
use Rattle.dm_spans.specs.SameTrees.{IsSame, AreSame}
use Rattle.dm_spans.proofs.ExpressionLemmas.{not_statement, well_typed_too}
use Rattle.dm_spans.proofs.FactLemmas.{same_label, same_type, value_too, condition_too, constant_too, same_constant}
use Rattle.dm_spans.proofs.ValueLemmas.{static_too}

-- ---- moved trees are the same

either_way : (A B C : Type 0) (b : Bool) → MatchBool b A B → (A → C) → (B → C) → C
either_way A B C true x f g = f x
either_way A B C false x f g = g x

mutual
  pub moved_same : (tree other : Tree) → IsMoved tree other → IsSame tree other
  moved_same (node form kind spans parts) other m = (
    m.0,
    m.1,
    either_way (AreMoved parts (trees_of other)) (AreSame parts (trees_of other) × AllStandAt (spans_of other) (trees_of other)) (AreSame parts (trees_of other)) (is_statement form) m.2
        (λ x. all_moved_same parts (trees_of other) x) (λ x. x.0),
  )

  all_moved_same : (trees others : Trees) → AreMoved trees others → AreSame trees others
  all_moved_same no_trees no_trees m = tt
  all_moved_same no_trees (more_trees other others) m = absurd m
  all_moved_same (more_trees first rest) no_trees m = absurd m
  all_moved_same (more_trees first rest) (more_trees other others) m = (moved_same first other m.0, all_moved_same rest others m.1)

value_form : (tree : Tree) → IsValue tree → is_statement (label_of tree) ≡ false
value_form tree v = not_statement (is_statement (label_of tree)) (and_right (not (is_lvalue tree)) (not (is_statement (label_of tree))) v)

moved_stands : (tree other : Tree) → IsMoved tree other → is_statement (label_of tree) ≡ false → AllStandAt (spans_of other) (trees_of other)
moved_stands (node form kind spans parts) other m e =
    (subst (λ b. MatchBool b (AreMoved parts (trees_of other)) (AreSame parts (trees_of other) × AllStandAt (spans_of other) (trees_of other))) e m.2).1

moved_parts : (form : Label) (parts : Trees) (other : Tree) → MatchBool (is_statement form) (AreMoved parts (trees_of other)) (AreSame parts (trees_of other) × AllStandAt (spans_of other) (trees_of other))
    → is_statement form ≡ true → AreMoved parts (trees_of other)
moved_parts form parts other m e = subst (λ b. MatchBool b (AreMoved parts (trees_of other)) (AreSame parts (trees_of other) × AllStandAt (spans_of other) (trees_of other))) e m

-- ---- lists of them

listed_moved : (trees others : Trees) → AreMoved trees others → AllMoved (listed trees) (listed others)
listed_moved no_trees no_trees m = tt
listed_moved no_trees (more_trees other others) m = absurd m
listed_moved (more_trees first rest) no_trees m = absurd m
listed_moved (more_trees first rest) (more_trees other others) m = (m.0, listed_moved rest others m.1)

front_moved : (n : ℕ) (trees others : List Tree) → AllMoved trees others → AllMoved (take n trees) (take n others)
front_moved zero trees others m = tt
front_moved (suc n) [] [] m = tt
front_moved (suc n) [] (other ∷ others) m = absurd m
front_moved (suc n) (tree ∷ trees) [] m = absurd m
front_moved (suc n) (tree ∷ trees) (other ∷ others) m = (m.0, front_moved n trees others m.1)

behind_moved : (n : ℕ) (trees others : List Tree) → AllMoved trees others → AllMoved (drop n trees) (drop n others)
behind_moved zero trees others m = m
behind_moved (suc n) [] [] m = tt
behind_moved (suc n) [] (other ∷ others) m = absurd m
behind_moved (suc n) (tree ∷ trees) [] m = absurd m
behind_moved (suc n) (tree ∷ trees) (other ∷ others) m = behind_moved n trees others m.1

length_moved : (trees others : List Tree) → AllMoved trees others → length others ≡ length trees
length_moved [] [] m = refl
length_moved [] (other ∷ others) m = absurd m
length_moved (tree ∷ trees) [] m = absurd m
length_moved (tree ∷ trees) (other ∷ others) m = ap (λ n. suc n) (length_moved trees others m.1)

none_moved : (others : List Tree) → AllMoved [] others → others ≡ []
none_moved [] m = refl
none_moved (other ∷ others) m = absurd m

each_moved : (P : Tree → Type 0) → ((tree other : Tree) → IsMoved tree other → P tree → P other) → (trees others : List Tree) → AllMoved trees others → All P trees → AllByRecursion P others
each_moved P too [] [] m p = tt
each_moved P too [] (other ∷ others) m p = absurd m
each_moved P too (tree ∷ trees) [] m p = absurd m
each_moved P too (tree ∷ trees) (other ∷ others) m p = (too tree other m.0 (All-head P tree trees p), each_moved P too trees others m.1 (All-tail P tree trees p))

pub all_moved : (P : Tree → Type 0) → ((tree other : Tree) → IsMoved tree other → P tree → P other) → (trees others : List Tree) → AllMoved trees others → All P trees → All P others
all_moved P too trees others m p = All-from_recursion P others (each_moved P too trees others m p)

-- ---- parts of statements

moved_value : (tree other : Tree) → IsMoved tree other → IsValue tree → IsValue other
moved_value tree other m v = value_too tree other (moved_same tree other m) v

moved_condition : (tree other : Tree) → IsMoved tree other → IsCondition tree → IsCondition other
moved_condition tree other m c = condition_too tree other (moved_same tree other m) c

moved_statement : (tree other : Tree) → IsMoved tree other → IsStatement tree → IsStatement other
moved_statement tree other m s = ap is_statement (same_label tree other (moved_same tree other m)) ∙ s

start_at : (form : Label) (kind : CType) (spans other_spans : Spans) (parts others : Trees) → IsSame (node form kind spans parts) (node form kind other_spans others) → IsStart (node form kind spans parts) → IsStart (node form kind other_spans others)
start_at (label.declare lengths declarators) kind spans other_spans parts others h i = tt
start_at form kind spans other_spans parts others h i = value_too (node form kind spans parts) (node form kind other_spans others) h i

moved_start : (tree other : Tree) → IsMoved tree other → IsStart tree → IsStart other
moved_start (node form kind spans parts) (node other other_kind other_spans others) m i =
    subst (λ l. IsStart (node l other_kind other_spans others)) (sym m.0) (subst (λ k. IsStart (node form k other_spans others)) (sym m.1)
    (start_at form kind spans other_spans parts others (refl, refl, (moved_same (node form kind spans parts) (node other other_kind other_spans others) m).2) i))

module _ (scene : Scene) where
  moved_constant : (tree other : Tree) → IsMoved tree other → IsConstant scene tree → IsConstant scene other
  moved_constant tree other m c = constant_too scene tree other (moved_same tree other m) c

  -- ---- initialisers

  plainly : (fixed : Bool) (type : CType) (tree other : Tree) → IsMoved tree other
      → IsValue tree × IsTrue (is_scalar type) × IsTrue (covers (bare type) (kind_of tree)) × (IsTrue fixed → IsStaticValue scene tree)
      → IsValue other × IsTrue (is_scalar type) × IsTrue (covers (bare type) (kind_of other)) × (IsTrue fixed → IsStaticValue scene other)
  plainly fixed type tree other m i = (
    moved_value tree other m i.0,
    i.1,
    ap (λ t. covers (bare type) t) (same_type tree other (moved_same tree other m)) ∙ i.2,
    λ f. static_too scene tree other (moved_same tree other m) (moved_stands tree other m (value_form tree i.0)) (i.3 f),
  )

  moved_initialises : (fixed : Bool) (type : CType) (tree other : Tree) → IsMoved tree other → Initialises scene fixed type tree → Initialises scene fixed type other
  moved_initialises fixed (array type (Some many)) (node (label.literal bytes unit) kind spans parts) (node other other_kind other_spans others) m i =
      subst (λ l. Initialises scene fixed (array type (Some many)) (node l other_kind other_spans others)) (sym m.0) i
  moved_initialises fixed (array type (Some many)) (node form kind spans parts) other m i = absurd (true≢false (sym i.1))
  moved_initialises fixed type tree other m i = plainly fixed type tree other m i

  all_initialise : (fixed : Bool) (types : List CType) (trees others : List Tree) → AllMoved trees others → AllInitialise scene fixed types trees → AllInitialise scene fixed types others
  all_initialise fixed [] [] [] m i = tt
  all_initialise fixed [] [] (other ∷ others) m i = absurd m
  all_initialise fixed [] (tree ∷ trees) others m i = absurd i
  all_initialise fixed (type ∷ types) [] others m i = absurd i
  all_initialise fixed (type ∷ types) (tree ∷ trees) [] m i = absurd m
  all_initialise fixed (type ∷ types) (tree ∷ trees) (other ∷ others) m i = (moved_initialises fixed type tree other m.0 i.0, all_initialise fixed types trees others m.1 i.1)

  given_types : (fixed : Bool) (types : Option (List CType)) (trees others : List Tree) → AllMoved trees others → IfSome types (λ all. AllInitialise scene fixed all trees) → IfSome types (λ all. AllInitialise scene fixed all others)
  given_types fixed None trees others m i = tt
  given_types fixed (Some types) trees others m i = all_initialise fixed types trees others m i

  pub moved_initialiser : (entry : Declaration) (defines : Bool) (one : Option Initialiser) (trees others : List Tree) → AllMoved trees others → InitialiserFits scene entry defines one trees → InitialiserFits scene entry defines one others
  moved_initialiser entry defines None trees others m i = none_moved others (subst (λ trees. AllMoved trees others) i m)
  moved_initialiser entry defines (Some one) trees others m i = (i.0, given_types (is_fixed entry.sort) (targets scene.types entry.kind one) trees others m i.1, i.2)

  moved_entry : (one : Declarator) (trees others : List Tree) → AllMoved trees others → (entry : Option Declaration) → IfSome entry (FitsEntry scene one trees) → IfSome entry (FitsEntry scene one others)
  moved_entry one trees others m None f = tt
  moved_entry one trees others m (Some entry) f = (f.0, moved_initialiser entry one.defines one.initialiser trees others m f.1)

  pub moved_declarators : (declarators : List Declarator) (trees others : List Tree) → AllMoved trees others → DeclaratorsFit scene declarators trees → DeclaratorsFit scene declarators others
  moved_declarators [] trees others m f = none_moved others (subst (λ trees. AllMoved trees others) f m)
  moved_declarators (one ∷ more) trees others m f = (
    (
      moved_entry one (take (expressions_of one) trees) (take (expressions_of one) others) (front_moved (expressions_of one) trees others m) (slice_get scene.declared one.declared) f.0.0,
      f.0.1,
    ),
    moved_declarators more (drop (expressions_of one) trees) (drop (expressions_of one) others) (behind_moved (expressions_of one) trees others m) f.1,
  )

  -- ---- labels of a switch

  labels_at_same : (form : Label) (parts others : Trees) → AreSame parts others → (below : List (List (Option ℤ))) → labels_at scene form (listed others) below ≡ labels_at scene form (listed parts) below
  labels_at_same label.case no_trees no_trees h below = refl
  labels_at_same label.case no_trees (more_trees other others) h below = absurd h
  labels_at_same label.case (more_trees first rest) no_trees h below = absurd h
  labels_at_same label.case (more_trees first rest) (more_trees other others) h [] = refl
  labels_at_same label.case (more_trees first rest) (more_trees other others) h (x ∷ []) = refl
  labels_at_same label.case (more_trees first rest) (more_trees other others) h (x ∷ y ∷ []) = ap (λ c. c ∷ y) (same_constant scene.types scene.declared first other h.0)
  labels_at_same label.case (more_trees first rest) (more_trees other others) h (x ∷ y ∷ z ∷ below) = refl
  labels_at_same label.default parts others h [] = refl
  labels_at_same label.default parts others h (x ∷ []) = refl
  labels_at_same label.default parts others h (x ∷ y ∷ below) = refl
  labels_at_same form parts others h below = refl

  mutual
    same_labels : (tree other : Tree) → IsSame tree other → labels_of scene other ≡ labels_of scene tree
    same_labels (node form kind spans parts) (node other other_kind other_spans others) h =
        ap (λ l. labels_at scene l (listed others) (labels_below scene others)) h.0
        ∙ ap (labels_at scene form (listed others)) (same_labels_below parts others h.2)
        ∙ labels_at_same form parts others h.2 (labels_below scene parts)

    same_labels_below : (trees others : Trees) → AreSame trees others → labels_below scene others ≡ labels_below scene trees
    same_labels_below no_trees no_trees h = refl
    same_labels_below no_trees (more_trees other others) h = absurd h
    same_labels_below (more_trees first rest) no_trees h = absurd h
    same_labels_below (more_trees first rest) (more_trees other others) h =
        ap (λ l. l ∷ labels_below scene others) (same_labels first other h.0) ∙ ap (λ ls. labels_of scene first ∷ ls) (same_labels_below rest others h.1)

  item_labels : (trees others : List Tree) → AllMoved trees others → flat_map (labels_of scene) others ≡ flat_map (labels_of scene) trees
  item_labels [] [] m = refl
  item_labels [] (other ∷ others) m = absurd m
  item_labels (tree ∷ trees) [] m = absurd m
  item_labels (tree ∷ trees) (other ∷ others) m =
      ap (λ l. l ++ flat_map (labels_of scene) others) (same_labels tree other (moved_same tree other m.0)) ∙ ap (λ ls. labels_of scene tree ++ ls) (item_labels trees others m.1)

  -- ---- statements

  moved_switch : (operand other : Tree) (items others : List Tree) → IsMoved operand other → AllMoved items others → FitsSwitch scene operand items → FitsSwitch scene other others
  moved_switch operand other items others m ms f =
      let same = same_type operand other (moved_same operand other m) in (
        moved_value operand other m f.0,
        same ∙ f.1 ∙ ap bare (sym same),
        subst (λ t. IfSome (integer_kind t) IsPromoted) (sym same) f.2,
        ap is_integer same ∙ f.3,
        all_moved IsStatement moved_statement items others ms f.4,
        subst (λ ls. IsDistinct is_same_label ls) (sym (item_labels items others ms)) f.5,
      )

  moved_loop : (first second third : Bool) (trees others : List Tree) → AllMoved trees others → FitsLoop first second third trees → FitsLoop first second third others
  moved_loop first second third trees [] m f = subst (FitsLoop first second third) (nothing trees m) f
    where
      nothing : (trees : List Tree) → AllMoved trees [] → trees ≡ []
      nothing [] m = refl
      nothing (tree ∷ trees) m = absurd m
  moved_loop true second third [] (other ∷ others) m f = absurd m
  moved_loop true second third (tree ∷ trees) (other ∷ others) m f = (moved_start tree other m.0 f.0, moved_loop false second third trees others m.1 f.1)
  moved_loop false true third [] (other ∷ others) m f = absurd m
  moved_loop false true third (tree ∷ trees) (other ∷ others) m f = (moved_condition tree other m.0 f.0, moved_loop false false third trees others m.1 f.1)
  moved_loop false false true [] (other ∷ others) m f = absurd m
  moved_loop false false true (tree ∷ trees) (other ∷ others) m f = (moved_value tree other m.0 f.0, moved_loop false false false trees others m.1 f.1)
  moved_loop false false false [] (other ∷ others) m f = absurd m
  moved_loop false false false (tree ∷ []) (other ∷ []) m f = moved_statement tree other m.0 f
  moved_loop false false false (tree ∷ []) (other ∷ next ∷ others) m f = absurd m.1
  moved_loop false false false (tree ∷ next ∷ trees) (other ∷ others) m f = absurd f

  moved_return : (result : CType) (trees others : List Tree) → AllMoved trees others → FitsReturn result trees → FitsReturn result others
  moved_return result [] [] m f = f
  moved_return result [] (other ∷ others) m f = absurd m
  moved_return result (tree ∷ []) [] m f = absurd m
  moved_return result (tree ∷ []) (other ∷ []) m f = (moved_value tree other m.0 f.0, ap (covers result) (same_type tree other (moved_same tree other m.0)) ∙ f.1, f.2)
  moved_return result (tree ∷ []) (other ∷ next ∷ others) m f = absurd m.1
  moved_return result (tree ∷ next ∷ trees) others m f = absurd f

  moved_labels : (tree other : Tree) → IsMoved tree other → IfSome scene.labels (λ kind. kind_of tree ≡ integer kind) → IfSome scene.labels (λ kind. kind_of other ≡ integer kind)
  moved_labels tree other m f = subst (λ t. IfSome scene.labels (λ kind. t ≡ integer kind)) (sym (same_type tree other (moved_same tree other m))) f

  moved_fits : (form : Label) (trees others : List Tree) → AllMoved trees others → FitsStatement scene form trees → FitsStatement scene form others
  moved_fits label.block trees others m f = all_moved IsStatement moved_statement trees others m f
  moved_fits (label.declare lengths declarators) trees others m f = (
    subst (λ n. lengths ≤ n) (sym (length_moved trees others m)) f.0,
    all_moved (IsConstant scene) moved_constant (take lengths trees) (take lengths others) (front_moved lengths trees others m) f.1,
    moved_declarators declarators (drop lengths trees) (drop lengths others) (behind_moved lengths trees others m) f.2,
  )
  moved_fits label.full (a ∷ []) (b ∷ []) m f = moved_value a b m.0 f
  moved_fits label.full (a ∷ []) [] m f = absurd m
  moved_fits label.full (a ∷ []) (c1 ∷ c2 ∷ others) m f = absurd m.1
  moved_fits label.empty [] [] m f = tt
  moved_fits label.empty [] (c1 ∷ others) m f = absurd m
  moved_fits label.if_statement (a ∷ b ∷ []) (c ∷ d ∷ []) m f = (moved_condition a c m.0 f.0, moved_statement b d m.1.0 f.1)
  moved_fits label.if_statement (a ∷ b ∷ []) [] m f = absurd m
  moved_fits label.if_statement (a ∷ b ∷ []) (c1 ∷ []) m f = absurd m.1
  moved_fits label.if_statement (a ∷ b ∷ []) (c1 ∷ c2 ∷ c3 ∷ others) m f = absurd m.1.1
  moved_fits label.if_statement (a ∷ b ∷ c ∷ []) (d ∷ e ∷ g ∷ []) m f = (moved_condition a d m.0 f.0, moved_statement b e m.1.0 f.1, moved_statement c g m.1.1.0 f.2)
  moved_fits label.if_statement (a ∷ b ∷ c ∷ []) [] m f = absurd m
  moved_fits label.if_statement (a ∷ b ∷ c ∷ []) (c1 ∷ []) m f = absurd m.1
  moved_fits label.if_statement (a ∷ b ∷ c ∷ []) (c1 ∷ c2 ∷ []) m f = absurd m.1.1
  moved_fits label.if_statement (a ∷ b ∷ c ∷ []) (c1 ∷ c2 ∷ c3 ∷ c4 ∷ others) m f = absurd m.1.1.1
  moved_fits label.switch (a ∷ items) (b ∷ others) m f = moved_switch a b items others m.0 m.1 f
  moved_fits label.switch (a ∷ items) [] m f = absurd m
  moved_fits label.case (a ∷ b ∷ []) (c ∷ d ∷ []) m f = (moved_labels a c m.0 f.0, f.1, moved_constant a c m.0 f.2, moved_statement b d m.1.0 f.3)
  moved_fits label.case (a ∷ b ∷ []) [] m f = absurd m
  moved_fits label.case (a ∷ b ∷ []) (c1 ∷ []) m f = absurd m.1
  moved_fits label.case (a ∷ b ∷ []) (c1 ∷ c2 ∷ c3 ∷ others) m f = absurd m.1.1
  moved_fits label.default (a ∷ []) (b ∷ []) m f = (f.0, moved_statement a b m.0 f.1)
  moved_fits label.default (a ∷ []) [] m f = absurd m
  moved_fits label.default (a ∷ []) (c1 ∷ c2 ∷ others) m f = absurd m.1
  moved_fits label.while_loop (a ∷ b ∷ []) (c ∷ d ∷ []) m f = (moved_condition a c m.0 f.0, moved_statement b d m.1.0 f.1)
  moved_fits label.while_loop (a ∷ b ∷ []) [] m f = absurd m
  moved_fits label.while_loop (a ∷ b ∷ []) (c1 ∷ []) m f = absurd m.1
  moved_fits label.while_loop (a ∷ b ∷ []) (c1 ∷ c2 ∷ c3 ∷ others) m f = absurd m.1.1
  moved_fits label.do_loop (a ∷ b ∷ []) (c ∷ d ∷ []) m f = (moved_statement a c m.0 f.0, moved_condition b d m.1.0 f.1)
  moved_fits label.do_loop (a ∷ b ∷ []) [] m f = absurd m
  moved_fits label.do_loop (a ∷ b ∷ []) (c1 ∷ []) m f = absurd m.1
  moved_fits label.do_loop (a ∷ b ∷ []) (c1 ∷ c2 ∷ c3 ∷ others) m f = absurd m.1.1
  moved_fits (label.for_loop first second third) trees others m f = moved_loop first second third trees others m f
  moved_fits label.break [] [] m f = f
  moved_fits label.break [] (c1 ∷ others) m f = absurd m
  moved_fits label.continue [] [] m f = f
  moved_fits label.continue [] (c1 ∷ others) m f = absurd m
  moved_fits label.return trees others m f = moved_return scene.result trees others m f
  moved_fits form trees others m f = absurd f

-- ---- trees

switch_same : (parts others : Trees) → AreSame parts others → switch_kind (listed others) ≡ switch_kind (listed parts)
switch_same no_trees no_trees h = refl
switch_same no_trees (more_trees other others) h = absurd h
switch_same (more_trees first rest) no_trees h = absurd h
switch_same (more_trees first rest) (more_trees other others) h = ap integer_kind (same_type first other h.0)

inside_same : (scene : Scene) (form : Label) (parts others : Trees) → AreSame parts others → inside scene form (listed others) ≡ inside scene form (listed parts)
inside_same scene label.switch parts others h = ap (λ k. record scene { breaks = true; labels = k }) (switch_same parts others h)
inside_same scene form parts others h = refl

is_typed_form : (scene : Scene) (form : Label) (kind : CType) (trees others : List Tree) → is_statement form ≡ true → AllMoved trees others → Fits scene form kind trees → Fits scene form kind others
is_typed_form scene form kind trees others e m f =
    let g = subst (λ b. MatchBool b (FitsStatement scene form trees × (kind ≡ void)) (FitsExpression scene form kind trees)) e f in
    subst (λ b. MatchBool b (FitsStatement scene form others × (kind ≡ void)) (FitsExpression scene form kind others)) (sym e) (moved_fits scene form trees others m g.0, g.1)

by_form : (scene : Scene) (form : Label) (kind : CType) (spans : Spans) (parts : Trees) (other : Label) (other_kind : CType) (other_spans : Spans) (others : Trees)
    → IsMoved (node form kind spans parts) (node other other_kind other_spans others) → IsWellTyped scene (node form kind spans parts)
    → (b : Bool) → is_statement form ≡ b → (AreMoved parts others → AreWellTyped (inside scene form (listed parts)) others) → IsWellTyped scene (node other other_kind other_spans others)
by_form scene form kind spans parts other other_kind other_spans others m t true e below =
    let ms = moved_parts form parts (node other other_kind other_spans others) m.2 e in (
      subst (λ l. Fits scene l other_kind (listed others)) (sym m.0) (subst (λ k. Fits scene form k (listed others)) (sym m.1) (is_typed_form scene form kind (listed parts) (listed others) e (listed_moved parts others ms) t.0)),
      subst (λ l. AreWellTyped (inside scene l (listed others)) others) (sym m.0) (subst (λ place. AreWellTyped place others) (sym (inside_same scene form parts others (all_moved_same parts others ms))) (below ms)),
    )
by_form scene form kind spans parts other other_kind other_spans others m t false e below =
    well_typed_too scene (node form kind spans parts) (node other other_kind other_spans others) (moved_same (node form kind spans parts) (node other other_kind other_spans others) m)
    (typed-expression scene (node form kind spans parts) t (ap not e)) t

mutual
  pub moved_typed : (scene : Scene) (tree other : Tree) → IsMoved tree other → IsWellTyped scene tree → IsWellTyped scene other
  moved_typed scene (node form kind spans parts) (node other other_kind other_spans others) m t =
      by_form scene form kind spans parts other other_kind other_spans others m t (is_statement form) refl (λ x. all_moved_typed (inside scene form (listed parts)) parts others x t.1)

  all_moved_typed : (scene : Scene) (trees others : Trees) → AreMoved trees others → AreWellTyped scene trees → AreWellTyped scene others
  all_moved_typed scene no_trees no_trees m t = tt
  all_moved_typed scene no_trees (more_trees other others) m t = absurd m
  all_moved_typed scene (more_trees first rest) no_trees m t = absurd m
  all_moved_typed scene (more_trees first rest) (more_trees other others) m t = (moved_typed scene first other m.0 t.0, all_moved_typed scene rest others m.1 t.1)
