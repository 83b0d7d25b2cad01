-- Statements declare automatic objects by numbers that are new, and are no declarations: by induction over the syntax.
use Rattle.std.specs.Prelude.{◌≡◌, refl, ℕ, ℤ, ◌≤◌, Bool, true, false, ◌&&◌, not, List, [], ◌∷◌, ◌++◌, length, Option, Some, None}
use Rattle.std.proofs.Common.{ap, ap₂, sym, ◌∙◌, true≢false, arith}
use Rattle.dm_token.specs.declared.place.Span.{Span}
use Rattle.dm_int.specs.declared.Kind.{Kind}
use Rattle.dm_type.specs.CTypes.{CType}
use Rattle.dm_syn.specs.Spans.{expr_span, declaration_span}
use Rattle.dm_syn.specs.Trees.{Expr, ForStart, Stmt, BlockItems, BlockItem, SwitchItems, SwitchItem}
use Rattle.dm_syn.specs.Trees as tree
use Rattle.dm_tree.proofs.ListLemmas.{listed-trees}
use Rattle.dm_tree.specs.Constants.{integer_kind}
use Rattle.dm_tree.specs.Scenes.{is_scalar, is_void}
use Rattle.dm_tree.specs.Trees.{Tree, node, no_trees, more_trees, trees, listed, kind_of}
use Rattle.dm_tree.specs.Trees as label
use Rattle.dm_tree.specs.TypeNumbers.{all_pass}
use Rattle.dm_tree.specs.Units.{Declaration}
use Rattle.dm_effect.specs.Scoped.{declared_by}
use Rattle.dm_meaning.specs.Wholes.{is_expression, all_expressions, is_whole_start, loop_whole, is_whole, are_whole}
use Rattle.dm_meaning.proofs.OptionLemmas.{and_left, and_right}
use Rattle.dm_initialised.specs.Settled.{declared_in_parts}
use Rattle.dm_initialised.specs.Units.{numbers_below_all}
use Rattle.dm_typing.specs.Known.{Known, Setting}
use Rattle.dm_typing.specs.Conversions.{as_type, as_kind, constant_of}
use Rattle.dm_typing.specs.Rules.{is_assignable}
use Rattle.dm_typing.specs.Typing.{typed}
use Rattle.dm_edecl.specs.Standing.{Standing, goes_on}
use Rattle.dm_edecl.specs.Declaring.{Declared, expressions_of, typed_declaration}
use Rattle.dm_edecl.specs.Statements.{Within, in_loop, in_switch, statement, Labelled, AllLabelled, is_label_among, typed_value, typed_optional, typed_condition, typed_optional_condition, typed_subject, typed_case, full_statement, returned, typed_return, declaration_tree, declared_in, typed_start, is_there, for_statement, typed_stmt, typed_items_in, typed_item_in, typed_switch_items, typed_switch_item}
use Rattle.dm_scoped.proofs.ScopeLemmas.{Grown, grown-through, Sees}
use Rattle.dm_scoped.proofs.StepLemmas.{fits-before, IsScopedIn, Gives, Any, all-pass, stays, after-gives, with-gives, obeys-gives, if-gives}
use Rattle.dm_scoped.proofs.ExpressionLemmas.{expr-scoped}
use Rattle.dm_scoped.proofs.StandingLemmas.{Holds, Leads, moves-none, leads-so, further-leads, keeps-leads, typing-leads}
use Rattle.dm_scoped.proofs.StatementLemmas.{anything}
use Rattle.dm_declared.proofs.NumberLemmas.{joined}
use Rattle.dm_declared.proofs.TreeLemmas.{Goes, GoAll, plain_label, expression_goes, goes_wider, all_wider, then_others, alone, value_then, expressions_go}
use Rattle.dm_declared.proofs.LabelLemmas.{Says, behind_says, obeys_says, says, IsPlain, IsOptional, AtMostOne, optional_says, step_says, test_says}
use Rattle.dm_declared.proofs.NewLemmas.{length_grown, Claim, IsNewIn, IsWide, Makes, scope_makes, says_less, gives_both}
use Rattle.dm_declared.proofs.DeclarationLemmas.{numbers_in, DeclaredRises, declaration_makes}

-- ---- claims

abbrev pub TreeGoes : Claim Tree
TreeGoes automatic low tree high = is_whole tree ≡ true → Goes automatic low tree high

-- a statement is no declaration
abbrev pub StatedGoes : Claim Tree
StatedGoes automatic low tree high = TreeGoes automatic low tree high × (declared_by tree ≡ [])

abbrev pub ListGoes : Claim (List Tree)
ListGoes automatic low list high = all_pass (are_whole (trees list)) ≡ true → GoAll automatic low (trees list) high

-- the first part of `for`, which is told whole as a start (6.8.5.3)
abbrev DeclarationGoes : Claim Tree
DeclarationGoes automatic low tree high = TreeGoes automatic low tree high × (is_whole_start tree ≡ is_whole tree)

abbrev StartGoes : Claim (List Tree)
StartGoes automatic low [] high = low ≤ high
StartGoes automatic low (it ∷ []) high = is_whole_start it ≡ true → Goes automatic low it high
StartGoes automatic low (it ∷ other ∷ others) high = ⊥

-- the items of a `switch` (6.8.4.2)
abbrev ItemGoes : Claim Labelled
ItemGoes automatic low one high = StatedGoes automatic low one.tree high

abbrev ItemsGo : Claim AllLabelled
ItemsGo automatic low all high = ListGoes automatic low all.trees high × (declared_in_parts (trees all.trees) ≡ [])

pub stated_wide : IsWide StatedGoes
stated_wide automatic lower low high higher tree l h g = (λ whole. goes_wider automatic lower low high higher tree l h (g.0 whole), g.1)

items_wide : IsWide ItemsGo
items_wide automatic lower low high higher all l h g = (λ whole. all_wider automatic lower low high higher (trees all.trees) l h (g.0 whole), g.1)

-- what is typed is there
pub ends : {A : Type 0} (P : Claim A) (low : ℕ) (s : Standing) (it : A) → Holds all-pass s → IsNewIn P low s.known.declared it → Leads anything (IsNewIn P low) s (goes_on s it)
ends P low s it holds h = leads-so anything (IsNewIn P low) s s it (moves-none all-pass s holds) h

-- ---- expressions in statements

module _ (setting : Setting) (known : Known) (sees : Sees known.declared all-pass known.scopes) where
  value_gives : (expr : Expr) → Gives all-pass Any known (typed_value setting known expr)
  value_gives expr =
      with-gives all-pass (IsScopedIn all-pass) Any known (typed setting true known expr) _ (expr-scoped setting all-pass true known (expr_span expr) expr sees) (λ behind made step h. tt)

  optional_gives : (expr : Option Expr) → Gives all-pass Any known (typed_optional setting known expr)
  optional_gives None = stays all-pass Any known [] sees tt
  optional_gives (Some expr) = with-gives all-pass Any Any known (typed_value setting known expr) _ (value_gives expr) (λ behind value step any. tt)

  condition_gives : (expr : Expr) → Gives all-pass Any known (typed_condition setting known expr)
  condition_gives expr =
      after-gives all-pass Any Any known (typed_value setting known expr) _ (value_gives expr)
      (λ behind value step any. obeys-gives all-pass Any behind (is_scalar (kind_of value)) 32 (expr_span expr).first _ (stays all-pass Any behind value step.sees tt))

  optional_condition_gives : (expr : Option Expr) → Gives all-pass Any known (typed_optional_condition setting known expr)
  optional_condition_gives None = stays all-pass Any known [] sees tt
  optional_condition_gives (Some expr) = with-gives all-pass Any Any known (typed_condition setting known expr) _ (condition_gives expr) (λ behind value step any. tt)

  subject_gives : (expr : Expr) → Gives all-pass Any known (typed_subject setting known expr)
  subject_gives expr =
      after-gives all-pass Any Any known (typed_value setting known expr) _ (value_gives expr)
      (λ behind value step any. if-gives all-pass Any behind (integer_kind (kind_of value)) 32 (expr_span expr).first _ (λ kind e. stays all-pass Any behind _ step.sees tt))

  case_gives : (kind : Kind) (labels : List (Option ℤ)) (expr : Expr) → Gives all-pass Any known (typed_case setting known kind labels expr)
  case_gives kind labels expr =
      after-gives all-pass Any Any known (typed_value setting known expr) _ (value_gives expr)
      (λ behind value step any. if-gives all-pass Any behind (constant_of behind (as_kind kind value)) 30 (expr_span expr).first _
      (λ n e. obeys-gives all-pass Any behind (not (is_label_among (Some n) labels)) 31 (expr_span expr).first _ (stays all-pass Any behind _ step.sees tt)))

  returned_gives : (behind : Known) → Sees behind.declared all-pass behind.scopes → (result : CType) (span : Span) (values : List Tree) → Gives all-pass Any behind (returned setting behind result span values)
  returned_gives behind at result span [] = obeys-gives all-pass Any behind (is_void result) 34 span.first _ (stays all-pass Any behind _ at tt)
  returned_gives behind at result span (value ∷ others) = obeys-gives all-pass Any behind (is_assignable behind value result) 34 span.first _ (stays all-pass Any behind _ at tt)

  return_gives : (result : CType) (span : Span) (expr : Option Expr) → Gives all-pass Any known (typed_return setting known result span expr)
  return_gives result span expr =
      after-gives all-pass Any Any known (typed_optional setting known expr) _ (optional_gives expr) (λ behind values step any. returned_gives behind step.sees result span values)

-- ---- statements by their parts

module _ (automatic : ℕ → Bool) where
  leaf_goes : (low high : ℕ) (list : List Tree) → low ≤ high → all_expressions (listed (trees list)) ≡ true → GoAll automatic low (trees list) high
  leaf_goes low high list h e = expressions_go automatic low high list (ap all_expressions (sym (listed-trees list)) ∙ e) h

  -- a value, and a statement
  value_stated : (low mid high : ℕ) (value made : Tree) → low ≤ mid → TreeGoes automatic mid made high → (is_expression value && (is_whole made && true)) ≡ true
      → GoAll automatic low (trees (value ∷ made ∷ [])) high
  value_stated low mid high value made l g e =
      value_then automatic low mid high value (more_trees made no_trees) (and_left (is_expression value) (is_whole made && true) e) l
      (alone automatic mid high made (g (and_left (is_whole made) true (and_right (is_expression value) (is_whole made && true) e))))

  value_two : (low mid between high : ℕ) (value first second : Tree) → low ≤ mid → TreeGoes automatic mid first between → TreeGoes automatic between second high
      → (is_expression value && (is_whole first && (is_whole second && true))) ≡ true → GoAll automatic low (trees (value ∷ first ∷ second ∷ [])) high
  value_two low mid between high value first second l g h e =
      let both = and_right (is_expression value) (is_whole first && (is_whole second && true)) e in
      value_then automatic low mid high value (more_trees first (more_trees second no_trees)) (and_left (is_expression value) (is_whole first && (is_whole second && true)) e) l
      (then_others automatic mid between high first (more_trees second no_trees) (g (and_left (is_whole first) (is_whole second && true) both))
      (alone automatic between high second (h (and_left (is_whole second) true (and_right (is_whole first) (is_whole second && true) both)))))

  stated_value : (low high : ℕ) (made value : Tree) → TreeGoes automatic low made high → (is_whole made && (is_expression value && true)) ≡ true → GoAll automatic low (trees (made ∷ value ∷ [])) high
  stated_value low high made value g e =
      then_others automatic low high high made (more_trees value no_trees) (g (and_left (is_whole made) (is_expression value && true) e))
      (value_then automatic high high high value no_trees (and_left (is_expression value) true (and_right (is_whole made) (is_expression value && true) e)) (omega arith) (omega arith, tt))

  -- the parts of `for`
  third_goes : (mid high : ℕ) (third : List Tree) (made : Tree) → AtMostOne third → TreeGoes automatic mid made high
      → loop_whole false false (is_there third) (listed (trees (third ++ made ∷ []))) (are_whole (trees (third ++ made ∷ []))) ≡ true → GoAll automatic mid (trees (third ++ made ∷ [])) high
  third_goes mid high [] made one g e = alone automatic mid high made (g (and_left (is_whole made) true e))
  third_goes mid high (it ∷ []) made one g e = value_stated mid mid high it made (omega arith) g e
  third_goes mid high (it ∷ other ∷ others) made one g e = absurd one

  second_goes : (mid high : ℕ) (third : Bool) (second rest : List Tree) → AtMostOne second
      → (loop_whole false false third (listed (trees rest)) (are_whole (trees rest)) ≡ true → GoAll automatic mid (trees rest) high)
      → loop_whole false (is_there second) third (listed (trees (second ++ rest))) (are_whole (trees (second ++ rest))) ≡ true → GoAll automatic mid (trees (second ++ rest)) high
  second_goes mid high third [] rest one g e = g e
  second_goes mid high third (it ∷ []) rest one g e =
      value_then automatic mid mid high it (trees rest) (and_left (is_expression it) (loop_whole false false third (listed (trees rest)) (are_whole (trees rest))) e) (omega arith)
      (g (and_right (is_expression it) (loop_whole false false third (listed (trees rest)) (are_whole (trees rest))) e))
  second_goes mid high third (it ∷ other ∷ others) rest one g e = absurd one

  first_goes : (low mid high : ℕ) (second third : Bool) (first rest : List Tree) → StartGoes automatic low first mid
      → (loop_whole false second third (listed (trees rest)) (are_whole (trees rest)) ≡ true → GoAll automatic mid (trees rest) high)
      → loop_whole (is_there first) second third (listed (trees (first ++ rest))) (are_whole (trees (first ++ rest))) ≡ true → GoAll automatic low (trees (first ++ rest)) high
  first_goes low mid high second third [] rest start g e = all_wider automatic low mid high high (trees rest) start (omega arith) (g e)
  first_goes low mid high second third (it ∷ []) rest start g e =
      then_others automatic low mid high it (trees rest) (start (and_left (is_whole_start it) (loop_whole false second third (listed (trees rest)) (are_whole (trees rest))) e))
      (g (and_right (is_whole_start it) (loop_whole false second third (listed (trees rest)) (are_whole (trees rest))) e))
  first_goes low mid high second third (it ∷ other ∷ others) rest start g e = absurd start

plain_start : (it : Tree) → IsPlain it → is_whole_start it ≡ true → is_expression it ≡ true
plain_start (node (label.declare lengths declarators) kind spans parts) is e = absurd (true≢false (sym is))
plain_start (node form kind spans parts) is e = e

-- ---- each statement

module _ (setting : Setting) where
  -- an expression statement, the empty one, `break`, `continue` and `return`: what they have are expressions
  abbrev IsLeaf : Tree → Type 0
  IsLeaf made = (automatic : ℕ → Bool) (low high : ℕ) → low ≤ high → StatedGoes automatic low made high

  full_leaf : (span : Span) (values : List Tree) → IsLeaf (full_statement setting span values)
  full_leaf span [] automatic low high h = (λ whole. (h, (tt, tt)), refl)
  full_leaf span (value ∷ others) automatic low high h = (λ whole. let g = leaf_goes automatic low high (value ∷ others) h whole in (g.0, (tt, g.1)), refl)

  returned_leaf : (known : Known) (result : CType) (span : Span) (values : List Tree) → Says IsLeaf (returned setting known result span values)
  returned_leaf known result span [] = obeys_says IsLeaf _ 34 span.first _ (says IsLeaf known _ (λ automatic low high h. (λ whole. (h, (tt, tt)), refl)))
  returned_leaf known result span (value ∷ others) =
      obeys_says IsLeaf _ 34 span.first _
      (says IsLeaf known _ (λ automatic low high h. (λ whole. let g = leaf_goes automatic low high (as_type result value ∷ []) h whole in (g.0, (tt, g.1)), refl)))

  return_leaf : (known : Known) (result : CType) (span : Span) (expr : Option Expr) → Says IsLeaf (typed_return setting known result span expr)
  return_leaf known result span expr = behind_says IsLeaf (typed_optional setting known expr) _ (λ behind values. returned_leaf behind result span values)

  leaf_new : (low : ℕ) (declared : List Declaration) (made : Tree) → low ≤ length declared → IsLeaf made → IsNewIn StatedGoes low declared made
  unfolding IsNewIn
  leaf_new low declared made l leaf automatic fits = leaf automatic low (length declared) l

  pub block_new : (low : ℕ) (declared : List Declaration) (span : Span) (list : List Tree) → IsNewIn ListGoes low declared list → IsNewIn StatedGoes low declared (statement setting span label.block list)
  unfolding IsNewIn
  block_new low declared span list new automatic fits = (λ whole. let g = new automatic fits whole in (g.0, (tt, g.1)), refl)

  if_new : (low mid : ℕ) (declared : List Declaration) (span : Span) (value made : Tree) → low ≤ mid → IsNewIn StatedGoes mid declared made
      → IsNewIn StatedGoes low declared (statement setting span label.if_statement (value ∷ made ∷ []))
  unfolding IsNewIn
  if_new low mid declared span value made l new automatic fits =
      (λ whole. let g = value_stated automatic low mid (length declared) value made l (new automatic fits).0 whole in (g.0, (tt, g.1)), refl)

  choice_new : (low mid : ℕ) (between declared : List Declaration) (span : Span) (value first second : Tree) → low ≤ mid → Grown between declared → IsNewIn StatedGoes mid between first
      → IsNewIn StatedGoes (length between) declared second → IsNewIn StatedGoes low declared (statement setting span label.if_statement (value ∷ first ∷ second ∷ []))
  unfolding IsNewIn
  choice_new low mid between declared span value first second l grown one other automatic fits = (
    λ whole. let g = value_two automatic low mid (length between) (length declared) value first second l (one automatic (fits-before automatic between declared grown fits)).0 (other automatic fits).0 whole
        in (g.0, (tt, g.1)),
    refl,
  )

  while_new : (low mid : ℕ) (declared : List Declaration) (span : Span) (value made : Tree) → low ≤ mid → IsNewIn StatedGoes mid declared made
      → IsNewIn StatedGoes low declared (statement setting span label.while_loop (value ∷ made ∷ []))
  unfolding IsNewIn
  while_new low mid declared span value made l new automatic fits =
      (λ whole. let g = value_stated automatic low mid (length declared) value made l (new automatic fits).0 whole in (g.0, (tt, g.1)), refl)

  do_new : (low : ℕ) (between declared : List Declaration) (span : Span) (made value : Tree) → Grown between declared → IsNewIn StatedGoes low between made
      → IsNewIn StatedGoes low declared (statement setting span label.do_loop (made ∷ value ∷ []))
  unfolding IsNewIn
  do_new low between declared span made value grown new automatic fits =
      let body = stated_wide automatic low low (length between) (length declared) made (omega arith) (length_grown between declared grown) (new automatic (fits-before automatic between declared grown fits)) in
      (λ whole. let g = stated_value automatic low (length declared) made value body.0 whole in (g.0, (tt, g.1)), refl)

  for_new : (low mid : ℕ) (start declared : List Declaration) (span : Span) (first second third : List Tree) (made : Tree) → Grown start declared → length start ≤ mid → IsNewIn StartGoes low start first
      → AtMostOne second → AtMostOne third → IsNewIn StatedGoes mid declared made → IsNewIn StatedGoes low declared (for_statement setting span first second third made)
  unfolding IsNewIn
  for_new low mid start declared span first second third made grown l begin one other new automatic fits =
      let body = stated_wide automatic (length start) mid (length declared) (length declared) made l (omega arith) (new automatic fits) in (
        λ whole.
            let g = first_goes automatic low (length start) (length declared) (is_there second) (is_there third) first (second ++ (third ++ made ∷ [])) (begin automatic (fits-before automatic start declared grown fits))
            (λ e. second_goes automatic (length start) (length declared) (is_there third) second (third ++ made ∷ []) one
            (λ f. third_goes automatic (length start) (length declared) third made other body.0 f) e) whole
            in (g.0, (tt, g.1)),
        refl,
      )

  switch_new : (low mid : ℕ) (declared : List Declaration) (span : Span) (operand : Tree) (all : AllLabelled) → low ≤ mid → IsNewIn ItemsGo mid declared all
      → IsNewIn StatedGoes low declared (statement setting span label.switch (operand ∷ all.trees))
  unfolding IsNewIn
  switch_new low mid declared span operand all l new automatic fits =
      let items = new automatic fits in (
        λ whole.
            let value = and_left (is_expression operand) (all_pass (are_whole (trees all.trees))) whole in
            let g = value_then automatic low mid (length declared) operand (trees all.trees) value l (items.0 (and_right (is_expression operand) (all_pass (are_whole (trees all.trees))) whole)) in
            (g.0, (ap₂ (λ (ds es : List ℕ). ds ++ es) (plain_label operand value) items.1, g.1)),
        refl,
      )

  case_new : (low mid : ℕ) (declared : List Declaration) (span : Span) (value : Tree) (made : Labelled) → low ≤ mid → IsNewIn ItemGoes mid declared made
      → IsNewIn ItemGoes low declared (record { tree = statement setting span label.case (value ∷ made.tree ∷ []); labels = made.labels })
  unfolding IsNewIn
  case_new low mid declared span value made l new automatic fits =
      (λ whole. let g = value_stated automatic low mid (length declared) value made.tree l (new automatic fits).0 whole in (g.0, (tt, g.1)), refl)

  default_new : (low : ℕ) (declared : List Declaration) (span : Span) (made : Labelled) → IsNewIn ItemGoes low declared made
      → IsNewIn ItemGoes low declared (record { tree = statement setting span label.default (made.tree ∷ []); labels = made.labels })
  unfolding IsNewIn
  default_new low declared span made new automatic fits =
      (λ whole. let g = alone automatic low (length declared) made.tree ((new automatic fits).0 (and_left (is_whole made.tree) true whole)) in (g.0, (tt, g.1)), refl)

  unlabelled_new : (low : ℕ) (declared : List Declaration) (made : Tree) (labels : List (Option ℤ)) → IsNewIn StatedGoes low declared made → IsNewIn ItemGoes low declared (record { tree = made; labels = labels })
  unfolding IsNewIn
  unlabelled_new low declared made labels new automatic fits = new automatic fits

  -- ---- items in order

  no_items_new : (low : ℕ) (declared : List Declaration) → low ≤ length declared → IsNewIn ListGoes low declared []
  unfolding IsNewIn
  no_items_new low declared l automatic fits whole = (l, tt)

  items_new : (low : ℕ) (between declared : List Declaration) (made : Tree) (more : List Tree) → Grown between declared → IsNewIn TreeGoes low between made → IsNewIn ListGoes (length between) declared more
      → IsNewIn ListGoes low declared (made ∷ more)
  unfolding IsNewIn
  items_new low between declared made more grown one others automatic fits whole =
      then_others automatic low (length between) (length declared) made (trees more)
      (one automatic (fits-before automatic between declared grown fits) (and_left (is_whole made) (all_pass (are_whole (trees more))) whole))
      (others automatic fits (and_right (is_whole made) (all_pass (are_whole (trees more))) whole))

  stated_only : (low : ℕ) (declared : List Declaration) (made : Tree) → IsNewIn StatedGoes low declared made → IsNewIn TreeGoes low declared made
  unfolding IsNewIn
  stated_only low declared made new automatic fits = (new automatic fits).0

  no_switch_new : (low : ℕ) (declared : List Declaration) (labels : List (Option ℤ)) → low ≤ length declared → IsNewIn ItemsGo low declared (record { trees = []; labels = labels })
  unfolding IsNewIn
  no_switch_new low declared labels l automatic fits = (λ whole. (l, tt), refl)

  switched_new : (low : ℕ) (between declared : List Declaration) (made : Labelled) (more : AllLabelled) → Grown between declared → IsNewIn ItemGoes low between made
      → IsNewIn ItemsGo (length between) declared more → IsNewIn ItemsGo low declared (record { trees = made.tree ∷ more.trees; labels = more.labels })
  unfolding IsNewIn
  switched_new low between declared made more grown one others automatic fits =
      let first = one automatic (fits-before automatic between declared grown fits) in
      let rest = others automatic fits in (
        (λ whole. then_others automatic low (length between) (length declared) made.tree (trees more.trees) (first.0 (and_left (is_whole made.tree) (all_pass (are_whole (trees more.trees))) whole))
            (rest.0 (and_right (is_whole made.tree) (all_pass (are_whole (trees more.trees))) whole))),
        ap₂ (λ (ds es : List ℕ). ds ++ es) first.1 rest.1,
      )

  -- ---- declarations

  declaration_new : (low : ℕ) (declared : List Declaration) (span : Span) (one : Declared) → IsNewIn DeclaredRises low declared one → IsNewIn DeclarationGoes low declared (declaration_tree setting span one)
  unfolding IsNewIn
  declaration_new low declared span one new automatic fits = (
    λ whole.
        let parts = one.constants ++ expressions_of one.locals in
        let g = leaf_goes automatic (length declared) (length declared) parts (omega arith) whole in
        (joined automatic low (length declared) (length declared) (numbers_in one.locals) (numbers_below_all (trees parts)) (new automatic fits) g.0, (tt, g.1)),
    refl,
  )

  declaration_only : (low : ℕ) (declared : List Declaration) (made : Tree) → IsNewIn DeclarationGoes low declared made → IsNewIn TreeGoes low declared made
  unfolding IsNewIn
  declaration_only low declared made new automatic fits = (new automatic fits).0

  declares_new : (low : ℕ) (declared : List Declaration) (made : Tree) → IsNewIn DeclarationGoes low declared made → IsNewIn StartGoes low declared (made ∷ [])
  unfolding IsNewIn
  declares_new low declared made new automatic fits whole = let one = new automatic fits in one.0 (sym one.1 ∙ whole)

  evaluates_new : (low : ℕ) (declared : List Declaration) (values : List Tree) → low ≤ length declared → IsOptional values → IsNewIn StartGoes low declared values
  unfolding IsNewIn
  evaluates_new low declared [] l plain automatic fits = l
  evaluates_new low declared (it ∷ []) l plain automatic fits = λ whole. expression_goes automatic low (length declared) it (plain_start it plain whole) l
  evaluates_new low declared (it ∷ other ∷ others) l plain automatic fits = absurd plain

  declared_makes : (s : Standing) (declaration : tree.Declaration) → Holds all-pass s → Makes DeclarationGoes s (declared_in setting s declaration)
  declared_makes s declaration holds =
      let low = length s.known.declared in
      further-leads anything (IsNewIn DeclaredRises low) anything (IsNewIn DeclarationGoes low) s (typed_declaration setting s declaration) _ (declaration_makes setting s declaration holds) (λ t one moved new.
      ends DeclarationGoes low t _ moved.holds (declaration_new low t.known.declared (declaration_span declaration) one new))

  start_makes : (s : Standing) (start : ForStart) → Holds all-pass s → Makes StartGoes s (typed_start setting s start)
  start_makes s (tree.declares declaration) holds =
      let low = length s.known.declared in
      further-leads anything (IsNewIn DeclarationGoes low) anything (IsNewIn StartGoes low) s (declared_in setting s declaration) _ (declared_makes s declaration holds) (λ t made moved new.
      ends StartGoes low t (made ∷ []) moved.holds (declares_new low t.known.declared made new))
  start_makes s (tree.evaluates expr) holds =
      let low = length s.known.declared in
      typing-leads all-pass (λ declared it. IsOptional it) anything (IsNewIn StartGoes low) s (typed_optional setting s.known expr) _ holds
      (gives_both all-pass Any IsOptional s.known _ (optional_gives setting s.known holds.sees expr) (optional_says setting s.known expr)) (λ t values moved plain.
      ends StartGoes low t values moved.holds (evaluates_new low t.known.declared values (length_grown s.known.declared t.known.declared moved.grown) plain))

  -- ---- the syntax

  mutual
    unfolding typed_stmt typed_items_in typed_item_in typed_switch_items typed_switch_item

    pub stmt_makes : (within : Within) (s : Standing) (stmt : Stmt) → Holds all-pass s → Makes StatedGoes s (typed_stmt setting within s stmt)
    -- 6.8.2
    stmt_makes within s (tree.block span items) holds =
        scope_makes StatedGoes stated_wide s _ holds (λ inside stands. let low = length inside.known.declared in
        further-leads anything (IsNewIn ListGoes low) anything (IsNewIn StatedGoes low) inside (typed_items_in setting within inside items) _ (items_make within inside items stands) (λ t list moved new.
        ends StatedGoes low t (statement setting span label.block list) moved.holds (block_new low t.known.declared span list new)))
    -- 6.8.3
    stmt_makes within s (tree.expression span expr) holds =
        let low = length s.known.declared in
        typing-leads all-pass Any anything (IsNewIn StatedGoes low) s (typed_optional setting s.known expr) _ holds (optional_gives setting s.known holds.sees expr) (λ t values moved any.
        ends StatedGoes low t (full_statement setting span values) moved.holds
        (leaf_new low t.known.declared _ (length_grown s.known.declared t.known.declared moved.grown) (full_leaf span values)))
    -- 6.8.4
    stmt_makes within s (tree.if_only span condition body) holds =
        scope_makes StatedGoes stated_wide s _ holds (λ inside stands. let low = length inside.known.declared in
        typing-leads all-pass Any anything (IsNewIn StatedGoes low) inside (typed_condition setting inside.known condition) _ stands (condition_gives setting inside.known stands.sees condition) (λ t value moved any.
        further-leads anything (IsNewIn StatedGoes (length t.known.declared)) anything (IsNewIn StatedGoes low) t _ _
        (scope_makes StatedGoes stated_wide t (λ part. typed_stmt setting within part body) moved.holds (λ part here. stmt_makes within part body here)) (λ u made went new.
        ends StatedGoes low u _ went.holds (if_new low (length t.known.declared) u.known.declared span value made (length_grown inside.known.declared t.known.declared moved.grown) new))))
    stmt_makes within s (tree.if_else span condition body other) holds =
        scope_makes StatedGoes stated_wide s _ holds (λ inside stands. let low = length inside.known.declared in
        typing-leads all-pass Any anything (IsNewIn StatedGoes low) inside (typed_condition setting inside.known condition) _ stands (condition_gives setting inside.known stands.sees condition) (λ t value moved any.
        further-leads anything (IsNewIn StatedGoes (length t.known.declared)) anything (IsNewIn StatedGoes low) t _ _
        (scope_makes StatedGoes stated_wide t (λ part. typed_stmt setting within part body) moved.holds (λ part here. stmt_makes within part body here)) (λ u first went new.
        further-leads anything (IsNewIn StatedGoes (length u.known.declared)) anything (IsNewIn StatedGoes low) u _ _
        (scope_makes StatedGoes stated_wide u (λ part. typed_stmt setting within part other) went.holds (λ part here. stmt_makes within part other here)) (λ v second gone newer.
        ends StatedGoes low v _ gone.holds
        (choice_new low (length t.known.declared) u.known.declared v.known.declared span value first second (length_grown inside.known.declared t.known.declared moved.grown) gone.grown new newer)))))
    stmt_makes within s (tree.switch span operand items) holds =
        scope_makes StatedGoes stated_wide s _ holds (λ inside stands. let low = length inside.known.declared in
        typing-leads all-pass Any anything (IsNewIn StatedGoes low) inside (typed_subject setting inside.known operand) _ stands (subject_gives setting inside.known stands.sees operand) (λ t one moved any.
        further-leads anything (IsNewIn ItemsGo (length t.known.declared)) anything (IsNewIn StatedGoes low) t _ _
        (scope_makes ItemsGo items_wide t (λ part. typed_switch_items setting (in_switch within) one.kind part [] items) moved.holds
        (λ part here. switch_makes (in_switch within) one.kind part [] items here)) (λ u made went new.
        ends StatedGoes low u _ went.holds (switch_new low (length t.known.declared) u.known.declared span one.tree made (length_grown inside.known.declared t.known.declared moved.grown) new))))
    -- 6.8.5
    stmt_makes within s (tree.while span condition body) holds =
        scope_makes StatedGoes stated_wide s _ holds (λ inside stands. let low = length inside.known.declared in
        typing-leads all-pass Any anything (IsNewIn StatedGoes low) inside (typed_condition setting inside.known condition) _ stands (condition_gives setting inside.known stands.sees condition) (λ t value moved any.
        further-leads anything (IsNewIn StatedGoes (length t.known.declared)) anything (IsNewIn StatedGoes low) t _ _
        (scope_makes StatedGoes stated_wide t (λ part. typed_stmt setting (in_loop within) part body) moved.holds (λ part here. stmt_makes (in_loop within) part body here)) (λ u made went new.
        ends StatedGoes low u _ went.holds (while_new low (length t.known.declared) u.known.declared span value made (length_grown inside.known.declared t.known.declared moved.grown) new))))
    stmt_makes within s (tree.do_while span body condition) holds =
        scope_makes StatedGoes stated_wide s _ holds (λ inside stands. let low = length inside.known.declared in
        further-leads anything (IsNewIn StatedGoes low) anything (IsNewIn StatedGoes low) inside _ _
        (scope_makes StatedGoes stated_wide inside (λ part. typed_stmt setting (in_loop within) part body) stands (λ part here. stmt_makes (in_loop within) part body here)) (λ t made moved new.
        typing-leads all-pass Any anything (IsNewIn StatedGoes low) t (typed_condition setting t.known condition) _ moved.holds (condition_gives setting t.known moved.holds.sees condition) (λ u value went any.
        ends StatedGoes low u _ went.holds (do_new low t.known.declared u.known.declared span made value went.grown new))))
    stmt_makes within s (tree.for_loop span start condition step body) holds =
        scope_makes StatedGoes stated_wide s _ holds (λ inside stands. let low = length inside.known.declared in
        further-leads anything (IsNewIn StartGoes low) anything (IsNewIn StatedGoes low) inside (typed_start setting inside start) _ (start_makes inside start stands) (λ t first moved begin.
        typing-leads all-pass (λ declared it. AtMostOne it) anything (IsNewIn StatedGoes low) t (typed_optional_condition setting t.known condition) _ moved.holds
        (gives_both all-pass Any AtMostOne t.known _ (optional_condition_gives setting t.known moved.holds.sees condition) (test_says setting t.known condition)) (λ u second went one.
        typing-leads all-pass (λ declared it. AtMostOne it) anything (IsNewIn StatedGoes low) u (typed_optional setting u.known step) _ went.holds
        (gives_both all-pass Any AtMostOne u.known _ (optional_gives setting u.known went.holds.sees step) (step_says setting u.known step)) (λ v third gone other.
        further-leads anything (IsNewIn StatedGoes (length v.known.declared)) anything (IsNewIn StatedGoes low) v _ _
        (scope_makes StatedGoes stated_wide v (λ part. typed_stmt setting (in_loop within) part body) gone.holds (λ part here. stmt_makes (in_loop within) part body here)) (λ w made last new.
        let before = grown-through t.known.declared u.known.declared v.known.declared went.grown gone.grown in
        ends StatedGoes low w (for_statement setting span first second third made) last.holds
        (for_new low (length v.known.declared) t.known.declared w.known.declared span first second third made (grown-through t.known.declared v.known.declared w.known.declared before last.grown)
        (length_grown t.known.declared v.known.declared before) begin one other new))))))
    -- 6.8.6
    stmt_makes within s (tree.break span) holds =
        keeps-leads anything (IsNewIn StatedGoes (length s.known.declared)) s within.breaks 33 span.first _
        (ends StatedGoes (length s.known.declared) s _ holds (leaf_new (length s.known.declared) s.known.declared _ (omega arith) (λ automatic low high h. (λ whole. (h, (tt, tt)), refl))))
    stmt_makes within s (tree.continue span) holds =
        keeps-leads anything (IsNewIn StatedGoes (length s.known.declared)) s within.continues 33 span.first _
        (ends StatedGoes (length s.known.declared) s _ holds (leaf_new (length s.known.declared) s.known.declared _ (omega arith) (λ automatic low high h. (λ whole. (h, (tt, tt)), refl))))
    stmt_makes within s (tree.return span expr) holds =
        let low = length s.known.declared in
        typing-leads all-pass (λ declared it. IsLeaf it) anything (IsNewIn StatedGoes low) s (typed_return setting s.known within.result span expr) _ holds
        (gives_both all-pass Any IsLeaf s.known _ (return_gives setting s.known holds.sees within.result span expr) (return_leaf s.known within.result span expr)) (λ t made moved leaf.
        ends StatedGoes low t made moved.holds (leaf_new low t.known.declared made (length_grown s.known.declared t.known.declared moved.grown) leaf))

    pub items_make : (within : Within) (s : Standing) (items : BlockItems) → Holds all-pass s → Makes ListGoes s (typed_items_in setting within s items)
    items_make within s tree.no_items holds =
        ends ListGoes (length s.known.declared) s [] holds (no_items_new (length s.known.declared) s.known.declared (omega arith))
    items_make within s (tree.more_items first others) holds =
        let low = length s.known.declared in
        further-leads anything (IsNewIn TreeGoes low) anything (IsNewIn ListGoes low) s (typed_item_in setting within s first) _ (item_makes within s first holds) (λ t made moved new.
        further-leads anything (IsNewIn ListGoes (length t.known.declared)) anything (IsNewIn ListGoes low) t (typed_items_in setting within t others) _ (items_make within t others moved.holds) (λ u more went rest.
        ends ListGoes low u (made ∷ more) went.holds (items_new low t.known.declared u.known.declared made more went.grown new rest)))

    item_makes : (within : Within) (s : Standing) (item : BlockItem) → Holds all-pass s → Makes TreeGoes s (typed_item_in setting within s item)
    item_makes within s (tree.declared_item declaration) holds =
        let low = length s.known.declared in
        says_less DeclarationGoes TreeGoes low s _ (λ declared made new. declaration_only low declared made new) (declared_makes s declaration holds)
    item_makes within s (tree.stated_item stmt) holds =
        let low = length s.known.declared in
        says_less StatedGoes TreeGoes low s _ (λ declared made new. stated_only low declared made new) (stmt_makes within s stmt holds)

    -- 6.8.4.2
    switch_makes : (within : Within) (kind : Kind) (s : Standing) (labels : List (Option ℤ)) (items : SwitchItems) → Holds all-pass s
        → Makes ItemsGo s (typed_switch_items setting within kind s labels items)
    switch_makes within kind s labels tree.no_switch_items holds =
        ends ItemsGo (length s.known.declared) s (record { trees = []; labels = labels }) holds (no_switch_new (length s.known.declared) s.known.declared labels (omega arith))
    switch_makes within kind s labels (tree.more_switch_items first others) holds =
        let low = length s.known.declared in
        further-leads anything (IsNewIn ItemGoes low) anything (IsNewIn ItemsGo low) s (typed_switch_item setting within kind s labels first) _ (switched_makes within kind s labels first holds) (λ t made moved new.
        further-leads anything (IsNewIn ItemsGo (length t.known.declared)) anything (IsNewIn ItemsGo low) t (typed_switch_items setting within kind t made.labels others) _
        (switch_makes within kind t made.labels others moved.holds) (λ u more went rest.
        ends ItemsGo low u (record { trees = made.tree ∷ more.trees; labels = more.labels }) went.holds (switched_new low t.known.declared u.known.declared made more went.grown new rest)))

    -- 6.8.1
    switched_makes : (within : Within) (kind : Kind) (s : Standing) (labels : List (Option ℤ)) (item : SwitchItem) → Holds all-pass s
        → Makes ItemGoes s (typed_switch_item setting within kind s labels item)
    switched_makes within kind s labels (tree.case span expr item) holds =
        let low = length s.known.declared in
        typing-leads all-pass Any anything (IsNewIn ItemGoes low) s (typed_case setting s.known kind labels expr) _ holds (case_gives setting s.known holds.sees kind labels expr) (λ t one moved any.
        further-leads anything (IsNewIn ItemGoes (length t.known.declared)) anything (IsNewIn ItemGoes low) t (typed_switch_item setting within kind t (Some one.value ∷ labels) item) _
        (switched_makes within kind t (Some one.value ∷ labels) item moved.holds) (λ u made went new.
        ends ItemGoes low u _ went.holds (case_new low (length t.known.declared) u.known.declared span one.tree made (length_grown s.known.declared t.known.declared moved.grown) new)))
    switched_makes within kind s labels (tree.default span item) holds =
        let low = length s.known.declared in
        keeps-leads anything (IsNewIn ItemGoes low) s (not (is_label_among None labels)) 31 span.first _
        (further-leads anything (IsNewIn ItemGoes low) anything (IsNewIn ItemGoes low) s (typed_switch_item setting within kind s (None ∷ labels) item) _
        (switched_makes within kind s (None ∷ labels) item holds) (λ u made went new. ends ItemGoes low u _ went.holds (default_new low u.known.declared span made new)))
    switched_makes within kind s labels (tree.unlabelled span stmt) holds =
        let low = length s.known.declared in
        further-leads anything (IsNewIn StatedGoes low) anything (IsNewIn ItemGoes low) s (typed_stmt setting within s stmt) _ (stmt_makes within s stmt holds)
        (λ u made went new. ends ItemGoes low u (record { tree = made; labels = labels }) went.holds (unlabelled_new low u.known.declared made labels new))
