-- The nodes of statements stand where those of the syntax do.
use Rattle.std.specs.Prelude.{ℤ, true, not, List, length, [], ◌∷◌, ◌++◌, Option, Some, None}
use Rattle.std.specs.FinMap as map
use Rattle.dm_token.specs.declared.place.Span.{Span}
use Rattle.dm_int.specs.declared.Kind.{Kind}
use Rattle.dm_int.specs.Kinds.{promote}
use Rattle.dm_type.specs.CTypes.{CType, integer}
use Rattle.dm_syn.specs.Spans.{expr_span, declaration_span}
use Rattle.dm_syn.specs.Trees.{Expr, ForStart, Stmt, BlockItems, BlockItem, SwitchItems, SwitchItem}
use Rattle.dm_syn.specs.Trees as tree
use Rattle.dm_tree.specs.Constants.{integer_kind}
use Rattle.dm_tree.specs.Scenes.{is_scalar, is_void}
use Rattle.dm_tree.specs.Trees.{Label, Spans, Tree, kind_of}
use Rattle.dm_tree.specs.Trees as label
use Rattle.dm_typing.specs.Known.{Known, Setting}
use Rattle.dm_typing.specs.Conversions.{spans_at, as_kind, constant_of}
use Rattle.dm_typing.specs.Rules.{is_assignable}
use Rattle.dm_typing.specs.Typing.{extent, typed}
use Rattle.dm_edecl.specs.Standing.{Standing, Progress, goes_on, stops, opened, closed, in_scope}
use Rattle.dm_edecl.specs.Declaring.{declarators_of, expressions_of, typed_declaration}
use Rattle.dm_edecl.specs.Statements.{Within, in_loop, in_switch, statement, typed_value, typed_optional, typed_condition, typed_optional_condition, Subject, typed_subject, Labelled, AllLabelled, is_label_among, CaseValue, typed_case, full_statement, returned, typed_return, declared_in, typed_start, is_there, typed_stmt, typed_items_in, typed_item_in, typed_switch_items, typed_switch_item}
use Rattle.dm_nodes.specs.Syntax.{in_whole, in_optional, in_declared, in_start, in_stmt, in_block, in_block_item, in_switch as in_switch_items, in_switch_item}
use Rattle.dm_nodes.proofs.FormLemmas.{Each, EachOf, Good, Yields, after-yields, with-yields, obeys-yields, if-yields, each-in, value-each, type-each}
use Rattle.dm_nodes.proofs.ExpressionLemmas.{At, at-front, at-back, each-append, expr-yields}
use Rattle.dm_nodes.proofs.DeclarationLemmas.{Bare, bare-good, Comes, further-comes, typing-comes, keeps-comes, EachDeclared, declaration-comes}

module _ (P : Spans → Type 0) (setting : Setting) where
  pub statement-each : (span : Span) (form : Label) (parts : List Tree) → P (spans_at setting.source (extent span span)) → EachOf P parts → Each P (statement setting span form parts)
  statement-each span form parts at h = (at, each-in P parts h)

  pub closed-comes : {A : Type 0} (Q : A → Type 0) (outside : Standing) (one : Progress A) → Comes P setting Q one → Comes P setting Q (closed outside one)
  closed-comes Q outside (goes_on inside it) h = h
  closed-comes Q outside (stops rule at) h = tt

  scope-comes : {A : Type 0} (Q : A → Type 0) (standing : Standing) (next : Standing → Progress A) → Bare P setting standing → ((inside : Standing) → Bare P setting inside → Comes P setting Q (next inside))
      → Comes P setting Q (in_scope standing next)
  scope-comes Q standing next good step = closed-comes Q standing (next (opened map.empty standing)) (step (opened map.empty standing) good)

  -- ---- expressions in statements

  value-yields : (known : Known) (expr : Expr) → At P setting (in_whole expr) → Good P known → Yields P (Each P) (typed_value setting known expr)
  value-yields known expr at good =
      with-yields P (Each P) (Each P) (typed setting true known expr) _ (expr-yields P setting true known (expr_span expr) expr at good) (λ behind made one. value-each P made one)

  optional-yields : (known : Known) (expr : Option Expr) → At P setting (in_optional expr) → Good P known → Yields P (EachOf P) (typed_optional setting known expr)
  optional-yields known None at good = (good, tt)
  optional-yields known (Some expr) at good = with-yields P (Each P) (EachOf P) (typed_value setting known expr) _ (value-yields known expr at good) (λ behind value one. (one, tt))

  condition-yields : (known : Known) (expr : Expr) → At P setting (in_whole expr) → Good P known → Yields P (Each P) (typed_condition setting known expr)
  condition-yields known expr at good =
      after-yields P (Each P) (Each P) (typed_value setting known expr) _ (value-yields known expr at good)
      (λ behind value still one. obeys-yields P (Each P) (is_scalar (kind_of value)) 32 (expr_span expr).first _ (still, one))

  optional-condition-yields : (known : Known) (expr : Option Expr) → At P setting (in_optional expr) → Good P known → Yields P (EachOf P) (typed_optional_condition setting known expr)
  optional-condition-yields known None at good = (good, tt)
  optional-condition-yields known (Some expr) at good =
      with-yields P (Each P) (EachOf P) (typed_condition setting known expr) _ (condition-yields known expr at good) (λ behind value one. (one, tt))

  abbrev EachSubject : Subject → Type 0
  EachSubject it = Each P it.tree

  subject-yields : (known : Known) (expr : Expr) → At P setting (in_whole expr) → Good P known → Yields P EachSubject (typed_subject setting known expr)
  subject-yields known expr at good =
      after-yields P (Each P) EachSubject (typed_value setting known expr) _ (value-yields known expr at good)
      (λ behind value still one. if-yields P EachSubject (integer_kind (kind_of value)) 32 (expr_span expr).first _ (λ kind e. (still, type-each P (integer (promote kind)) value one)))

  abbrev EachCase : CaseValue → Type 0
  EachCase it = Each P it.tree

  case-yields : (known : Known) (kind : Kind) (labels : List (Option ℤ)) (expr : Expr) → At P setting (in_whole expr) → Good P known → Yields P EachCase (typed_case setting known kind labels expr)
  case-yields known kind labels expr at good =
      after-yields P (Each P) EachCase (typed_value setting known expr) _ (value-yields known expr at good)
      (λ behind value still one. if-yields P EachCase (constant_of behind (as_kind kind value)) 30 (expr_span expr).first _
      (λ n e. obeys-yields P EachCase (not (is_label_among (Some n) labels)) 31 (expr_span expr).first _ (still, type-each P (integer kind) value one)))

  -- ---- single statements

  full-each : (span : Span) (values : List Tree) → P (spans_at setting.source (extent span span)) → EachOf P values → Each P (full_statement setting span values)
  full-each span [] at h = (at, tt)
  full-each span (value ∷ values) at h = statement-each span label.full (value ∷ values) at h

  returned-yields : (known : Known) (result : CType) (span : Span) (values : List Tree) → P (spans_at setting.source (extent span span)) → Good P known → EachOf P values → Yields P (Each P) (returned setting known result span values)
  returned-yields known result span [] at good h = obeys-yields P (Each P) (is_void result) 34 span.first _ (good, (at, tt))
  returned-yields known result span (value ∷ others) at good h =
      obeys-yields P (Each P) (is_assignable known value result) 34 span.first _ (good, (at, (type-each P result value h.0, tt)))

  return-yields : (known : Known) (result : CType) (span : Span) (expr : Option Expr) → P (spans_at setting.source (extent span span)) → At P setting (in_optional expr) → Good P known
      → Yields P (Each P) (typed_return setting known result span expr)
  return-yields known result span expr here at good =
      after-yields P (EachOf P) (Each P) (typed_optional setting known expr) _ (optional-yields known expr at good) (λ behind values still each. returned-yields behind result span values here still each)

  declared-comes : (standing : Standing) (declaration : tree.Declaration) → At P setting (in_declared declaration) → Bare P setting standing → Comes P setting (Each P) (declared_in setting standing declaration)
  declared-comes standing declaration at good =
      further-comes P setting (EachDeclared P setting) (Each P) (typed_declaration setting standing declaration) _ (declaration-comes P setting standing declaration at.1 good)
      (λ behind one still each. (still, statement-each (declaration_span declaration) (label.declare (length one.constants) (declarators_of one.locals)) (one.constants ++ expressions_of one.locals) at.0 (each-append P setting one.constants (expressions_of one.locals) each.0 each.1)))

  start-comes : (standing : Standing) (start : ForStart) → At P setting (in_start start) → Bare P setting standing → Comes P setting (EachOf P) (typed_start setting standing start)
  start-comes standing (tree.declares declaration) at good =
      further-comes P setting (Each P) (EachOf P) (declared_in setting standing declaration) _ (declared-comes standing declaration at good) (λ behind made still one. (still, (one, tt)))
  start-comes standing (tree.evaluates expr) at good =
      typing-comes P setting (EachOf P) (EachOf P) standing (typed_optional setting standing.known expr) _ good (optional-yields standing.known expr at (bare-good P setting standing good)) (λ behind values still each. (still, each))

  -- ---- the syntax

  abbrev EachLabelled : Labelled → Type 0
  EachLabelled it = Each P it.tree

  abbrev EachOfLabelled : AllLabelled → Type 0
  EachOfLabelled it = EachOf P it.trees

  mutual
    unfolding typed_stmt typed_items_in typed_item_in typed_switch_items typed_switch_item

    pub stmt-comes : (within : Within) (standing : Standing) (stmt : Stmt) → At P setting (in_stmt stmt) → Bare P setting standing → Comes P setting (Each P) (typed_stmt setting within standing stmt)
    stmt-comes within standing (tree.block span items) at good =
        closed-comes (Each P) standing _ (let inside = opened map.empty standing in further-comes P setting (EachOf P) (Each P) (typed_items_in setting within inside items) _ (block-comes within inside items at.1 good)
        (λ behind trees still each. (still, statement-each span label.block trees at.0 each)))
    stmt-comes within standing (tree.expression span expr) at good =
        typing-comes P setting (EachOf P) (Each P) standing (typed_optional setting standing.known expr) _ good (optional-yields standing.known expr at.1 (bare-good P setting standing good))
        (λ behind values still each. (still, full-each span values at.0 each))
    stmt-comes within standing (tree.if_only span condition body) at good =
        closed-comes (Each P) standing _ (let inside = opened map.empty standing in typing-comes P setting (Each P) (Each P) inside (typed_condition setting inside.known condition) _ good
        (condition-yields inside.known condition (at-front P setting (in_whole condition) (in_stmt body) at.1) (bare-good P setting inside good))
        (λ then_inside value more one. further-comes P setting (Each P) (Each P) (in_scope then_inside (λ part. typed_stmt setting within part body)) _
        (scope-comes (Each P) then_inside (λ part. typed_stmt setting within part body) more (λ part here. stmt-comes within part body (at-back P setting (in_whole condition) (in_stmt body) at.1) here))
        (λ behind made still other. (still, (at.0, (one, (other, tt)))))))
    stmt-comes within standing (tree.if_else span condition body other) at good =
        let rest = at-back P setting (in_whole condition) (in_stmt body ++ in_stmt other) at.1 in
        closed-comes (Each P) standing _ (let inside = opened map.empty standing in typing-comes P setting (Each P) (Each P) inside (typed_condition setting inside.known condition) _ good
        (condition-yields inside.known condition (at-front P setting (in_whole condition) (in_stmt body ++ in_stmt other) at.1) (bare-good P setting inside good))
        (λ then_inside value more one. further-comes P setting (Each P) (Each P) (in_scope then_inside (λ part. typed_stmt setting within part body)) _
        (scope-comes (Each P) then_inside (λ part. typed_stmt setting within part body) more (λ part here. stmt-comes within part body (at-front P setting (in_stmt body) (in_stmt other) rest) here))
        (λ then_more first further_on two. further-comes P setting (Each P) (Each P) (in_scope then_more (λ part. typed_stmt setting within part other)) _
        (scope-comes (Each P) then_more (λ part. typed_stmt setting within part other) further_on (λ part here. stmt-comes within part other (at-back P setting (in_stmt body) (in_stmt other) rest) here))
        (λ behind second still three. (still, (at.0, (one, (two, (three, tt)))))))))
    stmt-comes within standing (tree.switch span operand items) at good =
        closed-comes (Each P) standing _ (let inside = opened map.empty standing in typing-comes P setting EachSubject (Each P) inside (typed_subject setting inside.known operand) _ good
        (subject-yields inside.known operand (at-front P setting (in_whole operand) (in_switch_items items) at.1) (bare-good P setting inside good))
        (λ then_inside one more first. further-comes P setting EachOfLabelled (Each P) (in_scope then_inside (λ part. typed_switch_items setting (in_switch within) one.kind part [] items)) _
        (scope-comes EachOfLabelled then_inside (λ part. typed_switch_items setting (in_switch within) one.kind part [] items) more
        (λ part here. switch-comes (in_switch within) one.kind part [] items (at-back P setting (in_whole operand) (in_switch_items items) at.1) here))
        (λ behind made still each. (still, (at.0, (first, each-in P made.trees each))))))
    stmt-comes within standing (tree.while span condition body) at good =
        closed-comes (Each P) standing _ (let inside = opened map.empty standing in typing-comes P setting (Each P) (Each P) inside (typed_condition setting inside.known condition) _ good
        (condition-yields inside.known condition (at-front P setting (in_whole condition) (in_stmt body) at.1) (bare-good P setting inside good))
        (λ then_inside value more one. further-comes P setting (Each P) (Each P) (in_scope then_inside (λ part. typed_stmt setting (in_loop within) part body)) _
        (scope-comes (Each P) then_inside (λ part. typed_stmt setting (in_loop within) part body) more (λ part here. stmt-comes (in_loop within) part body (at-back P setting (in_whole condition) (in_stmt body) at.1) here))
        (λ behind made still other. (still, (at.0, (one, (other, tt)))))))
    stmt-comes within standing (tree.do_while span body condition) at good =
        closed-comes (Each P) standing _ (let inside = opened map.empty standing in further-comes P setting (Each P) (Each P) (in_scope inside (λ part. typed_stmt setting (in_loop within) part body)) _
        (scope-comes (Each P) inside (λ part. typed_stmt setting (in_loop within) part body) good (λ part here. stmt-comes (in_loop within) part body (at-front P setting (in_stmt body) (in_whole condition) at.1) here))
        (λ then_inside made more one. typing-comes P setting (Each P) (Each P) then_inside (typed_condition setting then_inside.known condition) _ more
        (condition-yields then_inside.known condition (at-back P setting (in_stmt body) (in_whole condition) at.1) (bare-good P setting then_inside more))
        (λ behind value still other. (still, (at.0, (one, (other, tt)))))))
    stmt-comes within standing (tree.for_loop span start condition step body) at good =
        let rest = at-back P setting (in_start start) (in_optional condition ++ (in_optional step ++ in_stmt body)) at.1 in
        let last = at-back P setting (in_optional condition) (in_optional step ++ in_stmt body) rest in
        closed-comes (Each P) standing _ (let inside = opened map.empty standing in further-comes P setting (EachOf P) (Each P) (typed_start setting inside start) _
        (start-comes inside start (at-front P setting (in_start start) (in_optional condition ++ (in_optional step ++ in_stmt body)) at.1) good)
        (λ then_inside first more one. typing-comes P setting (EachOf P) (Each P) then_inside (typed_optional_condition setting then_inside.known condition) _ more
        (optional-condition-yields then_inside.known condition (at-front P setting (in_optional condition) (in_optional step ++ in_stmt body) rest) (bare-good P setting then_inside more))
        (λ then_more second further_on two. typing-comes P setting (EachOf P) (Each P) then_more (typed_optional setting then_more.known step) _ further_on
        (optional-yields then_more.known step (at-front P setting (in_optional step) (in_stmt body) last) (bare-good P setting then_more further_on))
        (λ then_all third on three. further-comes P setting (Each P) (Each P) (in_scope then_all (λ part. typed_stmt setting (in_loop within) part body)) _
        (scope-comes (Each P) then_all (λ part. typed_stmt setting (in_loop within) part body) on (λ part here. stmt-comes (in_loop within) part body (at-back P setting (in_optional step) (in_stmt body) last) here))
        (λ behind made still four. (
          still,
          statement-each span (label.for_loop (is_there first) (is_there second) (is_there third)) (first ++ (second ++ (third ++ made ∷ []))) at.0
              (each-append P setting first (second ++ (third ++ made ∷ [])) one (each-append P setting second (third ++ made ∷ []) two (each-append P setting third (made ∷ []) three (four, tt)))),
        ))))))
    stmt-comes within standing (tree.break span) at good = keeps-comes P setting (Each P) within.breaks 33 span.first _ (good, (at.0, tt))
    stmt-comes within standing (tree.continue span) at good = keeps-comes P setting (Each P) within.continues 33 span.first _ (good, (at.0, tt))
    stmt-comes within standing (tree.return span expr) at good =
        typing-comes P setting (Each P) (Each P) standing (typed_return setting standing.known within.result span expr) _ good (return-yields standing.known within.result span expr at.0 at.1 (bare-good P setting standing good)) (λ behind made still one. (still, one))

    pub block-comes : (within : Within) (standing : Standing) (items : BlockItems) → At P setting (in_block items) → Bare P setting standing → Comes P setting (EachOf P) (typed_items_in setting within standing items)
    block-comes within standing tree.no_items at good = (good, tt)
    block-comes within standing (tree.more_items first others) at good =
        further-comes P setting (Each P) (EachOf P) (typed_item_in setting within standing first) _ (block-item-comes within standing first (at-front P setting (in_block_item first) (in_block others) at) good)
        (λ then_standing made now one. further-comes P setting (EachOf P) (EachOf P) (typed_items_in setting within then_standing others) _
        (block-comes within then_standing others (at-back P setting (in_block_item first) (in_block others) at) now) (λ behind more still each. (still, (one, each))))

    block-item-comes : (within : Within) (standing : Standing) (item : BlockItem) → At P setting (in_block_item item) → Bare P setting standing → Comes P setting (Each P) (typed_item_in setting within standing item)
    block-item-comes within standing (tree.declared_item declaration) at good = declared-comes standing declaration at good
    block-item-comes within standing (tree.stated_item stmt) at good = stmt-comes within standing stmt at good

    switch-comes : (within : Within) (kind : Kind) (standing : Standing) (labels : List (Option ℤ)) (items : SwitchItems) → At P setting (in_switch_items items) → Bare P setting standing
        → Comes P setting EachOfLabelled (typed_switch_items setting within kind standing labels items)
    switch-comes within kind standing labels tree.no_switch_items at good = (good, tt)
    switch-comes within kind standing labels (tree.more_switch_items first others) at good =
        further-comes P setting EachLabelled EachOfLabelled (typed_switch_item setting within kind standing labels first) _
        (switch-item-comes within kind standing labels first (at-front P setting (in_switch_item first) (in_switch_items others) at) good)
        (λ then_standing made now one. further-comes P setting EachOfLabelled EachOfLabelled (typed_switch_items setting within kind then_standing made.labels others) _
        (switch-comes within kind then_standing made.labels others (at-back P setting (in_switch_item first) (in_switch_items others) at) now) (λ behind more still each. (still, (one, each))))

    switch-item-comes : (within : Within) (kind : Kind) (standing : Standing) (labels : List (Option ℤ)) (item : SwitchItem) → At P setting (in_switch_item item) → Bare P setting standing
        → Comes P setting EachLabelled (typed_switch_item setting within kind standing labels item)
    switch-item-comes within kind standing labels (tree.case span expr item) at good =
        typing-comes P setting EachCase EachLabelled standing (typed_case setting standing.known kind labels expr) _ good
        (case-yields standing.known kind labels expr (at-front P setting (in_whole expr) (in_switch_item item) at.1) (bare-good P setting standing good))
        (λ then_standing one now first. further-comes P setting EachLabelled EachLabelled (typed_switch_item setting within kind then_standing (Some one.value ∷ labels) item) _
        (switch-item-comes within kind then_standing (Some one.value ∷ labels) item (at-back P setting (in_whole expr) (in_switch_item item) at.1) now)
        (λ behind made still other. (still, (at.0, (first, (other, tt))))))
    switch-item-comes within kind standing labels (tree.default span item) at good =
        keeps-comes P setting EachLabelled (not (is_label_among None labels)) 31 span.first _
        (further-comes P setting EachLabelled EachLabelled (typed_switch_item setting within kind standing (None ∷ labels) item) _ (switch-item-comes within kind standing (None ∷ labels) item at.1 good)
        (λ behind made still one. (still, (at.0, (one, tt)))))
    switch-item-comes within kind standing labels (tree.unlabelled span stmt) at good =
        further-comes P setting (Each P) EachLabelled (typed_stmt setting within standing stmt) _ (stmt-comes within standing stmt at good) (λ behind made still one. (still, one))
