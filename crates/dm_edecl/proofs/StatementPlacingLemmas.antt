-- Where a rule of a statement is broken: at a token of its own. By induction over the syntax.
use Rattle.std.specs.Prelude.{ℕ, ◌+◌, ◌<◌, ◌≤◌, ℤ, true, not, List, [], ◌∷◌, Option, Some, None}
use Rattle.std.specs.FinMap as map
use Rattle.std.proofs.Common.{arith}
use Rattle.dm_token.specs.declared.place.Span.{Span}
use Rattle.dm_int.specs.declared.Kind.{Kind}
use Rattle.dm_type.specs.CTypes.{CType}
use Rattle.dm_syn.specs.declared.declared.Declared.{Declared}
use Rattle.dm_syn.specs.Spans.{expr_span, declaration_span, stmt_span, block_item_span, block_items_after, switch_item_span, switch_items_after}
use Rattle.dm_syn.specs.Grammar.{IsExpr}
use Rattle.dm_syn.specs.Statements.{IsDeclaration, IsOptional, optional_after, IsStart, start_after, IsStmt, AreBlockItems, IsBlockItem, AreSwitchItems, IsSwitchItem}
use Rattle.dm_syn.specs.Trees.{Expr, ForStart, Stmt, BlockItems, BlockItem, SwitchItems, SwitchItem}
use Rattle.dm_syn.specs.Trees as tree
use Rattle.dm_tree.specs.Constants.{integer_kind}
use Rattle.dm_tree.specs.Scenes.{is_scalar, is_void}
use Rattle.dm_tree.specs.Trees.{Tree, kind_of}
use Rattle.dm_tree.specs.Trees as label
use Rattle.dm_typing.specs.Known.{Known, Setting, Outcome, given, obeys}
use Rattle.dm_typing.specs.Conversions.{as_value, as_type, as_kind, constant_of}
use Rattle.dm_typing.specs.Rules.{is_assignable}
use Rattle.dm_typing.specs.Typing.{typed}
use Rattle.dm_typing.proofs.PlaceLemmas.{Places, Plain, wider, after-places, obeys-places, if-places}
use Rattle.dm_typing.proofs.WholePlaceLemmas.{expr-placed}
use Rattle.dm_edecl.specs.Standing.{Standing, Progress, goes_on, further, typing, in_scope, opened}
use Rattle.dm_edecl.specs.Statements.{Within, in_loop, in_switch, statement, for_statement, Subject, subject, Labelled, AllLabelled, is_label_among, CaseValue, typed_value, typed_optional, typed_condition, typed_optional_condition, typed_subject, typed_case, returned, typed_return, declaration_tree, declared_in, typed_start, typed_stmt, typed_items_in, typed_item_in, typed_switch_items, typed_switch_item}
use Rattle.dm_edecl.specs.Placing.{StopsWithin}
use Rattle.dm_edecl.proofs.PlacingLemmas.{stops-wider, further-within, typing-within, keeps-within, closed-within, with-same, declaration-placed}

-- ---- expressions in statements

module _ (setting : Setting) (names : List Declared) where
  value-placed : (expr : Expr) → IsExpr setting.source names expr
      → ((expr_span expr).first < (expr_span expr).after)
      × ((known : Known) → Places (expr_span expr).first (expr_span expr).after Plain (typed_value setting known expr))
  value-placed expr is =
      let one = expr-placed setting names (expr_span expr) expr is in (
        one.0,
        λ known. with-same (expr_span expr).first (expr_span expr).after Plain (typed setting true known expr) (λ behind made. as_value made) (λ behind made. tt) (one.1 true known),
      )

  condition-placed : (expr : Expr) → IsExpr setting.source names expr
      → ((expr_span expr).first < (expr_span expr).after)
      × ((known : Known) → Places (expr_span expr).first (expr_span expr).after Plain (typed_condition setting known expr))
  condition-placed expr is =
      let span = expr_span expr in
      let one = value-placed expr is in (
        one.0,
        λ known. after-places span.first span.after span.first span.after Plain Plain (typed_value setting known expr) _ (omega arith) (omega arith) (one.1 known)
            (λ behind value any. obeys-places span.first span.after Plain (is_scalar (kind_of value)) 32 span.first (given behind value) (omega arith) one.0 tt),
      )

  subject-placed : (expr : Expr) → IsExpr setting.source names expr
      → ((expr_span expr).first < (expr_span expr).after)
      × ((known : Known) → Places (expr_span expr).first (expr_span expr).after Plain (typed_subject setting known expr))
  subject-placed expr is =
      let span = expr_span expr in
      let one = value-placed expr is in (
        one.0,
        λ known. after-places span.first span.after span.first span.after Plain Plain (typed_value setting known expr) _ (omega arith) (omega arith) (one.1 known)
            (λ behind value any. if-places span.first span.after Plain (integer_kind (kind_of value)) 32 span.first (λ kind. given behind (subject value kind)) (omega arith) one.0
            (λ kind. tt)),
      )

  case-placed : (kind : Kind) (labels : List (Option ℤ)) (expr : Expr) → IsExpr setting.source names expr
      → ((expr_span expr).first < (expr_span expr).after)
      × ((known : Known) → Places (expr_span expr).first (expr_span expr).after Plain (typed_case setting known kind labels expr))
  case-placed kind labels expr is =
      let span = expr_span expr in
      let one = value-placed expr is in
      let on = one.0 in (
        on,
        λ known. after-places span.first span.after span.first span.after Plain Plain (typed_value setting known expr) _ (omega arith) (omega arith) (one.1 known)
            (λ behind value any. if-places span.first span.after Plain (constant_of behind (as_kind kind value)) 30 span.first
            (λ n. obeys (not (is_label_among (Some n) labels)) 31 span.first (given behind (record { tree = as_kind kind value; value = n }))) (omega arith) on
            (λ n. obeys-places span.first span.after Plain (not (is_label_among (Some n) labels)) 31 span.first (given behind (record { tree = as_kind kind value; value = n })) (omega arith) on tt)),
      )

  -- one that may be absent
  optional-placed : (at : ℕ) (expr : Option Expr) → IsOptional setting.source names at expr
      → (at ≤ optional_after at expr) × ((known : Known) → Places at (optional_after at expr) Plain (typed_optional setting known expr))
  optional-placed at None is = (omega arith, λ known. tt)
  optional-placed at (Some expr) is =
      let one = value-placed expr is.1 in
      let some = one.0 in
      let starts = is.0 in (
        omega (arith, starts, some),
        λ known. wider (expr_span expr).first (expr_span expr).after at (expr_span expr).after Plain Plain (typed_optional setting known (Some expr)) (omega (arith, starts)) (omega arith)
            (λ it any. tt) (with-same (expr_span expr).first (expr_span expr).after Plain (typed_value setting known expr) (λ behind value. value ∷ []) (λ behind value. tt) (one.1 known)),
      )

  optional-condition-placed : (at : ℕ) (expr : Option Expr) → IsOptional setting.source names at expr
      → (at ≤ optional_after at expr) × ((known : Known) → Places at (optional_after at expr) Plain (typed_optional_condition setting known expr))
  optional-condition-placed at None is = (omega arith, λ known. tt)
  optional-condition-placed at (Some expr) is =
      let one = condition-placed expr is.1 in
      let some = one.0 in
      let starts = is.0 in (
        omega (arith, starts, some),
        λ known. wider (expr_span expr).first (expr_span expr).after at (expr_span expr).after Plain Plain (typed_optional_condition setting known (Some expr)) (omega (arith, starts)) (omega arith)
            (λ it any. tt) (with-same (expr_span expr).first (expr_span expr).after Plain (typed_condition setting known expr) (λ behind value. value ∷ []) (λ behind value. tt) (one.1 known)),
      )

  returned-places : (known : Known) (result : CType) (span : Span) (values : List Tree) → span.first < span.after
      → Places span.first span.after Plain (returned setting known result span values)
  returned-places known result span [] on =
      obeys-places span.first span.after Plain (is_void result) 34 span.first (given known (statement setting span label.return [])) (omega arith) on tt
  returned-places known result span (value ∷ others) on =
      obeys-places span.first span.after Plain (is_assignable known value result) 34 span.first (given known (statement setting span label.return (as_type result value ∷ []))) (omega arith) on tt

  return-places : (known : Known) (result : CType) (span : Span) (at : ℕ) (expr : Option Expr) → IsOptional setting.source names at expr → span.first < at → optional_after at expr < span.after
      → Places span.first span.after Plain (typed_return setting known result span expr)
  return-places known result span at expr is low high =
      let one = optional-placed at expr is in
      let some = one.0 in
      after-places at (optional_after at expr) span.first span.after Plain Plain (typed_optional setting known expr) _ (omega (arith, low)) (omega (arith, high)) (one.1 known)
      (λ behind values any. returned-places behind result span values (omega (arith, low, some, high)))

-- ---- declarations in statements

module _ (setting : Setting) (names : List Declared) where
  declared-placed : (declaration : tree.Declaration) → IsDeclaration setting.source names declaration
      → ((declaration_span declaration).first < (declaration_span declaration).after)
      × ((s : Standing) → StopsWithin (declaration_span declaration).first (declaration_span declaration).after (declared_in setting s declaration))
  declared-placed declaration is =
      let span = declaration_span declaration in
      let one = declaration-placed setting names declaration is in (
        one.0,
        λ s. further-within span.first span.after _ (λ behind it. goes_on behind (declaration_tree setting span it)) (one.1 s) (λ t it. tt),
      )

  start-placed : (at : ℕ) (start : ForStart) → IsStart setting.source names at start
      → (at < start_after at start) × ((s : Standing) → StopsWithin at (start_after at start) (typed_start setting s start))
  unfolding IsStart
  start-placed at (tree.declares declaration) is =
      let span = declaration_span declaration in
      let one = declared-placed declaration is.1 in
      let some = one.0 in
      let starts = is.0 in (
        omega (arith, starts, some),
        λ s. stops-wider span.first span.after at span.after (typed_start setting s (tree.declares declaration)) (omega (arith, starts)) (omega arith)
            (further-within span.first span.after (declared_in setting s declaration) (λ behind made. goes_on behind (made ∷ [])) (one.1 s) (λ t it. tt)),
      )
  start-placed at (tree.evaluates expr) is =
      let one = optional-placed setting names at expr is.0 in
      let some = one.0 in (
        omega (arith, some),
        λ s. typing-within at (optional_after at expr) at (optional_after at expr + 1) Plain s (typed_optional setting s.known expr) (λ behind values. goes_on behind values)
            (omega arith) (omega arith) (one.1 s.known) (λ t values any. tt),
      )

-- ---- statements by their parts

module _ (first behind : ℕ) where
  made-within : {B C : Type 0} (progress : Progress B) (make : B → C) → StopsWithin first behind progress → StopsWithin first behind (further progress (λ t made. goes_on t (make made)))
  made-within progress make h = further-within first behind progress (λ t made. goes_on t (make made)) h (λ t made. tt)

  -- a part that is a scope of its own
  part-within : {B C : Type 0} (s : Standing) (next : Standing → Progress B) (make : B → C) → ((t : Standing) → StopsWithin first behind (next t))
      → StopsWithin first behind (further (in_scope s next) (λ t made. goes_on t (make made)))
  part-within s next make h = made-within (in_scope s next) make (closed-within first behind s (next (opened map.empty s)) (h (opened map.empty s)))

  -- a statement that is headed by an expression
  headed-within : {A B C : Type 0} (part : Span) (s : Standing) (outcome : Known → Outcome A) (next : A → Standing → Progress B) (make : A → B → C)
      → first ≤ part.first → part.after ≤ behind → ((known : Known) → Places part.first part.after Plain (outcome known))
      → ((value : A) (t : Standing) → StopsWithin first behind (next value t))
      → StopsWithin first behind (in_scope s (λ inside. typing inside (outcome inside.known) (λ then_inside value.
      further (in_scope then_inside (next value)) (λ t made. goes_on t (make value made)))))
  headed-within part s outcome next make low high h g =
      let inside = opened map.empty s in
      closed-within first behind s
      (typing inside (outcome inside.known) (λ then_inside value. further (in_scope then_inside (next value)) (λ t made. goes_on t (make value made))))
      (typing-within part.first part.after first behind Plain inside (outcome inside.known)
      (λ then_inside value. further (in_scope then_inside (next value)) (λ t made. goes_on t (make value made))) low high (h inside.known)
      (λ t value any. part-within t (next value) (make value) (g value)))

  -- one of two parts
  either-within : {A B C : Type 0} (part : Span) (s : Standing) (outcome : Known → Outcome A) (one other : Standing → Progress B) (make : A → B → B → C)
      → first ≤ part.first → part.after ≤ behind → ((known : Known) → Places part.first part.after Plain (outcome known))
      → ((t : Standing) → StopsWithin first behind (one t)) → ((t : Standing) → StopsWithin first behind (other t))
      → StopsWithin first behind (in_scope s (λ inside. typing inside (outcome inside.known) (λ then_inside value.
      further (in_scope then_inside one) (λ then_more made. further (in_scope then_more other) (λ t more. goes_on t (make value made more))))))
  either-within part s outcome one other make low high h f g =
      let inside = opened map.empty s in
      closed-within first behind s
      (typing inside (outcome inside.known) (λ then_inside value.
      further (in_scope then_inside one) (λ then_more made. further (in_scope then_more other) (λ t more. goes_on t (make value made more)))))
      (typing-within part.first part.after first behind Plain inside (outcome inside.known)
      (λ then_inside value. further (in_scope then_inside one) (λ then_more made. further (in_scope then_more other) (λ t more. goes_on t (make value made more)))) low high (h inside.known)
      (λ t value any. further-within first behind (in_scope t one) (λ then_more made. further (in_scope then_more other) (λ u more. goes_on u (make value made more)))
      (closed-within first behind t (one (opened map.empty t)) (f (opened map.empty t))) (λ then_more made. part-within then_more other (make value made) g)))

  -- a statement whose expression stands behind its part
  footed-within : {A B C : Type 0} (part : Span) (s : Standing) (next : Standing → Progress B) (outcome : Known → Outcome A) (make : B → A → C)
      → first ≤ part.first → part.after ≤ behind → ((known : Known) → Places part.first part.after Plain (outcome known)) → ((t : Standing) → StopsWithin first behind (next t))
      → StopsWithin first behind (in_scope s (λ inside. further (in_scope inside next) (λ then_inside made.
      typing then_inside (outcome then_inside.known) (λ t value. goes_on t (make made value)))))
  footed-within part s next outcome make low high h g =
      let inside = opened map.empty s in
      closed-within first behind s
      (further (in_scope inside next) (λ then_inside made. typing then_inside (outcome then_inside.known) (λ t value. goes_on t (make made value))))
      (further-within first behind (in_scope inside next) (λ then_inside made. typing then_inside (outcome then_inside.known) (λ t value. goes_on t (make made value)))
      (closed-within first behind inside (next (opened map.empty inside)) (g (opened map.empty inside)))
      (λ t made. typing-within part.first part.after first behind Plain t (outcome t.known) (λ u value. goes_on u (make made value)) low high (h t.known) (λ u value any. tt)))

  loop-within : {A B C D : Type 0} (at to from end : ℕ) (s : Standing) (start : Standing → Progress A) (second third : Known → Outcome B) (body : Standing → Progress C)
      (make : A → B → B → C → D) → first ≤ at → to ≤ behind → first ≤ from → end ≤ behind → ((t : Standing) → StopsWithin first behind (start t))
      → ((known : Known) → Places at to Plain (second known)) → ((known : Known) → Places from end Plain (third known)) → ((t : Standing) → StopsWithin first behind (body t))
      → StopsWithin first behind (in_scope s (λ inside. further (start inside) (λ then_inside one. typing then_inside (second then_inside.known) (λ then_more two.
      typing then_more (third then_more.known) (λ then_all three. further (in_scope then_all body) (λ t made. goes_on t (make one two three made)))))))
  loop-within at to from end s start second third body make low high low-too high-too f g h k =
      let inside = opened map.empty s in
      closed-within first behind s
      (further (start inside) (λ then_inside one. typing then_inside (second then_inside.known) (λ then_more two.
      typing then_more (third then_more.known) (λ then_all three. further (in_scope then_all body) (λ t made. goes_on t (make one two three made))))))
      (further-within first behind (start inside)
      (λ then_inside one. typing then_inside (second then_inside.known) (λ then_more two.
      typing then_more (third then_more.known) (λ then_all three. further (in_scope then_all body) (λ t made. goes_on t (make one two three made)))))
      (f inside)
      (λ t one. typing-within at to first behind Plain t (second t.known)
      (λ then_more two. typing then_more (third then_more.known) (λ then_all three. further (in_scope then_all body) (λ u made. goes_on u (make one two three made)))) low high (g t.known)
      (λ u two any. typing-within from end first behind Plain u (third u.known) (λ then_all three. further (in_scope then_all body) (λ v made. goes_on v (make one two three made))) low-too high-too
      (h u.known) (λ v three all. part-within v body (make one two three) k))))

  -- items, one behind the other
  more-within : {A B C : Type 0} (progress : Progress A) (others : Standing → A → Progress B) (make : A → B → C) → StopsWithin first behind progress
      → ((t : Standing) (it : A) → StopsWithin first behind (others t it))
      → StopsWithin first behind (further progress (λ then_standing made. further (others then_standing made) (λ t more. goes_on t (make made more))))
  more-within progress others make f g =
      further-within first behind progress (λ then_standing made. further (others then_standing made) (λ t more. goes_on t (make made more))) f (λ t made. made-within (others t made) (make made) (g t made))

-- ---- the syntax

-- a statement has a token at least, and breaks rules within its tokens
abbrev pub PlacedStmt : Span → (Within → Standing → Progress Tree) → Type 0
PlacedStmt span progress = (span.first < span.after) × ((within : Within) (s : Standing) → StopsWithin span.first span.after (progress within s))

abbrev pub PlacedBlock : ℕ → ℕ → (Within → Standing → Progress (List Tree)) → Type 0
PlacedBlock at end progress = (at ≤ end) × ((within : Within) (s : Standing) → StopsWithin at end (progress within s))

abbrev PlacedSwitchItem : {A : Type 0} → ℕ → ℕ → (Within → Kind → Standing → List (Option ℤ) → Progress A) → Type 0
PlacedSwitchItem at end progress = (within : Within) (kind : Kind) (s : Standing) (labels : List (Option ℤ)) → StopsWithin at end (progress within kind s labels)

module _ (setting : Setting) where
  mutual
    unfolding typed_stmt typed_items_in typed_item_in typed_switch_items typed_switch_item IsStmt AreBlockItems IsBlockItem AreSwitchItems IsSwitchItem

    pub stmt-placed : (names : List Declared) (stmt : Stmt) → IsStmt setting.source names stmt → PlacedStmt (stmt_span stmt) (λ within s. typed_stmt setting within s stmt)
    stmt-placed names (tree.block span items) h =
        let all = block-placed _ (span.first + 1) items _ h.1.1 in
        let end = block_items_after (span.first + 1) items in
        let more = all.0 in
        let ends = h.2 in (
          omega (arith, more, ends),
          λ within s. closed-within span.first span.after s _ (made-within span.first span.after (typed_items_in setting within (opened map.empty s) items) (statement setting span label.block)
              (stops-wider (span.first + 1) end span.first span.after (typed_items_in setting within (opened map.empty s) items) (omega arith) (omega (arith, ends))
              (all.1 within (opened map.empty s)))),
        )
    stmt-placed names (tree.expression span expr) h =
        let one = optional-placed setting names span.first expr h.0 in
        let some = one.0 in
        let ends = h.2 in (
          omega (arith, some, ends),
          λ within s. typing-within span.first (optional_after span.first expr) span.first span.after Plain s (typed_optional setting s.known expr) _ (omega arith) (omega (arith, ends))
              (one.1 s.known) (λ t values any. tt),
        )
    stmt-placed names (tree.if_only span condition body) h =
        let one = condition-placed setting names condition h.1.2 in
        let part = stmt-placed _ body h.3 in
        let some = one.0 in
        let more = part.0 in
        let starts = h.1.1 in
        let follows = h.2 in
        let ends = h.5 in (
          omega (arith, starts, some, follows, more, ends),
          λ within s. headed-within span.first span.after (expr_span condition) s (λ known. typed_condition setting known condition) (λ value t. typed_stmt setting within t body)
              (λ value made. statement setting span label.if_statement (value ∷ made ∷ [])) (omega (arith, starts)) (omega (arith, follows, more, ends)) one.1
              (λ value t. stops-wider (stmt_span body).first (stmt_span body).after span.first span.after (typed_stmt setting within t body) (omega (arith, starts, some, follows))
              (omega (arith, ends)) (part.1 within t)),
        )
    stmt-placed names (tree.if_else span condition body other) h =
        let one = condition-placed setting names condition h.1.2 in
        let part = stmt-placed _ body h.3 in
        let last = stmt-placed _ other h.6 in
        let some = one.0 in
        let more = part.0 in
        let most = last.0 in
        let starts = h.1.1 in
        let follows = h.2 in
        let then_follows = h.5 in
        let ends = h.7 in (
          omega (arith, starts, some, follows, more, then_follows, most, ends),
          λ within s. either-within span.first span.after (expr_span condition) s (λ known. typed_condition setting known condition)
              (λ t. typed_stmt setting within t body) (λ t. typed_stmt setting within t other)
              (λ value made more. statement setting span label.if_statement (value ∷ made ∷ more ∷ [])) (omega (arith, starts))
              (omega (arith, follows, more, then_follows, most, ends)) one.1
              (λ t. stops-wider (stmt_span body).first (stmt_span body).after span.first span.after (typed_stmt setting within t body) (omega (arith, starts, some, follows))
              (omega (arith, then_follows, most, ends)) (part.1 within t))
              (λ t. stops-wider (stmt_span other).first (stmt_span other).after span.first span.after (typed_stmt setting within t other)
              (omega (arith, starts, some, follows, more, then_follows)) (omega (arith, ends)) (last.1 within t)),
        )
    stmt-placed names (tree.switch span operand items) h =
        let one = subject-placed setting names operand h.1.2 in
        let at = (expr_span operand).after + 2 in
        let end = switch_items_after at items in
        let all = switch-items-placed _ at items _ h.3.1 in
        let some = one.0 in
        let more = all.0 in
        let starts = h.1.1 in
        let ends = h.4 in (
          omega (arith, starts, some, more, ends),
          λ within s. headed-within span.first span.after (expr_span operand) s (λ known. typed_subject setting known operand)
              (λ (value : Subject) t. typed_switch_items setting (in_switch within) value.kind t [] items)
              (λ (value : Subject) (made : AllLabelled). statement setting span label.switch (value.tree ∷ made.trees)) (omega (arith, starts)) (omega (arith, more, ends)) one.1
              (λ value t. stops-wider at end span.first span.after (typed_switch_items setting (in_switch within) value.kind t [] items) (omega (arith, starts, some)) (omega (arith, ends))
              (all.1 (in_switch within) value.kind t [])),
        )
    stmt-placed names (tree.while span condition body) h =
        let one = condition-placed setting names condition h.1.2 in
        let part = stmt-placed _ body h.3 in
        let some = one.0 in
        let more = part.0 in
        let starts = h.1.1 in
        let follows = h.2 in
        let ends = h.4 in (
          omega (arith, starts, some, follows, more, ends),
          λ within s. headed-within span.first span.after (expr_span condition) s (λ known. typed_condition setting known condition) (λ value t. typed_stmt setting (in_loop within) t body)
              (λ value made. statement setting span label.while_loop (value ∷ made ∷ [])) (omega (arith, starts)) (omega (arith, follows, more, ends)) one.1
              (λ value t. stops-wider (stmt_span body).first (stmt_span body).after span.first span.after (typed_stmt setting (in_loop within) t body) (omega (arith, starts, some, follows))
              (omega (arith, ends)) (part.1 (in_loop within) t)),
        )
    stmt-placed names (tree.do_while span body condition) h =
        let one = condition-placed setting _ condition h.4.2 in
        let part = stmt-placed _ body h.2 in
        let some = one.0 in
        let more = part.0 in
        let starts = h.1 in
        let follows = h.4.1 in
        let ends = h.6 in (
          omega (arith, starts, more, follows, some, ends),
          λ within s. footed-within span.first span.after (expr_span condition) s (λ t. typed_stmt setting (in_loop within) t body) (λ known. typed_condition setting known condition)
              (λ made value. statement setting span label.do_loop (made ∷ value ∷ [])) (omega (arith, starts, more, follows)) (omega (arith, ends)) one.1
              (λ t. stops-wider (stmt_span body).first (stmt_span body).after span.first span.after (typed_stmt setting (in_loop within) t body) (omega (arith, starts))
              (omega (arith, follows, some, ends)) (part.1 (in_loop within) t)),
        )
    stmt-placed names (tree.for_loop span start condition step body) h =
        let begin = start-placed setting names (span.first + 2) start h.2 in
        let at = start_after (span.first + 2) start in
        let one = optional-condition-placed setting _ at condition h.3 in
        let then_at = optional_after at condition + 1 in
        let other = optional-placed setting _ then_at step h.5 in
        let part = stmt-placed _ body h.8 in
        let first = begin.0 in
        let second = one.0 in
        let third = other.0 in
        let more = part.0 in
        let follows = h.7 in
        let ends = h.9 in (
          omega (arith, first, second, third, follows, more, ends),
          λ within s. loop-within span.first span.after at (optional_after at condition) then_at (optional_after then_at step) s (λ t. typed_start setting t start)
              (λ known. typed_optional_condition setting known condition) (λ known. typed_optional setting known step) (λ t. typed_stmt setting (in_loop within) t body)
              (for_statement setting span) (omega (arith, first)) (omega (arith, third, follows, more, ends)) (omega (arith, first, second)) (omega (arith, follows, more, ends))
              (λ t. stops-wider (span.first + 2) at span.first span.after (typed_start setting t start) (omega arith) (omega (arith, second, third, follows, more, ends)) (begin.1 t))
              one.1 other.1
              (λ t. stops-wider (stmt_span body).first (stmt_span body).after span.first span.after (typed_stmt setting (in_loop within) t body) (omega (arith, first, second, third, follows))
              (omega (arith, ends)) (part.1 (in_loop within) t)),
        )
    stmt-placed names (tree.break span) h =
        let ends = h.2 in
        let on : span.first < span.after = omega (arith, ends) in
        (on, λ within s. keeps-within span.first span.after within.breaks 33 span.first (goes_on s (statement setting span label.break [])) (omega arith) on tt)
    stmt-placed names (tree.continue span) h =
        let ends = h.2 in
        let on : span.first < span.after = omega (arith, ends) in
        (on, λ within s. keeps-within span.first span.after within.continues 33 span.first (goes_on s (statement setting span label.continue [])) (omega arith) on tt)
    stmt-placed names (tree.return span expr) h =
        let one = optional-placed setting names (span.first + 1) expr h.1 in
        let some = one.0 in
        let ends = h.3 in
        let high : optional_after (span.first + 1) expr < span.after = omega (arith, ends) in (
          omega (arith, some, high),
          λ within s. typing-within span.first span.after span.first span.after Plain s (typed_return setting s.known within.result span expr) (λ t made. goes_on t made) (omega arith) (omega arith)
              (return-places setting names s.known within.result span (span.first + 1) expr h.1 (omega arith) high) (λ t made any. tt),
        )

    pub block-placed : (names : List Declared) (at : ℕ) (items : BlockItems) (behind : List Declared) → AreBlockItems setting.source names at items behind
        → PlacedBlock at (block_items_after at items) (λ within s. typed_items_in setting within s items)
    block-placed names at tree.no_items behind h = (omega arith, λ within s. tt)
    block-placed names at (tree.more_items first others) behind h =
        let one = block-item-placed _ first h.1 in
        let rest = block-placed _ (block_item_span first).after others _ h.2 in
        let part = block_item_span first in
        let end = block_items_after part.after others in
        let some = one.0 in
        let more = rest.0 in
        let starts = h.0 in (
          omega (arith, starts, some, more),
          λ within s. more-within at end (typed_item_in setting within s first) (λ t made. typed_items_in setting within t others) (λ made list. made ∷ list)
              (stops-wider part.first part.after at end (typed_item_in setting within s first) (omega (arith, starts)) more (one.1 within s))
              (λ t made. stops-wider part.after end at end (typed_items_in setting within t others) (omega (arith, starts, some)) (omega arith) (rest.1 within t)),
        )

    block-item-placed : (names : List Declared) (item : BlockItem) → IsBlockItem setting.source names item
        → PlacedStmt (block_item_span item) (λ within s. typed_item_in setting within s item)
    block-item-placed names (tree.declared_item declaration) h = let one = declared-placed setting names declaration h in (one.0, λ within s. one.1 s)
    block-item-placed names (tree.stated_item stmt) h = stmt-placed names stmt h

    switch-items-placed : (names : List Declared) (at : ℕ) (items : SwitchItems) (behind : List Declared) → AreSwitchItems setting.source names at items behind
        → (at ≤ switch_items_after at items)
        × PlacedSwitchItem at (switch_items_after at items) (λ within kind s labels. typed_switch_items setting within kind s labels items)
    switch-items-placed names at tree.no_switch_items behind h = (omega arith, λ within kind s labels. tt)
    switch-items-placed names at (tree.more_switch_items first others) behind h =
        let one = switch-item-placed _ first h.1 in
        let rest = switch-items-placed _ (switch_item_span first).after others _ h.2 in
        let part = switch_item_span first in
        let end = switch_items_after part.after others in
        let some = one.0 in
        let more = rest.0 in
        let starts = h.0 in (
          omega (arith, starts, some, more),
          λ within kind s labels. more-within at end (typed_switch_item setting within kind s labels first)
              (λ t (made : Labelled). typed_switch_items setting within kind t made.labels others)
              (λ (made : Labelled) (list : AllLabelled). record { trees = made.tree ∷ list.trees; labels = list.labels })
              (stops-wider part.first part.after at end (typed_switch_item setting within kind s labels first) (omega (arith, starts)) more (one.1 within kind s labels))
              (λ t made. stops-wider part.after end at end (typed_switch_items setting within kind t made.labels others) (omega (arith, starts, some)) (omega arith)
              (rest.1 within kind t made.labels)),
        )

    switch-item-placed : (names : List Declared) (item : SwitchItem) → IsSwitchItem setting.source names item
        → ((switch_item_span item).first < (switch_item_span item).after)
        × PlacedSwitchItem (switch_item_span item).first (switch_item_span item).after (λ within kind s labels. typed_switch_item setting within kind s labels item)
    switch-item-placed names (tree.case span expr item) h =
        let rest = switch-item-placed _ item h.6 in
        let part = switch_item_span item in
        let some = (value-placed setting names expr h.2).0 in
        let more = rest.0 in
        let starts = h.1 in
        let follows = h.5 in
        let ends = h.7 in (
          omega (arith, starts, some, follows, more, ends),
          λ within kind s labels. typing-within (expr_span expr).first (expr_span expr).after span.first span.after Plain s (typed_case setting s.known kind labels expr) _
              (omega (arith, starts)) (omega (arith, follows, more, ends)) ((case-placed setting names kind labels expr h.2).1 s.known)
              (λ t (value : CaseValue) any. made-within span.first span.after (typed_switch_item setting within kind t (Some value.value ∷ labels) item)
              (λ (made : Labelled). record { tree = statement setting span label.case (value.tree ∷ made.tree ∷ []); labels = made.labels })
              (stops-wider part.first part.after span.first span.after (typed_switch_item setting within kind t (Some value.value ∷ labels) item) (omega (arith, starts, some, follows))
              (omega (arith, ends)) (rest.1 within kind t (Some value.value ∷ labels)))),
        )
    switch-item-placed names (tree.default span item) h =
        let rest = switch-item-placed _ item h.3 in
        let part = switch_item_span item in
        let more = rest.0 in
        let follows = h.2 in
        let ends = h.4 in
        let on : span.first < span.after = omega (arith, follows, more, ends) in (
          on,
          λ within kind s labels. keeps-within span.first span.after (not (is_label_among None labels)) 31 span.first _ (omega arith) on
              (made-within span.first span.after (typed_switch_item setting within kind s (None ∷ labels) item)
              (λ (made : Labelled). record { tree = statement setting span label.default (made.tree ∷ []); labels = made.labels })
              (stops-wider part.first part.after span.first span.after (typed_switch_item setting within kind s (None ∷ labels) item) (omega (arith, follows)) (omega (arith, ends))
              (rest.1 within kind s (None ∷ labels)))),
        )
    switch-item-placed names (tree.unlabelled span stmt) h =
        let one = stmt-placed _ stmt h.1 in
        let some = one.0 in
        let starts = h.0 in
        let ends = h.2 in (
          omega (arith, starts, some, ends),
          λ within kind s labels. made-within span.first span.after (typed_stmt setting within s stmt) (λ made. record { tree = made; labels = labels })
              (stops-wider (stmt_span stmt).first (stmt_span stmt).after span.first span.after (typed_stmt setting within s stmt) (omega (arith, starts)) (omega (arith, ends)) (one.1 within s)),
        )
