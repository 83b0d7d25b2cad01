-- The nodes of external declarations stand where their syntax stands, and external declarations behind one another.
use Rattle.std.specs.Prelude.{◌≡◌, ℕ, ◌+◌, ◌<◌, ◌≤◌, Bool, false, List, [], ◌∷◌, ◌++◌, None, refl}
use Rattle.std.proofs.Common.{sym, ap, ◌∙◌, subst, arith}
use Rattle.dm_token.specs.declared.place.Span.{Span}
use Rattle.dm_token.specs.declared.token.CToken.{CToken}
use Rattle.dm_type.specs.declared.shape.Shape.{Shape}
use Rattle.dm_type.specs.CTypes.{CType}
use Rattle.dm_name_map.specs.Numbers.{Numbers}
use Rattle.dm_syn.specs.declared.declared.Declared.{Declared as Seen}
use Rattle.dm_syn.specs.Grammar.{IsExpr, IsDeclarator}
use Rattle.dm_syn.specs.Spans.{expr_span, specifiers_span, declarator_span, declaration_span, stmt_span, block_items_after, external_span}
use Rattle.dm_syn.specs.Scopes.{external_declares}
use Rattle.dm_syn.specs.Statements.{IsBlock, IsStmt, IsExternal, own_parameters}
use Rattle.dm_syn.specs.Trees.{Expr, Declarator, Stmt, BlockItems, External}
use Rattle.dm_syn.specs.Trees as tree
use Rattle.dm_tree.specs.Trees.{Tree, spans_of}
use Rattle.dm_tree.specs.Trees as label
use Rattle.dm_tree.specs.Units.{Declaration, TypedUnit}
use Rattle.dm_tree.specs.Units as unit
use Rattle.dm_scoped.specs.Spans.{IsLaidOut, StandBetween, IsLaidOutExternal, AreLaidOutFrom, IsLaidOutUnit}
use Rattle.dm_typing.specs.Known.{Known, Setting, Outcome, given, broken, after}
use Rattle.dm_typing.specs.Specifiers.{of_definition}
use Rattle.dm_typing.specs.Typing.{typed}
use Rattle.dm_edecl.specs.Standing.{Standing, Progress, goes_on, stops, further, opened}
use Rattle.dm_edecl.specs.Linkages.{entry_of, number_before, kind_seen, function_here, with_whole_kinds}
use Rattle.dm_edecl.specs.Declaring.{Specified, name_at, declarable, fits_main, expressions_of, typed_declarator, typed_declaration}
use Rattle.dm_edecl.specs.Statements.{Within, statement, typed_stmt, typed_items_in}
use Rattle.dm_edecl.specs.Units.{own_defined, Heading, typed_heading, body_within, typed_body, function_defined, typed_external, typed_externals, unit_setting, beginning, unit_of, typed_unit}
use Rattle.dm_edecl.specs.Placing.{AreExternals}
use Rattle.dm_scoped.specs.Bare.{bare_span}
use Rattle.dm_scoped.proofs.SpanLemmas.{IsMade, row-wider, row-append, row-length, row-apart}
use Rattle.dm_scoped.proofs.CollectLemmas.{Yields, Collects, collects-with}
use Rattle.dm_scoped.proofs.SpanExpressionLemmas.{laid-typed, expr-laid, specifiers-laid, declarator-laid}
use Rattle.dm_scoped.proofs.SpanStatementLemmas.{Stands, row-next, stated, block-laid, RowIn, IsClear, Ends, ends-so, further-ends, keeps-ends, collecting-ends, closed-ends, named-clear, typed-declarator-collects, specified-collects, DeclaredIn, declaration-laid, stmt-laid}

-- an external declaration that stands at these tokens
abbrev IsLaidAt : Span → unit.External → Type 0
IsLaidAt span one = (one.span ≡ span) × IsLaidOutExternal one

module _ (setting : Setting) where
  -- the declarator of a definition is typed behind its parameters, as if these had not been typed
  own-collects : {A B : Type 0} (at behind : ℕ) (known : Known) (own : Outcome A) (rest : Known → A → Outcome B) → ((inside : Known) (it : A) → Collects at behind known (rest inside it))
      → Collects at behind known (after own rest)
  unfolding Collects
  own-collects at behind known (given inside it) rest h = h inside it
  own-collects at behind known (broken rule place) rest h = tt

  heading-collects : (names : List Seen) (known : Known) (base : CType) (declarator : Declarator) → IsDeclarator setting.source names false declarator
      → Collects (declarator_span declarator).first (declarator_span declarator).after known (typed_heading setting known base declarator)
  heading-collects names known base declarator is =
      let first = (declarator_span declarator).first in
      let behind = (declarator_span declarator).after in
      own-collects first behind known (own_defined setting known (own_parameters None declarator)) _
      (λ inside parameters. collects-with first behind known (typed_declarator setting known base declarator) _ (typed-declarator-collects setting names false known base declarator is))

  block-ends : (names : List Seen) (within : Within) (s : Standing) (span : Span) (items : BlockItems) → IsStmt setting.source names (tree.block span items) → IsClear s
      → Ends (Stands span) (further (typed_items_in setting within s items) (λ behind trees. goes_on behind (statement setting span label.block trees)))
  unfolding IsStmt
  block-ends names within s span items h clear =
      let all = block-laid setting _ _ items _ h.1.1 in
      let on = all.0 in
      let ends = h.2 in
      let last = block_items_after (span.first + 1) items in
      let some : span.first < span.after = omega (arith, ends, on) in
      further-ends (RowIn (span.first + 1) last) (Stands span) (typed_items_in setting within s items) _ (all.1 within s clear) (λ t trees still row.
      ends-so (Stands span) t _ still (stated setting span label.block (span.first + 1) last trees refl (omega arith) (omega (arith, ends)) some (omega (arith, ends)) row))

  -- a body stands where its statement stands
  body-laid : (names : List Seen) (within : Within) (s : Standing) (scope : Numbers) (body : Stmt) → IsBlock body → IsStmt setting.source names body → IsClear s
      → Ends (Stands (stmt_span body)) (typed_body setting within s scope body)
  unfolding IsStmt
  body-laid names within s scope (tree.block span items) block is clear =
      closed-ends (Stands span) s _ (block-ends names within (opened scope s) span items is clear)
  body-laid names within s scope (tree.expression span expr) block is clear = absurd block
  body-laid names within s scope (tree.if_only span condition body) block is clear = absurd block
  body-laid names within s scope (tree.if_else span condition body other) block is clear = absurd block
  body-laid names within s scope (tree.switch span operand items) block is clear = absurd block
  body-laid names within s scope (tree.while span condition body) block is clear = absurd block
  body-laid names within s scope (tree.do_while span body condition) block is clear = absurd block
  body-laid names within s scope (tree.for_loop span start condition step body) block is clear = absurd block
  body-laid names within s scope (tree.break span) block is clear = absurd block
  body-laid names within s scope (tree.continue span) block is clear = absurd block
  body-laid names within s scope (tree.return span expr) block is clear = absurd block

  declarable-ends : (P : unit.External → Type 0) (said : Specified) (s : Standing) (here name : ℕ) (entry : Declaration) (next : Progress unit.External) → Ends P next
      → Ends P (declarable said s false here name entry next)
  declarable-ends P said s here name entry next h = keeps-ends P _ 2 name _ (keeps-ends P _ 3 said.first _ (keeps-ends P _ 5 here _ (keeps-ends P _ 36 name next h)))

  function-laid : (names : List Seen) (said : Specified) (s : Standing) (span : Span) (declarator : Declarator) (body : Stmt) (constants : List Tree) (heading : Heading) (entry : Declaration)
      → IsClear s → IsBlock body → IsStmt setting.source names body → (mid : ℕ) → mid ≤ (stmt_span body).first → (stmt_span body).after ≤ span.after → StandBetween span.first mid constants
      → Ends (IsLaidAt span) (function_defined setting said s span declarator body constants heading entry)
  function-laid names said s span declarator body constants heading entry clear block is mid low high row =
      let t = function_here s entry in
      let still : IsClear t = named-clear s.known (kind_seen s entry) entry (number_before s entry) ∙ clear in
      keeps-ends (IsLaidAt span) _ 2 (name_at declarator) _
      (declarable-ends (IsLaidAt span) said s (declarator_span declarator).first (name_at declarator) entry _
      (keeps-ends (IsLaidAt span) (fits_main entry) 36 (name_at declarator) _
      (further-ends (Stands (stmt_span body)) (IsLaidAt span) (typed_body setting (body_within heading.kind) t heading.scope body) _
      (body-laid names (body_within heading.kind) t heading.scope body block is still)
      (λ u made clear_again stands.
      let behind = row-next (stmt_span body) mid span.after made [] stands low high in
      let on = row-length mid span.after (made ∷ []) behind in
      let some = row-length span.first mid constants row in
      ends-so (IsLaidAt span) u _ clear_again (
        refl,
        (
          row-wider span.first mid span.first span.after constants (omega arith) on row,
          row-wider mid span.after span.first span.after (made ∷ []) some (omega arith) behind,
          row-apart span.first mid span.after constants (made ∷ []) row behind,
        ),
      )))))

  pub external-laid : (names : List Seen) (s : Standing) (one : External) → IsExternal setting.source names one → IsClear s → Ends (IsLaidAt (external_span one)) (typed_external setting s one)
  unfolding IsExternal
  external-laid names s (tree.external span declaration) h clear =
      let one = declaration-laid setting _ declaration h.1 in
      let begins = h.0 in
      let ends = h.2 in
      let d = declaration_span declaration in
      further-ends (DeclaredIn d) (IsLaidAt span) (typed_declaration setting s declaration) _ (one.1 s clear) (λ t it still rows.
      let mid = rows.1 in
      let wider : (list : List Tree) → StandBetween d.first rows.0 list → StandBetween span.first span.after list =
      λ list row. row-wider d.first rows.0 span.first span.after list (omega (arith, begins)) (omega (arith, mid, ends)) row in
      ends-so (IsLaidAt span) t _ still (refl, (wider it.constants rows.2, wider (expressions_of it.locals) rows.3, rows.4)))
  external-laid names s (tree.definition span specifiers declarator body) h clear =
      let words = specifiers-laid setting _ of_definition false specifiers h.1 in
      let shape = declarator-laid setting _ false declarator h.3 in
      let part = stmt-laid setting _ body h.8 in
      let some = words.0 in
      let on = shape.0 in
      let most = part.0 in
      let begins = h.0 in
      let mid = h.2 in
      let then_mid = h.6 in
      let ends = h.9 in
      let w = specifiers_span specifiers in
      let d = declarator_span declarator in
      collecting-ends w.first w.after (IsLaidAt span) s _ _ clear (specified-collects setting _ of_definition false s.known specifiers h.1) (λ t constants said still row.
      collecting-ends d.first d.after (IsLaidAt span) t _ _ still (heading-collects _ t.known said.kind declarator h.3) (λ u more heading clear_again rows.
      function-laid _ said u span declarator body (constants ++ more) heading (entry_of setting u.known said.storage (name_at declarator) heading.kind) clear_again h.7 h.8
      d.after (omega (arith, then_mid)) (omega (arith, ends))
      (row-append span.first w.after d.after constants more (row-wider w.first w.after span.first w.after constants (omega (arith, begins)) (omega arith) row)
      (row-wider d.first d.after w.after d.after more (omega (arith, mid)) (omega arith) rows))))

  externals-laid : (names : List Seen) (at : ℕ) (s : Standing) (all : List External) → AreExternals setting.source names at all → IsClear s → Ends (AreLaidOutFrom at) (typed_externals setting s all)
  externals-laid names at s [] h clear = ends-so (AreLaidOutFrom at) s [] clear tt
  externals-laid names at s (first ∷ others) h clear =
      further-ends (IsLaidAt (external_span first)) (AreLaidOutFrom at) (typed_external setting s first) _ (external-laid names s first h.1 clear) (λ t made still one.
      further-ends (AreLaidOutFrom (external_span first).after) (AreLaidOutFrom at) (typed_externals setting t others) _ (externals-laid (external_declares setting.source first ++ names) (external_span first).after t others h.2 still)
      (λ u more clear_again rest. ends-so (AreLaidOutFrom at) u (made ∷ more) clear_again (
        ap (λ (it : Span). it.first) one.0 ∙ h.0,
        one.1,
        subst (λ (it : Span). AreLaidOutFrom it.after more) (sym one.0) rest,
      )))

-- ---- as the laws say it

-- what an expression comes to stands where it stands
pub typed-laid : (setting : Setting) (names : List Seen) (expr : Expr) → IsExpr setting.source names expr → (used : Bool) (known then_known : Known) (tree : Tree)
    → typed setting used known expr ≡ given then_known tree → IsMade setting.source (bare_span expr) (expr_span expr) tree
unfolding Yields
typed-laid setting names expr is used known then_known tree e =
    let h = subst (Yields (IsMade setting.source (bare_span expr) (expr_span expr)) known) e (laid-typed setting expr (expr-laid setting names expr is) used known) in h.1

same-span : (a b : Span) → a.first ≡ b.first → a.after ≡ b.after → a ≡ b
same-span a b first after = λ i. record { first = first i; after = after i }

pub typed-stmt-laid : (setting : Setting) (names : List Seen) (stmt : Stmt) → IsStmt setting.source names stmt → (within : Within) (s behind : Standing) (tree : Tree)
    → s.known.constants ≡ [] → typed_stmt setting within s stmt ≡ goes_on behind tree → ((spans_of tree).outer ≡ stmt_span stmt) × IsLaidOut tree
unfolding Ends
typed-stmt-laid setting names stmt is within s behind tree clear e =
    let h = subst (Ends (Stands (stmt_span stmt))) e ((stmt-laid setting names stmt is).1 within s clear) in
    (same-span (spans_of tree).outer (stmt_span stmt) h.1.1 h.1.2, h.1.0)

unit-laid : (progress : Progress (List unit.External)) → Ends (AreLaidOutFrom 0) progress → (known : Known) (one : TypedUnit) → unit_of progress ≡ given known one → IsLaidOutUnit one
unfolding Ends
unit-laid (goes_on behind all) h known one e =
    let same : record { declared = with_whole_kinds behind.linked 0 behind.known.declared; externals = all } ≡ one = cc in subst IsLaidOutUnit same h.1
unit-laid (stops rule at) h known one e = absurd (cc)

pub units-laid : (shapes : List Shape) (tokens : List CToken) (externals : List External) (known : Known) (one : TypedUnit)
    → AreExternals (unit_setting tokens externals).source [] 0 externals → typed_unit shapes tokens externals ≡ given known one → IsLaidOutUnit one
units-laid shapes tokens externals known one is e =
    unit-laid (typed_externals (unit_setting tokens externals) (beginning shapes) externals) (externals-laid (unit_setting tokens externals) [] 0 (beginning shapes) externals is refl) known one e
