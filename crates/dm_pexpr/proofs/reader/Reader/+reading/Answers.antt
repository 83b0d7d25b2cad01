-- Each function gives what reading comes to there, by the step of reading that it takes.
use Rattle.std.proofs.Common.{◌≡◌, ◌≤◌, ◌<◌, ℕ, ◌+◌, ◌-◌, true, false, map, refl, sym, ap, ◌∙◌, subst, arith}
use Rattle.dm_token.specs.Limits.{greatest_height}
use Rattle.dm_syn.specs.declared.symbol.Symbol.TheVariants as symbol
use Rattle.dm_syn.specs.Trees as tree
use Rattle.dm_syn.specs.Views as view
use Rattle.dm_syn.specs.Spans.{expr_span}
use Rattle.dm_pexpr.specs.Parsing.{Parts, suffix_kind, core, words_of, is_one_more, word_kind, lower, span_of, checked_expr, front_of, turn, separating, index_from, call_from, binary_from, conditional_from, cast_from, grown_from, arguments, more_exprs, more_declarators, more_parameters, more_enumerators, members_of, parameters_of, function_from, suffixed, and_then, specifier_of, member_with, enum_with, all_turns, prepend_expr, prepend_parameter, prepend_declarator, prepend_enumerator, prepend_member, prepend_word}
use Rattle.dm_pexpr.specs.Shapes.{shape_of, types_of}
use Rattle.dm_syn.specs.Grammar.{no_type}
use Rattle.dm_pexpr.specs.Parts.{source_of, IsPart, Gives, prefixed_from, an_expr, a_type_name, the_specifiers, a_specifier, a_member, a_declarator, an_enumerator, a_direct, a_parameter, exprs_from, words_from, members_from, declarators_from, enumerators_from, parameters_from, behind_all, member_from, operated_from, comma_node, direct_from}
use Rattle.dm_pexpr.proofs.PartLemmas.{part-of}
use Rattle.dm_pexpr.proofs.SymbolLemmas.{infix-bounds}
use Rattle.dm_pexpr.proofs.ListLemmas.{begun-is, begun-wanted, same-after, begins-with, begins-with-none, goes-on, ends-list, stops-list, none-read}
use Rattle.dm_pexpr.proofs.ReadLists.{expr-lists, word-lists, member-lists, declarator-lists, enumerator-lists, parameter-lists}
use Rattle.dm_pexpr.proofs.ReadExprs.{gives-same, ok-same, nothing-of, seen-is, seen-begins, not-end, no-depth, expr-deeper, name-read, constant-read, literal-read, front-is, prefixed-is, assigned-is, selected-is, followed-is, not-the-end, begins-there, below-le, none-left, enclosed-name, enclosed-expr, cast-behind, no-cast-behind, measured-name, measured-expr, grows-first, grows-not, grows-more, grows-none, grows-to, grows-away, choice-behind, no-choice-behind, comma-read, no-arguments, first-argument, no-first-argument, more-exprs-end, more-exprs-out, more-exprs-next, more-exprs-stop, turn-is, operated-is}
use Rattle.dm_pexpr.proofs.ReadDeclarators.{declarator-deeper, core-name, core-enclosed, core-nothing, array-open, array-sized, suffixed-first, suffixed-on, suffixed-more, suffixed-to, suffixed-away, no-parameters, first-parameter, no-first-parameter, more-parameters-end, more-parameters-out, more-parameters-next, more-parameters-stop, parameter-behind, no-parameter, no-function, function-open, function-closed, scope-ends}
use Rattle.dm_pexpr.proofs.ReadSpecifiers.{name-behind, no-name, specifiers-deeper, no-specifiers, words-end, words-away, words-next, words-stop, struct-inside, struct-alone, members-end, members-away, members-next, members-stop, members-closed, no-member, no-member-declarator, member-declarators, more-declarators-end, more-declarators-out, more-declarators-next, more-declarators-stop, enum-alone, no-enumerators, enumerators-behind, no-enumerator, bare-enumerator, valued-enumerator, more-enumerators-end, more-enumerators-out, more-enumerators-next, more-enumerators-stop, typedef-read, keyword-read, keyword-kind, keyword-there, specifier-is, no-word-kind}
use Rattle.dm_pexpr.proofs.reader.Reader.+reading.Goals as goal

pub expr-returns-then-depth-eq0 : goal.expr-returns-then-depth-eq0
expr-returns-then-depth-eq0 t c =
    let s = source_of c.args.self.now in
    let names = c.args.scope.now in
    ap (λ (parts : Parts). parts.expr c.args.least names c.args.at) (no-depth s c.args.depth c.if-depth-eq0.true)

pub expr-returns : goal.expr-returns
expr-returns t c =
    let s = source_of c.args.self.now in
    let names = c.args.scope.now in
    ok-same (an_expr s) s names c.grown.new.scope c.grown.result _ _ (expr-deeper s c.args.depth c.args.least names c.args.at c.if-depth-eq0.false) (c.grown.ensures names _ c.in_ok-front.ensures)

pub front-returns-in-Identifier : goal.front-returns-in-Identifier
front-returns-in-Identifier t c =
    let s = source_of c.args.self.now in
    let p = lower s c.args.depth in
    let names = c.args.scope.now in
    name-read s p names c.args.at c.leaf.result c.in-Identifier.ensures.value (c.in-Identifier.ensures.within (not-the-end symbol.Identifier refl)) c.leaf.ensures

pub front-returns-in-Constant : goal.front-returns-in-Constant
front-returns-in-Constant t c =
    let s = source_of c.args.self.now in
    let p = lower s c.args.depth in
    let names = c.args.scope.now in
    constant-read s p names c.args.at c.leaf-in-Constant.result c.in-Constant.ensures.value (c.in-Constant.ensures.within (not-the-end symbol.Constant refl)) c.leaf-in-Constant.ensures

pub front-returns-in-Literal : goal.front-returns-in-Literal
front-returns-in-Literal t c =
    let s = source_of c.args.self.now in
    let p = lower s c.args.depth in
    let names = c.args.scope.now in
    literal-read s p names c.args.at c.leaf-in-Literal.result c.in-Literal.ensures.value (c.in-Literal.ensures.within (not-the-end symbol.Literal refl)) c.leaf-in-Literal.ensures

pub front-returns-in-LeftParen : goal.front-returns-in-LeftParen
front-returns-in-LeftParen t c =
    let s = source_of c.args.self.now in
    let p = lower s c.args.depth in
    let names = c.args.scope.now in
    ok-same (an_expr s) s names c.enclosed.new.scope c.enclosed.result _ _ (front-is s p names c.args.at symbol.LeftParen _ c.in-LeftParen.ensures.value refl) c.enclosed.ensures

pub front-returns-in-Sizeof : goal.front-returns-in-Sizeof
front-returns-in-Sizeof t c =
    let s = source_of c.args.self.now in
    let p = lower s c.args.depth in
    let names = c.args.scope.now in
    ok-same (an_expr s) s names c.measured.new.scope c.measured.result _ _ (front-is s p names c.args.at symbol.Sizeof _ c.in-Sizeof.ensures.value refl) c.measured.ensures

pub front-returns-in_default : goal.front-returns-in_default
front-returns-in_default t c =
    let s = source_of c.args.self.now in
    let p = lower s c.args.depth in
    let names = c.args.scope.now in
    ok-same (an_expr s) s names c.prefixed.new.scope c.prefixed.result _ _ (prefixed-is s p names c.args.at c.symbol.result c.symbol.ensures.value c.in_default.not-Identifier c.in_default.not-Constant c.in_default.not-Literal c.in_default.not-LeftParen c.in_default.not-Sizeof) c.prefixed.ensures

pub prefixed-returns-in_default : goal.prefixed-returns-in_default
prefixed-returns-in_default t c =
    let s = source_of c.args.self.now in
    let p = lower s c.args.depth in
    let names = c.args.scope.now in
    ap (prefixed_from p names c.args.first) (sym c.in_default.ensures)

pub prefixed-returns : goal.prefixed-returns
prefixed-returns t c =
    let s = source_of c.args.self.now in
    let p = lower s c.args.depth in
    let names = c.args.scope.now in
    ok-same (an_expr s) s names c.expr.new.scope c.prefix.result _ _ (ap (prefixed_from p names c.args.first) c.in-Some.ensures) (c.prefix.ensures names _ c.in_ok-operand.ensures)

pub enclosed-returns-in_ok-name : goal.enclosed-returns-in_ok-name
enclosed-returns-in_ok-name t c =
    let s = source_of c.args.self.now in
    let p = lower s c.args.depth in
    let names = c.args.scope.now in
    ok-same (an_expr s) s names c.cast_behind.new.scope c.cast_behind.result _ _ (enclosed-name s p names c.args.first (seen-begins c.symbol.result _ c.begins_specifiers.result true c.symbol.ensures.value c.begins_specifiers.ensures c.if-begins_specifiers.true)) (c.cast_behind.ensures names _ c.in_ok-name.ensures)

pub enclosed-returns-in_ok-inner : goal.enclosed-returns-in_ok-inner
enclosed-returns-in_ok-inner t c =
    let s = source_of c.args.self.now in
    let p = lower s c.args.depth in
    let names = c.args.scope.now in
    ok-same (an_expr s) s names c.expr.new.scope c.paren.result _ _ (enclosed-expr s p names c.args.first (seen-begins c.symbol.result _ c.begins_specifiers.result false c.symbol.ensures.value c.begins_specifiers.ensures c.if-begins_specifiers.false)) (c.paren.ensures names _ c.in_ok-inner.ensures)

pub cast_behind-returns-in_default : goal.cast_behind-returns-in_default
cast_behind-returns-in_default t c before wanted given =
    let s = source_of c.args.self.now in
    let p = lower s c.args.depth in
    let names = c.args.scope.now in
    ap (cast_from s p before c.args.first) (nothing-of (a_type_name s) s before names c.args.name wanted c.in_default.is given)

pub cast_behind-returns-in_default-behind : goal.cast_behind-returns-in_default-behind
cast_behind-returns-in_default-behind t c before wanted given =
    let s = source_of c.args.self.now in
    let p = lower s c.args.depth in
    let names = c.args.scope.now in
    let k = part-of (a_type_name s) s before names c.args.name c.in-Some.name wanted c.in-Some.is given in
    no-cast-behind s p before names c.args.first c.in-Some.name wanted k c.in_default-behind.ensures

pub cast_behind-returns : goal.cast_behind-returns
cast_behind-returns t c before wanted given =
    let s = source_of c.args.self.now in
    let p = lower s c.args.depth in
    let names = c.args.scope.now in
    let k = part-of (a_type_name s) s before names c.args.name c.in-Some.name wanted c.in-Some.is given in
    ok-same (an_expr s) s before c.expr.new.scope c.cast.result _ _ (cast-behind s p before names c.args.first c.in-Some-behind.next c.in-Some.name wanted k c.in-Some-behind.ensures.0 c.in-Some-behind.ensures.1)
    (c.cast.ensures before names wanted _ k c.in_ok-operand.ensures)

pub measured-returns-in_ok-name-in-Some : goal.measured-returns-in_ok-name-in-Some
measured-returns-in_ok-name-in-Some t c =
    let s = source_of c.args.self.now in
    let p = lower s c.args.depth in
    let names = c.args.scope.now in
    ok-same (an_expr s) s names c.type_name.new.scope c.sizeof_name.result _ _ (measured-name s p names c.args.first c.in-Some.inside c.in-Some.ensures.0 c.in-Some.ensures.1) (c.sizeof_name.ensures names _ c.in_ok-name-in-Some.ensures)

pub measured-returns-in_ok-operand-in-None : goal.measured-returns-in_ok-operand-in-None
measured-returns-in_ok-operand-in-None t c =
    let s = source_of c.args.self.now in
    let p = lower s c.args.depth in
    let names = c.args.scope.now in
    ok-same (an_expr s) s names c.expr.new.scope c.sizeof_expr.result _ _ (measured-expr s p names c.args.first c.in-None.ensures) (c.sizeof_expr.ensures names _ c.in_ok-operand-in-None.ensures)

pub grown-returns-in_default : goal.grown-returns-in_default
grown-returns-in_default t c before wanted given =
    let s = source_of c.args.self.now in
    let p = lower s c.args.depth in
    let names = c.args.scope.now in
    ap (grown_from s p c.args.least before) (nothing-of (an_expr s) s before names c.args.front wanted c.in_default.is given)

pub grown-returns-then-least-level : goal.grown-returns-then-least-level
grown-returns-then-least-level t c before wanted given =
    let s = source_of c.args.self.now in
    let p = lower s c.args.depth in
    let names = c.args.scope.now in
    let k = part-of (an_expr s) s before names c.args.front c.in-Some.left wanted c.in-Some.is given in
    grows-not s p c.args.least before names c.in-Some.left wanted k (subst (λ n. n < c.args.least) c.level.ensures c.if-least-level.true)

pub grown-loop-symbol-init : goal.grown-loop-symbol-init
grown-loop-symbol-init t c before wanted given =
    let s = source_of c.args.self.now in
    let p = lower s c.args.depth in
    let names = c.args.scope.now in
    let k = part-of (an_expr s) s before names c.args.front c.in-Some.left wanted c.in-Some.is given in
    grows-first s p c.args.least before names c.in-Some.left wanted k (subst (λ n. c.args.least ≤ n) c.level.ensures c.if-least-level.false)

pub grown-returns-then-turns-eq0 : goal.grown-returns-then-turns-eq0
grown-returns-then-turns-eq0 t c before wanted given =
    let s = source_of c.args.self.now in
    let p = lower s c.args.depth in
    grows-away s p c.args.least before c.loop-symbol.scope c.loop-symbol.left wanted c.loop-symbol.turns (c.loop-symbol.invariant before wanted given) c.in-Some-suffix.ensures.0 c.if-turns-eq0.true

pub grown-returns-in_default-2 : goal.grown-returns-in_default-2
grown-returns-in_default-2 t c before wanted given =
    let s = source_of c.args.self.now in
    let p = lower s c.args.depth in
    let goes = c.in-Some-suffix.ensures in
    let kind = ap suffix_kind goes.1 in
    grows-none s p c.args.least before c.loop-symbol.scope c.loop-symbol.left wanted c.loop-symbol.turns (c.loop-symbol.invariant before wanted given) goes.0 c.if-turns-eq0.false
    (ap (turn s p c.loop-symbol.scope (view.expr c.loop-symbol.left.tree) c.loop-symbol.left.after) (sym kind) ∙ nothing-of (an_expr s) s before c.turn.new.scope c.in_ok-grown.field-0 _ c.in_default-2.is (c.in_ok-grown.ensures before _ (c.loop-symbol.invariant before wanted given).0))

pub grown-loop-symbol-preserved : goal.grown-loop-symbol-preserved
grown-loop-symbol-preserved t c before wanted given =
    let s = source_of c.args.self.now in
    let p = lower s c.args.depth in
    let goes = c.in-Some-suffix.ensures in
    let kind = ap suffix_kind goes.1 in
    let k = part-of (an_expr s) s before c.turn.new.scope c.in_ok-grown.field-0 c.in-Some-2.grown _ c.in-Some-2.is (c.in_ok-grown.ensures before _ (c.loop-symbol.invariant before wanted given).0) in
    grows-more s p c.args.least before c.loop-symbol.scope c.turn.new.scope c.loop-symbol.left c.in-Some-2.grown wanted c.loop-symbol.turns (c.loop-symbol.invariant before wanted given) goes.0 c.if-turns-eq0.false
    (subst (λ it. IsPart (an_expr s) s before c.turn.new.scope c.in-Some-2.grown (turn s p c.loop-symbol.scope (view.expr c.loop-symbol.left.tree) c.loop-symbol.left.after it)) kind k)

pub grown-returns : goal.grown-returns
grown-returns t c before wanted given =
    let s = source_of c.args.self.now in
    let p = lower s c.args.depth in
    grows-to s p c.args.least before c.loop-symbol.scope c.loop-symbol.left wanted c.loop-symbol.turns (c.loop-symbol.invariant before wanted given) c.in_default-suffix.ensures

pub turn-returns-in_ok-right-in-LeftBracket : goal.turn-returns-in_ok-right-in-LeftBracket
unfolding turn
turn-returns-in_ok-right-in-LeftBracket t c before read left =
    let s = source_of c.args.self.now in
    let p = lower s c.args.depth in
    let names = c.args.scope.now in
    ok-same (an_expr s) s before c.expr.new.scope c.index.result _ _ (turn-is s p names (view.expr c.args.left.tree) c.args.left.after c.args.next c.args.symbol symbol.LeftBracket (λ n. index_from s names (view.expr c.args.left.tree) (p.expr 0 names n)) c.requires.next c.in-LeftBracket.is refl)
    (c.index.ensures before names read _ left c.in_ok-right-in-LeftBracket.ensures)

pub turn-returns-in_ok-arguments-in-LeftParen : goal.turn-returns-in_ok-arguments-in-LeftParen
unfolding turn
turn-returns-in_ok-arguments-in-LeftParen t c before read left =
    let s = source_of c.args.self.now in
    let p = lower s c.args.depth in
    let names = c.args.scope.now in
    ok-same (an_expr s) s before c.arguments.new.scope c.call.result _ _ (turn-is s p names (view.expr c.args.left.tree) c.args.left.after c.args.next c.args.symbol symbol.LeftParen (λ n. call_from s names (view.expr c.args.left.tree) n (arguments s p names n)) c.requires.next c.in-LeftParen.is refl)
    (c.call.ensures before names read c.args.next _ left c.in_ok-arguments-in-LeftParen.ensures)

pub turn-returns-in-Dot : goal.turn-returns-in-Dot
turn-returns-in-Dot t c before read left =
    let s = source_of c.args.self.now in
    let p = lower s c.args.depth in
    let names = c.args.scope.now in
    ok-same (an_expr s) s before names c.member.result _ _ (selected-is s p names (view.expr c.args.left.tree) c.args.left.after c.args.next c.args.symbol c.requires.next c.in-Dot.is) (c.member.ensures before read left)

pub turn-returns-in-Arrow : goal.turn-returns-in-Arrow
turn-returns-in-Arrow t c before read left =
    let s = source_of c.args.self.now in
    let p = lower s c.args.depth in
    let names = c.args.scope.now in
    ok-same (an_expr s) s before names c.arrow.result _ _ (followed-is s p names (view.expr c.args.left.tree) c.args.left.after c.args.next c.args.symbol c.requires.next c.in-Arrow.is) (c.arrow.ensures before read left)

pub turn-returns-in-Increment : goal.turn-returns-in-Increment
unfolding turn
turn-returns-in-Increment t c before read left =
    let s = source_of c.args.self.now in
    let p = lower s c.args.depth in
    let names = c.args.scope.now in
    ok-same (an_expr s) s before names c.postfix.result _ _ (turn-is s p names (view.expr c.args.left.tree) c.args.left.after c.args.next c.args.symbol symbol.Increment (λ n. checked_expr (tree.postfix (span_of (expr_span (view.expr c.args.left.tree)).first (c.args.left.after + 1)) (view.expr c.args.left.tree) c.args.left.after)) c.requires.next c.in-Increment.is refl)
    (c.postfix.ensures before read left)

pub turn-returns-in_ok-second-in-Question : goal.turn-returns-in_ok-second-in-Question
unfolding turn
turn-returns-in_ok-second-in-Question t c before read left =
    let s = source_of c.args.self.now in
    let p = lower s c.args.depth in
    let names = c.args.scope.now in
    ok-same (an_expr s) s before c.conditional.new.scope c.conditional.result _ _ (turn-is s p names (view.expr c.args.left.tree) c.args.left.after c.args.next c.args.symbol symbol.Question (λ n. conditional_from s p names (view.expr c.args.left.tree) (p.expr 0 names n)) c.requires.next c.in-Question.is refl)
    (c.conditional.ensures before names read _ left c.in_ok-second-in-Question.ensures)

pub turn-returns-in_ok-right-in-Equals : goal.turn-returns-in_ok-right-in-Equals
turn-returns-in_ok-right-in-Equals t c before read left =
    let s = source_of c.args.self.now in
    let p = lower s c.args.depth in
    let names = c.args.scope.now in
    ok-same (an_expr s) s before c.expr-in-Equals.new.scope c.assign.result _ _ (assigned-is s p names (view.expr c.args.left.tree) c.args.left.after c.args.next c.args.symbol c.requires.next c.in-Equals.is)
    (c.assign.ensures before names read _ left c.in_ok-right-in-Equals.ensures)

pub turn-returns-in-Comma : goal.turn-returns-in-Comma
unfolding turn
turn-returns-in-Comma t c before read left =
    let s = source_of c.args.self.now in
    let p = lower s c.args.depth in
    let names = c.args.scope.now in
    ok-same (an_expr s) s before c.comma.new.scope c.comma.result _ _ (turn-is s p names (view.expr c.args.left.tree) c.args.left.after c.args.next c.args.symbol symbol.Comma (λ n. turn s p names (view.expr c.args.left.tree) c.args.left.after separating) c.requires.next c.in-Comma.is refl)
    (c.comma.ensures before read left)

pub turn-returns-in_default : goal.turn-returns-in_default
turn-returns-in_default t c before read left =
    let s = source_of c.args.self.now in
    let p = lower s c.args.depth in
    let names = c.args.scope.now in
    ok-same (an_expr s) s before c.operated.new.scope c.operated.result _ _
    (operated-is s p names (view.expr c.args.left.tree) c.args.left.after c.args.symbol c.in_default.not-LeftBracket c.in_default.not-LeftParen c.in_default.not-Dot c.in_default.not-Arrow c.in_default.not-Increment c.in_default.not-Question c.in_default.not-Equals c.in_default.not-Compound c.in_default.not-Comma)
    (c.operated.ensures before read left)

pub operated-returns-in_default : goal.operated-returns-in_default
operated-returns-in_default t c before read left =
    let s = source_of c.args.self.now in
    let p = lower s c.args.depth in
    let names = c.args.scope.now in
    ap (operated_from p names (view.expr c.args.left.tree) c.args.left.after) (sym c.in_default.ensures)

pub operated-overflow_add-level : goal.operated-overflow_add-level
operated-overflow_add-level t c = let bounds = infix-bounds c.args.symbol c.in-Some.level (sym c.in-Some.ensures) in omega (arith, bounds.1)

pub operated-returns : goal.operated-returns
operated-returns t c before read left =
    let s = source_of c.args.self.now in
    let p = lower s c.args.depth in
    let names = c.args.scope.now in
    ok-same (an_expr s) s before c.expr.new.scope c.binary.result _ _
    (ap (λ n. binary_from (view.expr c.args.left.tree) c.args.left.after (p.expr (c.in-Some.level + 1) names n)) c.requires.next ∙ ap (operated_from p names (view.expr c.args.left.tree) c.args.left.after) c.in-Some.ensures)
    (c.binary.ensures before names read _ left c.in_ok-right.ensures)

pub conditional-returns-in_default : goal.conditional-returns-in_default
conditional-returns-in_default t c before between read wanted first second =
    let s = source_of c.args.self.now in
    let p = lower s c.args.depth in
    let names = c.args.scope.now in
    ap (conditional_from s p between (view.expr c.args.first.tree)) (nothing-of (an_expr s) s between names c.args.second wanted c.in_default.is second)

pub conditional-returns-in_default-behind : goal.conditional-returns-in_default-behind
conditional-returns-in_default-behind t c before between read wanted first second =
    let s = source_of c.args.self.now in
    let p = lower s c.args.depth in
    let names = c.args.scope.now in
    let k = part-of (an_expr s) s between names c.args.second c.in-Some.second wanted c.in-Some.is second in
    no-choice-behind s p between names (view.expr c.args.first.tree) c.in-Some.second wanted k c.in_default-behind.ensures

pub conditional-returns : goal.conditional-returns
conditional-returns t c before between read wanted first second =
    let s = source_of c.args.self.now in
    let p = lower s c.args.depth in
    let names = c.args.scope.now in
    let k = part-of (an_expr s) s between names c.args.second c.in-Some.second wanted c.in-Some.is second in
    ok-same (an_expr s) s before c.expr.new.scope c.choose.result _ _ (choice-behind s p between names (view.expr c.args.first.tree) c.in-Some-behind.next c.in-Some.second wanted k c.in-Some-behind.ensures.0 c.in-Some-behind.ensures.1)
    (c.choose.ensures before between names read wanted _ first k c.in_ok-third.ensures)

pub comma-returns : goal.comma-returns
comma-returns t c before read left =
    let s = source_of c.args.self.now in
    let p = lower s c.args.depth in
    let names = c.args.scope.now in
    let first : ℕ = c.args.left.tree.span.first in
    let begun = begun-is (λ _. an_expr s) (exprs_from s) prepend_expr tree.no_exprs tree.more_exprs (expr-lists s) s 0 before names c.in_ok-parts.parts c.args.left read left c.in_ok-parts.ensures in
    gives-same (an_expr s) s before c.more_exprs.new.scope c.separated.result _ _
    (ap (comma_node first 0) (begun-wanted (λ _. an_expr s) (exprs_from s) prepend_expr tree.no_exprs tree.more_exprs (expr-lists s) 0 c.in_ok-parts.parts c.args.left (λ n. more_exprs s p (all_turns s) names n) c.in_ok-parts.ensures) ∙ comma-read s p before names 0 first c.args.left read _ left refl refl)
    (c.separated.ensures before 0 _ (c.in_ok-parts-2.ensures before 0 _ begun))

pub arguments-returns-then-is : goal.arguments-returns-then-is
arguments-returns-then-is t c =
    let s = source_of c.args.self.now in
    let p = lower s c.args.depth in
    let names = c.args.scope.now in
    none-read (λ _. an_expr s) (exprs_from s) prepend_expr tree.no_exprs tree.more_exprs (expr-lists s) s c.args.at names c.none_yet.result _ c.none_yet.ensures (below-le _ _ (c.symbol.ensures.within (not-end c.symbol.result symbol.RightParen c.is.result c.is.ensures c.if-is.true refl))) (no-arguments s p names c.args.at (seen-is c.symbol.result _ symbol.RightParen c.is.result true c.symbol.ensures.value c.is.ensures c.if-is.true))

pub arguments-returns-in_default : goal.arguments-returns-in_default
arguments-returns-in_default t c =
    let s = source_of c.args.self.now in
    let p = lower s c.args.depth in
    let names = c.args.scope.now in
    no-first-argument s p names c.args.at (seen-is c.symbol.result _ symbol.RightParen c.is.result false c.symbol.ensures.value c.is.ensures c.if-is.false) (nothing-of (an_expr s) s names c.expr.new.scope c.in_ok-first.field-0 _ c.in_default.is c.in_ok-first.ensures)

pub arguments-returns : goal.arguments-returns
arguments-returns t c =
    let s = source_of c.args.self.now in
    let p = lower s c.args.depth in
    let names = c.args.scope.now in
    let k = part-of (an_expr s) s names c.expr.new.scope c.in_ok-first.field-0 c.in-Some.first _ c.in-Some.is c.in_ok-first.ensures in
    ok-same (exprs_from s c.args.at) s names c.more_exprs.new.scope c.more_exprs.result _ _
    (begun-wanted (λ _. an_expr s) (exprs_from s) prepend_expr tree.no_exprs tree.more_exprs (expr-lists s) c.args.at c.in_ok-begun.begun c.in-Some.first (λ n. more_exprs s p (all_turns s) c.expr.new.scope n) c.in_ok-begun.ensures ∙ first-argument s p names c.expr.new.scope c.args.at c.in-Some.first (seen-is c.symbol.result _ symbol.RightParen c.is.result false c.symbol.ensures.value c.is.ensures c.if-is.false) k)
    (c.more_exprs.ensures names c.args.at _ (begun-is (λ _. an_expr s) (exprs_from s) prepend_expr tree.no_exprs tree.more_exprs (expr-lists s) s c.args.at names c.expr.new.scope c.in_ok-begun.begun c.in-Some.first _ k c.in_ok-begun.ensures))

pub parameters-returns-then-is : goal.parameters-returns-then-is
parameters-returns-then-is t c =
    let s = source_of c.args.self.now in
    let p = lower s c.args.depth in
    let names = c.args.scope.now in
    none-read (λ _. a_parameter s) (parameters_from s) prepend_parameter tree.no_parameters tree.more_parameters (parameter-lists s) s c.args.at names c.none_yet.result _ c.none_yet.ensures (below-le _ _ (c.symbol.ensures.within (not-end c.symbol.result symbol.RightParen c.is.result c.is.ensures c.if-is.true refl))) (no-parameters s p names c.args.at (seen-is c.symbol.result _ symbol.RightParen c.is.result true c.symbol.ensures.value c.is.ensures c.if-is.true))

pub parameters-returns-in_default : goal.parameters-returns-in_default
parameters-returns-in_default t c =
    let s = source_of c.args.self.now in
    let p = lower s c.args.depth in
    let names = c.args.scope.now in
    no-first-parameter s p names c.args.at (seen-is c.symbol.result _ symbol.RightParen c.is.result false c.symbol.ensures.value c.is.ensures c.if-is.false) (nothing-of (a_parameter s) s names c.parameter.new.scope c.in_ok-first.field-0 _ c.in_default.is c.in_ok-first.ensures)

pub parameters-returns : goal.parameters-returns
parameters-returns t c =
    let s = source_of c.args.self.now in
    let p = lower s c.args.depth in
    let names = c.args.scope.now in
    let k = part-of (a_parameter s) s names c.parameter.new.scope c.in_ok-first.field-0 c.in-Some.first _ c.in-Some.is c.in_ok-first.ensures in
    ok-same (parameters_from s c.args.at) s names c.more_parameters.new.scope c.more_parameters.result _ _
    (begun-wanted (λ _. a_parameter s) (parameters_from s) prepend_parameter tree.no_parameters tree.more_parameters (parameter-lists s) c.args.at c.in_ok-begun.begun c.in-Some.first (λ n. more_parameters s p (all_turns s) c.parameter.new.scope n) c.in_ok-begun.ensures ∙ first-parameter s p names c.parameter.new.scope c.args.at c.in-Some.first (seen-is c.symbol.result _ symbol.RightParen c.is.result false c.symbol.ensures.value c.is.ensures c.if-is.false) k)
    (c.more_parameters.ensures names c.args.at _ (begun-is (λ _. a_parameter s) (parameters_from s) prepend_parameter tree.no_parameters tree.more_parameters (parameter-lists s) s c.args.at names c.parameter.new.scope c.in_ok-begun.begun c.in-Some.first _ k c.in_ok-begun.ensures))

pub more_exprs-loop-turns-init : goal.more_exprs-loop-turns-init
more_exprs-loop-turns-init t c before start read given =
    let s = source_of c.args.self.now in
    let names = c.args.scope.now in
    begins-with (λ _. an_expr s) (exprs_from s) prepend_expr tree.no_exprs tree.more_exprs (expr-lists s) s start before names c.args.parts read _ _ given refl

pub more_exprs-returns-in_default : goal.more_exprs-returns-in_default
more_exprs-returns-in_default t c before start read given =
    let s = source_of c.args.self.now in
    let p = lower s c.args.depth in
    ends-list (λ _. an_expr s) (exprs_from s) prepend_expr tree.no_exprs tree.more_exprs (expr-lists s) s start before c.loop-turns.scope c.loop-turns.parts _ _ (c.loop-turns.invariant before start read given) (more-exprs-end s p c.loop-turns.turns c.loop-turns.scope c.loop-turns.parts.after c.in_default.ensures)

pub more_exprs-returns-in_default-2 : goal.more_exprs-returns-in_default-2
more_exprs-returns-in_default-2 t c before start read given =
    let s = source_of c.args.self.now in
    let p = lower s c.args.depth in
    stops-list (λ _. an_expr s) (exprs_from s) prepend_expr tree.no_exprs tree.more_exprs (expr-lists s) s start before c.loop-turns.scope c.loop-turns.parts _ _ (c.loop-turns.invariant before start read given)
    (more-exprs-stop s p c.loop-turns.turns c.loop-turns.scope c.loop-turns.parts.after c.in-Some.next c.loop-turns-test.true c.in-Some.ensures.0 c.in-Some.ensures.1 (nothing-of (an_expr s) s c.loop-turns.scope c.expr.new.scope c.in_ok-part.field-0 _ c.in_default-2.is c.in_ok-part.ensures))

pub more_exprs-loop-turns-preserved : goal.more_exprs-loop-turns-preserved
more_exprs-loop-turns-preserved t c before start read given =
    let s = source_of c.args.self.now in
    let p = lower s c.args.depth in
    let k = part-of (an_expr s) s c.loop-turns.scope c.expr.new.scope c.in_ok-part.field-0 c.in-Some-2.part _ c.in-Some-2.is c.in_ok-part.ensures in
    goes-on (λ _. an_expr s) (exprs_from s) prepend_expr tree.no_exprs tree.more_exprs (expr-lists s) s start before c.loop-turns.scope c.expr.new.scope c.loop-turns.parts c.in_ok-parts.parts c.in-Some-2.part _ _ _ _ (c.loop-turns.invariant before start read given) k c.in_ok-parts.ensures
    (more-exprs-next s p c.loop-turns.turns c.loop-turns.scope c.expr.new.scope c.loop-turns.parts.after c.in-Some.next c.in-Some-2.part c.loop-turns-test.true c.in-Some.ensures.0 c.in-Some.ensures.1 k
    ∙ ap (λ n. prepend_expr (view.expr c.in-Some-2.part.tree) (more_exprs s p (c.loop-turns.turns - 1) c.expr.new.scope n)) (sym (same-after c.in_ok-parts.parts _ c.in_ok-parts.ensures)))

pub more_exprs-returns : goal.more_exprs-returns
more_exprs-returns t c before start read given =
    let s = source_of c.args.self.now in
    let p = lower s c.args.depth in
    ends-list (λ _. an_expr s) (exprs_from s) prepend_expr tree.no_exprs tree.more_exprs (expr-lists s) s start before c.loop-turns.scope c.loop-turns.parts _ _ (c.loop-turns.invariant before start read given) (more-exprs-out s p c.loop-turns.turns c.loop-turns.scope c.loop-turns.parts.after (none-left _ c.loop-turns-test.false))

pub more_declarators-loop-turns-init : goal.more_declarators-loop-turns-init
more_declarators-loop-turns-init t c before start read given =
    let s = source_of c.args.self.now in
    let names = c.args.scope.now in
    begins-with (λ _. a_declarator s) (declarators_from s) prepend_declarator tree.no_declarators tree.more_declarators (declarator-lists s) s start before names c.args.declarators read _ _ given refl

pub more_declarators-returns-in_default : goal.more_declarators-returns-in_default
more_declarators-returns-in_default t c before start read given =
    let s = source_of c.args.self.now in
    let p = lower s c.args.depth in
    ends-list (λ _. a_declarator s) (declarators_from s) prepend_declarator tree.no_declarators tree.more_declarators (declarator-lists s) s start before c.loop-turns.scope c.loop-turns.declarators _ _ (c.loop-turns.invariant before start read given) (more-declarators-end s p c.loop-turns.turns c.loop-turns.scope c.loop-turns.declarators.after c.in_default.ensures)

pub more_declarators-returns-in_default-2 : goal.more_declarators-returns-in_default-2
more_declarators-returns-in_default-2 t c before start read given =
    let s = source_of c.args.self.now in
    let p = lower s c.args.depth in
    stops-list (λ _. a_declarator s) (declarators_from s) prepend_declarator tree.no_declarators tree.more_declarators (declarator-lists s) s start before c.loop-turns.scope c.loop-turns.declarators _ _ (c.loop-turns.invariant before start read given)
    (more-declarators-stop s p c.loop-turns.turns c.loop-turns.scope c.loop-turns.declarators.after c.in-Some.next c.loop-turns-test.true c.in-Some.ensures.0 c.in-Some.ensures.1 (nothing-of (a_declarator s) s c.loop-turns.scope c.declarator.new.scope c.in_ok-declarator.field-0 _ c.in_default-2.is c.in_ok-declarator.ensures))

pub more_declarators-loop-turns-preserved : goal.more_declarators-loop-turns-preserved
more_declarators-loop-turns-preserved t c before start read given =
    let s = source_of c.args.self.now in
    let p = lower s c.args.depth in
    let k = part-of (a_declarator s) s c.loop-turns.scope c.declarator.new.scope c.in_ok-declarator.field-0 c.in-Some-2.declarator _ c.in-Some-2.is c.in_ok-declarator.ensures in
    goes-on (λ _. a_declarator s) (declarators_from s) prepend_declarator tree.no_declarators tree.more_declarators (declarator-lists s) s start before c.loop-turns.scope c.declarator.new.scope c.loop-turns.declarators c.in_ok-declarators.declarators c.in-Some-2.declarator _ _ _ _ (c.loop-turns.invariant before start read given) k c.in_ok-declarators.ensures
    (more-declarators-next s p c.loop-turns.turns c.loop-turns.scope c.declarator.new.scope c.loop-turns.declarators.after c.in-Some.next c.in-Some-2.declarator c.loop-turns-test.true c.in-Some.ensures.0 c.in-Some.ensures.1 k
    ∙ ap (λ n. prepend_declarator (view.declarator c.in-Some-2.declarator.tree) (more_declarators s p (c.loop-turns.turns - 1) c.declarator.new.scope n)) (sym (same-after c.in_ok-declarators.declarators _ c.in_ok-declarators.ensures)))

pub more_declarators-returns : goal.more_declarators-returns
more_declarators-returns t c before start read given =
    let s = source_of c.args.self.now in
    let p = lower s c.args.depth in
    ends-list (λ _. a_declarator s) (declarators_from s) prepend_declarator tree.no_declarators tree.more_declarators (declarator-lists s) s start before c.loop-turns.scope c.loop-turns.declarators _ _ (c.loop-turns.invariant before start read given) (more-declarators-out s p c.loop-turns.turns c.loop-turns.scope c.loop-turns.declarators.after (none-left _ c.loop-turns-test.false))

pub more_parameters-loop-turns-init : goal.more_parameters-loop-turns-init
more_parameters-loop-turns-init t c before start read given =
    let s = source_of c.args.self.now in
    let names = c.args.scope.now in
    begins-with (λ _. a_parameter s) (parameters_from s) prepend_parameter tree.no_parameters tree.more_parameters (parameter-lists s) s start before names c.args.parameters read _ _ given refl

pub more_parameters-returns-in_default : goal.more_parameters-returns-in_default
more_parameters-returns-in_default t c before start read given =
    let s = source_of c.args.self.now in
    let p = lower s c.args.depth in
    ends-list (λ _. a_parameter s) (parameters_from s) prepend_parameter tree.no_parameters tree.more_parameters (parameter-lists s) s start before c.loop-turns.scope c.loop-turns.parameters _ _ (c.loop-turns.invariant before start read given) (more-parameters-end s p c.loop-turns.turns c.loop-turns.scope c.loop-turns.parameters.after c.in_default.ensures)

pub more_parameters-returns-in_default-2 : goal.more_parameters-returns-in_default-2
more_parameters-returns-in_default-2 t c before start read given =
    let s = source_of c.args.self.now in
    let p = lower s c.args.depth in
    stops-list (λ _. a_parameter s) (parameters_from s) prepend_parameter tree.no_parameters tree.more_parameters (parameter-lists s) s start before c.loop-turns.scope c.loop-turns.parameters _ _ (c.loop-turns.invariant before start read given)
    (more-parameters-stop s p c.loop-turns.turns c.loop-turns.scope c.loop-turns.parameters.after c.in-Some.next c.loop-turns-test.true c.in-Some.ensures.0 c.in-Some.ensures.1 (nothing-of (a_parameter s) s c.loop-turns.scope c.parameter.new.scope c.in_ok-parameter.field-0 _ c.in_default-2.is c.in_ok-parameter.ensures))

pub more_parameters-loop-turns-preserved : goal.more_parameters-loop-turns-preserved
more_parameters-loop-turns-preserved t c before start read given =
    let s = source_of c.args.self.now in
    let p = lower s c.args.depth in
    let k = part-of (a_parameter s) s c.loop-turns.scope c.parameter.new.scope c.in_ok-parameter.field-0 c.in-Some-2.parameter _ c.in-Some-2.is c.in_ok-parameter.ensures in
    goes-on (λ _. a_parameter s) (parameters_from s) prepend_parameter tree.no_parameters tree.more_parameters (parameter-lists s) s start before c.loop-turns.scope c.parameter.new.scope c.loop-turns.parameters c.in_ok-parameters.parameters c.in-Some-2.parameter _ _ _ _ (c.loop-turns.invariant before start read given) k c.in_ok-parameters.ensures
    (more-parameters-next s p c.loop-turns.turns c.loop-turns.scope c.parameter.new.scope c.loop-turns.parameters.after c.in-Some.next c.in-Some-2.parameter c.loop-turns-test.true c.in-Some.ensures.0 c.in-Some.ensures.1 k
    ∙ ap (λ n. prepend_parameter (view.parameter c.in-Some-2.parameter.tree) (more_parameters s p (c.loop-turns.turns - 1) c.parameter.new.scope n)) (sym (same-after c.in_ok-parameters.parameters _ c.in_ok-parameters.ensures)))

pub more_parameters-returns : goal.more_parameters-returns
more_parameters-returns t c before start read given =
    let s = source_of c.args.self.now in
    let p = lower s c.args.depth in
    ends-list (λ _. a_parameter s) (parameters_from s) prepend_parameter tree.no_parameters tree.more_parameters (parameter-lists s) s start before c.loop-turns.scope c.loop-turns.parameters _ _ (c.loop-turns.invariant before start read given) (more-parameters-out s p c.loop-turns.turns c.loop-turns.scope c.loop-turns.parameters.after (none-left _ c.loop-turns-test.false))

pub more_enumerators-loop-turns-init : goal.more_enumerators-loop-turns-init
more_enumerators-loop-turns-init t c before start read given =
    let s = source_of c.args.self.now in
    let names = c.args.scope.now in
    begins-with (λ _. an_enumerator s) (enumerators_from s) prepend_enumerator tree.no_enumerators tree.more_enumerators (enumerator-lists s) s start before names c.args.enumerators read _ _ given refl

pub more_enumerators-returns-in_default : goal.more_enumerators-returns-in_default
more_enumerators-returns-in_default t c before start read given =
    let s = source_of c.args.self.now in
    let p = lower s c.args.depth in
    ends-list (λ _. an_enumerator s) (enumerators_from s) prepend_enumerator tree.no_enumerators tree.more_enumerators (enumerator-lists s) s start before c.loop-turns.scope c.loop-turns.enumerators _ _ (c.loop-turns.invariant before start read given) (more-enumerators-end s p c.loop-turns.turns c.loop-turns.scope c.loop-turns.enumerators.after c.in_default.ensures)

pub more_enumerators-returns-in_default-2 : goal.more_enumerators-returns-in_default-2
more_enumerators-returns-in_default-2 t c before start read given =
    let s = source_of c.args.self.now in
    let p = lower s c.args.depth in
    stops-list (λ _. an_enumerator s) (enumerators_from s) prepend_enumerator tree.no_enumerators tree.more_enumerators (enumerator-lists s) s start before c.loop-turns.scope c.loop-turns.enumerators _ _ (c.loop-turns.invariant before start read given)
    (more-enumerators-stop s p c.loop-turns.turns c.loop-turns.scope c.loop-turns.enumerators.after c.in-Some.next c.loop-turns-test.true c.in-Some.ensures.0 c.in-Some.ensures.1 (nothing-of (an_enumerator s) s c.loop-turns.scope c.enumerator.new.scope c.in_ok-enumerator.field-0 _ c.in_default-2.is c.in_ok-enumerator.ensures))

pub more_enumerators-loop-turns-preserved : goal.more_enumerators-loop-turns-preserved
more_enumerators-loop-turns-preserved t c before start read given =
    let s = source_of c.args.self.now in
    let p = lower s c.args.depth in
    let k = part-of (an_enumerator s) s c.loop-turns.scope c.enumerator.new.scope c.in_ok-enumerator.field-0 c.in-Some-2.enumerator _ c.in-Some-2.is c.in_ok-enumerator.ensures in
    goes-on (λ _. an_enumerator s) (enumerators_from s) prepend_enumerator tree.no_enumerators tree.more_enumerators (enumerator-lists s) s start before c.loop-turns.scope c.enumerator.new.scope c.loop-turns.enumerators c.in_ok-enumerators.enumerators c.in-Some-2.enumerator _ _ _ _ (c.loop-turns.invariant before start read given) k c.in_ok-enumerators.ensures
    (more-enumerators-next s p c.loop-turns.turns c.loop-turns.scope c.enumerator.new.scope c.loop-turns.enumerators.after c.in-Some.next c.in-Some-2.enumerator c.loop-turns-test.true c.in-Some.ensures.0 c.in-Some.ensures.1 k
    ∙ ap (λ n. prepend_enumerator (view.enum_item c.in-Some-2.enumerator.tree) (more_enumerators s p (c.loop-turns.turns - 1) c.enumerator.new.scope n)) (sym (same-after c.in_ok-enumerators.enumerators _ c.in_ok-enumerators.ensures)))

pub more_enumerators-returns : goal.more_enumerators-returns
more_enumerators-returns t c before start read given =
    let s = source_of c.args.self.now in
    let p = lower s c.args.depth in
    ends-list (λ _. an_enumerator s) (enumerators_from s) prepend_enumerator tree.no_enumerators tree.more_enumerators (enumerator-lists s) s start before c.loop-turns.scope c.loop-turns.enumerators _ _ (c.loop-turns.invariant before start read given) (more-enumerators-out s p c.loop-turns.turns c.loop-turns.scope c.loop-turns.enumerators.after (none-left _ c.loop-turns-test.false))

pub array-returns-in-Some : goal.array-returns-in-Some
array-returns-in-Some t c before start read direct =
    let s = source_of c.args.self.now in
    let p = lower s c.args.depth in
    let names = c.args.scope.now in
    ok-same (a_direct s start) s before names c.open_array.result _ _ (array-open s p names c.args.at (view.direct c.args.direct.tree) c.in-Some.ensures.0) (c.open_array.ensures before start read direct)

pub array-returns : goal.array-returns
array-returns t c before start read direct =
    let s = source_of c.args.self.now in
    let p = lower s c.args.depth in
    let names = c.args.scope.now in
    ok-same (a_direct s start) s before c.expr.new.scope c.sized_array.result _ _ (array-sized s p names c.args.at (view.direct c.args.direct.tree) c.in_default.ensures) (c.sized_array.ensures before names start read _ direct c.in_ok-length.ensures)

pub behind_direct-returns-then-is_array : goal.behind_direct-returns-then-is_array
behind_direct-returns-then-is_array t c before start read direct =
    let s = source_of c.args.self.now in
    let p = lower s c.args.depth in
    let names = c.args.scope.now in
    ok-same (a_direct s start) s before c.array.new.scope c.array.result _ _ (ap (λ b. direct_from s p b names c.args.at (view.direct c.args.direct.tree)) (sym c.if-is_array.true)) (c.array.ensures before start read direct)

pub behind_direct-returns-else-is_array : goal.behind_direct-returns-else-is_array
behind_direct-returns-else-is_array t c before start read direct =
    let s = source_of c.args.self.now in
    let p = lower s c.args.depth in
    let names = c.args.scope.now in
    ok-same (a_direct s start) s before c.function.new.scope c.function.result _ _ (ap (λ b. direct_from s p b names c.args.at (view.direct c.args.direct.tree)) (sym c.if-is_array.false)) (c.function.ensures before start read direct)

pub core-returns-in-Some : goal.core-returns-in-Some
core-returns-in-Some t c =
    let s = source_of c.args.self.now in
    let p = lower s c.args.depth in
    let names = c.args.scope.now in
    subst (λ w. IsPart (a_direct s c.args.at) s names names c.named.result w) (core-name s p (shape_of c.args.shape) names c.args.at c.in-Some.ensures.0) (c.named.ensures s names c.in-Some.ensures.1 c.in-Some.ensures.2)

pub core-returns-in_ok-inner-in-Some-behind_enclosing : goal.core-returns-in_ok-inner-in-Some-behind_enclosing
core-returns-in_ok-inner-in-Some-behind_enclosing t c =
    let s = source_of c.args.self.now in
    let p = lower s c.args.depth in
    let names = c.args.scope.now in
    ok-same (a_direct s c.args.at) s names c.declarator.new.scope c.enclosed_declarator.result _ _ (core-enclosed s p (shape_of c.args.shape) names c.args.at c.in-Some-behind_enclosing.next c.in_default.ensures c.in-Some-behind_enclosing.ensures.0 c.in-Some-behind_enclosing.ensures.1) (c.enclosed_declarator.ensures names c.args.at _ c.in_ok-inner-in-Some-behind_enclosing.ensures)

pub core-returns-in-None : goal.core-returns-in-None
core-returns-in-None t c =
    let s = source_of c.args.self.now in
    let p = lower s c.args.depth in
    let names = c.args.scope.now in
    gives-same (a_direct s c.args.at) s names names c.nothing.result _ _ (core-nothing s p (shape_of c.args.shape) names c.args.at c.in_default.ensures c.in-None.ensures) (c.nothing.ensures s names c.requires)

pub declarator-returns-then-depth-eq0 : goal.declarator-returns-then-depth-eq0
declarator-returns-then-depth-eq0 t c =
    let s = source_of c.args.self.now in
    let names = c.args.scope.now in
    ap (λ (parts : Parts). parts.declarator (shape_of c.args.shape) names c.args.at) (no-depth s c.args.depth c.if-depth-eq0.true)

pub declarator-returns : goal.declarator-returns
declarator-returns t c =
    let s = source_of c.args.self.now in
    let names = c.args.scope.now in
    gives-same (a_declarator s) s names c.suffixed.new.scope c.declarator_node.result _ _
    (declarator-deeper s c.args.depth (shape_of c.args.shape) names c.args.at c.in_ok-pointers.start c.in_ok-pointers.pointers c.if-depth-eq0.false c.in_ok-pointers.ensures.stars c.in_ok-pointers.ensures.behind)
    (c.declarator_node.ensures names _ (subst (λ n. Gives (a_direct s n) s names c.suffixed.new.scope c.in_ok-direct.direct (and_then (suffixed s (lower s (c.args.depth - 1)) names c.in_ok-pointers.start greatest_height) (core s (lower s (c.args.depth - 1)) (shape_of c.args.shape) names c.in_ok-pointers.start))) c.in_ok-pointers.ensures.behind
    (c.in_ok-direct.ensures names c.in_ok-pointers.start _ c.in_ok-core.ensures)))

pub function-returns-in_default : goal.function-returns-in_default
function-returns-in_default t c before start read direct =
    let s = source_of c.args.self.now in
    let p = lower s c.args.depth in
    let names = c.args.scope.now in
    no-function s p names c.args.at (view.direct c.args.direct.tree) (nothing-of (parameters_from s c.args.at) s names c.parameters.new.scope c.in_ok-parameters.field-0 _ c.in_default.is c.in_ok-parameters.ensures)

pub function-returns-in_default-behind : goal.function-returns-in_default-behind
function-returns-in_default-behind t c before start read direct =
    let s = source_of c.args.self.now in
    let p = lower s c.args.depth in
    let names = c.args.scope.now in
    let k = part-of (parameters_from s c.args.at) s names c.parameters.new.scope c.in_ok-parameters.field-0 c.in-Some.parameters _ c.in-Some.is c.in_ok-parameters.ensures in
    function-open s p names c.parameters.new.scope c.args.at (view.direct c.args.direct.tree) c.in-Some.parameters k c.in_default-behind.ensures

pub function-returns : goal.function-returns
function-returns t c before start read direct =
    let s = source_of c.args.self.now in
    let p = lower s c.args.depth in
    let names = c.args.scope.now in
    let k = part-of (parameters_from s c.args.at) s names c.parameters.new.scope c.in_ok-parameters.field-0 c.in-Some.parameters _ c.in-Some.is c.in_ok-parameters.ensures in
    let ended : c.end.new.self ≡ names = scope-ends _ names c.parameters.new.scope c.end.new.self c.len-kept.result k.scoped c.len-kept.ensures c.in_ok-end.ensures in
    ok-same (a_direct s start) s before c.end.new.self c.function_node.result _ _
    (ap (λ ns. function_from s ns c.args.at (view.direct c.args.direct.tree) (parameters_of s p names c.args.at)) ended ∙ function-closed s p names c.args.at (view.direct c.args.direct.tree))
    (c.function_node.ensures before c.parameters.new.scope start c.args.at read (parameters_of s p names c.args.at) (subst (λ ns. IsPart (a_direct s start) s before ns c.args.direct read) (sym ended) direct) c.requires
    (subst (λ ns. IsPart (parameters_from s c.args.at) s ns c.parameters.new.scope c.in-Some.parameters (parameters_of s p names c.args.at)) (sym ended) k) c.in-Some-behind.ensures)

pub suffixed-returns-in_default : goal.suffixed-returns-in_default
suffixed-returns-in_default t c before start wanted given =
    let s = source_of c.args.self.now in
    let p = lower s c.args.depth in
    let names = c.args.scope.now in
    ap (and_then (suffixed s p before start greatest_height)) (nothing-of (a_direct s start) s before names c.args.core wanted c.in_default.is given)

pub suffixed-loop-is_array-init : goal.suffixed-loop-is_array-init
suffixed-loop-is_array-init t c before start wanted given =
    let s = source_of c.args.self.now in
    let p = lower s c.args.depth in
    let names = c.args.scope.now in
    let k = part-of (a_direct s start) s before names c.args.core c.in-Some.direct wanted c.in-Some.is given in
    suffixed-first s p start before names c.in-Some.direct wanted k

pub suffixed-returns-then-turns-eq0 : goal.suffixed-returns-then-turns-eq0
suffixed-returns-then-turns-eq0 t c before start wanted given =
    let s = source_of c.args.self.now in
    let p = lower s c.args.depth in
    suffixed-away s p start before c.loop-is_array.scope c.loop-is_array.direct wanted c.loop-is_array.turns c.in-Some-direct_suffix.is_array (c.loop-is_array.invariant before start wanted given) c.in-Some-direct_suffix.ensures.0 c.in-Some-direct_suffix.ensures.1 c.if-turns-eq0.true

pub suffixed-returns-in_default-2 : goal.suffixed-returns-in_default-2
suffixed-returns-in_default-2 t c before start wanted given =
    let s = source_of c.args.self.now in
    let p = lower s c.args.depth in
    (suffixed-on s p start before c.loop-is_array.scope c.loop-is_array.direct wanted c.loop-is_array.turns c.in-Some-direct_suffix.next c.in-Some-direct_suffix.is_array (c.loop-is_array.invariant before start wanted given) c.in-Some-direct_suffix.ensures.0 c.in-Some-direct_suffix.ensures.1 c.in-Some-direct_suffix.ensures.2 c.if-turns-eq0.false)
    ∙ ap (and_then (suffixed s p before start (c.loop-is_array.turns - 1))) (nothing-of (a_direct s start) s before c.behind_direct.new.scope c.in_ok-grown.field-0 _ c.in_default-2.is (c.in_ok-grown.ensures before start _ (c.loop-is_array.invariant before start wanted given).0))

pub suffixed-loop-is_array-preserved : goal.suffixed-loop-is_array-preserved
suffixed-loop-is_array-preserved t c before start wanted given =
    let s = source_of c.args.self.now in
    let p = lower s c.args.depth in
    suffixed-more s p start before c.behind_direct.new.scope c.in-Some-2.grown wanted _ (c.loop-is_array.turns - 1) (suffixed-on s p start before c.loop-is_array.scope c.loop-is_array.direct wanted c.loop-is_array.turns c.in-Some-direct_suffix.next c.in-Some-direct_suffix.is_array (c.loop-is_array.invariant before start wanted given) c.in-Some-direct_suffix.ensures.0 c.in-Some-direct_suffix.ensures.1 c.in-Some-direct_suffix.ensures.2 c.if-turns-eq0.false)
    (part-of (a_direct s start) s before c.behind_direct.new.scope c.in_ok-grown.field-0 c.in-Some-2.grown _ c.in-Some-2.is (c.in_ok-grown.ensures before start _ (c.loop-is_array.invariant before start wanted given).0))

pub suffixed-returns : goal.suffixed-returns
suffixed-returns t c before start wanted given =
    let s = source_of c.args.self.now in
    let p = lower s c.args.depth in
    suffixed-to s p start before c.loop-is_array.scope c.loop-is_array.direct wanted c.loop-is_array.turns (c.loop-is_array.invariant before start wanted given) c.in_default-direct_suffix.ensures.0 c.in_default-direct_suffix.ensures.1

pub parameter-returns-in_default : goal.parameter-returns-in_default
parameter-returns-in_default t c =
    let s = source_of c.args.self.now in
    let p = lower s c.args.depth in
    let names = c.args.scope.now in
    no-parameter s p names c.args.at (nothing-of (the_specifiers s) s names c.specifiers.new.scope c.in_ok-specifiers.field-0 _ c.in_default.is c.in_ok-specifiers.ensures)

pub parameter-returns : goal.parameter-returns
parameter-returns t c =
    let s = source_of c.args.self.now in
    let p = lower s c.args.depth in
    let names = c.args.scope.now in
    let k = part-of (the_specifiers s) s names c.specifiers.new.scope c.in_ok-specifiers.field-0 c.in-Some.specifiers _ c.in-Some.is c.in_ok-specifiers.ensures in
    ok-same (a_parameter s) s names c.parameter_node.new.scope c.parameter_node.result _ _ (parameter-behind s p names c.specifiers.new.scope c.args.at c.in-Some.specifiers k) (c.parameter_node.ensures names c.specifiers.new.scope _ _ k c.in_ok-declarator.ensures)

pub type_name-returns-in_default : goal.type_name-returns-in_default
type_name-returns-in_default t c =
    let s = source_of c.args.self.now in
    let p = lower s c.args.depth in
    let names = c.args.scope.now in
    no-name s p names c.args.at (nothing-of (the_specifiers s) s names c.specifiers.new.scope c.in_ok-specifiers.field-0 _ c.in_default.is c.in_ok-specifiers.ensures)

pub type_name-returns : goal.type_name-returns
type_name-returns t c =
    let s = source_of c.args.self.now in
    let p = lower s c.args.depth in
    let names = c.args.scope.now in
    let k = part-of (the_specifiers s) s names c.specifiers.new.scope c.in_ok-specifiers.field-0 c.in-Some.specifiers _ c.in-Some.is c.in_ok-specifiers.ensures in
    gives-same (a_type_name s) s names c.declarator.new.scope c.name_node.result _ _ (name-behind s p names c.specifiers.new.scope c.args.at c.in-Some.specifiers k) (c.name_node.ensures names c.specifiers.new.scope _ _ k c.in_ok-declarator.ensures)

pub specifiers-returns-then-depth-eq0 : goal.specifiers-returns-then-depth-eq0
specifiers-returns-then-depth-eq0 t c =
    let s = source_of c.args.self.now in
    let names = c.args.scope.now in
    ap (λ (parts : Parts). parts.specifiers names c.args.at) (no-depth s c.args.depth c.if-depth-eq0.true)

pub specifiers-returns-in_ok-words : goal.specifiers-returns-in_ok-words
specifiers-returns-in_ok-words t c =
    let s = source_of c.args.self.now in
    let names = c.args.scope.now in
    gives-same (the_specifiers s) s names c.words.new.scope c.specifiers_node.result _ _ (specifiers-deeper s c.args.depth names c.args.at c.if-depth-eq0.false) (c.specifiers_node.ensures names _ c.in_ok-words.ensures)

pub specifiers-returns-else-begins_specifiers : goal.specifiers-returns-else-begins_specifiers
specifiers-returns-else-begins_specifiers t c =
    let s = source_of c.args.self.now in
    let names = c.args.scope.now in
    no-specifiers s c.args.depth names c.args.at (seen-begins c.symbol.result _ c.begins_specifiers.result false c.symbol.ensures.value c.begins_specifiers.ensures c.if-begins_specifiers.false)

pub words-loop-types-init : goal.words-loop-types-init
words-loop-types-init t c =
    let s = source_of c.args.self.now in
    let p = lower s c.args.depth in
    let names = c.args.scope.now in
    begins-with-none (a_specifier s) (words_from s) prepend_word tree.no_words tree.more_words (word-lists s) s c.args.at names c.none_yet-words.result _ _ c.none_yet-words.ensures c.requires (ap (λ n. words_of s p (all_turns s) names n no_type) (sym (same-after c.none_yet-words.result _ c.none_yet-words.ensures)))

pub words-returns-then-turns-eq0 : goal.words-returns-then-turns-eq0
words-returns-then-turns-eq0 t c =
    let s = source_of c.args.self.now in
    let p = lower s c.args.depth in
    let names = c.args.scope.now in
    stops-list (a_specifier s) (words_from s) prepend_word tree.no_words tree.more_words (word-lists s) s c.args.at names c.loop-types.scope c.loop-types.words _ _ c.loop-types.invariant (words-away s p c.loop-types.turns c.loop-types.scope c.loop-types.words.after (types_of c.loop-types.types) (ap (λ it. is_one_more (types_of c.loop-types.types) (word_kind it)) (sym c.symbol.ensures.value) ∙ sym c.takes.ensures ∙ c.loop-types-test.true) c.if-turns-eq0.true)

pub words-returns-in_default : goal.words-returns-in_default
words-returns-in_default t c =
    let s = source_of c.args.self.now in
    let p = lower s c.args.depth in
    let names = c.args.scope.now in
    stops-list (a_specifier s) (words_from s) prepend_word tree.no_words tree.more_words (word-lists s) s c.args.at names c.loop-types.scope c.loop-types.words _ _ c.loop-types.invariant
    (words-stop s p c.loop-types.turns c.loop-types.scope c.loop-types.words.after (types_of c.loop-types.types) c.if-turns-eq0.false (ap (λ it. is_one_more (types_of c.loop-types.types) (word_kind it)) (sym c.symbol.ensures.value) ∙ sym c.takes.ensures ∙ c.loop-types-test.true) (nothing-of (a_specifier s c.loop-types.words.after) s c.loop-types.scope c.specifier.new.scope c.in_ok-word.field-0 _ c.in_default.is c.in_ok-word.ensures))

pub words-loop-types-preserved : goal.words-loop-types-preserved
words-loop-types-preserved t c =
    let s = source_of c.args.self.now in
    let p = lower s c.args.depth in
    let names = c.args.scope.now in
    let k = part-of (a_specifier s c.loop-types.words.after) s c.loop-types.scope c.specifier.new.scope c.in_ok-word.field-0 c.in-Some.word _ c.in-Some.is c.in_ok-word.ensures in
    goes-on (a_specifier s) (words_from s) prepend_word tree.no_words tree.more_words (word-lists s) s c.args.at names c.loop-types.scope c.specifier.new.scope c.loop-types.words c.in_ok-words.words c.in-Some.word _ _ _ _ c.loop-types.invariant k c.in_ok-words.ensures
    (words-next s p c.loop-types.turns c.loop-types.scope c.specifier.new.scope c.loop-types.words.after (types_of c.loop-types.types) (types_of c.types_behind-types.result) c.in-Some.word c.if-turns-eq0.false (ap (λ it. is_one_more (types_of c.loop-types.types) (word_kind it)) (sym c.symbol.ensures.value) ∙ sym c.takes.ensures ∙ c.loop-types-test.true) k c.types_behind-types.ensures
    ∙ ap (λ n. prepend_word (view.specifier c.in-Some.word.tree) (words_of s p (c.loop-types.turns - 1) c.specifier.new.scope n (types_of c.types_behind-types.result))) (sym (same-after c.in_ok-words.words _ c.in_ok-words.ensures)))

pub words-returns : goal.words-returns
words-returns t c =
    let s = source_of c.args.self.now in
    let p = lower s c.args.depth in
    let names = c.args.scope.now in
    ends-list (a_specifier s) (words_from s) prepend_word tree.no_words tree.more_words (word-lists s) s c.args.at names c.loop-types.scope c.loop-types.words _ _ c.loop-types.invariant (words-end s p c.loop-types.turns c.loop-types.scope c.loop-types.words.after (types_of c.loop-types.types) (ap (λ it. is_one_more (types_of c.loop-types.types) (word_kind it)) (sym c.symbol.ensures.value) ∙ sym c.takes.ensures ∙ c.loop-types-test.false))

pub specifier-returns-in-Const : goal.specifier-returns-in-Const
specifier-returns-in-Const t c =
    let s = source_of c.args.self.now in
    let p = lower s c.args.depth in
    let names = c.args.scope.now in
    keyword-read s names c.args.at c.word.result _ c.word.ensures (c.symbol.ensures.within (keyword-there c.symbol.result c.in-Const.is)) (sym (specifier-is s p names c.args.at c.symbol.result _ c.symbol.ensures.value (keyword-kind c.symbol.result c.in-Const.is s p names c.args.at)))

pub specifier-returns-in-TypedefName : goal.specifier-returns-in-TypedefName
unfolding specifier_of
specifier-returns-in-TypedefName t c =
    let s = source_of c.args.self.now in
    let p = lower s c.args.depth in
    let names = c.args.scope.now in
    typedef-read s names c.args.at c.word-in-TypedefName.result _ c.word-in-TypedefName.ensures (c.in-TypedefName.ensures.within (not-the-end symbol.TypedefName refl)) (sym (specifier-is s p names c.args.at symbol.TypedefName _ c.in-TypedefName.ensures.value refl))

pub specifier-returns-in-Struct : goal.specifier-returns-in-Struct
unfolding specifier_of
specifier-returns-in-Struct t c =
    let s = source_of c.args.self.now in
    let p = lower s c.args.depth in
    let names = c.args.scope.now in
    ok-same (a_specifier s c.args.at) s names c.structure.new.scope c.structure.result _ _ (specifier-is s p names c.args.at symbol.Struct _ c.in-Struct.ensures.value refl) c.structure.ensures

pub specifier-returns-in-Enum : goal.specifier-returns-in-Enum
unfolding specifier_of
specifier-returns-in-Enum t c =
    let s = source_of c.args.self.now in
    let p = lower s c.args.depth in
    let names = c.args.scope.now in
    ok-same (a_specifier s c.args.at) s names c.enumeration.new.scope c.enumeration.result _ _ (specifier-is s p names c.args.at symbol.Enum _ c.in-Enum.ensures.value refl) c.enumeration.ensures

pub specifier-returns-in_default : goal.specifier-returns-in_default
unfolding specifier_of
specifier-returns-in_default t c =
    let s = source_of c.args.self.now in
    let p = lower s c.args.depth in
    let names = c.args.scope.now in
    sym (specifier-is s p names c.args.at c.symbol.result _ c.symbol.ensures.value (sym (ap (specifier_of s p names c.args.at)
    (no-word-kind c.symbol.result c.in_default.not-Const c.in_default.not-Typedef c.in_default.not-Storage c.in_default.not-TypeWord c.in_default.not-TypedefName c.in_default.not-Struct c.in_default.not-Enum))))

pub structure-returns-in_default : goal.structure-returns-in_default
structure-returns-in_default t c =
    let s = source_of c.args.self.now in
    let p = lower s c.args.depth in
    let names = c.args.scope.now in
    gives-same (a_specifier s c.args.at) s names names c.tagged_struct.result _ _ (struct-alone s p names c.args.at c.tag-tag.result.1 c.tag-tag.result.0 c.tag-tag.ensures.tag c.tag-tag.ensures.behind c.in_default.ensures) (c.tagged_struct.ensures s names c.tag-tag.ensures.behind c.tag-tag.ensures.within)

pub structure-returns : goal.structure-returns
structure-returns t c =
    let s = source_of c.args.self.now in
    let p = lower s c.args.depth in
    let names = c.args.scope.now in
    gives-same (a_specifier s c.args.at) s names c.members.new.scope c.struct_node.result _ _ (struct-inside s p names c.args.at c.tag-tag.result.1 c.in-Some.inside c.tag-tag.result.0 c.tag-tag.ensures.tag c.tag-tag.ensures.behind c.in-Some.ensures.0 c.in-Some.ensures.1)
    (c.struct_node.ensures names c.in-Some.inside _ c.in_ok-members.ensures (members-closed s p (all_turns s) names c.in-Some.inside))

pub members-loop-turns-init : goal.members-loop-turns-init
members-loop-turns-init t c =
    let s = source_of c.args.self.now in
    let p = lower s c.args.depth in
    let names = c.args.scope.now in
    begins-with-none (λ _. a_member s) (members_from s) prepend_member tree.no_members tree.more_members (member-lists s) s c.args.at names c.none_yet-members.result _ _ c.none_yet-members.ensures c.requires (ap (members_of s p (all_turns s) names) (sym (same-after c.none_yet-members.result _ c.none_yet-members.ensures)))

pub members-returns-then-is : goal.members-returns-then-is
members-returns-then-is t c =
    let s = source_of c.args.self.now in
    let p = lower s c.args.depth in
    let names = c.args.scope.now in
    ends-list (λ _. a_member s) (members_from s) prepend_member tree.no_members tree.more_members (member-lists s) s c.args.at names c.loop-turns.scope c.loop-turns.members _ _ c.loop-turns.invariant (members-end s p c.loop-turns.turns c.loop-turns.scope c.loop-turns.members.after c.loop-turns-test.true (seen-is c.symbol.result _ symbol.RightBrace c.is.result true c.symbol.ensures.value c.is.ensures c.if-is.true))

pub members-returns-in_default : goal.members-returns-in_default
members-returns-in_default t c =
    let s = source_of c.args.self.now in
    let p = lower s c.args.depth in
    let names = c.args.scope.now in
    stops-list (λ _. a_member s) (members_from s) prepend_member tree.no_members tree.more_members (member-lists s) s c.args.at names c.loop-turns.scope c.loop-turns.members _ _ c.loop-turns.invariant
    (members-stop s p c.loop-turns.turns c.loop-turns.scope c.loop-turns.members.after c.loop-turns-test.true (seen-is c.symbol.result _ symbol.RightBrace c.is.result false c.symbol.ensures.value c.is.ensures c.if-is.false) (nothing-of (a_member s) s c.loop-turns.scope c.member_at.new.scope c.in_ok-member.field-0 _ c.in_default.is c.in_ok-member.ensures))

pub members-loop-turns-preserved : goal.members-loop-turns-preserved
members-loop-turns-preserved t c =
    let s = source_of c.args.self.now in
    let p = lower s c.args.depth in
    let names = c.args.scope.now in
    let k = part-of (a_member s) s c.loop-turns.scope c.member_at.new.scope c.in_ok-member.field-0 c.in-Some.member _ c.in-Some.is c.in_ok-member.ensures in
    goes-on (λ _. a_member s) (members_from s) prepend_member tree.no_members tree.more_members (member-lists s) s c.args.at names c.loop-turns.scope c.member_at.new.scope c.loop-turns.members c.in_ok-members.members c.in-Some.member _ _ _ _ c.loop-turns.invariant k c.in_ok-members.ensures
    (members-next s p c.loop-turns.turns c.loop-turns.scope c.member_at.new.scope c.loop-turns.members.after c.in-Some.member c.loop-turns-test.true (seen-is c.symbol.result _ symbol.RightBrace c.is.result false c.symbol.ensures.value c.is.ensures c.if-is.false) k
    ∙ ap (λ n. prepend_member (view.member_form c.in-Some.member.tree) (members_of s p (c.loop-turns.turns - 1) c.member_at.new.scope n)) (sym (same-after c.in_ok-members.members _ c.in_ok-members.ensures)))

pub members-returns : goal.members-returns
members-returns t c =
    let s = source_of c.args.self.now in
    let p = lower s c.args.depth in
    let names = c.args.scope.now in
    stops-list (λ _. a_member s) (members_from s) prepend_member tree.no_members tree.more_members (member-lists s) s c.args.at names c.loop-turns.scope c.loop-turns.members _ _ c.loop-turns.invariant (members-away s p c.loop-turns.turns c.loop-turns.scope c.loop-turns.members.after (none-left _ c.loop-turns-test.false))

pub member_at-returns-in_default : goal.member_at-returns-in_default
member_at-returns-in_default t c =
    let s = source_of c.args.self.now in
    let p = lower s c.args.depth in
    let names = c.args.scope.now in
    no-member s p names c.args.at (nothing-of (the_specifiers s) s names c.specifiers.new.scope c.in_ok-specifiers.field-0 _ c.in_default.is c.in_ok-specifiers.ensures)

pub member_at-returns-in_default-2 : goal.member_at-returns-in_default-2
member_at-returns-in_default-2 t c =
    let s = source_of c.args.self.now in
    let p = lower s c.args.depth in
    let names = c.args.scope.now in
    let k = part-of (the_specifiers s) s names c.specifiers.new.scope c.in_ok-specifiers.field-0 c.in-Some.specifiers _ c.in-Some.is c.in_ok-specifiers.ensures in
    no-member-declarator s p names c.specifiers.new.scope c.args.at c.in-Some.specifiers k (nothing-of (a_declarator s) s c.specifiers.new.scope c.declarator.new.scope c.in_ok-first.field-0 _ c.in_default-2.is c.in_ok-first.ensures)

pub member_at-returns : goal.member_at-returns
member_at-returns t c =
    let s = source_of c.args.self.now in
    let p = lower s c.args.depth in
    let names = c.args.scope.now in
    let k = part-of (the_specifiers s) s names c.specifiers.new.scope c.in_ok-specifiers.field-0 c.in-Some.specifiers _ c.in-Some.is c.in_ok-specifiers.ensures in
    let d = part-of (a_declarator s) s c.specifiers.new.scope c.declarator.new.scope c.in_ok-first.field-0 c.in-Some-2.first _ c.in-Some-2.is c.in_ok-first.ensures in
    let begun = begun-is (λ _. a_declarator s) (declarators_from s) prepend_declarator tree.no_declarators tree.more_declarators (declarator-lists s) s c.in-Some.specifiers.after c.specifiers.new.scope c.declarator.new.scope c.in_ok-first-2.first c.in-Some-2.first _ d c.in_ok-first-2.ensures in
    let head : tree.Declarator = view.declarator c.in-Some-2.first.tree in
    let others = more_declarators s p (all_turns s) c.declarator.new.scope c.in-Some-2.first.after in
    gives-same (a_member s) s names c.more_declarators.new.scope c.member_node.result _ _
    (ap (λ ns. member_with s ns c.args.at (view.specifiers c.in-Some.specifiers.tree) head others) (sym d.scoped) ∙ sym (member-declarators s p names c.specifiers.new.scope c.declarator.new.scope c.args.at c.in-Some.specifiers c.in-Some-2.first k d))
    (c.member_node.ensures names c.specifiers.new.scope _ c.in-Some.specifiers.after head others k
    (gives-same (declarators_from s c.in-Some.specifiers.after) s c.specifiers.new.scope c.more_declarators.new.scope c.in_ok-declarators.declarators _ _
    (begun-wanted (λ _. a_declarator s) (declarators_from s) prepend_declarator tree.no_declarators tree.more_declarators (declarator-lists s) c.in-Some.specifiers.after c.in_ok-first-2.first c.in-Some-2.first (λ n. more_declarators s p (all_turns s) c.declarator.new.scope n) c.in_ok-first-2.ensures)
    (c.in_ok-declarators.ensures c.specifiers.new.scope c.in-Some.specifiers.after _ begun)))

pub enumeration-returns-in_default : goal.enumeration-returns-in_default
enumeration-returns-in_default t c =
    let s = source_of c.args.self.now in
    let p = lower s c.args.depth in
    let names = c.args.scope.now in
    gives-same (a_specifier s c.args.at) s names names c.tagged_enum.result _ _ (enum-alone s p names c.args.at c.tag-tag.result.1 c.tag-tag.result.0 c.tag-tag.ensures.tag c.tag-tag.ensures.behind c.in_default.ensures) (c.tagged_enum.ensures s names c.tag-tag.ensures.behind c.tag-tag.ensures.within)

pub enumeration-returns-in_default-2 : goal.enumeration-returns-in_default-2
enumeration-returns-in_default-2 t c =
    let s = source_of c.args.self.now in
    let p = lower s c.args.depth in
    let names = c.args.scope.now in
    no-enumerators s p names c.args.at c.tag-tag.result.1 c.in-Some.inside c.tag-tag.result.0 c.tag-tag.ensures.tag c.tag-tag.ensures.behind c.in-Some.ensures.0 c.in-Some.ensures.1 (nothing-of (an_enumerator s) s names c.enumerator.new.scope c.in_ok-first.field-0 _ c.in_default-2.is c.in_ok-first.ensures)

pub enumeration-returns : goal.enumeration-returns
enumeration-returns t c =
    let s = source_of c.args.self.now in
    let p = lower s c.args.depth in
    let names = c.args.scope.now in
    let k = part-of (an_enumerator s) s names c.enumerator.new.scope c.in_ok-first.field-0 c.in-Some-2.first _ c.in-Some-2.is c.in_ok-first.ensures in
    let begun = begun-is (λ _. an_enumerator s) (enumerators_from s) prepend_enumerator tree.no_enumerators tree.more_enumerators (enumerator-lists s) s c.in-Some.inside names c.enumerator.new.scope c.in_ok-first-2.first c.in-Some-2.first _ k c.in_ok-first-2.ensures in
    let head : tree.Enumerator = view.enum_item c.in-Some-2.first.tree in
    let others = more_enumerators s p (all_turns s) c.enumerator.new.scope c.in-Some-2.first.after in
    gives-same (a_specifier s c.args.at) s names c.more_enumerators.new.scope c.enum_node.result _ _
    (ap (λ ns. enum_with s ns c.args.at c.tag-tag.result.0 head others) (sym k.scoped) ∙ sym (enumerators-behind s p names c.enumerator.new.scope c.args.at c.tag-tag.result.1 c.in-Some.inside c.tag-tag.result.0 c.in-Some-2.first c.tag-tag.ensures.tag c.tag-tag.ensures.behind c.in-Some.ensures.0 c.in-Some.ensures.1 k))
    (c.enum_node.ensures names c.in-Some.inside head others
    (gives-same (enumerators_from s c.in-Some.inside) s names c.more_enumerators.new.scope c.in_ok-enumerators.enumerators _ _
    (begun-wanted (λ _. an_enumerator s) (enumerators_from s) prepend_enumerator tree.no_enumerators tree.more_enumerators (enumerator-lists s) c.in-Some.inside c.in_ok-first-2.first c.in-Some-2.first (λ n. more_enumerators s p (all_turns s) c.enumerator.new.scope n) c.in_ok-first-2.ensures)
    (c.in_ok-enumerators.ensures names c.in-Some.inside _ begun)))

pub enumerator-returns-in_default : goal.enumerator-returns-in_default
enumerator-returns-in_default t c =
    let s = source_of c.args.self.now in
    let p = lower s c.args.depth in
    let names = c.args.scope.now in
    no-enumerator s p names c.args.at c.in_default.ensures

pub enumerator-returns-in_default-behind : goal.enumerator-returns-in_default-behind
enumerator-returns-in_default-behind t c =
    let s = source_of c.args.self.now in
    let p = lower s c.args.depth in
    let names = c.args.scope.now in
    subst (λ w. IsPart (an_enumerator s) s names c.bare_enumerator.new.scope c.in_ok-bare_enumerator.field-0 w) (bare-enumerator s p names c.args.at c.in-Some.behind c.in-Some.ensures.0 c.in-Some.ensures.1 c.in_default-behind.ensures) c.in_ok-bare_enumerator.ensures

pub enumerator-returns : goal.enumerator-returns
enumerator-returns t c =
    let s = source_of c.args.self.now in
    let p = lower s c.args.depth in
    let names = c.args.scope.now in
    ok-same (an_enumerator s) s names c.valued_enumerator.new.scope c.valued_enumerator.result _ _ (valued-enumerator s p names c.args.at c.in-Some.behind c.in-Some-behind.next c.in-Some.ensures.0 c.in-Some.ensures.1 c.in-Some-behind.ensures.0 c.in-Some-behind.ensures.1) (c.valued_enumerator.ensures names _ c.in_ok-value.ensures)

pub type_name-declarator-requires : goal.type_name-declarator-requires
type_name-declarator-requires t c =
    let s = source_of c.args.self.now in
    let names = c.args.scope.now in
    (omega arith, (part-of (the_specifiers s) s names c.specifiers.new.scope c.in_ok-specifiers.field-0 c.in-Some.specifiers _ c.in-Some.is c.in_ok-specifiers.ensures).within)

pub parameter-declarator-requires : goal.parameter-declarator-requires
parameter-declarator-requires t c =
    let s = source_of c.args.self.now in
    let names = c.args.scope.now in
    (omega arith, (part-of (the_specifiers s) s names c.specifiers.new.scope c.in_ok-specifiers.field-0 c.in-Some.specifiers _ c.in-Some.is c.in_ok-specifiers.ensures).within)

pub member_at-declarator-requires : goal.member_at-declarator-requires
member_at-declarator-requires t c =
    let s = source_of c.args.self.now in
    let names = c.args.scope.now in
    (omega arith, (part-of (the_specifiers s) s names c.specifiers.new.scope c.in_ok-specifiers.field-0 c.in-Some.specifiers _ c.in-Some.is c.in_ok-specifiers.ensures).within)

pub more_declarators-declarator-requires : goal.more_declarators-declarator-requires
more_declarators-declarator-requires t c =
    (omega arith, c.in-Some.ensures.2)

pub core-declarator-requires : goal.core-declarator-requires
core-declarator-requires t c =
    (omega arith, c.in-Some-behind_enclosing.ensures.2)

pub declarator-core-requires : goal.declarator-core-requires
declarator-core-requires t c =
    (omega arith, c.in_ok-pointers.ensures.within c.requires)

pub structure-members-requires : goal.structure-members-requires
structure-members-requires t c =
    (omega arith, c.in-Some.ensures.2)

pub specifiers-words-requires : goal.specifiers-words-requires
specifiers-words-requires t c =
    (omega arith, below-le _ _ (c.symbol.ensures.within (begins-there c.symbol.result c.begins_specifiers.result c.begins_specifiers.ensures c.if-begins_specifiers.true)))

pub suffixed-behind_direct-requires : goal.suffixed-behind_direct-requires
suffixed-behind_direct-requires t c =
    (omega arith, c.in-Some-direct_suffix.ensures.2)
