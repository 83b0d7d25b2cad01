-- What is read is well formed, where what reads its parts gives well-formed parts.
use Rattle.std.proofs.Common.{◌≡◌, ℕ, zero, suc, ◌+◌, ◌≤◌, Bool, true, false, ◌&&◌, ◌⊎◌, inl, inr, ⊎_elim, List, ◌++◌, Option, Some, None, unwrap_or, refl, sym, ap, ◌∙◌, subst, arith, length, nat_le, if◌then◌else◌}
use Rattle.dm_token.specs.Limits.{greatest_height}
use Rattle.dm_syn.specs.declared.declared.Declared.{Declared}
use Rattle.dm_syn.specs.declared.symbol.Symbol.{Symbol}
use Rattle.dm_syn.specs.declared.symbol.Symbol.TheVariants as symbol
use Rattle.dm_syn.specs.Symbols.{infix_level, is, begins_specifiers}
use Rattle.dm_syn.specs.Sources.{Source, symbol_at, symbol_in}
use Rattle.dm_syn.specs.Trees.{Expr, Exprs, TypeName, Specifiers, Declarator}
use Rattle.dm_syn.specs.Trees as tree
use Rattle.dm_syn.specs.Spans.{expr_span, exprs_after, type_name_span, specifiers_span, declarator_span}
use Rattle.dm_syn.specs.Scopes.{declarator_name, expr_declares, type_name_declares, specifiers_declares}
use Rattle.dm_syn.specs.Grammar.{level, operator_level, prefix_level, is_assignment, IsExpr, AreArguments, AreMoreExprs, IsTypeName, IsSpecifiers, IsDeclarator}
use Rattle.dm_pexpr.specs.Parsing.{Parts, Shape, abstract, span_of, checked, where_true, more_exprs, more_from, prepend_expr, all_turns, arguments, type_name_of, type_name_from, type_name_with, paren_from, cast_from, cast_with, sizeof_name_from, sizeof_expr_from, prefix_from, Front, a_name, a_constant, a_literal, enclosing, measuring, prefixing, no_front, front_kind, front_of, Suffix, indexing, calling, selecting, following, counting, operating, choosing, assigning, separating, no_suffix, goes_on, index_from, call_from, binary_from, assign_from, conditional_from, conditional_with, comma_from, turn, and_then, suffix_behind, grown, grown_from, expr_of}
use Rattle.dm_pexpr.proofs.Declarators.{of_a_parameter, HasShape}
use Rattle.dm_pexpr.proofs.SymbolTests.{is-it, FrontIs, front-is, SuffixIs, suffix-is, infix-at, assignment-at}

-- what is given is well formed where it stands
pub record GivesFormed (source : Source) (parts : Parts) : Type 0 where
  pub expr : (least : ℕ) (names : List Declared) (at : ℕ) (it : Expr) → parts.expr least names at ≡ Some it
      → IsExpr source names it × ((expr_span it).first ≡ at) × (least ≤ level source it)
  pub specifiers : (names : List Declared) (at : ℕ) (it : Specifiers) → parts.specifiers names at ≡ Some it
      → IsSpecifiers source names it × ((specifiers_span it).first ≡ at)
  pub declarator : (shape : Shape) (names : List Declared) (at : ℕ) (it : Declarator) → parts.declarator shape names at ≡ Some it
      → IsDeclarator source names (of_a_parameter shape) it × ((declarator_span it).first ≡ at) × HasShape shape (declarator_name it)

pub inside : {A : Type 0} (a b : A) → Some a ≡ Some b → a ≡ b
inside a b h = cc

pub where-some : {A : Type 0} (test : Bool) (found : Option A) (it : A) → where_true test found ≡ Some it → (test ≡ true) × (found ≡ Some it)
where-some true found it h = (refl, h)
where-some false found it h = absurd (cc)

if-some : {A : Type 0} (test : Bool) (one it : A) → (if test then Some one else None) ≡ Some it → one ≡ it
if-some true one it h = cc
if-some false one it h = absurd (cc)

pub checked-some : {A : Type 0} (height : ℕ) (one it : A) → checked height one ≡ Some it → one ≡ it
checked-some height one it h = if-some (nat_le height greatest_height) one it h

pub branch : {A : Type 0} (test : Bool) (one other : Option A) (it : A) → (if test then one else other) ≡ Some it → ((test ≡ true) × (one ≡ Some it)) ⊎ ((test ≡ false) × (other ≡ Some it))
branch true one other it h = inl (refl, h)
branch false one other it h = inr (refl, h)

pub both-hold : (one other : Bool) → (one && other) ≡ true → (one ≡ true) × (other ≡ true)
both-hold true other h = (refl, h)
both-hold false other h = absurd (cc)

pub le-from : (m n : ℕ) → nat_le m n ≡ true → m ≤ n
le-from m n e = grind arith

both-from : (a b c d : ℕ) → (nat_le a b && nat_le c d) ≡ true → (a ≤ b) × (c ≤ d)
both-from a b c d h = let both = both-hold (nat_le a b) (nat_le c d) h in (le-from a b both.0, le-from c d both.1)

module _ (source : Source) (parts : Parts) (formed : GivesFormed source parts) where
  -- an expression that stands at a place
  Stands : List Declared → ℕ → Expr → Type 0
  Stands names at it = IsExpr source names it × ((expr_span it).first ≡ at)

  -- what is read in front of others
  prepended : (first : Expr) (rest : Option Exprs) (it : Exprs) → prepend_expr first rest ≡ Some it → (others : Exprs) × (rest ≡ Some others) × (tree.more_exprs first others ≡ it)
  prepended first None it h = absurd (cc)
  prepended first (Some others) it h = (others, refl, inside _ _ h)

  taken : (others : Expr → Option Exprs) (found : Option Expr) (it : Exprs) → more_from others found ≡ Some it
      → (first : Expr) × (found ≡ Some first) × (rest : Exprs) × (others first ≡ Some rest) × (tree.more_exprs first rest ≡ it)
  taken others None it h = absurd (cc)
  taken others (Some first) it h = let rest = prepended first (others first) it h in (first, refl, rest.0, rest.1, rest.2)

  -- expressions with a comma before each
  more-formed : (turns : ℕ) (names : List Declared) (at : ℕ) (it : Exprs) → more_exprs source parts turns names at ≡ Some it → AreMoreExprs source names at it
  unfolding more_exprs AreMoreExprs
  more-formed zero names at it h = subst (AreMoreExprs source names at) (inside _ _ h) tt
  more-formed (suc turns) names at it h =
      ⊎_elim
      (λ goes.
      let all = taken (λ first. more_exprs source parts turns (expr_declares source first ++ names) (expr_span first).after) (parts.expr 1 names (at + 1)) it goes.1 in
      let one = formed.expr 1 names (at + 1) all.0 all.1 in
      subst (AreMoreExprs source names at) all.4
      (is-it _ symbol.Comma goes.0, one.1, one.0, one.2, more-formed turns (expr_declares source all.0 ++ names) (expr_span all.0).after all.2 all.3))
      (λ ends. subst (AreMoreExprs source names at) (inside _ _ ends.1) tt)
      (branch (is (symbol_in source names at) symbol.Comma) _ _ it h)

  -- the first of them is there where a comma is
  some-more : (turns : ℕ) (names : List Declared) (at : ℕ) (it : Exprs) → symbol_in source names at ≡ symbol.Comma → more_exprs source parts (suc turns) names at ≡ Some it
      → (first : Expr) × (others : Exprs) × (tree.more_exprs first others ≡ it)
  unfolding more_exprs
  some-more turns names at it c h =
      ⊎_elim
      (λ goes.
      let all = taken (λ first. more_exprs source parts turns (expr_declares source first ++ names) (expr_span first).after) (parts.expr 1 names (at + 1)) it goes.1 in
      (all.0, all.2, all.4))
      (λ ends. let no : true ≡ false = sym (ap (λ (one : Symbol). is one symbol.Comma) c) ∙ ends.0 in absurd (cc))
      (branch (is (symbol_in source names at) symbol.Comma) _ _ it h)

  -- arguments, which a closing parenthesis ends only if it stands there
  arguments-formed : (names : List Declared) (at : ℕ) (it : Exprs) → arguments source parts names at ≡ Some it → AreArguments source names at it
  unfolding arguments AreArguments
  arguments-formed names at it h =
      ⊎_elim
      (λ none. subst (AreArguments source names at) (inside _ _ none.1) tt)
      (λ some.
      let all = taken (λ first. more_exprs source parts (all_turns source) (expr_declares source first ++ names) (expr_span first).after) (parts.expr 1 names at) it some.1 in
      let one = formed.expr 1 names at all.0 all.1 in
      subst (AreArguments source names at) all.4
      (one.1, one.0, one.2, more-formed (all_turns source) (expr_declares source all.0 ++ names) (expr_span all.0).after all.2 all.3))
      (branch (is (symbol_in source names at) symbol.RightParen) _ _ it h)

  -- type names
  name-with-formed : (names : List Declared) (at : ℕ) (specifiers : Specifiers) (found : Option Declarator) (it : TypeName)
      → IsSpecifiers source names specifiers → (specifiers_span specifiers).first ≡ at
      → parts.declarator abstract (specifiers_declares source specifiers ++ names) (specifiers_span specifiers).after ≡ found
      → type_name_with at specifiers found ≡ Some it → IsTypeName source names it × ((type_name_span it).first ≡ at)
  unfolding IsTypeName
  name-with-formed names at specifiers None it s p e h = absurd (cc)
  name-with-formed names at specifiers (Some declarator) it s p e h =
      let one = formed.declarator abstract (specifiers_declares source specifiers ++ names) (specifiers_span specifiers).after declarator e in
      subst (λ (this : TypeName). IsTypeName source names this × ((type_name_span this).first ≡ at)) (inside _ _ h)
      ((p, s, one.1, one.0, one.2, refl), refl)

  name-from-formed : (names : List Declared) (at : ℕ) (found : Option Specifiers) (it : TypeName) → parts.specifiers names at ≡ found
      → type_name_from source parts names at found ≡ Some it → IsTypeName source names it × ((type_name_span it).first ≡ at)
  name-from-formed names at None it e h = absurd (cc)
  name-from-formed names at (Some specifiers) it e h =
      let one = formed.specifiers names at specifiers e in
      name-with-formed names at specifiers _ it one.0 one.1 refl h

  pub name-formed : (names : List Declared) (at : ℕ) (it : TypeName) → type_name_of source parts names at ≡ Some it → IsTypeName source names it × ((type_name_span it).first ≡ at)
  unfolding type_name_of
  name-formed names at it h = name-from-formed names at _ it refl h

  -- fronts
  paren-formed : (names : List Declared) (at : ℕ) (found : Option Expr) (it : Expr) → symbol_in source names at ≡ symbol.LeftParen → parts.expr 0 names (at + 1) ≡ found
      → paren_from source names at found ≡ Some it → Stands names at it
  unfolding IsExpr Stands
  paren-formed names at None it s e h = absurd (cc)
  paren-formed names at (Some inner) it s e h =
      let one = formed.expr 0 names (at + 1) inner e in
      let ends = where-some _ _ it h in
      subst (Stands names at) (checked-some _ (tree.paren (span_of at ((expr_span inner).after + 1)) inner) it ends.1) ((s, one.1, one.0, is-it _ symbol.RightParen ends.0, refl), refl)

  cast-with-formed : (names : List Declared) (at : ℕ) (name : TypeName) (found : Option Expr) (it : Expr) → symbol_in source names at ≡ symbol.LeftParen
      → IsTypeName source names name → (type_name_span name).first ≡ at + 1
      → symbol_in source (type_name_declares source name ++ names) (type_name_span name).after ≡ symbol.RightParen
      → parts.expr 13 (type_name_declares source name ++ names) ((type_name_span name).after + 1) ≡ found
      → cast_with at name found ≡ Some it → Stands names at it
  unfolding IsExpr Stands
  cast-with-formed names at name None it s n p r e h = absurd (cc)
  cast-with-formed names at name (Some operand) it s n p r e h =
      let one = formed.expr 13 (type_name_declares source name ++ names) ((type_name_span name).after + 1) operand e in
      subst (Stands names at) (checked-some _ _ it h) ((s, p, n, r, one.1, one.0, one.2, refl), refl)

  cast-formed : (names : List Declared) (at : ℕ) (found : Option TypeName) (it : Expr) → symbol_in source names at ≡ symbol.LeftParen → type_name_of source parts names (at + 1) ≡ found
      → cast_from source parts names at found ≡ Some it → Stands names at it
  cast-formed names at None it s e h = absurd (cc)
  cast-formed names at (Some name) it s e h =
      let one = name-formed names (at + 1) name e in
      let ends = where-some _ _ it h in
      cast-with-formed names at name _ it s one.0 one.1 (is-it _ symbol.RightParen ends.0) refl ends.1

  sizeof-name-formed : (names : List Declared) (at : ℕ) (found : Option TypeName) (it : Expr) → symbol_in source names at ≡ symbol.Sizeof
      → symbol_in source names (at + 1) ≡ symbol.LeftParen → type_name_of source parts names (at + 2) ≡ found
      → sizeof_name_from source names at found ≡ Some it → Stands names at it
  unfolding IsExpr Stands
  sizeof-name-formed names at None it s p e h = absurd (cc)
  sizeof-name-formed names at (Some name) it s p e h =
      let one = name-formed names (at + 2) name e in
      let ends = where-some _ _ it h in
      subst (Stands names at) (checked-some _ (tree.sizeof_name (span_of at ((type_name_span name).after + 1)) name) it ends.1) ((s, p, one.1, one.0, is-it _ symbol.RightParen ends.0, refl), refl)

  sizeof-expr-formed : (names : List Declared) (at : ℕ) (found : Option Expr) (it : Expr) → symbol_in source names at ≡ symbol.Sizeof → parts.expr 14 names (at + 1) ≡ found
      → sizeof_expr_from at found ≡ Some it → Stands names at it
  unfolding IsExpr Stands
  sizeof-expr-formed names at None it s e h = absurd (cc)
  sizeof-expr-formed names at (Some operand) it s e h =
      let one = formed.expr 14 names (at + 1) operand e in
      subst (Stands names at) (checked-some _ _ it h) ((s, one.1, one.0, one.2, refl), refl)

  prefix-formed : (names : List Declared) (at least : ℕ) (found : Option Expr) (it : Expr) → prefix_level (symbol_in source names at) ≡ Some least → parts.expr least names (at + 1) ≡ found
      → prefix_from at found ≡ Some it → Stands names at it
  unfolding IsExpr Stands
  prefix-formed names at least None it s e h = absurd (cc)
  prefix-formed names at least (Some operand) it s e h =
      let one = formed.expr least names (at + 1) operand e in
      subst (Stands names at) (checked-some _ _ it h) ((refl, one.1, one.0, (least, s, one.2), refl), refl)

  front-formed : (names : List Declared) (at : ℕ) (kind : Front) (it : Expr) → FrontIs (symbol_in source names at) kind → front_of source parts names at kind ≡ Some it → Stands names at it
  unfolding IsExpr Stands front_of
  front-formed names at a_name it s h = subst (Stands names at) (inside _ _ h) ((s, refl), refl)
  front-formed names at a_constant it s h = subst (Stands names at) (inside _ _ h) ((s, refl), refl)
  front-formed names at a_literal it s h = subst (Stands names at) (inside _ _ h) ((s, refl), refl)
  front-formed names at enclosing it s h =
      ⊎_elim (λ casts. cast-formed names at _ it s refl casts.1) (λ encloses. paren-formed names at _ it s refl encloses.1)
      (branch (begins_specifiers (symbol_in source names (at + 1))) _ _ it h)
  front-formed names at measuring it s h =
      ⊎_elim (λ of_name. sizeof-name-formed names at _ it s (is-it _ symbol.LeftParen (both-hold _ _ of_name.0).0) refl of_name.1)
      (λ of_expr. sizeof-expr-formed names at _ it s refl of_expr.1)
      (branch (is (symbol_in source names (at + 1)) symbol.LeftParen && begins_specifiers (symbol_in source names (at + 2))) _ _ it h)
  front-formed names at (prefixing least) it s h = prefix-formed names at least _ it s refl h
  front-formed names at no_front it s h = absurd (cc)

  -- an expression that begins where another does, of at least a level
  Goes : ℕ → List Declared → Expr → Expr → Type 0
  Goes least names left it = IsExpr source names it × ((expr_span it).first ≡ (expr_span left).first) × (least ≤ level source it)

  index-formed : (least : ℕ) (names : List Declared) (left : Expr) (found : Option Expr) (it : Expr) → IsExpr source names left → 15 ≤ level source left → least ≤ 15
      → symbol_in source (expr_declares source left ++ names) (expr_span left).after ≡ symbol.LeftBracket
      → parts.expr 0 (expr_declares source left ++ names) ((expr_span left).after + 1) ≡ found
      → index_from source (expr_declares source left ++ names) left found ≡ Some it → Goes least names left it
  unfolding IsExpr Goes
  index-formed least names left None it l high low s e h = absurd (cc)
  index-formed least names left (Some right) it l high low s e h =
      let one = formed.expr 0 (expr_declares source left ++ names) ((expr_span left).after + 1) right e in
      let ends = where-some _ _ it h in
      subst (Goes least names left) (checked-some _ (tree.index (span_of (expr_span left).first ((expr_span right).after + 1)) left right) it ends.1) ((refl, l, high, s, one.1, one.0, is-it _ symbol.RightBracket ends.0, refl), refl, low)

  call-formed : (least : ℕ) (names : List Declared) (left : Expr) (found : Option Exprs) (it : Expr) → IsExpr source names left → 15 ≤ level source left → least ≤ 15
      → symbol_in source (expr_declares source left ++ names) (expr_span left).after ≡ symbol.LeftParen
      → arguments source parts (expr_declares source left ++ names) ((expr_span left).after + 1) ≡ found
      → call_from source (expr_declares source left ++ names) left ((expr_span left).after + 1) found ≡ Some it → Goes least names left it
  unfolding IsExpr Goes
  call-formed least names left None it l high low s e h = absurd (cc)
  call-formed least names left (Some all) it l high low s e h =
      let those = arguments-formed (expr_declares source left ++ names) ((expr_span left).after + 1) all e in
      let ends = where-some _ _ it h in
      subst (Goes least names left) (checked-some _ (tree.call (span_of (expr_span left).first (exprs_after ((expr_span left).after + 1) all + 1)) left all) it ends.1) ((refl, l, high, s, those, is-it _ symbol.RightParen ends.0, refl), refl, low)

  binary-formed : (least k : ℕ) (names : List Declared) (left : Expr) (found : Option Expr) (it : Expr) → IsExpr source names left → k ≤ level source left → least ≤ k
      → infix_level (symbol_at source (expr_span left).after) ≡ Some k
      → parts.expr (k + 1) (expr_declares source left ++ names) ((expr_span left).after + 1) ≡ found
      → binary_from left (expr_span left).after found ≡ Some it → Goes least names left it
  unfolding IsExpr Goes
  binary-formed least k names left None it l high low s e h = absurd (cc)
  binary-formed least k names left (Some right) it l high low s e h =
      let one = formed.expr (k + 1) (expr_declares source left ++ names) ((expr_span left).after + 1) right e in
      let same : operator_level source (expr_span left).after ≡ k = ap (λ (found : Option ℕ). unwrap_or found 0) s in
      subst (Goes least names left) (checked-some _ _ it h)
      ((refl, l, refl, s ∙ ap Some (sym same), omega (arith, same, high), one.1, one.0, omega (arith, same, one.2), refl), refl, omega (arith, same, low))

  assign-formed : (least : ℕ) (names : List Declared) (left : Expr) (found : Option Expr) (it : Expr) → IsExpr source names left → 14 ≤ level source left → least ≤ 1
      → is_assignment (symbol_at source (expr_span left).after) ≡ true
      → parts.expr 1 (expr_declares source left ++ names) ((expr_span left).after + 1) ≡ found
      → assign_from left (expr_span left).after found ≡ Some it → Goes least names left it
  unfolding IsExpr Goes
  assign-formed least names left None it l high low s e h = absurd (cc)
  assign-formed least names left (Some right) it l high low s e h =
      let one = formed.expr 1 (expr_declares source left ++ names) ((expr_span left).after + 1) right e in
      subst (Goes least names left) (checked-some _ _ it h) ((refl, l, high, refl, s, one.1, one.0, one.2, refl), refl, low)

  conditional-with-formed : (least : ℕ) (names : List Declared) (first second : Expr) (found : Option Expr) (it : Expr) → IsExpr source names first → 3 ≤ level source first → least ≤ 2
      → symbol_in source (expr_declares source first ++ names) (expr_span first).after ≡ symbol.Question
      → IsExpr source (expr_declares source first ++ names) second → (expr_span second).first ≡ (expr_span first).after + 1
      → symbol_in source (expr_declares source second ++ (expr_declares source first ++ names)) (expr_span second).after ≡ symbol.Colon
      → parts.expr 2 (expr_declares source second ++ (expr_declares source first ++ names)) ((expr_span second).after + 1) ≡ found
      → conditional_with first second found ≡ Some it → Goes least names first it
  unfolding IsExpr Goes
  conditional-with-formed least names first second None it l high low s n p c e h = absurd (cc)
  conditional-with-formed least names first second (Some third) it l high low s n p c e h =
      let one = formed.expr 2 (expr_declares source second ++ (expr_declares source first ++ names)) ((expr_span second).after + 1) third e in
      subst (Goes least names first) (checked-some _ _ it h) ((refl, l, high, s, p, n, c, one.1, one.0, one.2, refl), refl, low)

  conditional-formed : (least : ℕ) (names : List Declared) (first : Expr) (found : Option Expr) (it : Expr) → IsExpr source names first → 3 ≤ level source first → least ≤ 2
      → symbol_in source (expr_declares source first ++ names) (expr_span first).after ≡ symbol.Question
      → parts.expr 0 (expr_declares source first ++ names) ((expr_span first).after + 1) ≡ found
      → conditional_from source parts (expr_declares source first ++ names) first found ≡ Some it → Goes least names first it
  conditional-formed least names first None it l high low s e h = absurd (cc)
  conditional-formed least names first (Some second) it l high low s e h =
      let one = formed.expr 0 (expr_declares source first ++ names) ((expr_span first).after + 1) second e in
      let ends = where-some _ _ it h in
      conditional-with-formed least names first second _ it l high low s one.0 one.1 (is-it _ symbol.Colon ends.0) refl ends.1

  comma-node : (least : ℕ) (names : List Declared) (left : Expr) (first : Expr) (others : Exprs) (all : Exprs) (it : Expr) → tree.more_exprs first others ≡ all
      → IsExpr source names left → 1 ≤ level source left → least ≤ 0 → AreMoreExprs source (expr_declares source left ++ names) (expr_span left).after all
      → tree.comma (span_of (expr_span left).first (exprs_after (expr_span left).after all)) (tree.more_exprs left all) ≡ it → Goes least names left it
  unfolding IsExpr Goes
  comma-node least names left first others all it same l high low more e =
      subst (Goes least names left) (ap (λ (those : Exprs). tree.comma (span_of (expr_span left).first (exprs_after (expr_span left).after those)) (tree.more_exprs left those)) same ∙ e)
      ((refl, l, high, subst (AreMoreExprs source (expr_declares source left ++ names) (expr_span left).after) (sym same) more, refl), refl, low)

  comma-formed : (least : ℕ) (names : List Declared) (left : Expr) (found : Option Exprs) (it : Expr) → IsExpr source names left → 1 ≤ level source left → least ≤ 0
      → symbol_in source (expr_declares source left ++ names) (expr_span left).after ≡ symbol.Comma
      → more_exprs source parts (suc (length source.tokens)) (expr_declares source left ++ names) (expr_span left).after ≡ found
      → comma_from left (expr_span left).after found ≡ Some it → Goes least names left it
  comma-formed least names left None it l high low s e h = absurd (cc)
  comma-formed least names left (Some all) it l high low s e h =
      let some = some-more (length source.tokens) (expr_declares source left ++ names) (expr_span left).after all s e in
      comma-node least names left some.0 some.1 all it some.2 l high low
      (more-formed (suc (length source.tokens)) (expr_declares source left ++ names) (expr_span left).after all e) (checked-some _ _ it h)

  turn-formed : (least : ℕ) (names : List Declared) (left : Expr) (kind : Suffix) (it : Expr) → IsExpr source names left
      → SuffixIs (symbol_in source (expr_declares source left ++ names) (expr_span left).after) kind → goes_on least (level source left) kind ≡ true
      → turn source parts (expr_declares source left ++ names) left (expr_span left).after kind ≡ Some it → Goes least names left it
  unfolding IsExpr Goes turn
  turn-formed least names left indexing it l s g h =
      let fit = both-from least 15 15 (level source left) g in index-formed least names left _ it l fit.1 fit.0 s refl h
  turn-formed least names left calling it l s g h =
      let fit = both-from least 15 15 (level source left) g in call-formed least names left _ it l fit.1 fit.0 s refl h
  turn-formed least names left selecting it l s g h =
      let fit = both-from least 15 15 (level source left) g in
      let ends = where-some _ _ it h in
      subst (Goes least names left) (checked-some _ (tree.member (span_of (expr_span left).first ((expr_span left).after + 2)) left ((expr_span left).after + 1)) it ends.1) ((refl, l, fit.1, s, refl, ends.0, (let two : (expr_span left).after + 2 ≡ (expr_span left).after + 1 + 1 = omega arith in two)), refl, fit.0)
  turn-formed least names left following it l s g h =
      let fit = both-from least 15 15 (level source left) g in
      let ends = where-some _ _ it h in
      subst (Goes least names left) (checked-some _ (tree.arrow (span_of (expr_span left).first ((expr_span left).after + 2)) left ((expr_span left).after + 1)) it ends.1) ((refl, l, fit.1, s, refl, ends.0, (let two : (expr_span left).after + 2 ≡ (expr_span left).after + 1 + 1 = omega arith in two)), refl, fit.0)
  turn-formed least names left counting it l s g h =
      let fit = both-from least 15 15 (level source left) g in
      subst (Goes least names left) (checked-some _ (tree.postfix (span_of (expr_span left).first ((expr_span left).after + 1)) left (expr_span left).after) it h) ((refl, l, fit.1, refl, s, refl), refl, fit.0)
  turn-formed least names left (operating k) it l s g h =
      let fit = both-from least k k (level source left) g in
      binary-formed least k names left _ it l fit.1 fit.0 (infix-at source (expr_declares source left ++ names) (expr_span left).after k s) refl h
  turn-formed least names left choosing it l s g h =
      let fit = both-from least 2 3 (level source left) g in conditional-formed least names left _ it l fit.1 fit.0 s refl h
  turn-formed least names left assigning it l s g h =
      let fit = both-from least 1 14 (level source left) g in
      assign-formed least names left _ it l fit.1 fit.0 (assignment-at source (expr_declares source left ++ names) (expr_span left).after s) refl h
  turn-formed least names left separating it l s g h =
      let fit = both-from least 0 1 (level source left) g in
      comma-formed least names left _ it l fit.1 fit.0 s refl (ap (λ (turns : ℕ). comma_from left (expr_span left).after (more_exprs source parts turns (expr_declares source left ++ names) (expr_span left).after))
      (let one : suc (length source.tokens) ≡ all_turns source = omega arith in one) ∙ h)
  turn-formed least names left no_suffix it l s g h = absurd (cc)

  next-taken : (next : Expr → Option Expr) (found : Option Expr) (it : Expr) → and_then next found ≡ Some it → (one : Expr) × (found ≡ Some one) × (next one ≡ Some it)
  next-taken next None it h = absurd (cc)
  next-taken next (Some one) it h = (one, refl, h)

  grown-formed : (turns least : ℕ) (names : List Declared) (left it : Expr) → IsExpr source names left → least ≤ level source left
      → grown source parts least names turns left ≡ Some it → Goes least names left it
  unfolding grown Goes
  grown-formed zero least names left it l low h =
      ⊎_elim (λ goes. absurd (cc goes.1)) (λ ends. subst (Goes least names left) (inside _ _ ends.1) (l, refl, low))
      (branch (goes_on least (level source left) (suffix_behind source names left)) _ _ it h)
  grown-formed (suc turns) least names left it l low h =
      ⊎_elim
      (λ goes.
      let next = next-taken (grown source parts least names turns) _ it goes.1 in
      let one = turn-formed least names left (suffix_behind source names left) next.0 l (suffix-is _) goes.0 next.1 in
      let all = grown-formed turns least names next.0 it one.0 one.2 next.2 in
      (all.0, all.1 ∙ one.1, all.2))
      (λ ends. subst (Goes least names left) (inside _ _ ends.1) (l, refl, low))
      (branch (goes_on least (level source left) (suffix_behind source names left)) _ _ it h)

  grown-from-formed : (least : ℕ) (names : List Declared) (at : ℕ) (found : Option Expr) (it : Expr) → ((front : Expr) → found ≡ Some front → Stands names at front)
      → grown_from source parts least names found ≡ Some it → IsExpr source names it × ((expr_span it).first ≡ at) × (least ≤ level source it)
  unfolding Stands Goes
  grown-from-formed least names at None it f h = absurd (cc)
  grown-from-formed least names at (Some front) it f h =
      ⊎_elim
      (λ goes.
      let first = f front refl in
      let all = grown-formed greatest_height least names front it first.0 (le-from least (level source front) goes.0) goes.1 in
      (all.0, all.1 ∙ first.1, all.2))
      (λ no. absurd (cc no.1))
      (branch (nat_le least (level source front)) _ _ it h)

  -- An expression that is read is well formed.
  pub expr-formed : (least : ℕ) (names : List Declared) (at : ℕ) (it : Expr) → expr_of source parts least names at ≡ Some it
      → IsExpr source names it × ((expr_span it).first ≡ at) × (least ≤ level source it)
  unfolding expr_of
  expr-formed least names at it h =
      grown-from-formed least names at _ it (λ front e. front-formed names at (front_kind (symbol_in source names at)) front (front-is _) e) h
