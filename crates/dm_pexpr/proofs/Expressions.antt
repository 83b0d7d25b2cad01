-- A well-formed expression is read from its tokens, where what reads its parts does so.
use Rattle.std.proofs.Common.{◌≡◌, ℕ, zero, suc, ◌+◌, ◌<◌, ◌≤◌, Bool, true, false, List, ◌++◌, Option, Some, None, refl, sym, ap, ◌∙◌, subst, arith, length, append_assoc, if◌then◌else◌, ◌&&◌}
use Rattle.dm_token.specs.declared.place.Span.{Span}
use Rattle.dm_token.specs.Limits.{greatest_height}
use Rattle.dm_syn.specs.declared.declared.Declared.{Declared}
use Rattle.dm_syn.specs.declared.symbol.Symbol.{Symbol}
use Rattle.dm_syn.specs.declared.symbol.Symbol.TheVariants as symbol
use Rattle.dm_syn.specs.Symbols.{infix_level, is, is_identifier, begins_specifiers}
use Rattle.dm_syn.specs.Sources.{Source, symbol_at, symbol_in, names_type, spelling_at}
use Rattle.dm_syn.specs.Trees.{Expr, Exprs, TypeName, Specifiers, Declarator}
use Rattle.dm_syn.specs.Trees as tree
use Rattle.dm_syn.specs.Spans.{expr_span, exprs_after, type_name_span}
use Rattle.dm_syn.specs.Scopes.{expr_declares, exprs_declares, type_name_declares}
use Rattle.dm_syn.specs.Heights.{expr_height, exprs_height, type_name_height}
use Rattle.dm_syn.specs.Grammar.{level, operator_level, prefix_level, is_assignment, IsExpr, AreArguments, AreMoreExprs, IsTypeName}
use Rattle.dm_pexpr.specs.Parsing.{Parts, span_of, checked, checked_expr, where_true, more_exprs, more_from, prepend_expr, all_turns, arguments, type_name_of, paren_from, cast_from, cast_with, sizeof_name_from, sizeof_expr_from, prefix_from, Front, a_name, a_constant, a_literal, enclosing, measuring, prefixing, no_front, front_kind, front_of, Suffix, indexing, calling, selecting, following, counting, operating, choosing, assigning, separating, no_suffix, suffix_kind, goes_on, index_from, call_from, binary_from, assign_from, conditional_from, conditional_with, comma_from, turn, and_then, suffix_behind, grown, grown_from, expr_of}
use Rattle.dm_pexpr.proofs.Positions.{expr-on, present}
use Rattle.dm_pexpr.proofs.SymbolLemmas.{suffix-infix, suffix-assignment, front-prefix, seen-infix, seen-assignment, infix-bounds, not-comma, le-true, Stops, stays, stops-higher, stops-nothing, stops-none, both, casts-alike, front-no-paren, front-no-specifier, by-level, left-paren-is}

-- what stands at a place may stand behind an expression of this level
abbrev pub Follows : Source → ℕ → List Declared → ℕ → Type 0
Follows source least names at = Stops least (suffix_kind (symbol_in source names at))

-- nothing goes on at a place
abbrev pub Ends : Source → List Declared → ℕ → Type 0
Ends source names at = suffix_kind (symbol_in source names at) ≡ no_suffix

-- the expressions and the type names of at most this height are read
pub record ReadsExprs (source : Source) (parts : Parts) (depth : ℕ) : Type 0 where
  pub expr : (least : ℕ) (names : List Declared) (expr : Expr) → IsExpr source names expr → least ≤ level source expr → expr_height expr ≤ depth → expr_height expr ≤ greatest_height
      → Follows source least (expr_declares source expr ++ names) (expr_span expr).after → parts.expr least names (expr_span expr).first ≡ Some expr
  pub name : (names : List Declared) (name : TypeName) → IsTypeName source names name → type_name_height name ≤ depth → type_name_height name ≤ greatest_height
      → symbol_in source (type_name_declares source name ++ names) (type_name_span name).after ≡ symbol.RightParen
      → type_name_of source parts names (type_name_span name).first ≡ Some name
  pub begins : (names : List Declared) (name : TypeName) → IsTypeName source names name → begins_specifiers (symbol_in source names (type_name_span name).first) ≡ true

-- a tree that isn't too high
pub fits : {A : Type 0} (height : ℕ) (it : A) → height ≤ greatest_height → checked height it ≡ Some it
fits height it h = ap (λ (test : Bool). if test then Some it else None) (le-true height greatest_height h)

-- a tree that stands where something holds
pub holds : {A : Type 0} (test : Bool) (found : Option A) → test ≡ true → where_true test found ≡ found
holds test found h = ap (λ (it : Bool). where_true it found) h

-- a symbol is the one that it is
pub it-is : (it wanted : Symbol) → it ≡ wanted → is it wanted ≡ is wanted wanted
it-is it wanted h = ap (λ (one : Symbol). is one wanted) h

-- the level of what stands last in an expression, where that is open to its right
abbrev pub last : Source → Expr → ℕ
last source (tree.name span) = 16
last source (tree.constant span) = 16
last source (tree.literal span) = 16
last source (tree.paren span inner) = 16
last source (tree.index span left right) = 16
last source (tree.call span callee arguments) = 16
last source (tree.member span left name) = 16
last source (tree.arrow span left name) = 16
last source (tree.postfix span left operator) = 16
last source (tree.prefix span operator operand) = 14
last source (tree.sizeof_expr span operand) = 14
last source (tree.sizeof_name span name) = 16
last source (tree.cast span name operand) = 13
last source (tree.binary span left operator right) = operator_level source operator + 1
last source (tree.conditional span first second third) = 2
last source (tree.assign span left operator right) = 1
last source (tree.comma span parts) = 0

-- what goes on behind an operand of a level may stand behind what is last in it
pub record LastFits (its_level its_last : ℕ) : Type 0 where
  pub postfix : 15 ≤ its_level → 15 < its_last
  pub operator : (k : ℕ) → 3 ≤ k → k ≤ 12 → k ≤ its_level → k < its_last
  pub question : 3 ≤ its_level → 2 < its_last
  pub assignment : 14 ≤ its_level → 1 < its_last
  pub separated : 1 ≤ its_level → 0 < its_last
  pub itself : its_level ≤ its_last

fits-16-16 : LastFits 16 16
fits-16-16 = record { postfix = λ a. omega arith; operator = λ k a b c. omega arith; question = λ a. omega arith; assignment = λ a. omega arith; separated = λ a. omega arith; itself = omega arith }

fits-15-16 : LastFits 15 16
fits-15-16 = record { postfix = λ a. omega arith; operator = λ k a b c. omega arith; question = λ a. omega arith; assignment = λ a. omega arith; separated = λ a. omega arith; itself = omega arith }

fits-14-16 : LastFits 14 16
fits-14-16 = record { postfix = λ a. omega arith; operator = λ k a b c. omega arith; question = λ a. omega arith; assignment = λ a. omega arith; separated = λ a. omega arith; itself = omega arith }

-- the operands of a prefix operator, of `sizeof` and of a cast
prefix-last : LastFits 14 14
prefix-last = record { postfix = λ a. absurd (omega (arith, a)); operator = λ k a b c. omega arith; question = λ a. omega arith; assignment = λ a. omega arith; separated = λ a. omega arith; itself = omega arith }

cast-last : LastFits 13 13
cast-last = record { postfix = λ a. absurd (omega (arith, a)); operator = λ k a b c. omega arith; question = λ a. omega arith; assignment = λ a. omega arith; separated = λ a. omega arith; itself = omega arith }

binary-last : (k : ℕ) → 3 ≤ k → k ≤ 12 → LastFits k (k + 1)
binary-last k low high = record { postfix = λ a. absurd (omega arith); operator = λ m a b c. omega arith; question = λ a. omega arith; assignment = λ a. omega arith; separated = λ a. omega arith; itself = omega arith }

conditional-last : LastFits 2 2
conditional-last = record { postfix = λ a. absurd (omega (arith, a)); operator = λ k a b c. absurd (omega arith); question = λ a. absurd (omega (arith, a)); assignment = λ a. omega arith; separated = λ a. omega arith; itself = omega arith }

assign-last : LastFits 1 1
assign-last = record { postfix = λ a. absurd (omega (arith, a)); operator = λ k a b c. absurd (omega arith); question = λ a. absurd (omega (arith, a)); assignment = λ a. absurd (omega (arith, a)); separated = λ a. omega arith; itself = omega arith }

comma-last : LastFits 0 0
comma-last = record { postfix = λ a. absurd (omega (arith, a)); operator = λ k a b c. absurd (omega arith); question = λ a. absurd (omega (arith, a)); assignment = λ a. absurd (omega (arith, a)); separated = λ a. absurd (omega (arith, a)); itself = omega arith }

-- in every well-formed expression
last-fits : (source : Source) (names : List Declared) (expr : Expr) → IsExpr source names expr → LastFits (level source expr) (last source expr)
unfolding IsExpr
last-fits source names (tree.name span) h = fits-16-16
last-fits source names (tree.constant span) h = fits-16-16
last-fits source names (tree.literal span) h = fits-16-16
last-fits source names (tree.paren span inner) h = fits-16-16
last-fits source names (tree.index span left right) h = fits-15-16
last-fits source names (tree.call span callee arguments) h = fits-15-16
last-fits source names (tree.member span left name) h = fits-15-16
last-fits source names (tree.arrow span left name) h = fits-15-16
last-fits source names (tree.postfix span left operator) h = fits-15-16
last-fits source names (tree.prefix span operator operand) h = prefix-last
last-fits source names (tree.sizeof_expr span operand) h = prefix-last
last-fits source names (tree.sizeof_name span name) h = fits-14-16
last-fits source names (tree.cast span name operand) h = cast-last
last-fits source names (tree.binary span left operator right) h = binary-last _ (infix-bounds _ _ h.3).0 (infix-bounds _ _ h.3).1
last-fits source names (tree.conditional span first second third) h = conditional-last
last-fits source names (tree.assign span left operator right) h = assign-last
last-fits source names (tree.comma span parts) h = comma-last

-- an expression begins with what may stand in its front
pub fronts : (source : Source) (names : List Declared) (expr : Expr) → IsExpr source names expr → front_kind (symbol_in source names (expr_span expr).first) ≡ no_front → ⊥
unfolding IsExpr
fronts source names (tree.name span) h k = let e = sym (ap front_kind h.0) ∙ k in cc
fronts source names (tree.constant span) h k = let e = sym (ap front_kind h.0) ∙ k in cc
fronts source names (tree.literal span) h k = let e = sym (ap front_kind h.0) ∙ k in cc
fronts source names (tree.paren span inner) h k = let e = sym (ap front_kind h.0) ∙ k in cc
fronts source names (tree.index span left right) h k = fronts source names left h.1 (ap (λ (at : ℕ). front_kind (symbol_in source names at)) h.0 ∙ k)
fronts source names (tree.call span callee arguments) h k = fronts source names callee h.1 (ap (λ (at : ℕ). front_kind (symbol_in source names at)) h.0 ∙ k)
fronts source names (tree.member span left name) h k = fronts source names left h.1 (ap (λ (at : ℕ). front_kind (symbol_in source names at)) h.0 ∙ k)
fronts source names (tree.arrow span left name) h k = fronts source names left h.1 (ap (λ (at : ℕ). front_kind (symbol_in source names at)) h.0 ∙ k)
fronts source names (tree.postfix span left operator) h k = fronts source names left h.1 (ap (λ (at : ℕ). front_kind (symbol_in source names at)) h.0 ∙ k)
fronts source names (tree.prefix span operator operand) h k =
    let e = sym (front-prefix _ h.3.0 h.3.1) ∙ ap (λ (at : ℕ). front_kind (symbol_in source names at)) h.0 ∙ k in cc
fronts source names (tree.sizeof_expr span operand) h k = let e = sym (ap front_kind h.0) ∙ k in cc
fronts source names (tree.sizeof_name span name) h k = let e = sym (ap front_kind h.0) ∙ k in cc
fronts source names (tree.cast span name operand) h k = let e = sym (ap front_kind h.0) ∙ k in cc
fronts source names (tree.binary span left operator right) h k = fronts source names left h.1 (ap (λ (at : ℕ). front_kind (symbol_in source names at)) h.0 ∙ k)
fronts source names (tree.conditional span first second third) h k = fronts source names first h.1 (ap (λ (at : ℕ). front_kind (symbol_in source names at)) h.0 ∙ k)
fronts source names (tree.assign span left operator right) h k = fronts source names left h.1 (ap (λ (at : ℕ). front_kind (symbol_in source names at)) h.0 ∙ k)
fronts source names (tree.comma span tree.no_exprs) h k = absurd h
fronts source names (tree.comma span (tree.more_exprs first tree.no_exprs)) h k = absurd h
fronts source names (tree.comma span (tree.more_exprs first (tree.more_exprs second others))) h k =
    fronts source names first h.1 (ap (λ (at : ℕ). front_kind (symbol_in source names at)) h.0 ∙ k)

pub if-true : {A : Type 0} (test : Bool) (one other : A) → test ≡ true → (if test then one else other) ≡ one
if-true test one other h = ap (λ (it : Bool). if it then one else other) h

pub if-false : {A : Type 0} (test : Bool) (one other : A) → test ≡ false → (if test then one else other) ≡ other
if-false test one other h = ap (λ (it : Bool). if it then one else other) h

-- what stands behind the first of some expressions may stand behind an assignment
next-follows : (source : Source) (others : Exprs) (names : List Declared) (at : ℕ) → AreMoreExprs source names at others
    → Ends source (exprs_declares source others ++ names) (exprs_after at others) → Follows source 1 names at
unfolding AreMoreExprs exprs_declares
next-follows source tree.no_exprs names at h e = stops-none 1 _ e
next-follows source (tree.more_exprs first others) names at h e = subst (λ (it : Symbol). Stops 1 (suffix_kind it)) (sym h.0) (omega arith)

-- an expression of the unary level or above doesn't begin with a cast
no-cast : (source : Source) (names : List Declared) (expr : Expr) → IsExpr source names expr → 14 ≤ level source expr
    → symbol_in source names (expr_span expr).first ≡ symbol.LeftParen → begins_specifiers (symbol_in source names ((expr_span expr).first + 1)) ≡ false
unfolding IsExpr
no-cast source names (tree.name span) h high p = let e = sym h.0 ∙ p in cc
no-cast source names (tree.constant span) h high p = let e = sym h.0 ∙ p in cc
no-cast source names (tree.literal span) h high p = let e = sym h.0 ∙ p in cc
no-cast source names (tree.paren span inner) h high p =
    ap (λ (at : ℕ). begins_specifiers (symbol_in source names at)) (sym h.1) ∙ front-no-specifier _ (fronts source names inner h.2)
no-cast source names (tree.index span left right) h high p =
    ap (λ (at : ℕ). begins_specifiers (symbol_in source names (at + 1))) (sym h.0)
    ∙ no-cast source names left h.1 (omega (arith, h.2)) (ap (symbol_in source names) h.0 ∙ p)
no-cast source names (tree.call span callee arguments) h high p =
    ap (λ (at : ℕ). begins_specifiers (symbol_in source names (at + 1))) (sym h.0)
    ∙ no-cast source names callee h.1 (omega (arith, h.2)) (ap (symbol_in source names) h.0 ∙ p)
no-cast source names (tree.member span left name) h high p =
    ap (λ (at : ℕ). begins_specifiers (symbol_in source names (at + 1))) (sym h.0)
    ∙ no-cast source names left h.1 (omega (arith, h.2)) (ap (symbol_in source names) h.0 ∙ p)
no-cast source names (tree.arrow span left name) h high p =
    ap (λ (at : ℕ). begins_specifiers (symbol_in source names (at + 1))) (sym h.0)
    ∙ no-cast source names left h.1 (omega (arith, h.2)) (ap (symbol_in source names) h.0 ∙ p)
no-cast source names (tree.postfix span left operator) h high p =
    ap (λ (at : ℕ). begins_specifiers (symbol_in source names (at + 1))) (sym h.0)
    ∙ no-cast source names left h.1 (omega (arith, h.2)) (ap (symbol_in source names) h.0 ∙ p)
no-cast source names (tree.prefix span operator operand) h high p =
    let e = sym h.3.1 ∙ ap (λ (at : ℕ). prefix_level (symbol_in source names at)) h.0 ∙ ap prefix_level p in cc
no-cast source names (tree.sizeof_expr span operand) h high p = let e = sym h.0 ∙ p in cc
no-cast source names (tree.sizeof_name span name) h high p = let e = sym h.0 ∙ p in cc
no-cast source names (tree.cast span name operand) h high p = absurd (omega (arith, high))
no-cast source names (tree.binary span left operator right) h high p = absurd (omega (arith, high, (infix-bounds _ _ h.3).1))
no-cast source names (tree.conditional span first second third) h high p = absurd (omega (arith, high))
no-cast source names (tree.assign span left operator right) h high p = absurd (omega (arith, high))
no-cast source names (tree.comma span parts) h high p = absurd (omega (arith, high))

-- the operand of a prefix operator
prefix-stops : (operator : Symbol) (least : ℕ) → prefix_level operator ≡ Some least → (it : Symbol) → Stops 14 (suffix_kind it) → Stops least (suffix_kind it)
prefix-stops operator least p it h = by-level operator least p (λ (one : ℕ). Stops one (suffix_kind it)) h (casts-alike it h)

-- `(` behind `sizeof` that begins an expression
pub both-tests : (one other : Bool) → one ≡ true → other ≡ true → (one && other) ≡ true
both-tests one other h k = ap (λ (it : Bool). it && other) h ∙ k

second-false : (one other : Bool) → ((one ≡ true) → other ≡ false) → (one && other) ≡ false
second-false true other h = h refl
second-false false other h = refl

not-a-type : (source : Source) (names : List Declared) (span : Span) (operand : Expr) → IsExpr source names (tree.sizeof_expr span operand)
    → (is (symbol_in source names (span.first + 1)) symbol.LeftParen && begins_specifiers (symbol_in source names (span.first + 2))) ≡ false
unfolding IsExpr
not-a-type source names span operand h =
    second-false _ _ (λ p.
    (let place : span.first + 2 ≡ (expr_span operand).first + 1 = omega (arith, h.1) in
    ap (λ (at : ℕ). begins_specifiers (symbol_in source names at)) place)
    ∙ no-cast source names operand h.2 h.3 (ap (symbol_in source names) h.1 ∙ left-paren-is _ p))

-- where the next part stands
place : (source : Source) (operator : ℕ) {before first : ℕ} → operator ≡ before → first ≡ operator + 1 → before + 1 ≡ first
place source operator h k = omega (arith, h, k)

-- operators are no identifiers
seen-operator : (source : Source) (names : List Declared) (at level : ℕ) → infix_level (symbol_at source at) ≡ Some level → suffix_kind (symbol_in source names at) ≡ operating level
unfolding symbol_in
seen-operator source names at level h =
    ap suffix_kind (seen-infix (symbol_at source at) (names_type source names (spelling_at source at)) level h) ∙ suffix-infix (symbol_at source at) level h

seen-assign : (source : Source) (names : List Declared) (at : ℕ) → is_assignment (symbol_at source at) ≡ true → suffix_kind (symbol_in source names at) ≡ assigning
unfolding symbol_in
seen-assign source names at h =
    ap suffix_kind (seen-assignment (symbol_at source at) (names_type source names (spelling_at source at)) h) ∙ suffix-assignment (symbol_at source at) h

first-comma : (source : Source) (names : List Declared) (at : ℕ) (first : Expr) (others : Exprs) → AreMoreExprs source names at (tree.more_exprs first others) → symbol_in source names at ≡ symbol.Comma
unfolding AreMoreExprs
first-comma source names at first others h = h.0

module _ (source : Source) (parts : Parts) (depth : ℕ) (reads : ReadsExprs source parts depth) where
  -- expressions with a comma before each
  more-read : (exprs : Exprs) (turns : ℕ) (names : List Declared) (at : ℕ) → AreMoreExprs source names at exprs
      → exprs_height exprs ≤ depth → exprs_height exprs ≤ greatest_height → length source.tokens < at + turns
      → Ends source (exprs_declares source exprs ++ names) (exprs_after at exprs) → more_exprs source parts turns names at ≡ Some exprs
  unfolding AreMoreExprs exprs_declares exprs_height more_exprs
  more-read tree.no_exprs zero names at h d l t e = refl
  more-read tree.no_exprs (suc turns) names at h d l t e = if-false _ _ _ (not-comma _ e)
  more-read (tree.more_exprs first others) zero names at h d l t e =
      absurd (omega (arith, t, present source names at symbol.Comma h.0 (λ (it : symbol.Comma ≡ symbol.End). cc)))
  more-read (tree.more_exprs first others) (suc turns) names at h d l t e =
      let ends : Ends source (exprs_declares source others ++ (expr_declares source first ++ names)) (exprs_after (expr_span first).after others) =
      subst (λ (all : List Declared). Ends source all (exprs_after (expr_span first).after others)) (append_assoc (exprs_declares source others) (expr_declares source first) names) e in
      if-true _ _ _ (it-is (symbol_in source names at) symbol.Comma h.0)
      ∙ ap (more_from (λ one. more_exprs source parts turns (expr_declares source one ++ names) (expr_span one).after))
      (ap (parts.expr 1 names) (sym h.1)
      ∙ reads.expr 1 names first h.2 h.3 (omega (arith, d)) (omega (arith, l)) (next-follows source others _ _ h.4 ends))
      ∙ ap (prepend_expr first) (more-read others turns (expr_declares source first ++ names) (expr_span first).after h.4 (omega (arith, d)) (omega (arith, l))
      (omega (arith, t, h.1, expr-on source names first h.2)) ends)

  -- arguments up to the closing parenthesis
  arguments-read : (exprs : Exprs) (names : List Declared) (at : ℕ) → AreArguments source names at exprs
      → exprs_height exprs ≤ depth → exprs_height exprs ≤ greatest_height
      → symbol_in source (exprs_declares source exprs ++ names) (exprs_after at exprs) ≡ symbol.RightParen → arguments source parts names at ≡ Some exprs
  unfolding AreArguments exprs_declares exprs_height arguments
  arguments-read tree.no_exprs names at h d l e = if-true _ _ _ (it-is (symbol_in source names at) symbol.RightParen e)
  arguments-read (tree.more_exprs first others) names at h d l e =
      let ends : Ends source (exprs_declares source others ++ (expr_declares source first ++ names)) (exprs_after (expr_span first).after others) =
      subst (λ (all : List Declared). Ends source all (exprs_after (expr_span first).after others)) (append_assoc (exprs_declares source others) (expr_declares source first) names) (ap suffix_kind e) in
      if-false _ _ _ (ap (λ (it : ℕ). is (symbol_in source names it) symbol.RightParen) (sym h.0) ∙ front-no-paren _ (fronts source names first h.1))
      ∙ ap (more_from (λ one. more_exprs source parts (all_turns source) (expr_declares source one ++ names) (expr_span one).after))
      (ap (parts.expr 1 names) (sym h.0)
      ∙ reads.expr 1 names first h.1 h.2 (omega (arith, d)) (omega (arith, l)) (next-follows source others _ _ h.3 ends))
      ∙ ap (prepend_expr first) (more-read others (all_turns source) (expr_declares source first ++ names) (expr_span first).after h.3 (omega (arith, d)) (omega (arith, l))
      (omega arith) ends)

  -- reading an expression comes to where this much is read, with enough turns left
  Grows : ℕ → List Declared → Expr → Type 0
  Grows least names expr =
      (turns : ℕ) × (greatest_height ≤ turns + expr_height expr) × (expr_of source parts least names (expr_span expr).first ≡ grown source parts least names turns expr)

  -- at the front
  from-front : (least : ℕ) (names : List Declared) (expr : Expr) (kind : Front) → front_kind (symbol_in source names (expr_span expr).first) ≡ kind
      → front_of source parts names (expr_span expr).first kind ≡ Some expr → least ≤ level source expr → Grows least names expr
  unfolding Grows expr_of
  from-front least names expr kind k f h = (
    greatest_height,
    omega arith,
    ap (grown_from source parts least names) (ap (front_of source parts names (expr_span expr).first) k ∙ f)
        ∙ if-true _ _ _ (le-true least (level source expr) h),
  )

  -- one turn
  one-turn : (turns least : ℕ) (names : List Declared) (left expr : Expr) (kind : Suffix) → greatest_height ≤ turns + expr_height left
      → suffix_behind source names left ≡ kind → goes_on least (level source left) kind ≡ true
      → turn source parts (expr_declares source left ++ names) left (expr_span left).after kind ≡ Some expr
      → expr_height left + 1 ≤ expr_height expr → expr_height expr ≤ greatest_height
      → (less : ℕ) × (greatest_height ≤ less + expr_height expr) × (grown source parts least names turns left ≡ grown source parts least names less expr)
  unfolding grown
  one-turn zero least names left expr kind enough k g t higher low = absurd (omega (arith, enough, higher, low))
  one-turn (suc turns) least names left expr kind enough k g t higher low = (
    turns,
    omega (arith, enough, higher),
    if-true _ _ _ (ap (goes_on least (level source left)) k ∙ g)
        ∙ ap (and_then (grown source parts least names turns)) (ap (turn source parts (expr_declares source left ++ names) left (expr_span left).after) k ∙ t),
  )

  -- behind an operand
  from-left : (least : ℕ) (names : List Declared) (left expr : Expr) (kind : Suffix) → Grows least names left → (expr_span left).first ≡ (expr_span expr).first
      → suffix_behind source names left ≡ kind → goes_on least (level source left) kind ≡ true
      → turn source parts (expr_declares source left ++ names) left (expr_span left).after kind ≡ Some expr
      → expr_height left + 1 ≤ expr_height expr → expr_height expr ≤ greatest_height → Grows least names expr
  unfolding Grows
  from-left least names left expr kind grows begins k g t higher low =
      let more = one-turn grows.0 least names left expr kind grows.1 k g t higher low in
      (more.0, more.1, ap (expr_of source parts least names) (sym begins) ∙ grows.2 ∙ more.2)

  -- every well-formed expression is come to
  grows : (least : ℕ) (names : List Declared) (expr : Expr) → IsExpr source names expr → least ≤ level source expr → expr_height expr ≤ depth + 1 → expr_height expr ≤ greatest_height
      → Follows source (last source expr) (expr_declares source expr ++ names) (expr_span expr).after → Grows least names expr
  unfolding IsExpr expr_height exprs_height expr_declares exprs_declares front_of turn
  grows least names (tree.name span) h at_least d l f =
      from-front least names (tree.name span) a_name (ap front_kind h.0) (ap (λ (after : ℕ). Some (tree.name (span_of span.first after))) (sym h.1)) at_least
  grows least names (tree.constant span) h at_least d l f =
      from-front least names (tree.constant span) a_constant (ap front_kind h.0) (ap (λ (after : ℕ). Some (tree.constant (span_of span.first after))) (sym h.1)) at_least
  grows least names (tree.literal span) h at_least d l f =
      from-front least names (tree.literal span) a_literal (ap front_kind h.0) (ap (λ (after : ℕ). Some (tree.literal (span_of span.first after))) (sym h.1)) at_least
  grows least names (tree.paren span inner) h at_least d l f =
      from-front least names (tree.paren span inner) enclosing (ap front_kind h.0)
      (if-false _ _ _ (ap (λ (at : ℕ). begins_specifiers (symbol_in source names at)) (sym h.1) ∙ front-no-specifier _ (fronts source names inner h.2))
      ∙ ap (paren_from source names span.first) (ap (parts.expr 0 names) (sym h.1)
      ∙ reads.expr 0 names inner h.2 (omega arith) (omega (arith, d)) (omega (arith, l)) (stops-none 0 _ (ap suffix_kind h.3)))
      ∙ holds _ _ (it-is _ symbol.RightParen h.3)
      ∙ ap (λ (after : ℕ). checked_expr (tree.paren (span_of span.first after) inner)) (sym h.4)
      ∙ fits _ _ l) at_least
  grows least names (tree.index span left right) h at_least d l f =
      let fit : LastFits (level source left) (last source left) = last-fits source names left h.1 in
      from-left least names left (tree.index span left right) indexing
      (grows least names left h.1 (omega (arith, at_least, h.2)) (omega (arith, d)) (omega (arith, l))
      (subst (λ (it : Symbol). Stops (last source left) (suffix_kind it)) (sym h.3) (fit.postfix h.2)))
      h.0 (ap suffix_kind h.3) (both least 15 15 (level source left) at_least h.2)
      (ap (index_from source (expr_declares source left ++ names) left) (ap (parts.expr 0 (expr_declares source left ++ names)) (sym h.4)
      ∙ reads.expr 0 (expr_declares source left ++ names) right h.5 (omega arith) (omega (arith, d)) (omega (arith, l)) (stops-none 0 _ (ap suffix_kind h.6)))
      ∙ holds _ _ (it-is _ symbol.RightBracket h.6)
      ∙ (λ i. checked_expr (tree.index (span_of (h.0 i) (sym h.7 i)) left right))
      ∙ fits _ _ l) (omega arith) l
  grows least names (tree.call span callee arguments) h at_least d l f =
      let fit : LastFits (level source callee) (last source callee) = last-fits source names callee h.1 in
      from-left least names callee (tree.call span callee arguments) calling
      (grows least names callee h.1 (omega (arith, at_least, h.2)) (omega (arith, d)) (omega (arith, l))
      (subst (λ (it : Symbol). Stops (last source callee) (suffix_kind it)) (sym h.3) (fit.postfix h.2)))
      h.0 (ap suffix_kind h.3) (both least 15 15 (level source callee) at_least h.2)
      (ap (call_from source (expr_declares source callee ++ names) callee ((expr_span callee).after + 1))
      (arguments-read arguments (expr_declares source callee ++ names) ((expr_span callee).after + 1) h.4 (omega (arith, d)) (omega (arith, l)) h.5)
      ∙ holds _ _ (it-is _ symbol.RightParen h.5)
      ∙ (λ i. checked_expr (tree.call (span_of (h.0 i) (sym h.6 i)) callee arguments))
      ∙ fits _ _ l) (omega arith) l
  grows least names (tree.member span left name) h at_least d l f =
      let fit : LastFits (level source left) (last source left) = last-fits source names left h.1 in
      from-left least names left (tree.member span left name) selecting
      (grows least names left h.1 (omega (arith, at_least, h.2)) (omega (arith, d)) (omega (arith, l))
      (subst (λ (it : Symbol). Stops (last source left) (suffix_kind it)) (sym h.3) (fit.postfix h.2)))
      h.0 (ap suffix_kind h.3) (both least 15 15 (level source left) at_least h.2)
      (holds _ _ (ap (λ (at : ℕ). is_identifier (symbol_in source (expr_declares source left ++ names) at)) (sym h.4) ∙ h.5)
      ∙ (let after : (expr_span left).after + 2 ≡ span.after = omega (arith, h.4, h.6) in
      λ i. checked_expr (tree.member (span_of (h.0 i) (after i)) left (sym h.4 i)))
      ∙ fits _ _ l) (omega arith) l
  grows least names (tree.arrow span left name) h at_least d l f =
      let fit : LastFits (level source left) (last source left) = last-fits source names left h.1 in
      from-left least names left (tree.arrow span left name) following
      (grows least names left h.1 (omega (arith, at_least, h.2)) (omega (arith, d)) (omega (arith, l))
      (subst (λ (it : Symbol). Stops (last source left) (suffix_kind it)) (sym h.3) (fit.postfix h.2)))
      h.0 (ap suffix_kind h.3) (both least 15 15 (level source left) at_least h.2)
      (holds _ _ (ap (λ (at : ℕ). is_identifier (symbol_in source (expr_declares source left ++ names) at)) (sym h.4) ∙ h.5)
      ∙ (let after : (expr_span left).after + 2 ≡ span.after = omega (arith, h.4, h.6) in
      λ i. checked_expr (tree.arrow (span_of (h.0 i) (after i)) left (sym h.4 i)))
      ∙ fits _ _ l) (omega arith) l
  grows least names (tree.postfix span left operator) h at_least d l f =
      let fit : LastFits (level source left) (last source left) = last-fits source names left h.1 in
      let stands : symbol_in source (expr_declares source left ++ names) (expr_span left).after ≡ symbol.Increment =
      ap (symbol_in source (expr_declares source left ++ names)) (sym h.3) ∙ h.4 in
      from-left least names left (tree.postfix span left operator) counting
      (grows least names left h.1 (omega (arith, at_least, h.2)) (omega (arith, d)) (omega (arith, l))
      (subst (λ (it : Symbol). Stops (last source left) (suffix_kind it)) (sym stands) (fit.postfix h.2)))
      h.0 (ap suffix_kind stands) (both least 15 15 (level source left) at_least h.2)
      ((let after : (expr_span left).after + 1 ≡ span.after = omega (arith, h.3, h.5) in
      λ i. checked_expr (tree.postfix (span_of (h.0 i) (after i)) left (sym h.3 i)))
      ∙ fits _ _ l) (omega arith) l
  grows least names (tree.prefix span operator operand) h at_least d l f =
      let stands : prefix_level (symbol_in source names span.first) ≡ Some h.3.0 =
      ap (λ (at : ℕ). prefix_level (symbol_in source names at)) (sym h.0) ∙ h.3.1 in
      let place : (expr_span operand).first ≡ span.first + 1 = omega (arith, h.0, h.1) in
      from-front least names (tree.prefix span operator operand) (prefixing h.3.0) (front-prefix _ h.3.0 stands)
      (ap (prefix_from span.first) (ap (parts.expr h.3.0 names) (sym place)
      ∙ reads.expr h.3.0 names operand h.2 h.3.2 (omega (arith, d)) (omega (arith, l))
      (prefix-stops _ h.3.0 h.3.1 _ (subst (λ (at : ℕ). Follows source 14 (expr_declares source operand ++ names) at) h.4 f)))
      ∙ (λ i. checked_expr (tree.prefix (span_of span.first (sym h.4 i)) (sym h.0 i) operand))
      ∙ fits _ _ l) at_least
  grows least names (tree.sizeof_expr span operand) h at_least d l f =
      from-front least names (tree.sizeof_expr span operand) measuring (ap front_kind h.0)
      (if-false _ _ _ (not-a-type source names span operand h)
      ∙ ap (sizeof_expr_from span.first) (ap (parts.expr 14 names) (sym h.1)
      ∙ reads.expr 14 names operand h.2 h.3 (omega (arith, d)) (omega (arith, l)) (subst (λ (at : ℕ). Follows source 14 (expr_declares source operand ++ names) at) h.4 f))
      ∙ ap (λ (after : ℕ). checked_expr (tree.sizeof_expr (span_of span.first after) operand)) (sym h.4)
      ∙ fits _ _ l) at_least
  grows least names (tree.sizeof_name span name) h at_least d l f =
      from-front least names (tree.sizeof_name span name) measuring (ap front_kind h.0)
      (if-true _ _ _ (both-tests _ _ (it-is _ symbol.LeftParen h.1) (ap (λ (at : ℕ). begins_specifiers (symbol_in source names at)) (sym h.2) ∙ reads.begins names name h.3))
      ∙ ap (sizeof_name_from source names span.first) (ap (type_name_of source parts names) (sym h.2) ∙ reads.name names name h.3 (omega (arith, d)) (omega (arith, l)) h.4)
      ∙ holds _ _ (it-is _ symbol.RightParen h.4)
      ∙ ap (λ (after : ℕ). checked_expr (tree.sizeof_name (span_of span.first after) name)) (sym h.5)
      ∙ fits _ _ l) at_least
  grows least names (tree.cast span name operand) h at_least d l f =
      from-front least names (tree.cast span name operand) enclosing (ap front_kind h.0)
      (if-true _ _ _ (ap (λ (at : ℕ). begins_specifiers (symbol_in source names at)) (sym h.1) ∙ reads.begins names name h.2)
      ∙ ap (cast_from source parts names span.first) (ap (type_name_of source parts names) (sym h.1) ∙ reads.name names name h.2 (omega (arith, d)) (omega (arith, l)) h.3)
      ∙ holds _ _ (it-is _ symbol.RightParen h.3)
      ∙ ap (cast_with span.first name) (ap (parts.expr 13 (type_name_declares source name ++ names)) (sym h.4)
      ∙ reads.expr 13 (type_name_declares source name ++ names) operand h.5 h.6 (omega (arith, d)) (omega (arith, l))
      (subst (λ (all : List Declared). Follows source 13 all (expr_span operand).after)
      (append_assoc (expr_declares source operand) (type_name_declares source name) names)
      (subst (λ (at : ℕ). Follows source 13 ((expr_declares source operand ++ type_name_declares source name) ++ names) at) h.7 f)))
      ∙ ap (λ (after : ℕ). checked_expr (tree.cast (span_of span.first after) name operand)) (sym h.7)
      ∙ fits _ _ l) at_least
  grows least names (tree.binary span left operator right) h at_least d l f =
      let fit : LastFits (level source left) (last source left) = last-fits source names left h.1 in
      let bounds : (3 ≤ operator_level source operator) × (operator_level source operator ≤ 12) = infix-bounds _ _ h.3 in
      let kind : suffix_behind source names left ≡ operating (operator_level source operator) =
      ap (λ (at : ℕ). suffix_kind (symbol_in source (expr_declares source left ++ names) at)) (sym h.2)
      ∙ seen-operator source (expr_declares source left ++ names) operator _ h.3 in
      from-left least names left (tree.binary span left operator right) (operating (operator_level source operator))
      (grows least names left h.1 (omega (arith, at_least, h.4)) (omega (arith, d)) (omega (arith, l))
      (subst (Stops (last source left)) (sym kind) (fit.operator _ bounds.0 bounds.1 h.4)))
      h.0 kind (both least (operator_level source operator) (operator_level source operator) (level source left) at_least h.4)
      (ap (binary_from left (expr_span left).after) (ap (parts.expr (operator_level source operator + 1) (expr_declares source left ++ names)) (place source operator h.2 h.5)
      ∙ reads.expr (operator_level source operator + 1) (expr_declares source left ++ names) right h.6 h.7 (omega (arith, d)) (omega (arith, l))
      (subst (λ (all : List Declared). Follows source (operator_level source operator + 1) all (expr_span right).after)
      (append_assoc (expr_declares source right) (expr_declares source left) names)
      (subst (λ (at : ℕ). Follows source (operator_level source operator + 1) ((expr_declares source right ++ expr_declares source left) ++ names) at) h.8 f)))
      ∙ (λ i. checked_expr (tree.binary (span_of (h.0 i) (sym h.8 i)) left (sym h.2 i) right))
      ∙ fits _ _ l) (omega arith) l
  grows least names (tree.conditional span first second third) h at_least d l f =
      let fit : LastFits (level source first) (last source first) = last-fits source names first h.1 in
      from-left least names first (tree.conditional span first second third) choosing
      (grows least names first h.1 (omega (arith, at_least, h.2)) (omega (arith, d)) (omega (arith, l))
      (subst (λ (it : Symbol). Stops (last source first) (suffix_kind it)) (sym h.3) (fit.question h.2)))
      h.0 (ap suffix_kind h.3) (both least 2 3 (level source first) at_least h.2)
      (ap (conditional_from source parts (expr_declares source first ++ names) first) (ap (parts.expr 0 (expr_declares source first ++ names)) (sym h.4)
      ∙ reads.expr 0 (expr_declares source first ++ names) second h.5 (omega arith) (omega (arith, d)) (omega (arith, l)) (stops-none 0 _ (ap suffix_kind h.6)))
      ∙ holds _ _ (it-is _ symbol.Colon h.6)
      ∙ ap (conditional_with first second) (ap (parts.expr 2 (expr_declares source second ++ (expr_declares source first ++ names))) (sym h.7)
      ∙ reads.expr 2 (expr_declares source second ++ (expr_declares source first ++ names)) third h.8 h.9 (omega (arith, d)) (omega (arith, l))
      (subst (λ (all : List Declared). Follows source 2 all (expr_span third).after)
      (append_assoc (expr_declares source third) (expr_declares source second ++ expr_declares source first) names
      ∙ ap (λ (all : List Declared). expr_declares source third ++ all) (append_assoc (expr_declares source second) (expr_declares source first) names))
      (subst (λ (at : ℕ). Follows source 2 ((expr_declares source third ++ (expr_declares source second ++ expr_declares source first)) ++ names) at) h.10 f)))
      ∙ (λ i. checked_expr (tree.conditional (span_of (h.0 i) (sym h.10 i)) first second third))
      ∙ fits _ _ l) (omega arith) l
  grows least names (tree.assign span left operator right) h at_least d l f =
      let fit : LastFits (level source left) (last source left) = last-fits source names left h.1 in
      let kind : suffix_behind source names left ≡ assigning =
      ap (λ (at : ℕ). suffix_kind (symbol_in source (expr_declares source left ++ names) at)) (sym h.3)
      ∙ seen-assign source (expr_declares source left ++ names) operator h.4 in
      from-left least names left (tree.assign span left operator right) assigning
      (grows least names left h.1 (omega (arith, at_least, h.2)) (omega (arith, d)) (omega (arith, l))
      (subst (Stops (last source left)) (sym kind) (fit.assignment h.2)))
      h.0 kind (both least 1 14 (level source left) at_least h.2)
      (ap (assign_from left (expr_span left).after) (ap (parts.expr 1 (expr_declares source left ++ names)) (place source operator h.3 h.5)
      ∙ reads.expr 1 (expr_declares source left ++ names) right h.6 h.7 (omega (arith, d)) (omega (arith, l))
      (subst (λ (all : List Declared). Follows source 1 all (expr_span right).after)
      (append_assoc (expr_declares source right) (expr_declares source left) names)
      (subst (λ (at : ℕ). Follows source 1 ((expr_declares source right ++ expr_declares source left) ++ names) at) h.8 f)))
      ∙ (λ i. checked_expr (tree.assign (span_of (h.0 i) (sym h.8 i)) left (sym h.3 i) right))
      ∙ fits _ _ l) (omega arith) l
  grows least names (tree.comma span tree.no_exprs) h at_least d l f = absurd h
  grows least names (tree.comma span (tree.more_exprs first tree.no_exprs)) h at_least d l f = absurd h
  grows least names (tree.comma span (tree.more_exprs first (tree.more_exprs second others))) h at_least d l f =
      let fit : LastFits (level source first) (last source first) = last-fits source names first h.1 in
      let comma : symbol_in source (expr_declares source first ++ names) (expr_span first).after ≡ symbol.Comma = first-comma source _ _ second others h.3 in
      let ends : Ends source (exprs_declares source (tree.more_exprs second others) ++ (expr_declares source first ++ names)) (exprs_after (expr_span first).after (tree.more_exprs second others)) =
      subst (λ (all : List Declared). Ends source all (exprs_after (expr_span first).after (tree.more_exprs second others)))
      (append_assoc (exprs_declares source (tree.more_exprs second others)) (expr_declares source first) names)
      (subst (λ (at : ℕ). Ends source ((exprs_declares source (tree.more_exprs second others) ++ expr_declares source first) ++ names) at) h.4 (stops-nothing _ f)) in
      from-left least names first (tree.comma span (tree.more_exprs first (tree.more_exprs second others))) separating
      (grows least names first h.1 (omega (arith, at_least, h.2)) (omega (arith, d)) (omega (arith, l))
      (subst (λ (it : Symbol). Stops (last source first) (suffix_kind it)) (sym comma) (fit.separated h.2)))
      h.0 (ap suffix_kind comma) (both least 0 1 (level source first) at_least h.2)
      (ap (comma_from first (expr_span first).after)
      (more-read (tree.more_exprs second others) (all_turns source) (expr_declares source first ++ names) (expr_span first).after h.3 (omega (arith, d)) (omega (arith, l)) (omega arith) ends)
      ∙ (λ i. checked_expr (tree.comma (span_of (h.0 i) (sym h.4 i)) (tree.more_exprs first (tree.more_exprs second others))))
      ∙ fits _ _ l) (omega arith) l

  -- where it stops, what is read is the expression
  stopped : (turns least : ℕ) (names : List Declared) (expr : Expr) → goes_on least (level source expr) (suffix_behind source names expr) ≡ false
      → grown source parts least names turns expr ≡ Some expr
  unfolding grown
  stopped zero least names expr h = if-false _ _ _ h
  stopped (suc turns) least names expr h = if-false _ _ _ h

  -- A well-formed expression is the one that is read.
  pub expr-read : (least : ℕ) (names : List Declared) (expr : Expr) → IsExpr source names expr → least ≤ level source expr → expr_height expr ≤ depth + 1 → expr_height expr ≤ greatest_height
      → Follows source least (expr_declares source expr ++ names) (expr_span expr).after → expr_of source parts least names (expr_span expr).first ≡ Some expr
  unfolding Grows
  expr-read least names expr h at_least d l f =
      let fit : LastFits (level source expr) (last source expr) = last-fits source names expr h in
      let it : Grows least names expr = grows least names expr h at_least d l
      (stops-higher least (last source expr) _ (omega (arith, at_least, fit.itself)) f) in
      it.2 ∙ stopped it.0 least names expr (stays least (level source expr) _ f)
