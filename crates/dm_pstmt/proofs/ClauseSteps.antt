-- Expressions within statements, and statements that hold no other, as they are read step by step.
use Rattle.std.proofs.Common.{◌≡◌, ◌≤◌, ◌<◌, ℕ, ◌+◌, Bool, true, false, ◌&&◌, not, ◌||◌, List, ◌∷◌, ◌++◌, length, map, drop, get_or, Option, Some, None, is_some, option_map, refl, sym, ap, ◌∙◌, subst, arith}
use Rattle.std.proofs.lemmas.List.{at_drop_more, at_drop_all}
use Rattle.dm_syn.specs.declared.declared.Declared.{Declared}
use Rattle.dm_syn.specs.declared.expression.Expr.{Expr}
use Rattle.dm_syn.specs.declared.declaration.Specifier.{Specifier}
use Rattle.dm_syn.specs.declared.symbol.Symbol.{Symbol}
use Rattle.dm_syn.specs.declared.symbol.Symbol.TheVariants as symbol
use Rattle.dm_syn.specs.Symbols.{is}
use Rattle.dm_syn.specs.Sources.{Source}
use Rattle.dm_syn.specs.Trees as tree
use Rattle.dm_syn.specs.Views as view
use Rattle.dm_syn.specs.Spans.{expr_span}
use Rattle.dm_syn.specs.Scopes.{optional_declares, is_typedef_symbol, has_typedef}
use Rattle.dm_syn.specs.Statements.{optional_after}
use Rattle.dm_pexpr.specs.declared.part.Part.{Part}
use Rattle.dm_pexpr.specs.Parsing.{Parts, lower, span_of, and_then}
use Rattle.dm_pexpr.specs.Parts.{IsPart, Gives, Passes, an_expr}
use Rattle.dm_pexpr.proofs.Expressions.{holds, if-true, if-false}
use Rattle.dm_pexpr.proofs.PartLemmas.{part-of}
use Rattle.dm_pexpr.proofs.TestLemmas.{fails}
use Rattle.dm_pstmt.specs.Kinds.{an_optional}
use Rattle.dm_pstmt.specs.Parsing.{within, stands, optional_of, enclosed_of, enclosed_by, checked_stmt, expression_with, return_with, stmt_by, evaluating, returning}
use Rattle.dm_pstmt.specs.Steps.{closed_by, clause_of}
use Rattle.dm_pstmt.proofs.StatementSteps.{within-parts, clause-there, no-clause-in}
use Rattle.dm_pstmt.proofs.Wholes.{then-is, whole-part}

-- a symbol that is passed, or isn't
pub passes-there : (test : Bool) (at end : ℕ) (found : Option ℕ) → Passes test at end found → is_some found ≡ true → (test ≡ true) × (at < end)
passes-there test at end None p there = absurd (cc)
passes-there test at end (Some next) p there = (p.0, (let e = p.1 in let f = p.2 in omega (arith, e, f)))

pub passes-not : (test : Bool) (at end : ℕ) (found : Option ℕ) → Passes test at end found → is_some found ≡ false → test ≡ false
passes-not test at end None p none = p
passes-not test at end (Some next) p none = absurd (cc)

-- `)` behind an expression
pub no-paren : (source : Source) (before now : List Declared) (found : Option (Part Expr)) (part : Part Expr) (wanted : Option tree.Expr) → found ≡ Some part → Gives (an_expr source) source before now found wanted
    → stands source now part.after symbol.RightParen ≡ false → and_then (enclosed_by source before) wanted ≡ None
no-paren source before now found part wanted there given none =
    let g = part-of (an_expr source) source before now found part wanted there given in
    let v : tree.Expr = view.expr part.tree in
    then-is (enclosed_by source before) wanted v g.read
    ∙ fails _ _ (ap (λ names. stands source names (expr_span v).after symbol.RightParen) (sym g.scoped) ∙ ap (λ n. stands source now n symbol.RightParen) (sym g.ends) ∙ none)

pub paren-read : (source : Source) (before now : List Declared) (found : Option (Part Expr)) (part : Part Expr) (wanted : Option tree.Expr) → found ≡ Some part → Gives (an_expr source) source before now found wanted
    → stands source now part.after symbol.RightParen ≡ true → IsPart (an_expr source) source before now part (and_then (enclosed_by source before) wanted)
paren-read source before now found part wanted there given stands_there =
    let g = part-of (an_expr source) source before now found part wanted there given in
    let v : tree.Expr = view.expr part.tree in
    whole-part (an_expr source) source before now part v _ refl
    (then-is (enclosed_by source before) wanted v g.read
    ∙ holds _ _ (ap (λ names. stands source names (expr_span v).after symbol.RightParen) (sym g.scoped) ∙ ap (λ n. stands source now n symbol.RightParen) (sym g.ends) ∙ stands_there))
    g.starts g.high g.low g.ends g.within g.scoped

pub not-enclosed : (source : Source) (parts : Parts) (names : List Declared) (at : ℕ) → stands source names at symbol.LeftParen ≡ false → enclosed_of source parts names at ≡ None
unfolding enclosed_of
not-enclosed source parts names at none = fails _ _ none

pub enclosed-wanted : (source : Source) (parts : Parts) (names : List Declared) (at next : ℕ) → stands source names at symbol.LeftParen ≡ true → next ≡ at + 1
    → enclosed_of source parts names at ≡ and_then (enclosed_by source names) (parts.expr 0 names next)
unfolding enclosed_of
enclosed-wanted source parts names at next there place = holds _ _ there ∙ ap (λ n. and_then (enclosed_by source names) (parts.expr 0 names n)) (sym place)

-- a symbol behind an expression that may be absent
pub no-stop : (source : Source) (before now : List Declared) (at : ℕ) (stop : Symbol) (found : Option (Part Expr)) (part : Part Expr) (wanted : Option tree.Expr) → found ≡ Some part → Gives (an_expr source) source before now found wanted
    → stands source now part.after stop ≡ false → and_then (closed_by source before at stop) (option_map Some wanted) ≡ None
no-stop source before now at stop found part wanted there given none =
    let g = part-of (an_expr source) source before now found part wanted there given in
    let v : tree.Expr = view.expr part.tree in
    ap (λ w. and_then (closed_by source before at stop) (option_map Some w)) g.read
    ∙ fails _ _ (ap (λ names. stands source names (expr_span v).after stop) (sym g.scoped) ∙ ap (λ n. stands source now n stop) (sym g.ends) ∙ none)

pub stop-read : (source : Source) (before now : List Declared) (at : ℕ) (stop : Symbol) (found : Option (Part Expr)) (part : Part Expr) (wanted : Option tree.Expr) → found ≡ Some part → Gives (an_expr source) source before now found wanted
    → stands source now part.after stop ≡ true
    → IsPart (an_optional source at) source before now (record { tree = Some part.tree; height = part.height; after = part.after }) (and_then (closed_by source before at stop) (option_map Some wanted))
stop-read source before now at stop found part wanted there given stands_there =
    let g = part-of (an_expr source) source before now found part wanted there given in
    let v : tree.Expr = view.expr part.tree in
    whole-part (an_optional source at) source before now (record { tree = Some part.tree; height = part.height; after = part.after }) (Some v) _ refl
    (ap (λ w. and_then (closed_by source before at stop) (option_map Some w)) g.read
    ∙ holds _ _ (ap (λ names. stands source names (expr_span v).after stop) (sym g.scoped) ∙ ap (λ n. stands source now n stop) (sym g.ends) ∙ stands_there))
    refl g.high g.low g.ends g.within g.scoped

pub nothing-read : (source : Source) (parts : Parts) (stop : Symbol) (names : List Declared) (at : ℕ) → stands source names at stop ≡ true → at < length source.tokens
    → IsPart (an_optional source at) source names names (record { tree = None; height = 0; after = at }) (clause_of source parts stop names at)
unfolding optional_of
nothing-read source parts stop names at there before_end =
    whole-part (an_optional source at) source names names (record { tree = None; height = 0; after = at }) None _ refl
    (ap (and_then (closed_by source names at stop)) (if-true _ _ _ there) ∙ holds _ _ there)
    refl refl (omega arith) refl (omega arith) refl

pub clause-wanted : (source : Source) (parts : Parts) (stop : Symbol) (names : List Declared) (at : ℕ) → stands source names at stop ≡ false
    → clause_of source parts stop names at ≡ and_then (closed_by source names at stop) (option_map Some (parts.expr 0 names at))
unfolding optional_of
clause-wanted source parts stop names at none = ap (and_then (closed_by source names at stop)) (if-false _ _ _ none)

-- statements of an expression that may be absent
pub no-expression : (source : Source) (depth : ℕ) (names : List Declared) (at : ℕ) → clause_of source (lower source depth) symbol.Semicolon names at ≡ None → stmt_by source (within source depth) names at evaluating ≡ None
unfolding stmt_by
no-expression source depth names at none =
    ap (λ parts. and_then (expression_with source names at) (optional_of source parts symbol.Semicolon names at)) (within-parts source depth)
    ∙ no-clause-in (λ it. checked_stmt (tree.expression (span_of at (optional_after at it + 1)) it)) (λ it. stands source (optional_declares source it ++ names) (optional_after at it) symbol.Semicolon)
    (λ it. stands source (optional_declares source it ++ names) (optional_after at it) symbol.Semicolon) (optional_of source (lower source depth) symbol.Semicolon names at) (λ it. refl) none

pub expression-wanted : (source : Source) (depth : ℕ) (names : List Declared) (at : ℕ) (it : Option tree.Expr) → clause_of source (lower source depth) symbol.Semicolon names at ≡ Some it
    → stmt_by source (within source depth) names at evaluating ≡ and_then (expression_with source names at) (clause_of source (lower source depth) symbol.Semicolon names at)
unfolding stmt_by
expression-wanted source depth names at it is =
    ap (λ parts. and_then (expression_with source names at) (optional_of source parts symbol.Semicolon names at)) (within-parts source depth)
    ∙ then-is (expression_with source names at) _ it (clause-there source (lower source depth) symbol.Semicolon names at it is).0 ∙ sym (then-is (expression_with source names at) _ it is)

pub no-return : (source : Source) (depth : ℕ) (names : List Declared) (at next : ℕ) → next ≡ at + 1 → clause_of source (lower source depth) symbol.Semicolon names next ≡ None → stmt_by source (within source depth) names at returning ≡ None
unfolding stmt_by
no-return source depth names at next place none =
    ap (λ parts. and_then (return_with source names at) (optional_of source parts symbol.Semicolon names (at + 1))) (within-parts source depth)
    ∙ no-clause-in (λ it. checked_stmt (tree.return (span_of at (optional_after (at + 1) it + 1)) it)) (λ it. stands source (optional_declares source it ++ names) (optional_after (at + 1) it) symbol.Semicolon)
    (λ it. stands source (optional_declares source it ++ names) (optional_after (at + 1) it) symbol.Semicolon) (optional_of source (lower source depth) symbol.Semicolon names (at + 1)) (λ it. refl)
    (subst (λ n. clause_of source (lower source depth) symbol.Semicolon names n ≡ None) place none)

pub return-wanted : (source : Source) (depth : ℕ) (names : List Declared) (at : ℕ) (it : Option tree.Expr) → clause_of source (lower source depth) symbol.Semicolon names (at + 1) ≡ Some it
    → stmt_by source (within source depth) names at returning ≡ and_then (return_with source names at) (clause_of source (lower source depth) symbol.Semicolon names (at + 1))
unfolding stmt_by
return-wanted source depth names at it is =
    ap (λ parts. and_then (return_with source names at) (optional_of source parts symbol.Semicolon names (at + 1))) (within-parts source depth)
    ∙ then-is (return_with source names at) _ it (clause-there source (lower source depth) symbol.Semicolon names (at + 1) it is).0 ∙ sym (then-is (return_with source names at) _ it is)

-- `typedef` among specifiers
pub typedef-is : (it : Symbol) → is it symbol.Typedef ≡ is_typedef_symbol it
typedef-is symbol.Typedef = refl
typedef-is _ = refl

pub or-false : (test : Bool) → (test || false) ≡ test
or-false true = refl
or-false false = refl

or-more : (found one rest : Bool) → ((one || found) || rest) ≡ (found || (one || rest))
or-more true true rest = refl
or-more true false rest = refl
or-more false true rest = refl
or-more false false rest = refl

has-first : (source : Source) (first : tree.Specifier) (others : tree.Words) → has_typedef source (tree.more_words first others) ≡ (has_typedef source (tree.more_words first tree.no_words) || has_typedef source others)
has-first source (tree.keyword at) others = ap (λ test. test || has_typedef source others) (sym (or-false _))
has-first source _ others = refl

pub typedef-further : (source : Source) (items : List Specifier) (at : ℕ) (it : Specifier) (found one now all : Bool) → at < length items → it ≡ get_or items at it
    → (found || has_typedef source (view.words (map view.specifier (drop at items)))) ≡ all → one ≡ has_typedef source (tree.more_words (view.specifier it) tree.no_words) → now ≡ (one || found)
    → (now || has_typedef source (view.words (map view.specifier (drop (at + 1) items)))) ≡ all
typedef-further source items at it found one now all there is so tested one_more =
    let rest : tree.Words = view.words (map view.specifier (drop (at + 1) items)) in
    ap (λ test. test || has_typedef source rest) one_more ∙ or-more found one (has_typedef source rest)
    ∙ ap (λ test. found || test) (ap (λ test. test || has_typedef source rest) tested ∙ sym (has-first source (view.specifier it) rest))
    ∙ ap (λ first. found || has_typedef source (view.words (map view.specifier (first ∷ drop (at + 1) items)))) is
    ∙ sym (at_drop_more (λ those. found || has_typedef source (view.words (map view.specifier those))) items at it there) ∙ so

pub typedef-all : (source : Source) (items : List Specifier) (at : ℕ) (found all : Bool) → length items ≤ at → (found || has_typedef source (view.words (map view.specifier (drop at items)))) ≡ all → found ≡ all
typedef-all source items at found all past so =
    sym (or-false found) ∙ sym (at_drop_all (λ those. found || has_typedef source (view.words (map view.specifier those))) items at past) ∙ so
