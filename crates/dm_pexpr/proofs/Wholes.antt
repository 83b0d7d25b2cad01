-- What is given for a whole expression or type name.
use Rattle.std.proofs.Common.{◌≡◌, ◌≤◌, ◌<◌, ℕ, Bool, true, false, ◌&&◌, List, [], ◌++◌, length, Option, Some, None, nat_le, refl, sym, ap, ◌∙◌, subst, arith, if◌then◌else◌}
use Rattle.dm_token.specs.declared.token.CToken.{CToken}
use Rattle.dm_token.specs.Limits.{greatest_height}
use Rattle.dm_syn.specs.declared.declared.Declared.{Declared}
use Rattle.dm_syn.specs.declared.symbol.Symbol.{Symbol}
use Rattle.dm_syn.specs.declared.expression.Expr.{Expr}
use Rattle.dm_syn.specs.declared.declaration.TypeName.{TypeName}
use Rattle.dm_syn.specs.Sources.{Source, symbol_in}
use Rattle.dm_syn.specs.Trees as tree
use Rattle.dm_syn.specs.Views as view
use Rattle.dm_syn.specs.Spans.{expr_span, type_name_span}
use Rattle.dm_syn.specs.Heights.{expr_height, type_name_height}
use Rattle.dm_syn.specs.Scopes.{expr_declares, type_name_declares}
use Rattle.dm_pexpr.specs.declared.part.Part.{Part}
use Rattle.dm_pexpr.specs.Parsing.{lower, type_name_of}
use Rattle.dm_pexpr.specs.Parts.{IsPart, Gives, an_expr, a_type_name}
use Rattle.dm_pexpr.specs.Readings.{IsExpression, IsClosedName, closes_expression, closes_type_name, expression_at, type_name_at, whole_expression, whole_name}
use Rattle.dm_pexpr.specs.Answers.{IsExpressionFound, IsNameFound}
use Rattle.dm_pexpr.proofs.Expressions.{if-true, if-false, both-tests}
use Rattle.dm_pexpr.proofs.SymbolLemmas.{le-true, le-false}
use Rattle.dm_pexpr.proofs.Soundness.{inside}
use Rattle.dm_pexpr.proofs.Positions.{expr-on, type-name-on}
use Rattle.dm_pexpr.proofs.Exactness.{expression-found, expression-only, type-name-found, type-name-only}
use Rattle.dm_pexpr.proofs.TestLemmas.{second-no}

-- none of them is read
pub not-some : {A : Type 0} (found : Option A) (it : A) → found ≡ None → found ≡ Some it → ⊥
not-some found it none some = let both : None ≡ Some it = sym none ∙ some in cc

-- an expression that is read, and what follows it closes it
expression-whole : (source : Source) (now : List Declared) (at : ℕ) (part : Part Expr) → IsPart (an_expr source) source [] now part ((lower source greatest_height).expr 0 [] at)
    → part.height ≤ greatest_height → closes_expression (symbol_in source now part.after) ≡ true → expression_at source [] at ≡ Some (view.expr part.tree)
expression-whole source now at part k low closed =
    let v : tree.Expr = view.expr part.tree in
    let seen : symbol_in source (expr_declares source v ++ []) (expr_span v).after ≡ symbol_in source now part.after = ap (λ ns. symbol_in source ns (expr_span v).after) (sym k.scoped) ∙ ap (symbol_in source now) (sym k.ends) in
    ap (whole_expression source []) k.read
    ∙ if-true _ _ _ (both-tests _ _ (le-true (expr_height v) greatest_height (subst (λ n. n ≤ greatest_height) k.high low)) (ap closes_expression seen ∙ closed))

pub expression-given : (source : Source) (now : List Declared) (at : ℕ) (part : Part Expr) → IsPart (an_expr source) source [] now part ((lower source greatest_height).expr 0 [] at)
    → part.height ≤ greatest_height → closes_expression (symbol_in source now part.after) ≡ true → IsExpressionFound source at (part.tree, part.after)
expression-given source now at part k low closed =
    let whole = expression-found source [] at (view.expr part.tree) (expression-whole source now at part k low closed) in
    let on = expr-on source [] (view.expr part.tree) whole.formed in
    record { formed = whole; ends = k.ends; onward = (let begins = whole.begins in let ends = k.ends in omega (arith, on, begins, ends)); within = k.within }

pub expression-the-one : (source : Source) (now : List Declared) (at : ℕ) (part : Part Expr) (it : tree.Expr) → IsPart (an_expr source) source [] now part ((lower source greatest_height).expr 0 [] at)
    → part.height ≤ greatest_height → closes_expression (symbol_in source now part.after) ≡ true → IsExpression source [] at it → view.expr part.tree ≡ it
expression-the-one source now at part it k low closed is = inside _ _ (sym (expression-whole source now at part k low closed) ∙ expression-only source [] at it is)

pub expression-open : (source : Source) (now : List Declared) (at : ℕ) (part : Part Expr) (it : tree.Expr) → IsPart (an_expr source) source [] now part ((lower source greatest_height).expr 0 [] at)
    → closes_expression (symbol_in source now part.after) ≡ false → IsExpression source [] at it → ⊥
expression-open source now at part it k unclosed is =
    let v : tree.Expr = view.expr part.tree in
    let seen : symbol_in source (expr_declares source v ++ []) (expr_span v).after ≡ symbol_in source now part.after = ap (λ ns. symbol_in source ns (expr_span v).after) (sym k.scoped) ∙ ap (symbol_in source now) (sym k.ends) in
    not-some _ it (ap (whole_expression source []) k.read ∙ if-false _ _ _ (second-no _ _ (ap closes_expression seen ∙ unclosed))) (expression-only source [] at it is)

pub expression-none : (source : Source) (at : ℕ) (it : tree.Expr) → (lower source greatest_height).expr 0 [] at ≡ None → IsExpression source [] at it → ⊥
expression-none source at it none is = not-some _ it (ap (whole_expression source []) none) (expression-only source [] at it is)

-- a type name that is read, and what follows it closes it
name-whole : (source : Source) (now : List Declared) (at : ℕ) (part : Part TypeName) → IsPart (a_type_name source) source [] now part (type_name_of source (lower source greatest_height) [] at)
    → part.height ≤ greatest_height → closes_type_name (symbol_in source now part.after) ≡ true → type_name_at source [] at ≡ Some (view.type_name part.tree)
name-whole source now at part k low closed =
    let v : tree.TypeName = view.type_name part.tree in
    let seen : symbol_in source (type_name_declares source v ++ []) (type_name_span v).after ≡ symbol_in source now part.after = ap (λ ns. symbol_in source ns (type_name_span v).after) (sym k.scoped) ∙ ap (symbol_in source now) (sym k.ends) in
    ap (whole_name source []) k.read
    ∙ if-true _ _ _ (both-tests _ _ (le-true (type_name_height v) greatest_height (subst (λ n. n ≤ greatest_height) k.high low)) (ap closes_type_name seen ∙ closed))

pub name-given : (source : Source) (now : List Declared) (at : ℕ) (part : Part TypeName) → IsPart (a_type_name source) source [] now part (type_name_of source (lower source greatest_height) [] at)
    → part.height ≤ greatest_height → closes_type_name (symbol_in source now part.after) ≡ true → IsNameFound source at (part.tree, part.after)
name-given source now at part k low closed =
    let whole = type-name-found source [] at (view.type_name part.tree) (name-whole source now at part k low closed) in
    let on = type-name-on source [] (view.type_name part.tree) whole.formed in
    record { formed = whole; ends = k.ends; onward = (let begins = whole.begins in let ends = k.ends in omega (arith, on, begins, ends)); within = k.within }

pub name-the-one : (source : Source) (now : List Declared) (at : ℕ) (part : Part TypeName) (it : tree.TypeName) → IsPart (a_type_name source) source [] now part (type_name_of source (lower source greatest_height) [] at)
    → part.height ≤ greatest_height → closes_type_name (symbol_in source now part.after) ≡ true → IsClosedName source [] at it → view.type_name part.tree ≡ it
name-the-one source now at part it k low closed is = inside _ _ (sym (name-whole source now at part k low closed) ∙ type-name-only source [] at it is)

pub name-open : (source : Source) (now : List Declared) (at : ℕ) (part : Part TypeName) (it : tree.TypeName) → IsPart (a_type_name source) source [] now part (type_name_of source (lower source greatest_height) [] at)
    → closes_type_name (symbol_in source now part.after) ≡ false → IsClosedName source [] at it → ⊥
name-open source now at part it k unclosed is =
    let v : tree.TypeName = view.type_name part.tree in
    let seen : symbol_in source (type_name_declares source v ++ []) (type_name_span v).after ≡ symbol_in source now part.after = ap (λ ns. symbol_in source ns (type_name_span v).after) (sym k.scoped) ∙ ap (symbol_in source now) (sym k.ends) in
    not-some _ it (ap (whole_name source []) k.read ∙ if-false _ _ _ (second-no _ _ (ap closes_type_name seen ∙ unclosed))) (type-name-only source [] at it is)

pub name-none : (source : Source) (at : ℕ) (it : tree.TypeName) → type_name_of source (lower source greatest_height) [] at ≡ None → IsClosedName source [] at it → ⊥
name-none source at it none is = not-some _ it (ap (whole_name source []) none) (type-name-only source [] at it is)

-- a type name that is too high
pub name-high : (source : Source) (now : List Declared) (at : ℕ) (part : Part TypeName) (it : tree.TypeName) → IsPart (a_type_name source) source [] now part (type_name_of source (lower source greatest_height) [] at)
    → greatest_height < part.height → IsClosedName source [] at it → ⊥
name-high source now at part it k high is =
    let v : tree.TypeName = view.type_name part.tree in
    not-some _ it
    (ap (whole_name source []) k.read
    ∙ if-false _ _ _ (ap (λ (test : Bool). test && closes_type_name (symbol_in source (type_name_declares source v ++ []) (type_name_span v).after)) (le-false (type_name_height v) greatest_height (subst (λ n. greatest_height < n) k.high high))))
    (type-name-only source [] at it is)
