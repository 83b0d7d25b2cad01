-- What is read at a place is the well-formed tree there.
use Rattle.std.proofs.Common.{◌≡◌, ℕ, Bool, true, false, List, Option, Some, None, refl, ap, ◌∙◌, subst, if◌then◌else◌}
use Rattle.dm_token.specs.Limits.{greatest_height}
use Rattle.dm_syn.specs.declared.declared.Declared.{Declared}
use Rattle.dm_syn.specs.Sources.{Source}
use Rattle.dm_syn.specs.Trees.{Expr, TypeName}
use Rattle.dm_syn.specs.Heights.{expr_height, type_name_height}
use Rattle.dm_pexpr.specs.Parsing.{lower, type_name_of}
use Rattle.dm_pexpr.specs.Readings.{IsExpression, IsClosedName, whole_expression, whole_name, expression_at, type_name_at}
use Rattle.dm_pexpr.proofs.SymbolLemmas.{le-true}
use Rattle.dm_pexpr.proofs.Expressions.{if-true, both-tests}
use Rattle.dm_pexpr.proofs.Soundness.{inside, both-hold, name-formed, le-from}
use Rattle.dm_pexpr.proofs.AllFormed.{all-formed}
use Rattle.dm_pexpr.proofs.Closings.{expression-read, closed-name-read}

-- a tree that a test lets through
let-through : {A : Type 0} (test : Bool) (one it : A) → (if test then Some one else None) ≡ Some it → (test ≡ true) × (one ≡ it)
let-through true one it h = (refl, inside one it h)
let-through false one it h = absurd (cc)

whole-found : (source : Source) (names : List Declared) (at : ℕ) (found : Option Expr) (it : Expr) → (lower source greatest_height).expr 0 names at ≡ found
    → whole_expression source names found ≡ Some it → IsExpression source names at it
whole-found source names at None it e h = absurd (cc)
whole-found source names at (Some expr) it e h =
    let passed = let-through _ expr it h in
    let tests = both-hold _ _ passed.0 in
    let formed = (all-formed source greatest_height).expr 0 names at expr e in
    let read : IsExpression source names at expr = record { formed = formed.0; begins = formed.1; low = le-from _ _ tests.0; closed = tests.1 } in
    subst (IsExpression source names at) passed.1 read

pub expression-found : (source : Source) (names : List Declared) (at : ℕ) (it : Expr) → expression_at source names at ≡ Some it → IsExpression source names at it
expression-found source names at it h = whole-found source names at ((lower source greatest_height).expr 0 names at) it refl h

pub expression-only : (source : Source) (names : List Declared) (at : ℕ) (it : Expr) → IsExpression source names at it → expression_at source names at ≡ Some it
expression-only source names at it is =
    ap (whole_expression source names) (expression-read source names at it is)
    ∙ if-true _ _ _ (both-tests _ _ (le-true (expr_height it) greatest_height is.low) is.closed)

name-found : (source : Source) (names : List Declared) (at : ℕ) (found : Option TypeName) (it : TypeName) → type_name_of source (lower source greatest_height) names at ≡ found
    → whole_name source names found ≡ Some it → IsClosedName source names at it
name-found source names at None it e h = absurd (cc)
name-found source names at (Some name) it e h =
    let passed = let-through _ name it h in
    let tests = both-hold _ _ passed.0 in
    let formed = name-formed source (lower source greatest_height) (all-formed source greatest_height) names at name e in
    let read : IsClosedName source names at name = record { formed = formed.0; begins = formed.1; low = le-from _ _ tests.0; closed = tests.1 } in
    subst (IsClosedName source names at) passed.1 read

pub type-name-found : (source : Source) (names : List Declared) (at : ℕ) (it : TypeName) → type_name_at source names at ≡ Some it → IsClosedName source names at it
type-name-found source names at it h = name-found source names at (type_name_of source (lower source greatest_height) names at) it refl h

pub type-name-only : (source : Source) (names : List Declared) (at : ℕ) (it : TypeName) → IsClosedName source names at it → type_name_at source names at ≡ Some it
type-name-only source names at it is =
    ap (whole_name source names) (closed-name-read source names at it is)
    ∙ if-true _ _ _ (both-tests _ _ (le-true (type_name_height it) greatest_height is.low) is.closed)
