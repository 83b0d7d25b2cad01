-- Declarators that are put together of parts.
use Rattle.std.proofs.Common.{◌≡◌, ◌≤◌, ◌<◌, ℕ, zero, suc, ◌+◌, ◌-◌, Bool, true, false, not, ◌&&◌, List, [], ◌∷◌, ◌++◌, length, map, Option, Some, None, nat_le, refl, sym, ap, ◌∙◌, arith, lit≤, append_assoc, length-append, if◌then◌else◌}
use Rattle.std.proofs.lemmas.List.{append-nil}
use Rattle.dm_token.specs.Limits.{greatest_height}
use Rattle.dm_syn.specs.declared.declared.Declared.{Declared}
use Rattle.dm_syn.specs.declared.symbol.Symbol.TheVariants as symbol
use Rattle.dm_syn.specs.declared.expression.Expr.{Expr}
use Rattle.dm_syn.specs.declared.declaration.Declarator.{Declarator}
use Rattle.dm_syn.specs.declared.declaration.Direct.{Direct}
use Rattle.dm_syn.specs.declared.declaration.Direct.TheVariants as direct
use Rattle.dm_syn.specs.declared.declaration.Parameter.{Parameter}
use Rattle.dm_syn.specs.Symbols.{is}
use Rattle.dm_syn.specs.Sources.{Source, symbol_in}
use Rattle.dm_syn.specs.Trees as tree
use Rattle.dm_syn.specs.Spans.{expr_span, declarator_span, direct_after, parameters_after, pointers_after}
use Rattle.dm_syn.specs.Heights.{above, is_absent, pointers_node, declarator_height, direct_height}
use Rattle.dm_syn.specs.Scopes.{expr_declares, declarator_declares, direct_declares}
use Rattle.dm_syn.specs.Views as view
use Rattle.dm_pexpr.specs.declared.part.Part.{Part}
use Rattle.dm_pexpr.specs.Parsing.{checked, checked_direct, where_true, span_of, declarator_with, enclosed_from, sized_from, function_from, consts, pointers, all_turns}
use Rattle.dm_pexpr.specs.Counted.{most_counted}
use Rattle.dm_pexpr.specs.Parts.{IsPart, Gives, Passes, an_expr, a_declarator, a_direct, parameters_from}
use Rattle.dm_pexpr.proofs.Expressions.{holds, if-true, if-false, both-tests}
use Rattle.dm_pexpr.proofs.PartLemmas.{made-gives, part-is, part-of}
use Rattle.dm_pexpr.proofs.TypeViewLemmas.{view-shaped, view-absent, view-declared, view-enclosed, view-array, view-sized, view-function}
use Rattle.dm_pexpr.proofs.TestLemmas.{fails}

-- pointers and what stands behind them
pub declarator-made : (source : Source) (before now : List Declared) (first : ℕ) (stars : List ℕ) (found : Option (Part Direct)) (part : Part Direct) (wanted : Option tree.Direct) → found ≡ Some part
    → Gives (a_direct source (pointers_after first stars)) source before now found wanted
    → (height : ℕ) (made : Option (Part Declarator)) → (part.height < most_counted → height ≡ pointers_node stars part.height)
    → made ≡ (if nat_le height greatest_height then Some (record { tree = record { span = record { first = first; after = part.after }; pointers = stars; direct = part.tree }; height = height; after = part.after }) else None)
    → Gives (a_declarator source) source before now made (declarator_with first stars wanted)
unfolding declarator_height declarator_declares
declarator-made source before now first stars found part wanted there given height made high node =
    let g = part-of (a_direct source (pointers_after first stars)) source before now found part wanted there given in
    let v : tree.Direct = view.direct part.tree in
    made-gives (a_declarator source) source before now made _ height part.after (tree.shaped (span_of first part.after) stars v) _ node
    (ap (declarator_with first stars) g.read ∙ ap (λ n. checked (pointers_node stars (direct_height v)) (tree.shaped (span_of first n) stars v)) (sym g.ends))
    (view-shaped _ stars part.tree) refl
    (high (omega (arith, g.low)) ∙ ap (pointers_node stars) g.high) refl g.within g.scoped (lit≤ tt)

-- the innermost part
pub named-made : (source : Source) (names : List Declared) (name after : ℕ) → after ≡ name + 1 → after ≤ length source.tokens
    → IsPart (a_direct source name) source names names (record { tree = direct.Name name; height = 1; after = after }) (Some (tree.declared name))
unfolding direct_height direct_declares
named-made source names name after next within =
    part-is (a_direct source name) source names names _ 1 after (tree.declared name) _ refl (view-declared name) refl refl (lit≤ tt) next within refl

pub nothing-made : (source : Source) (names : List Declared) (at : ℕ) (wanted : Option tree.Direct) → at ≤ length source.tokens → wanted ≡ Some tree.absent
    → IsPart (a_direct source at) source names names (record { tree = direct.Absent; height = 0; after = at }) wanted
unfolding direct_height direct_declares
nothing-made source names at wanted within absent =
    part-is (a_direct source at) source names names _ 0 at tree.absent wanted absent view-absent refl refl (lit≤ tt) refl within refl

-- a declarator in parentheses
enclosed-test : (source : Source) (before now : List Declared) (found : Option (Part Declarator)) (part : Part Declarator) (wanted : Option tree.Declarator) → found ≡ Some part
    → Gives (a_declarator source) source before now found wanted
    → enclosed_from source before wanted
    ≡ where_true (not (is_absent (view.declarator part.tree)) && is (symbol_in source now part.after) symbol.RightParen) (checked_direct (tree.enclosed (view.declarator part.tree)))
enclosed-test source before now found part wanted there given =
    let g = part-of (a_declarator source) source before now found part wanted there given in
    let v : tree.Declarator = view.declarator part.tree in
    ap (enclosed_from source before) g.read
    ∙ ap (λ ns. where_true (not (is_absent v) && is (symbol_in source ns (declarator_span v).after) symbol.RightParen) (checked_direct (tree.enclosed v))) (sym g.scoped)
    ∙ ap (λ n. where_true (not (is_absent v) && is (symbol_in source now n) symbol.RightParen) (checked_direct (tree.enclosed v))) (sym g.ends)

first-fails : (one other : Bool) → one ≡ true → (not one && other) ≡ false
first-fails one other h = ap (λ it. not it && other) h

pub enclosed-absent : (source : Source) (before now : List Declared) (found : Option (Part Declarator)) (part : Part Declarator) (wanted : Option tree.Declarator) → found ≡ Some part
    → Gives (a_declarator source) source before now found wanted → is_absent (view.declarator part.tree) ≡ true → enclosed_from source before wanted ≡ None
enclosed-absent source before now found part wanted there given absent =
    enclosed-test source before now found part wanted there given ∙ fails _ _ (first-fails _ _ absent)

pub enclosed-made : (source : Source) (before now : List Declared) (start : ℕ) (found : Option (Part Declarator)) (part : Part Declarator) (wanted : Option tree.Declarator) → found ≡ Some part
    → Gives (a_declarator source) source before now found wanted → is_absent (view.declarator part.tree) ≡ false
    → (after height : ℕ) (boxed : Declarator) (made : Option (Part Direct))
    → Passes (is (symbol_in source now part.after) symbol.RightParen) part.after (length source.tokens) (Some after)
    → boxed ≡ part.tree → (part.height < most_counted → height ≡ part.height + 1)
    → made ≡ (if nat_le height greatest_height then Some (record { tree = direct.Paren boxed; height = height; after = after }) else None)
    → Gives (a_direct source start) source before now made (enclosed_from source before wanted)
unfolding direct_height direct_declares
enclosed-made source before now start found part wanted there given present after height boxed made passes same high node =
    let g = part-of (a_declarator source) source before now found part wanted there given in
    let v : tree.Declarator = view.declarator part.tree in
    made-gives (a_direct source start) source before now made _ height after (tree.enclosed v) _ node
    (enclosed-test source before now found part wanted there given ∙ holds _ _ (both-tests _ _ (ap not present) passes.0))
    (view-enclosed boxed ∙ ap (λ d. tree.enclosed (view.declarator d)) same) refl
    (high (omega (arith, g.low)) ∙ ap (λ n. n + 1) g.high) (passes.1 ∙ ap (λ n. n + 1) g.ends) passes.2 g.scoped (lit≤ tt)

-- arrays
pub array-made : (source : Source) (before now : List Declared) (start : ℕ) (inner : Part Direct) (read : Option tree.Direct)
    → IsPart (a_direct source start) source before now inner read
    → (after height : ℕ) (boxed : Direct) (made : Option (Part Direct)) → after ≤ length source.tokens → after ≡ inner.after + 2
    → boxed ≡ inner.tree → (inner.height < most_counted → height ≡ inner.height + 1)
    → made ≡ (if nat_le height greatest_height then Some (record { tree = direct.Array boxed None; height = height; after = after }) else None)
    → Gives (a_direct source start) source before now made (checked_direct (tree.array (view.direct inner.tree)))
unfolding direct_height direct_declares
array-made source before now start inner read k after height boxed made within next same high node =
    made-gives (a_direct source start) source before now made _ height after (tree.array (view.direct inner.tree)) _ node refl
    (view-array boxed ∙ ap (λ d. tree.array (view.direct d)) same) refl
    (high (omega (arith, k.low)) ∙ ap (λ n. n + 1) k.high) (next ∙ ap (λ n. n + 2) k.ends) within k.scoped (lit≤ tt)

sized-test : (source : Source) (names now : List Declared) (inner : tree.Direct) (found : Option (Part Expr)) (part : Part Expr) (wanted : Option tree.Expr) → found ≡ Some part
    → Gives (an_expr source) source names now found wanted
    → sized_from source names inner wanted ≡ where_true (is (symbol_in source now part.after) symbol.RightBracket) (checked_direct (tree.sized inner (view.expr part.tree)))
sized-test source names now inner found part wanted there given =
    let g = part-of (an_expr source) source names now found part wanted there given in
    let v : tree.Expr = view.expr part.tree in
    ap (sized_from source names inner) g.read
    ∙ ap (λ ns. where_true (is (symbol_in source ns (expr_span v).after) symbol.RightBracket) (checked_direct (tree.sized inner v))) (sym g.scoped)
    ∙ ap (λ n. where_true (is (symbol_in source now n) symbol.RightBracket) (checked_direct (tree.sized inner v))) (sym g.ends)

pub sized-made : (source : Source) (before names now : List Declared) (start : ℕ) (inner : Part Direct) (read : Option tree.Direct) (found : Option (Part Expr)) (part : Part Expr) (wanted : Option tree.Expr) → found ≡ Some part
    → IsPart (a_direct source start) source before names inner read → Gives (an_expr source) source names now found wanted
    → (after height : ℕ) (one : Direct) (other : Expr) (made : Option (Part Direct))
    → Passes (is (symbol_in source now part.after) symbol.RightBracket) part.after (length source.tokens) (Some after)
    → one ≡ inner.tree → other ≡ part.tree → (inner.height < most_counted → part.height < most_counted → height ≡ above inner.height part.height)
    → made ≡ (if nat_le height greatest_height then Some (record { tree = direct.Array one (Some other); height = height; after = after }) else None)
    → Gives (a_direct source start) source before now made (sized_from source names (view.direct inner.tree) wanted)
unfolding direct_height direct_declares
sized-made source before names now start inner read found part wanted there k given after height one other made passes same alike high node =
    let g = part-of (an_expr source) source names now found part wanted there given in
    let d : tree.Direct = view.direct inner.tree in
    let v : tree.Expr = view.expr part.tree in
    made-gives (a_direct source start) source before now made _ height after (tree.sized d v) _ node
    (sized-test source names now d found part wanted there given ∙ holds _ _ passes.0)
    (view-sized one other ∙ ap (λ t. tree.sized (view.direct t) (view.expr other)) same ∙ ap (λ e. tree.sized d (view.expr e)) alike) refl
    (high (omega (arith, k.low)) (omega (arith, g.low)) ∙ ap (λ n. above n part.height) k.high ∙ ap (above (direct_height d)) g.high)
    (passes.1 ∙ ap (λ n. n + 1) g.ends) passes.2
    (g.scoped ∙ ap (λ ns. expr_declares source v ++ ns) k.scoped ∙ sym (append_assoc (expr_declares source v) (direct_declares source d) before)) (lit≤ tt)

-- functions
pub function-made : (source : Source) (before now within : List Declared) (start at : ℕ) (inner : Part Direct) (read : Option tree.Direct) (part : Part (List Parameter)) (wanted : Option tree.Parameters)
    → IsPart (a_direct source start) source before now inner read → at ≡ inner.after + 1 → IsPart (parameters_from source at) source now within part wanted
    → (after height : ℕ) (boxed : Direct) (made : Option (Part Direct))
    → Passes (is (symbol_in source within part.after) symbol.RightParen) part.after (length source.tokens) (Some after)
    → boxed ≡ inner.tree → (inner.height < most_counted → part.height < most_counted → height ≡ above inner.height part.height)
    → made ≡ (if nat_le height greatest_height then Some (record { tree = direct.Function boxed part.tree; height = height; after = after }) else None)
    → Gives (a_direct source start) source before now made (function_from source now at (view.direct inner.tree) wanted)
unfolding direct_height direct_declares
function-made source before now within start at inner read part wanted k next g after height boxed made passes same high node =
    let d : tree.Direct = view.direct inner.tree in
    let v : tree.Parameters = view.parameters (map view.parameter part.tree) in
    let whole : Option tree.Direct = checked_direct (tree.function d v) in
    let place : at ≡ direct_after start d + 1 = next ∙ ap (λ n. n + 1) k.ends in
    made-gives (a_direct source start) source before now made _ height after (tree.function d v) _ node
    (ap (function_from source now at d) g.read
    ∙ ap (λ ns. where_true (is (symbol_in source ns (parameters_after at v)) symbol.RightParen) whole) (sym g.scoped)
    ∙ ap (λ n. where_true (is (symbol_in source within n) symbol.RightParen) whole) (sym g.ends) ∙ holds _ _ passes.0)
    (view-function boxed part.tree ∙ ap (λ t. tree.function (view.direct t) v) same) refl
    (high (omega (arith, k.low)) (omega (arith, g.low)) ∙ ap (λ n. above n part.height) k.high ∙ ap (above (direct_height d)) g.high)
    (passes.1 ∙ ap (λ n. n + 1) g.ends ∙ ap (λ n. parameters_after n v + 1) place) passes.2 k.scoped (lit≤ tt)

-- the `const`s at a place: one more
const-there : (source : Source) (names : List Declared) (turns at : ℕ) → is (symbol_in source names at) symbol.Const ≡ true → consts source names (suc turns) at ≡ consts source names turns (at + 1) + 1
unfolding consts
const-there source names turns at h = if-true _ _ _ h

-- or none
pub no-const : (source : Source) (names : List Declared) (turns at : ℕ) → is (symbol_in source names at) symbol.Const ≡ false → consts source names turns at ≡ 0
unfolding consts
no-const source names zero at h = refl
no-const source names (suc turns) at h = if-false _ _ _ h

pub one-const : (source : Source) (names : List Declared) (at place next : ℕ) → at ≤ place
    → at + consts source names (all_turns source) at ≡ place + consts source names (all_turns source - (place - at)) place
    → Passes (is (symbol_in source names place) symbol.Const) place (length source.tokens) (Some next)
    → at + consts source names (all_turns source) at ≡ next + consts source names (all_turns source - (next - at)) next
one-const source names at place next on so_far passes =
    let turns : ℕ = all_turns source - (next - at) in
    let more : all_turns source - (place - at) ≡ suc turns = omega (arith, passes.1, passes.2) in
    let step : consts source names (all_turns source - (place - at)) place ≡ consts source names turns next + 1 =
    ap (λ n. consts source names n place) more ∙ const-there source names turns place passes.0 ∙ ap (λ n. consts source names turns n + 1) (sym passes.1) in
    omega (arith, so_far, step, passes.1)

-- the pointers at a place: one more
pub pointer-there : (source : Source) (names : List Declared) (turns at next after : ℕ) → 0 < turns → is (symbol_in source names at) symbol.Star ≡ true → next ≡ at + 1
    → after ≡ next + consts source names (all_turns source) next
    → pointers source names turns at ≡ (after - next) ∷ pointers source names (turns - 1) after
unfolding pointers
pointer-there source names zero at next after some h is_next is_after = absurd (omega (arith, some))
pointer-there source names (suc turns) at next after some h is_next is_after =
    let count : ℕ = consts source names (all_turns source) (at + 1) in
    let counted : count ≡ after - next = ap (consts source names (all_turns source)) (sym is_next) ∙ omega (arith, is_after) in
    let place : at + 1 + count ≡ after = omega (arith, counted, is_next, is_after) in
    let fewer : turns ≡ suc turns - 1 = omega arith in
    if-true _ _ _ h ∙ ap (λ n. n ∷ pointers source names turns (at + 1 + count)) counted ∙ ap (λ n. (after - next) ∷ pointers source names turns n) place
    ∙ ap (λ n. (after - next) ∷ pointers source names n after) fewer

-- or none
pub no-pointer : (source : Source) (names : List Declared) (turns at : ℕ) → is (symbol_in source names at) symbol.Star ≡ false → pointers source names turns at ≡ []
unfolding pointers
no-pointer source names zero at h = refl
no-pointer source names (suc turns) at h = if-false _ _ _ h

-- where pointers end, with one more
pub pointers-one-more : (at : ℕ) (stars : List ℕ) (count : ℕ) → pointers_after at (stars ++ count ∷ []) ≡ pointers_after at stars + 1 + count
pointers-one-more at [] count = refl
pointers-one-more at (first ∷ others) count = pointers-one-more (at + 1 + first) others count

-- the pointers so far are all that stand there
pub all-pointers : (source : Source) (names : List Declared) (turns after : ℕ) (stars all : List ℕ) → stars ++ pointers source names turns after ≡ all → pointers source names turns after ≡ [] → stars ≡ all
all-pointers source names turns after stars all so_far none = sym (append-nil stars) ∙ ap (λ more. stars ++ more) (sym none) ∙ so_far

-- one more pointer, where there are no more of them than tokens
pub one-pointer : (source : Source) (names : List Declared) (at place next after : ℕ) (stars new all : List ℕ) → new ≡ stars ++ (after - next) ∷ []
    → stars ++ pointers source names (all_turns source - length stars) place ≡ all → place ≡ pointers_after at stars → at + length stars ≤ place
    → Passes (is (symbol_in source names place) symbol.Star) place (length source.tokens) (Some next) → after ≡ next + consts source names (all_turns source) next
    → (new ++ pointers source names (all_turns source - length new) after ≡ all) × (after ≡ pointers_after at new) × (at + length new ≤ after)
one-pointer source names at place next after stars new all is_new so_far is_place few passes is_after =
    let turns : ℕ = all_turns source - length stars in
    let longer : length new ≡ length stars + 1 = ap length is_new ∙ length-append stars ((after - next) ∷ []) in
    let some : 0 < turns = omega (arith, few, passes.1, passes.2) in
    let fewer : turns - 1 ≡ all_turns source - length new = omega (arith, longer, few, passes.1, passes.2) in
    let counted : pointers_after at new ≡ place + 1 + (after - next) = ap (pointers_after at) is_new ∙ pointers-one-more at stars (after - next) ∙ ap (λ n. n + 1 + (after - next)) (sym is_place) in (
      ap (λ list. list ++ pointers source names (all_turns source - length new) after) is_new
          ∙ append_assoc stars ((after - next) ∷ []) (pointers source names (all_turns source - length new) after)
          ∙ ap (λ n. stars ++ ((after - next) ∷ pointers source names n after)) (sym fewer)
          ∙ ap (λ list. stars ++ list) (sym (pointer-there source names turns place next after some passes.0 passes.1 is_after)) ∙ so_far,
      omega (arith, counted, passes.1, is_after),
      omega (arith, longer, few, passes.1, is_after),
    )
