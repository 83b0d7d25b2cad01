-- What reading a declarator comes to, step by step.
use Rattle.std.proofs.Common.{◌≡◌, ◌<◌, ℕ, zero, suc, ◌+◌, ◌-◌, Bool, true, false, ◌&&◌, ◌||◌, not, List, [], ◌∷◌, ◌++◌, length, drop, map, length-append, Option, Some, None, refl, sym, ap, ◌∙◌, subst, arith, if◌then◌else◌}
use Rattle.dm_token.specs.Limits.{greatest_height}
use Rattle.dm_syn.specs.declared.declared.Declared.{Declared}
use Rattle.dm_syn.specs.declared.symbol.Symbol.TheVariants as symbol
use Rattle.dm_syn.specs.declared.declaration.Specifiers.{Specifiers}
use Rattle.dm_syn.specs.declared.declaration.Direct.{Direct}
use Rattle.dm_syn.specs.declared.declaration.Parameter.{Parameter}
use Rattle.dm_syn.specs.Symbols.{is, is_identifier}
use Rattle.dm_syn.specs.Sources.{Source, symbol_in}
use Rattle.dm_syn.specs.Trees as tree
use Rattle.dm_syn.specs.Views as view
use Rattle.dm_syn.specs.Spans.{specifiers_span, parameter_span, parameters_after, pointers_after, direct_after}
use Rattle.dm_syn.specs.Scopes.{specifiers_declares, parameter_declares, direct_declares}
use Rattle.dm_pexpr.specs.declared.part.Part.{Part}
use Rattle.dm_pexpr.specs.Parsing.{Parts, Shape, of_parameter, lower, pointers, all_turns, core, takes_name, encloses, nothing, enclosed_from, array_of, sized_from, checked_direct, function_of, function_from, suffixed, and_then, declarator_of, declarator_with, parameter_of, parameter_from, parameter_with, parameters_of, more_parameters, more_parameters_from, prepend_parameter}
use Rattle.dm_pexpr.specs.Parts.{IsPart, the_specifiers, a_direct, a_parameter, parameters_from, direct_from}
use Rattle.dm_pexpr.proofs.Expressions.{if-true, if-false}
use Rattle.dm_pexpr.proofs.ReadExprs.{one-deeper, less, read-again}
use Rattle.dm_pexpr.proofs.TestLemmas.{fails}

-- a declarator is its pointers with what stands behind them
pub declarator-deeper : (source : Source) (depth : ℕ) (shape : Shape) (names : List Declared) (at start : ℕ) (stars : List ℕ) → (depth ≡ 0 → ⊥)
    → stars ≡ pointers source names (all_turns source) at → start ≡ pointers_after at stars
    → declarator_with at stars (and_then (suffixed source (lower source (depth - 1)) names start greatest_height) (core source (lower source (depth - 1)) shape names start)) ≡ (lower source depth).declarator shape names at
unfolding declarator_of
declarator-deeper source depth shape names at start stars some are starts =
    ap (λ n. declarator_with at stars (and_then (suffixed source (lower source (depth - 1)) names n greatest_height) (core source (lower source (depth - 1)) shape names n))) starts
    ∙ ap (λ all. declarator_with at all (and_then (suffixed source (lower source (depth - 1)) names (pointers_after at all) greatest_height) (core source (lower source (depth - 1)) shape names (pointers_after at all)))) are
    ∙ sym (ap (λ (parts : Parts). parts.declarator shape names at) (one-deeper source depth some))

-- the innermost part
pub core-name : (source : Source) (parts : Parts) (shape : Shape) (names : List Declared) (at : ℕ) → (takes_name shape && is_identifier (symbol_in source names at)) ≡ true
    → Some (tree.declared at) ≡ core source parts shape names at
unfolding core
core-name source parts shape names at stands = sym (if-true _ _ _ stands)

pub core-enclosed : (source : Source) (parts : Parts) (shape : Shape) (names : List Declared) (at next : ℕ) → (takes_name shape && is_identifier (symbol_in source names at)) ≡ false
    → (is (symbol_in source names at) symbol.LeftParen && encloses shape (symbol_in source names (at + 1))) ≡ true → next ≡ at + 1
    → enclosed_from source names (parts.declarator shape names next) ≡ core source parts shape names at
unfolding core
core-enclosed source parts shape names at next unnamed opens after =
    ap (λ n. enclosed_from source names (parts.declarator shape names n)) after ∙ sym (if-false _ _ _ unnamed ∙ if-true _ _ _ opens)

pub core-nothing : (source : Source) (parts : Parts) (shape : Shape) (names : List Declared) (at : ℕ) → (takes_name shape && is_identifier (symbol_in source names at)) ≡ false
    → (is (symbol_in source names at) symbol.LeftParen && encloses shape (symbol_in source names (at + 1))) ≡ false
    → nothing shape ≡ core source parts shape names at
unfolding core
core-nothing source parts shape names at unnamed closed = sym (if-false _ _ _ unnamed ∙ if-false _ _ _ closed)

-- behind `[`
pub array-open : (source : Source) (parts : Parts) (names : List Declared) (at : ℕ) (direct : tree.Direct) → is (symbol_in source names at) symbol.RightBracket ≡ true
    → checked_direct (tree.array direct) ≡ array_of source parts names at direct
unfolding array_of
array-open source parts names at direct closed = sym (if-true _ _ _ closed)

pub array-sized : (source : Source) (parts : Parts) (names : List Declared) (at : ℕ) (direct : tree.Direct) → is (symbol_in source names at) symbol.RightBracket ≡ false
    → sized_from source names direct (parts.expr 2 names at) ≡ array_of source parts names at direct
unfolding array_of
array-sized source parts names at direct closed = sym (if-false _ _ _ closed)

-- a declarator with what stands behind its innermost part
abbrev pub SuffixedFrom : Source → Parts → ℕ → List Declared → List Declared → Part Direct → Option tree.Direct → ℕ → Type 0
SuffixedFrom source parts start before now direct wanted turns =
    IsPart (a_direct source start) source before now direct (Some (view.direct direct.tree))
    × (and_then (suffixed source parts before start greatest_height) wanted ≡ suffixed source parts before start turns (view.direct direct.tree))

pub suffixed-first : (source : Source) (parts : Parts) (start : ℕ) (before now : List Declared) (direct : Part Direct) (wanted : Option tree.Direct)
    → IsPart (a_direct source start) source before now direct wanted → SuffixedFrom source parts start before now direct wanted greatest_height
suffixed-first source parts start before now direct wanted k =
    (read-again (a_direct source start) source before now direct wanted k, ap (and_then (suffixed source parts before start greatest_height)) k.read)

-- what stands behind it, as the code sees it
seen-behind : (source : Source) (start : ℕ) (before now : List Declared) (direct : Part Direct) (wanted : Option tree.Direct) → IsPart (a_direct source start) source before now direct wanted
    → symbol_in source now direct.after ≡ symbol_in source (direct_declares source (view.direct direct.tree) ++ before) (direct_after start (view.direct direct.tree))
seen-behind source start before now direct wanted k =
    ap (λ ns. symbol_in source ns direct.after) k.scoped ∙ ap (symbol_in source (direct_declares source (view.direct direct.tree) ++ before)) k.ends

pub suffixed-on : (source : Source) (parts : Parts) (start : ℕ) (before now : List Declared) (direct : Part Direct) (wanted : Option tree.Direct) (turns next : ℕ) (is_array : Bool)
    → SuffixedFrom source parts start before now direct wanted turns → is (symbol_in source now direct.after) symbol.LeftBracket ≡ is_array → is (symbol_in source now direct.after) symbol.LeftParen ≡ not is_array
    → next ≡ direct.after + 1 → (turns ≡ 0 → ⊥)
    → and_then (suffixed source parts before start greatest_height) wanted ≡ and_then (suffixed source parts before start (turns - 1)) (direct_from source parts is_array now next (view.direct direct.tree))
unfolding suffixed
suffixed-on source parts start before now direct wanted turns next true so bracket paren after some =
    let v : tree.Direct = view.direct direct.tree in
    let k = so.0 in
    so.1 ∙ ap (λ n. suffixed source parts before start n v) (less turns some)
    ∙ if-true _ _ _ (ap (λ s. is s symbol.LeftBracket) (sym (seen-behind source start before now direct _ k)) ∙ bracket)
    ∙ ap (λ ns. and_then (suffixed source parts before start (turns - 1)) (array_of source parts ns (direct_after start v + 1) v)) (sym k.scoped)
    ∙ ap (λ n. and_then (suffixed source parts before start (turns - 1)) (array_of source parts now n v)) (ap (λ n. n + 1) (sym k.ends) ∙ sym after)
suffixed-on source parts start before now direct wanted turns next false so bracket paren after some =
    let v : tree.Direct = view.direct direct.tree in
    let k = so.0 in
    let seen = seen-behind source start before now direct _ k in
    so.1 ∙ ap (λ n. suffixed source parts before start n v) (less turns some)
    ∙ if-false _ _ _ (ap (λ s. is s symbol.LeftBracket) (sym seen) ∙ bracket) ∙ if-true _ _ _ (ap (λ s. is s symbol.LeftParen) (sym seen) ∙ paren)
    ∙ ap (λ ns. and_then (suffixed source parts before start (turns - 1)) (function_of source parts ns (direct_after start v + 1) v)) (sym k.scoped)
    ∙ ap (λ n. and_then (suffixed source parts before start (turns - 1)) (function_of source parts now n v)) (ap (λ n. n + 1) (sym k.ends) ∙ sym after)

-- one more turn
pub suffixed-more : (source : Source) (parts : Parts) (start : ℕ) (before now : List Declared) (whole : Part Direct) (wanted made : Option tree.Direct) (turns : ℕ)
    → and_then (suffixed source parts before start greatest_height) wanted ≡ and_then (suffixed source parts before start turns) made
    → IsPart (a_direct source start) source before now whole made → SuffixedFrom source parts start before now whole wanted turns
suffixed-more source parts start before now whole wanted made turns goes k =
    (read-again (a_direct source start) source before now whole made k, goes ∙ ap (and_then (suffixed source parts before start turns)) k.read)

-- nothing more
suffixed-done : (source : Source) (parts : Parts) (start : ℕ) (before : List Declared) (turns : ℕ) (direct : tree.Direct)
    → is (symbol_in source (direct_declares source direct ++ before) (direct_after start direct)) symbol.LeftBracket ≡ false
    → is (symbol_in source (direct_declares source direct ++ before) (direct_after start direct)) symbol.LeftParen ≡ false
    → suffixed source parts before start turns direct ≡ Some direct
unfolding suffixed
suffixed-done source parts start before zero direct bracket paren = if-false _ _ _ (ap (λ (it : Bool). it || is (symbol_in source (direct_declares source direct ++ before) (direct_after start direct)) symbol.LeftParen) bracket ∙ paren)
suffixed-done source parts start before (suc turns) direct bracket paren = if-false _ _ _ bracket ∙ if-false _ _ _ paren

pub suffixed-to : (source : Source) (parts : Parts) (start : ℕ) (before now : List Declared) (direct : Part Direct) (wanted : Option tree.Direct) (turns : ℕ)
    → SuffixedFrom source parts start before now direct wanted turns → is (symbol_in source now direct.after) symbol.LeftBracket ≡ false → is (symbol_in source now direct.after) symbol.LeftParen ≡ false
    → IsPart (a_direct source start) source before now direct (and_then (suffixed source parts before start greatest_height) wanted)
suffixed-to source parts start before now direct wanted turns so bracket paren =
    let seen = seen-behind source start before now direct _ so.0 in
    subst (λ (w : Option tree.Direct). IsPart (a_direct source start) source before now direct w)
    (sym (so.1 ∙ suffixed-done source parts start before turns (view.direct direct.tree) (ap (λ s. is s symbol.LeftBracket) (sym seen) ∙ bracket) (ap (λ s. is s symbol.LeftParen) (sym seen) ∙ paren))) so.0

-- too many
pub suffixed-away : (source : Source) (parts : Parts) (start : ℕ) (before now : List Declared) (direct : Part Direct) (wanted : Option tree.Direct) (turns : ℕ) (is_array : Bool)
    → SuffixedFrom source parts start before now direct wanted turns → is (symbol_in source now direct.after) symbol.LeftBracket ≡ is_array → is (symbol_in source now direct.after) symbol.LeftParen ≡ not is_array → turns ≡ 0
    → and_then (suffixed source parts before start greatest_height) wanted ≡ None
unfolding suffixed
suffixed-away source parts start before now direct wanted turns is_array so bracket paren none =
    so.1 ∙ ap (λ n. suffixed source parts before start n (view.direct direct.tree)) none
    ∙ if-true _ _ _ (ap (λ s. is s symbol.LeftBracket || is s symbol.LeftParen) (sym (seen-behind source start before now direct _ so.0))
    ∙ ap (λ (one : Bool). one || is (symbol_in source now direct.after) symbol.LeftParen) bracket ∙ ap (λ (other : Bool). is_array || other) paren ∙ one-of is_array)
  where
    one-of : (it : Bool) → (it || not it) ≡ true
    one-of true = refl
    one-of false = refl

-- parameters
pub no-parameters : (source : Source) (parts : Parts) (names : List Declared) (at : ℕ) → is (symbol_in source names at) symbol.RightParen ≡ true → parameters_of source parts names at ≡ Some tree.no_parameters
unfolding parameters_of
no-parameters source parts names at closed = if-true _ _ _ closed

pub first-parameter : (source : Source) (parts : Parts) (names now : List Declared) (at : ℕ) (first : Part Parameter) → is (symbol_in source names at) symbol.RightParen ≡ false
    → IsPart (a_parameter source) source names now first (parameter_of source parts names at)
    → prepend_parameter (view.parameter first.tree) (more_parameters source parts (all_turns source) now first.after) ≡ parameters_of source parts names at
unfolding parameters_of
first-parameter source parts names now at first unclosed k =
    let v : tree.Parameter = view.parameter first.tree in
    ap (λ ns. prepend_parameter v (more_parameters source parts (all_turns source) ns first.after)) k.scoped
    ∙ ap (λ n. prepend_parameter v (more_parameters source parts (all_turns source) (parameter_declares source v ++ names) n)) k.ends
    ∙ sym (if-false _ _ _ unclosed ∙ ap (more_parameters_from (λ first. more_parameters source parts (all_turns source) (parameter_declares source first ++ names) (parameter_span first).after)) k.read)

pub no-first-parameter : (source : Source) (parts : Parts) (names : List Declared) (at : ℕ) → is (symbol_in source names at) symbol.RightParen ≡ false
    → parameter_of source parts names at ≡ None → parameters_of source parts names at ≡ None
unfolding parameters_of
no-first-parameter source parts names at unclosed nothing =
    if-false _ _ _ unclosed ∙ ap (more_parameters_from (λ first. more_parameters source parts (all_turns source) (parameter_declares source first ++ names) (parameter_span first).after)) nothing

pub more-parameters-end : (source : Source) (parts : Parts) (turns : ℕ) (names : List Declared) (at : ℕ) → is (symbol_in source names at) symbol.Comma ≡ false
    → more_parameters source parts turns names at ≡ Some tree.no_parameters
unfolding more_parameters
more-parameters-end source parts zero names at stands = refl
more-parameters-end source parts (suc turns) names at stands = if-false _ _ _ stands

pub more-parameters-out : (source : Source) (parts : Parts) (turns : ℕ) (names : List Declared) (at : ℕ) → turns ≡ 0 → more_parameters source parts turns names at ≡ Some tree.no_parameters
unfolding more_parameters
more-parameters-out source parts turns names at none = ap (λ n. more_parameters source parts n names at) none

more-parameters-on : (source : Source) (parts : Parts) (turns : ℕ) (names : List Declared) (at next : ℕ) → 0 < turns → is (symbol_in source names at) symbol.Comma ≡ true → next ≡ at + 1
    → more_parameters source parts turns names at ≡ more_parameters_from (λ first. more_parameters source parts (turns - 1) (parameter_declares source first ++ names) (parameter_span first).after) (parameter_of source parts names next)
unfolding more_parameters
more-parameters-on source parts turns names at next some stands after =
    ap (λ n. more_parameters source parts n names at) (less turns (λ none. omega (arith, none, some))) ∙ if-true _ _ _ stands
    ∙ ap (λ n. more_parameters_from (λ first. more_parameters source parts (turns - 1) (parameter_declares source first ++ names) (parameter_span first).after) (parameter_of source parts names n)) (sym after)

pub more-parameters-next : (source : Source) (parts : Parts) (turns : ℕ) (names now : List Declared) (at next : ℕ) (first : Part Parameter) → 0 < turns → is (symbol_in source names at) symbol.Comma ≡ true → next ≡ at + 1
    → IsPart (a_parameter source) source names now first (parameter_of source parts names next)
    → more_parameters source parts turns names at ≡ prepend_parameter (view.parameter first.tree) (more_parameters source parts (turns - 1) now first.after)
more-parameters-next source parts turns names now at next first some stands after k =
    let v : tree.Parameter = view.parameter first.tree in
    more-parameters-on source parts turns names at next some stands after
    ∙ ap (more_parameters_from (λ first. more_parameters source parts (turns - 1) (parameter_declares source first ++ names) (parameter_span first).after)) k.read
    ∙ ap (λ ns. prepend_parameter v (more_parameters source parts (turns - 1) ns (parameter_span v).after)) (sym k.scoped)
    ∙ ap (λ n. prepend_parameter v (more_parameters source parts (turns - 1) now n)) (sym k.ends)

pub more-parameters-stop : (source : Source) (parts : Parts) (turns : ℕ) (names : List Declared) (at next : ℕ) → 0 < turns → is (symbol_in source names at) symbol.Comma ≡ true → next ≡ at + 1
    → parameter_of source parts names next ≡ None → more_parameters source parts turns names at ≡ None
more-parameters-stop source parts turns names at next some stands after nothing =
    more-parameters-on source parts turns names at next some stands after
    ∙ ap (more_parameters_from (λ first. more_parameters source parts (turns - 1) (parameter_declares source first ++ names) (parameter_span first).after)) nothing

-- a parameter
pub parameter-behind : (source : Source) (parts : Parts) (names now : List Declared) (at : ℕ) (specifiers : Part Specifiers)
    → IsPart (the_specifiers source) source names now specifiers (parts.specifiers names at)
    → parameter_with at (view.specifiers specifiers.tree) (parts.declarator of_parameter now specifiers.after) ≡ parameter_of source parts names at
unfolding parameter_of
parameter-behind source parts names now at specifiers k =
    let v : tree.Specifiers = view.specifiers specifiers.tree in
    ap (λ ns. parameter_with at v (parts.declarator of_parameter ns specifiers.after)) k.scoped
    ∙ ap (λ n. parameter_with at v (parts.declarator of_parameter (specifiers_declares source v ++ names) n)) k.ends
    ∙ sym (ap (parameter_from source parts names at) k.read)

pub no-parameter : (source : Source) (parts : Parts) (names : List Declared) (at : ℕ) → parts.specifiers names at ≡ None → parameter_of source parts names at ≡ None
unfolding parameter_of
no-parameter source parts names at nothing = ap (parameter_from source parts names at) nothing

-- a function
pub no-function : (source : Source) (parts : Parts) (names : List Declared) (at : ℕ) (direct : tree.Direct) → parameters_of source parts names at ≡ None → function_of source parts names at direct ≡ None
unfolding function_of
no-function source parts names at direct nothing = ap (function_from source names at direct) nothing

pub function-open : (source : Source) (parts : Parts) (names now : List Declared) (at : ℕ) (direct : tree.Direct) (parameters : Part (List Parameter))
    → IsPart (parameters_from source at) source names now parameters (parameters_of source parts names at) → is (symbol_in source now parameters.after) symbol.RightParen ≡ false
    → function_of source parts names at direct ≡ None
unfolding function_of
function-open source parts names now at direct parameters k unclosed =
    let v : tree.Parameters = view.parameters (map view.parameter parameters.tree) in
    ap (function_from source names at direct) k.read
    ∙ fails _ _ (ap (λ ns. is (symbol_in source ns (parameters_after at v)) symbol.RightParen) (sym k.scoped) ∙ ap (λ n. is (symbol_in source now n) symbol.RightParen) (sym k.ends) ∙ unclosed)

pub function-closed : (source : Source) (parts : Parts) (names : List Declared) (at : ℕ) (direct : tree.Direct) → function_from source names at direct (parameters_of source parts names at) ≡ function_of source parts names at direct
unfolding function_of
function-closed source parts names at direct = refl

-- the scope of parameters ends
left-behind : (those names : List Declared) → drop (length (those ++ names) - length names) (those ++ names) ≡ names
left-behind those names =
    ap (λ n. drop n (those ++ names)) (all-but those names) ∙ dropped those
  where
    all-but : (those names : List Declared) → length (those ++ names) - length names ≡ length those
    all-but those names = omega (arith, length-append those names)

    dropped : (those : List Declared) → drop (length those) (those ++ names) ≡ names
    dropped [] = refl
    dropped (first ∷ those) = dropped those

pub scope-ends : (those names between now : List Declared) (kept : ℕ) → between ≡ those ++ names → kept ≡ length names → now ≡ drop (length between - kept) between → now ≡ names
scope-ends those names between now kept scoped all left =
    left ∙ ap (λ n. drop (length between - n) between) all ∙ ap (λ ns. drop (length ns - length names) ns) scoped ∙ left-behind those names
