-- Initialisers and declarations that are put together of parts.
use Rattle.std.proofs.Common.{◌≡◌, ◌≤◌, ◌<◌, ℕ, ◌+◌, List, ◌++◌, length, map, max, Bool, true, false, Option, Some, None, option_map, nat_le, refl, sym, ap, ◌∙◌, arith, lit≤, append_assoc, if◌then◌else◌}
use Rattle.std.specs.Prelude.{unwrap_or, is_some}
use Rattle.dm_token.specs.Limits.{greatest_height}
use Rattle.dm_syn.specs.declared.declared.Declared.{Declared}
use Rattle.dm_syn.specs.declared.expression.Expr.{Expr}
use Rattle.dm_syn.specs.declared.declaration.Specifiers.{Specifiers}
use Rattle.dm_syn.specs.declared.declaration.Declarator.{Declarator}
use Rattle.dm_syn.specs.declared.declaration.Declaration.{Declaration}
use Rattle.dm_syn.specs.declared.declaration.InitDeclarator.{InitDeclarator}
use Rattle.dm_syn.specs.declared.declaration.Initialiser.{Initialiser}
use Rattle.dm_syn.specs.declared.declaration.InitForm.TheVariants as init_form
use Rattle.dm_syn.specs.declared.symbol.Symbol.TheVariants as symbol
use Rattle.dm_syn.specs.Sources.{Source}
use Rattle.dm_syn.specs.Trees as tree
use Rattle.dm_syn.specs.Spans.{specifiers_span, declarator_span, initialiser_span, items_after}
use Rattle.dm_syn.specs.Heights.{specifiers_height, declarator_height, initialiser_height, item_height, declaration_height, above}
use Rattle.dm_syn.specs.Scopes.{specifiers_declares, initialiser_declares, named_declares, item_declares, items_declares, declaration_declares, defines_types}
use Rattle.dm_syn.specs.Grammar.{trailing_after}
use Rattle.dm_syn.specs.Views as view
use Rattle.dm_pexpr.specs.declared.part.Part.{Part}
use Rattle.dm_pexpr.specs.Parsing.{span_of, and_then}
use Rattle.dm_pexpr.specs.Counted.{most_counted}
use Rattle.dm_pexpr.specs.Parts.{IsPart, Gives, Passes, an_expr, the_specifiers, a_declarator}
use Rattle.dm_pexpr.proofs.Expressions.{holds}
use Rattle.dm_pexpr.proofs.PartLemmas.{made-gives, part-of}
use Rattle.dm_pexpr.proofs.TestLemmas.{fails}
use Rattle.dm_pstmt.specs.Kinds.{an_initialiser, initialisers_from, an_item, items_from, a_declaration}
use Rattle.dm_pstmt.specs.Parsing.{stands, checked_initialiser, valued, braces_closed, checked_declaration, initialised}
use Rattle.dm_pstmt.specs.Steps.{braces_round, declared_behind}
use Rattle.dm_pstmt.proofs.ViewLemmas.{view-value, view-braces}
use Rattle.dm_pstmt.proofs.Wholes.{then-is, whole-part, pass-part}

-- an expression as an initialiser
pub valued-made : (source : Source) (before behind : List Declared) (found : Option (Part Expr)) (part : Part Expr) (wanted : Option tree.Expr) → found ≡ Some part → Gives (an_expr source) source before behind found wanted
    → (first : ℕ) → IsPart (an_initialiser source) source before behind
    (record { tree = record { span = record { first = first; after = part.after }; form = init_form.Value part.tree }; height = part.height; after = part.after }) (option_map (valued first) wanted)
unfolding initialiser_height initialiser_declares
valued-made source before behind found part wanted there given first =
    let g = part-of (an_expr source) source before behind found part wanted there given in
    let v : tree.Expr = view.expr part.tree in
    pass-part (an_expr source) (an_initialiser source) source before behind part wanted (valued first)
    (record { tree = record { span = record { first = first; after = part.after }; form = init_form.Value part.tree }; height = part.height; after = part.after }) g
    (view-value _ part.tree ∙ ap (λ n. tree.value (span_of first n) v) g.ends) refl refl refl refl refl refl (lit≤ tt)

-- a comma before the closing brace, or none
comma-behind : (source : Source) (now : List Declared) (at : ℕ) (comma : Option ℕ) → Passes (stands source now at symbol.Comma) at (length source.tokens) comma
    → unwrap_or comma at ≡ trailing_after at (stands source now at symbol.Comma)
comma-behind source now at None p = ap (trailing_after at) (sym p)
comma-behind source now at (Some next) p = p.1 ∙ ap (trailing_after at) (sym p.0)

comma-there : (source : Source) (now : List Declared) (at : ℕ) (comma : Option ℕ) → Passes (stands source now at symbol.Comma) at (length source.tokens) comma → is_some comma ≡ stands source now at symbol.Comma
comma-there source now at None p = sym p
comma-there source now at (Some next) p = sym p.0

braces-wanted : (source : Source) (before now : List Declared) (part : Part (List Initialiser)) (wanted : Option tree.Initialisers) (first start behind : ℕ) (comma : Option ℕ)
    → IsPart (initialisers_from source start) source before now part wanted → Passes (stands source now part.after symbol.Comma) part.after (length source.tokens) comma → behind ≡ unwrap_or comma part.after
    → and_then (braces_round source now first start) wanted
    ≡ braces_closed source now first (view.initialisers (map view.initialiser part.tree)) part.after (stands source now part.after symbol.Comma)
braces-wanted source before now part wanted first start behind comma g p is =
    let v : tree.Initialisers = view.initialisers (map view.initialiser part.tree) in
    then-is (braces_round source now first start) wanted v g.read ∙ ap (λ n. braces_closed source now first v n (stands source now n symbol.Comma)) (sym g.ends)

pub no-braces-made : (source : Source) (before now : List Declared) (found : Option (Part (List Initialiser))) (part : Part (List Initialiser)) (wanted : Option tree.Initialisers) → found ≡ Some part
    → (first start behind : ℕ) (comma : Option ℕ) → Gives (initialisers_from source start) source before now found wanted
    → Passes (stands source now part.after symbol.Comma) part.after (length source.tokens) comma → behind ≡ unwrap_or comma part.after → stands source now behind symbol.RightBrace ≡ false
    → and_then (braces_round source now first start) wanted ≡ None
no-braces-made source before now found part wanted there first start behind comma given p is without =
    let g = part-of (initialisers_from source start) source before now found part wanted there given in
    braces-wanted source before now part wanted first start behind comma g p is
    ∙ fails _ _ (ap (λ n. stands source now n symbol.RightBrace) (sym (comma-behind source now part.after comma p) ∙ sym is) ∙ without)

pub braces-made : (source : Source) (before now : List Declared) (found : Option (Part (List Initialiser))) (part : Part (List Initialiser)) (wanted : Option tree.Initialisers) → found ≡ Some part
    → (first start behind after height : ℕ) (comma : Option ℕ) (trailing : Bool) (made : Option (Part Initialiser)) → Gives (initialisers_from source start) source before now found wanted
    → Passes (stands source now part.after symbol.Comma) part.after (length source.tokens) comma → behind ≡ unwrap_or comma part.after → trailing ≡ is_some comma
    → Passes (stands source now behind symbol.RightBrace) behind (length source.tokens) (Some after) → (part.height < most_counted → height ≡ part.height + 1)
    → made ≡ (if nat_le height greatest_height then Some (record { tree = record { span = record { first = first; after = after }; form = init_form.Braces part.tree trailing }; height = height; after = after }) else None)
    → Gives (an_initialiser source) source before now made (and_then (braces_round source now first start) wanted)
unfolding initialiser_height initialiser_declares
braces-made source before now found part wanted there first start behind after height comma trailing made given p is flag close high node =
    let g = part-of (initialisers_from source start) source before now found part wanted there given in
    let v : tree.Initialisers = view.initialisers (map view.initialiser part.tree) in
    let b : Bool = stands source now part.after symbol.Comma in
    let place : behind ≡ trailing_after part.after b = is ∙ comma-behind source now part.after comma p in
    made-gives (an_initialiser source) source before now made _ height after (tree.braces (span_of first after) v b) _ node
    (braces-wanted source before now part wanted first start behind comma g p is
    ∙ holds _ _ (ap (λ n. stands source now n symbol.RightBrace) (sym place) ∙ close.0)
    ∙ ap (λ n. checked_initialiser (tree.braces (span_of first n) v b)) (ap (λ n. n + 1) (sym place) ∙ sym close.1))
    (view-braces _ part.tree trailing ∙ ap (λ flag. tree.braces (span_of first after) v flag) (flag ∙ comma-there source now part.after comma p)) refl
    (high (omega (arith, g.low)) ∙ ap (λ n. n + 1) g.high) refl close.2 g.scoped (lit≤ tt)

-- a declaration
pub declared-made : (source : Source) (before names behind : List Declared) (specifiers : Part Specifiers) (read : Option tree.Specifiers) (items : Part (List InitDeclarator)) (seen : Option (List tree.Item))
    → IsPart (the_specifiers source) source before names specifiers read
    → IsPart (items_from source (defines_types source (view.specifiers specifiers.tree)) specifiers.after) source names behind items seen
    → stands source behind items.after symbol.Semicolon ≡ true
    → (first after height : ℕ) (made : Option (Part Declaration)) → after ≡ items.after + 1 → after ≤ length source.tokens
    → (specifiers.height < most_counted → items.height < most_counted → height ≡ above specifiers.height items.height)
    → made ≡ (if nat_le height greatest_height then Some (record { tree = record { span = record { first = first; after = after }; specifiers = specifiers.tree; items = items.tree }; height = height; after = after }) else None)
    → Gives (a_declaration source) source before behind made (declared_behind source behind first (view.specifiers specifiers.tree) (view.items items.tree))
unfolding declaration_height declaration_declares
declared-made source before names behind specifiers read items seen p q test first after height made end within high node =
    let s : tree.Specifiers = view.specifiers specifiers.tree in
    let v : List tree.Item = view.items items.tree in
    let place : items.after ≡ items_after (specifiers_span s).after v = q.ends ∙ ap (λ n. items_after n v) p.ends in
    made-gives (a_declaration source) source before behind made _ height after (tree.declaring (span_of first after) s v) _ node
    (holds _ _ (ap (λ n. stands source behind n symbol.Semicolon) (sym place) ∙ test) ∙ ap (λ n. checked_declaration (tree.declaring (span_of first n) s v)) (ap (λ n. n + 1) (sym place) ∙ sym end))
    refl refl (high (omega (arith, p.low)) (omega (arith, q.low)) ∙ ap (λ n. above n items.height) p.high ∙ ap (above (specifiers_height s)) q.high) refl within
    (q.scoped ∙ ap (λ those. items_declares source (defines_types source s) v ++ those) p.scoped ∙ sym (append_assoc (items_declares source (defines_types source s) v) (specifiers_declares source s) before)) (lit≤ tt)

-- a declarator alone
pub plain-made : (source : Source) (is_type : Bool) (before names behind : List Declared) (declarator : Part Declarator) (read : Option tree.Declarator) → IsPart (a_declarator source) source before names declarator read
    → behind ≡ named_declares source is_type (view.declarator declarator.tree) ++ before
    → (first : ℕ) → IsPart (an_item source is_type) source before behind
    (record { tree = record { span = record { first = first; after = declarator.after }; declarator = declarator.tree; initialiser = None }; height = declarator.height; after = declarator.after })
    (Some (tree.plain (span_of first (declarator_span (view.declarator declarator.tree)).after) (view.declarator declarator.tree)))
unfolding item_height item_declares
plain-made source is_type before names behind declarator read p scoped first =
    let v : tree.Declarator = view.declarator declarator.tree in
    whole-part (an_item source is_type) source before behind _ (tree.plain (span_of first (declarator_span v).after) v) _
    (ap (λ n. tree.plain (span_of first n) v) p.ends) refl refl p.high p.low p.ends p.within scoped

-- and with an initialiser
pub initialised-made : (source : Source) (is_type : Bool) (before names between behind : List Declared) (declarator : Part Declarator) (read : Option tree.Declarator)
    (found : Option (Part Initialiser)) (value : Part Initialiser) (wanted : Option tree.Initialiser) → found ≡ Some value
    → IsPart (a_declarator source) source before names declarator read → between ≡ named_declares source is_type (view.declarator declarator.tree) ++ before
    → Gives (an_initialiser source) source between behind found wanted
    → (first height : ℕ) → height ≡ max declarator.height value.height
    → IsPart (an_item source is_type) source before behind
    (record { tree = record { span = record { first = first; after = value.after }; declarator = declarator.tree; initialiser = Some value.tree }; height = height; after = value.after })
    (option_map (initialised first (view.declarator declarator.tree)) wanted)
unfolding item_height item_declares
initialised-made source is_type before names between behind declarator read found value wanted there p scoped given first height high =
    let g = part-of (an_initialiser source) source between behind found value wanted there given in
    let v : tree.Declarator = view.declarator declarator.tree in
    let i : tree.Initialiser = view.initialiser value.tree in
    whole-part (an_item source is_type) source before behind _ (tree.initialised (span_of first (initialiser_span i).after) v i) _
    (ap (λ n. tree.initialised (span_of first n) v i) g.ends) (ap (option_map (initialised first v)) g.read) refl
    (high ∙ ap (λ n. max n value.height) p.high ∙ ap (max (declarator_height v)) g.high) (omega (arith, high, p.low, g.low)) g.ends g.within
    (g.scoped ∙ ap (λ those. initialiser_declares source i ++ those) scoped ∙ sym (append_assoc (initialiser_declares source i) (named_declares source is_type v) before))
