-- A well-formed external declaration is the one that is read.
use Rattle.std.proofs.Common.{◌≡◌, ℕ, zero, suc, ◌+◌, ◌-◌, ◌≤◌, true, false, List, [], ◌∷◌, ◌++◌, Some, None, refl, sym, ap, ◌∙◌, arith, option_map}
use Rattle.dm_token.specs.declared.place.Span.{Span}
use Rattle.dm_token.specs.Limits.{greatest_height}
use Rattle.dm_syn.specs.declared.declared.Declared.{Declared}
use Rattle.dm_syn.specs.declared.symbol.Symbol.{Symbol}
use Rattle.dm_syn.specs.declared.symbol.Symbol.TheVariants as symbol
use Rattle.dm_syn.specs.Symbols.{is}
use Rattle.dm_syn.specs.Sources.{Source, symbol_in}
use Rattle.dm_syn.specs.Trees.{Specifiers, Declarator, Item, Declaration, Stmt, BlockItems, SwitchItem, External}
use Rattle.dm_syn.specs.Trees as tree
use Rattle.dm_syn.specs.Spans.{declarator_span}
use Rattle.dm_syn.specs.Scopes.{specifiers_declares, declarator_declares, named_declares, defines_types, items_declares}
use Rattle.dm_syn.specs.Heights.{height_of, declaration_height, specifiers_height, items_height, stmt_height, switch_item_height}
use Rattle.dm_syn.specs.Statements.{IsStmt, IsExternal, IsDeclaration, AreItems, own_parameters, body_declares}
use Rattle.dm_pexpr.specs.Parsing.{named, span_of, and_then, lower, checked}
use Rattle.dm_pexpr.proofs.SpecifierSymbols.{follows_specifiers, identifier-follows}
use Rattle.dm_pexpr.proofs.Expressions.{fits, holds, it-is, if-true, if-false}
use Rattle.dm_pexpr.proofs.Declarators.{declarator-before-body}
use Rattle.dm_pexpr.proofs.Completeness.{complete, more-depth}
use Rattle.dm_pstmt.specs.Parsing.{Within, stands, within, item_behind, declaration_with, external_declared, definition_with, external_with, external_behind, external_of}
use Rattle.dm_pstmt.specs.Readings.{IsExternalAt, external_at}
use Rattle.dm_pstmt.proofs.Results.{alike}
use Rattle.dm_pstmt.proofs.Beginnings.{named-begins, identifier-no-semicolon}
use Rattle.dm_pstmt.proofs.CompleteDeclarations.{ReadsWithin, initialiser-read, item_declarator, item-declarator-read, item-behind-read, item-no-body, specifiers-read-first, declared-high, with-read, first-ends, no-semicolon, none-read}
use Rattle.dm_pstmt.proofs.CompleteStatements.{stmt-read, labelled-read}

stmt-high : (it : Stmt) → 1 ≤ stmt_height it
unfolding stmt_height
stmt-high (tree.block span items) = omega arith
stmt-high (tree.expression span expr) = omega arith
stmt-high (tree.if_only span condition body) = omega arith
stmt-high (tree.if_else span condition body other) = omega arith
stmt-high (tree.switch span subject items) = omega arith
stmt-high (tree.while span condition body) = omega arith
stmt-high (tree.do_while span body condition) = omega arith
stmt-high (tree.for_loop span start condition step body) = omega arith
stmt-high (tree.break span) = omega arith
stmt-high (tree.continue span) = omega arith
stmt-high (tree.return span expr) = omega arith

labelled-high : (it : SwitchItem) → 1 ≤ switch_item_height it
unfolding switch_item_height
labelled-high (tree.case span label item) = omega arith
labelled-high (tree.default span item) = omega arith
labelled-high (tree.unlabelled span stmt) = stmt-high stmt

-- every well-formed tree of a height up to the depth is read
complete-within : (source : Source) (depth : ℕ) → ReadsWithin source (within source depth) depth
unfolding within
complete-within source zero =
    record {
      parts = complete source zero;
      initialiser = λ names it h d l e. initialiser-read source zero names it h d l e;
      stmt = λ names it h d l. absurd (omega (arith, d, stmt-high it));
      labelled = λ names it h d l. absurd (omega (arith, d, labelled-high it));
    }
complete-within source (suc depth) =
    record {
      parts = complete source (suc depth);
      initialiser = λ names it h d l e. initialiser-read source (suc depth) names it h d l e;
      stmt = λ names it h d l. stmt-read source (within source depth) depth (complete-within source depth) names it h (more-depth _ depth d) l;
      labelled = λ names it h d l. labelled-read source (within source depth) depth (complete-within source depth) names it h (more-depth _ depth d) l;
    }

module _ (source : Source) (depth : ℕ) where
  -- the declarator of a function definition
  definition-declarator : (names : List Declared) (specifiers : Specifiers) (declarator : Declarator) (body : Stmt) (span : Span) → IsExternal source names (tree.definition span specifiers declarator body)
      → symbol_in source (specifiers_declares source specifiers ++ names) (declarator_span declarator).after ≡ symbol.LeftBrace
  unfolding IsExternal IsStmt
  definition-declarator names specifiers declarator (tree.block body items) span h =
      ap (symbol_in source (specifiers_declares source specifiers ++ names)) (sym h.6) ∙ alike source _ (specifiers_declares source specifiers ++ names) body.first symbol.LeftBrace h.8.0 refl
  definition-declarator names specifiers declarator (tree.expression body expr) span h = absurd h.7
  definition-declarator names specifiers declarator (tree.if_only body condition inside) span h = absurd h.7
  definition-declarator names specifiers declarator (tree.if_else body condition inside other) span h = absurd h.7
  definition-declarator names specifiers declarator (tree.switch body subject items) span h = absurd h.7
  definition-declarator names specifiers declarator (tree.while body condition inside) span h = absurd h.7
  definition-declarator names specifiers declarator (tree.do_while body inside condition) span h = absurd h.7
  definition-declarator names specifiers declarator (tree.for_loop body start condition step inside) span h = absurd h.7
  definition-declarator names specifiers declarator (tree.break body) span h = absurd h.7
  definition-declarator names specifiers declarator (tree.continue body) span h = absurd h.7
  definition-declarator names specifiers declarator (tree.return body expr) span h = absurd h.7

  definition-read : (names : List Declared) (span : Span) (specifiers : Specifiers) (declarator : Declarator) (body : Stmt) → IsExternal source names (tree.definition span specifiers declarator body)
      → height_of (tree.definition span specifiers declarator body) ≤ suc depth → height_of (tree.definition span specifiers declarator body) ≤ greatest_height
      → external_of source (within source (suc depth)) names span.first ≡ Some (tree.definition span specifiers declarator body)
  unfolding IsExternal height_of external_of within lower
  definition-read names span specifiers declarator body h d l =
      let brace = definition-declarator names specifiers declarator body span h in
      let reads = complete-within source (suc depth) in
      let inside : List Declared = specifiers_declares source specifiers ++ names in
      ap (and_then (λ these. external_behind source (within source (suc depth)) (specifiers_declares source these ++ names) span.first these))
      (ap ((within source (suc depth)).parts.specifiers names) (sym h.0)
      ∙ reads.parts.specifiers names specifiers h.1 (omega (arith, d)) (omega (arith, l))
      (ap (λ (at : ℕ). follows_specifiers (symbol_in source (specifiers_declares source specifiers ++ names) at)) (sym h.2)
      ∙ named-begins source (λ (it : Symbol). follows_specifiers it ≡ true) (specifiers_declares source specifiers ++ names) false declarator h.3 h.4 refl refl identifier-follows))
      ∙ if-false _ _ _ (ap (λ (at : ℕ). is (symbol_in source (specifiers_declares source specifiers ++ names) at) symbol.Semicolon) (sym h.2)
      ∙ named-begins source (λ (it : Symbol). is it symbol.Semicolon ≡ false) (specifiers_declares source specifiers ++ names) false declarator h.3 h.4 refl refl identifier-no-semicolon)
      ∙ ap (and_then (external_with source (within source (suc depth)) (specifiers_declares source specifiers ++ names) span.first specifiers))
      (ap ((within source (suc depth)).parts.declarator named (specifiers_declares source specifiers ++ names)) (sym h.2)
      ∙ declarator-before-body source (lower source depth) depth (complete source depth) (specifiers_declares source specifiers ++ names) declarator h.3 h.4 (omega (arith, d)) (omega (arith, l))
      (alike source _ (declarator_declares source declarator ++ (specifiers_declares source specifiers ++ names)) _ symbol.LeftBrace brace refl))
      ∙ if-true _ _ _ (it-is _ symbol.LeftBrace brace)
      ∙ holds _ _ h.5
      ∙ ap (and_then (definition_with span.first specifiers declarator))
      (ap ((within source (suc depth)).stmt (body_declares source (own_parameters None declarator) ++ (named_declares source (defines_types source specifiers) declarator ++ (specifiers_declares source specifiers ++ names)))) (sym h.6)
      ∙ reads.stmt (body_declares source (own_parameters None declarator) ++ (named_declares source (defines_types source specifiers) declarator ++ (specifiers_declares source specifiers ++ names))) body h.8 (omega (arith, d)) (omega (arith, l)))
      ∙ ap (λ (after : ℕ). checked (height_of (tree.definition (span_of span.first after) specifiers declarator body)) (tree.definition (span_of span.first after) specifiers declarator body)) (sym h.9)
      ∙ fits _ _ l

  module _ (inner : Within) (reads : ReadsWithin source inner depth) where
    declared-behind : (names : List Declared) (span : Span) (specifiers : Specifiers) (items : List Item) → IsDeclaration source names (tree.declaring span specifiers items) → 1 ≤ depth
        → items_height items ≤ depth → declaration_height (tree.declaring span specifiers items) ≤ greatest_height
        → external_behind source inner (specifiers_declares source specifiers ++ names) span.first specifiers ≡ Some (external_declared span.first (tree.declaring span specifiers items))
    unfolding IsDeclaration AreItems items_height declaration_height items_declares
    declared-behind names span specifiers [] h some d l =
        if-true _ _ _ (it-is _ symbol.Semicolon h.3) ∙ ap (option_map (external_declared span.first)) (none-read source inner depth reads names span specifiers h l)
    declared-behind names span specifiers (first ∷ others) h some d l =
        let ends = first-ends source inner depth reads names span specifiers first others h in
        if-false _ _ _ (no-semicolon source inner depth reads names span specifiers first others h)
        ∙ ap (and_then (external_with source inner (specifiers_declares source specifiers ++ names) span.first specifiers))
        (ap (inner.parts.declarator named (specifiers_declares source specifiers ++ names)) (sym h.2.0)
        ∙ item-declarator-read source inner depth reads (defines_types source specifiers) (specifiers_declares source specifiers ++ names) first h.2.1 some (omega (arith, d)) (omega (arith, l)) ends)
        ∙ if-false _ _ _ (item-no-body source inner depth reads (defines_types source specifiers) (specifiers_declares source specifiers ++ names) (specifiers_declares source specifiers ++ names) first h.2.1 ends)
        ∙ ap (option_map (external_declared span.first))
        (ap (and_then (declaration_with source inner (specifiers_declares source specifiers ++ names) span.first specifiers))
        (ap (λ (at : ℕ). item_behind source inner (defines_types source specifiers) (specifiers_declares source specifiers ++ names) at (item_declarator source inner depth reads first)) (sym h.2.0)
        ∙ item-behind-read source inner depth reads (defines_types source specifiers) (specifiers_declares source specifiers ++ names) first h.2.1 (omega (arith, d)) (omega (arith, l)) ends)
        ∙ with-read source inner depth reads names span specifiers first others h some d l)

    declared-read : (names : List Declared) (span : Span) (declaration : Declaration) → IsExternal source names (tree.external span declaration)
        → declaration_height declaration ≤ depth + 1 → declaration_height declaration ≤ greatest_height → external_of source inner names span.first ≡ Some (tree.external span declaration)
    unfolding IsExternal declaration_height external_of
    declared-read names span (tree.declaring own specifiers items) h d l =
        let high : 1 ≤ specifiers_height specifiers = declared-high source inner depth reads names own specifiers items h.1 in
        ap (external_of source inner names) (sym h.0)
        ∙ ap (and_then (λ these. external_behind source inner (specifiers_declares source these ++ names) own.first these))
        (specifiers-read-first source inner depth reads names own specifiers items h.1 (omega (arith, d)) (omega (arith, l)))
        ∙ declared-behind names own specifiers items h.1 (omega (arith, d, high)) (omega (arith, d)) l
        ∙ (λ i. Some (tree.external (span_of (h.0 i) (sym h.2 i)) (tree.declaring own specifiers items)))

-- The external declaration that stands at a place is read there.
pub external-only : (source : Source) (names : List Declared) (at : ℕ) (it : External) → IsExternalAt source names at it → external_at source names at ≡ Some it
unfolding height_of
external-only source names at (tree.external span declaration) stands =
    ap (external_at source names) (sym stands.begins)
    ∙ declared-read source greatest_height (within source greatest_height) (complete-within source greatest_height) names span declaration stands.formed.0 (omega (arith, stands.formed.1)) stands.formed.1
external-only source names at (tree.definition span specifiers declarator body) stands =
    ap (external_at source names) (sym stands.begins)
    ∙ definition-read source (greatest_height - 1) names span specifiers declarator body stands.formed.0 stands.formed.1 stands.formed.1
