-- Well-formed initialisers and declarations are read from their tokens, where what reads their parts does so.
use Rattle.std.proofs.Common.{◌≡◌, ℕ, zero, suc, ◌+◌, ◌<◌, ◌≤◌, Bool, true, false, not, ◌&&◌, List, [], ◌∷◌, ◌++◌, Option, Some, None, refl, sym, ap, ◌∙◌, subst, arith, length, option_map}
use Rattle.dm_token.specs.declared.place.Span.{Span}
use Rattle.dm_token.specs.Limits.{greatest_height}
use Rattle.dm_syn.specs.declared.declared.Declared.{Declared}
use Rattle.dm_syn.specs.declared.symbol.Symbol.{Symbol}
use Rattle.dm_syn.specs.declared.symbol.Symbol.TheVariants as symbol
use Rattle.dm_syn.specs.Symbols.{is, is_identifier}
use Rattle.dm_syn.specs.Sources.{Source, symbol_at, symbol_in}
use Rattle.dm_syn.specs.Trees.{Expr, Specifiers, Declarator, Initialiser, Initialisers, Item, Declaration, Stmt, SwitchItem}
use Rattle.dm_syn.specs.Trees as tree
use Rattle.dm_syn.specs.Spans.{specifiers_span, declarator_span, initialiser_span, initialisers_after, item_span, items_after, declaration_span, stmt_span, switch_item_span}
use Rattle.dm_syn.specs.Scopes.{specifiers_declares, named_declares, initialiser_declares, initialisers_declares, item_declares, items_declares, defines_types}
use Rattle.dm_syn.specs.Heights.{initialiser_height, initialisers_height, item_height, items_height, declaration_height, specifiers_height, stmt_height, switch_item_height}
use Rattle.dm_syn.specs.Grammar.{IsTrailing, trailing_after}
use Rattle.dm_syn.specs.Statements.{IsInitialiser, AreMoreInitialisers, IsItem, AreMoreItems, AreItems, IsDeclaration, IsStmt, IsSwitchItem}
use Rattle.dm_pexpr.specs.Parsing.{named, span_of, all_turns, and_then, lower, suffix_kind}
use Rattle.dm_pexpr.proofs.SpecifierSymbols.{follows_specifiers, follows_declarator, identifier-follows}
use Rattle.dm_pexpr.proofs.SymbolLemmas.{Stops}
use Rattle.dm_pexpr.proofs.Positions.{present}
use Rattle.dm_pexpr.proofs.Expressions.{fits, holds, it-is, if-true, if-false, both-tests, fronts}
use Rattle.dm_pexpr.proofs.Declarators.{ReadsParts, specifiers-high}
use Rattle.dm_pexpr.proofs.Completeness.{complete}
use Rattle.dm_pexpr.proofs.TestLemmas.{second-no, first-no}
use Rattle.dm_pstmt.specs.Parsing.{Reads, Within, stands, checked_initialiser, more_initialisers, braces_closed, braces_with, braces_from, valued, initialiser_of, initialised, item_behind, item_of, more_items, checked_declaration, declaration_closed, declaration_rest, declaration_with, declaration_behind, declaration_of}
use Rattle.dm_pstmt.proofs.Results.{at-symbol, in-symbol}
use Rattle.dm_pstmt.proofs.Positions.{initialiser-on, item-on}
use Rattle.dm_pstmt.proofs.Beginnings.{stands-there, stands-not, named-begins, identifier-no-semicolon, ends_initialiser, ends_item, item-initialiser, item-declarator, item-no-equals, item-no-brace, initialiser-stops, ends-in, front-no-left-brace, initialiser-begins}

-- the trees of at most this height are read
pub record ReadsWithin (source : Source) (inner : Within) (depth : ℕ) : Type 0 where
  pub parts : ReadsParts source inner.parts depth
  pub initialiser : (names : List Declared) (it : Initialiser) → IsInitialiser source names it → initialiser_height it ≤ depth → initialiser_height it ≤ greatest_height
      → ends_initialiser (symbol_at source (initialiser_span it).after) ≡ true → inner.initialiser names (initialiser_span it).first ≡ Some it
  pub stmt : (names : List Declared) (it : Stmt) → IsStmt source names it → stmt_height it ≤ depth → stmt_height it ≤ greatest_height → inner.stmt names (stmt_span it).first ≡ Some it
  pub labelled : (names : List Declared) (it : SwitchItem) → IsSwitchItem source names it → switch_item_height it ≤ depth → switch_item_height it ≤ greatest_height → inner.labelled names (switch_item_span it).first ≡ Some it

-- how the items between braces end
abbrev TrailingAt : Source → ℕ → Bool → Type 0
TrailingAt source at true = symbol_at source at ≡ symbol.Comma
TrailingAt source at false = Unit {0}

abbrev EndsBraces : Source → ℕ → Bool → Type 0
EndsBraces source at trailing = TrailingAt source at trailing × (symbol_at source (trailing_after at trailing) ≡ symbol.RightBrace)

trailing-at : (source : Source) (names : List Declared) (at : ℕ) (trailing : Bool) → IsTrailing source names at trailing → TrailingAt source at trailing
trailing-at source names at true h = at-symbol source names at symbol.Comma h refl
trailing-at source names at false h = tt

ends-with : (source : Source) (at : ℕ) (trailing : Bool) → EndsBraces source at trailing → ends_initialiser (symbol_at source at) ≡ true
ends-with source at true e = ap ends_initialiser e.0
ends-with source at false e = ap ends_initialiser e.1

no-more : (source : Source) (names : List Declared) (at : ℕ) (trailing : Bool) → EndsBraces source at trailing
    → (stands source names at symbol.Comma && not (stands source names (at + 1) symbol.RightBrace)) ≡ false
no-more source names at true e = second-no _ _ (ap not (stands-there source names (at + 1) symbol.RightBrace e.1 refl))
no-more source names at false e = first-no _ _ (stands-not source names at symbol.RightBrace symbol.Comma e.1 refl refl)

trailing-seen : (source : Source) (names : List Declared) (at : ℕ) (trailing : Bool) → EndsBraces source at trailing → stands source names at symbol.Comma ≡ trailing
trailing-seen source names at true e = stands-there source names at symbol.Comma e.0 refl
trailing-seen source names at false e = stands-not source names at symbol.RightBrace symbol.Comma e.1 refl refl

initialisers-follow : (source : Source) (names : List Declared) (at : ℕ) (others : Initialisers) (trailing : Bool) → AreMoreInitialisers source names at others
    → EndsBraces source (initialisers_after at others) trailing → ends_initialiser (symbol_at source at) ≡ true
unfolding AreMoreInitialisers
initialisers-follow source names at tree.no_initialisers trailing h e = ends-with source at trailing e
initialisers-follow source names at (tree.more_initialisers first others) trailing h e = ap ends_initialiser (at-symbol source names at symbol.Comma h.0 refl)

-- initialisers
module _ (source : Source) (read : Reads Initialiser) (depth : ℕ) (reads : (names : List Declared) (it : Initialiser) → IsInitialiser source names it → initialiser_height it ≤ depth → initialiser_height it ≤ greatest_height
    → ends_initialiser (symbol_at source (initialiser_span it).after) ≡ true → read names (initialiser_span it).first ≡ Some it) where
  more-read : (it : Initialisers) (turns : ℕ) (names : List Declared) (at : ℕ) (trailing : Bool) → AreMoreInitialisers source names at it
      → initialisers_height it ≤ depth → initialisers_height it ≤ greatest_height → length source.tokens < at + turns
      → EndsBraces source (initialisers_after at it) trailing → more_initialisers source read turns names at ≡ Some it
  unfolding AreMoreInitialisers initialisers_height more_initialisers
  more-read tree.no_initialisers zero names at trailing h d l t e = refl
  more-read tree.no_initialisers (suc turns) names at trailing h d l t e = if-false _ _ _ (no-more source names at trailing e)
  more-read (tree.more_initialisers first others) zero names at trailing h d l t e =
      absurd (omega (arith, t, present source names at symbol.Comma h.0 (λ (it : symbol.Comma ≡ symbol.End). cc)))
  more-read (tree.more_initialisers first others) (suc turns) names at trailing h d l t e =
      if-true _ _ _ (both-tests _ _ (it-is _ symbol.Comma h.0)
      (ap not (ap (λ (place : ℕ). is (symbol_in source names place) symbol.RightBrace) (sym h.1) ∙ initialiser-begins source names first h.2)))
      ∙ ap (and_then (λ one. option_map (tree.more_initialisers one) (more_initialisers source read turns (initialiser_declares source one ++ names) (initialiser_span one).after)))
      (ap (read names) (sym h.1) ∙ reads names first h.2 (omega (arith, d)) (omega (arith, l)) (initialisers-follow source _ _ others trailing h.3 e))
      ∙ ap (option_map (tree.more_initialisers first))
      (more-read others turns (initialiser_declares source first ++ names) (initialiser_span first).after trailing h.3 (omega (arith, d)) (omega (arith, l))
      (omega (arith, t, h.1, initialiser-on source names first h.2)) e)

  braces-read : (names : List Declared) (span : Span) (first : Initialiser) (others : Initialisers) (trailing : Bool) → IsInitialiser source names (tree.braces span (tree.more_initialisers first others) trailing)
      → initialisers_height (tree.more_initialisers first others) ≤ depth → initialiser_height (tree.braces span (tree.more_initialisers first others) trailing) ≤ greatest_height
      → and_then (braces_from source read names span.first) (read names (span.first + 1)) ≡ Some (tree.braces span (tree.more_initialisers first others) trailing)
  unfolding IsInitialiser initialisers_height initialiser_height
  braces-read names span first others trailing h d l =
      let ends : EndsBraces source (initialisers_after (initialiser_span first).after others) trailing =
      (trailing-at source _ _ trailing h.4, at-symbol source _ _ symbol.RightBrace h.5 refl) in
      ap (and_then (braces_from source read names span.first)) (ap (read names) (sym h.1)
      ∙ reads names first h.2 (omega (arith, d)) (omega (arith, l)) (initialisers-follow source _ _ others trailing h.3 ends))
      ∙ ap (and_then (braces_with source (initialiser_declares source first ++ names) span.first first))
      (more-read others (all_turns source) (initialiser_declares source first ++ names) (initialiser_span first).after trailing h.3 (omega (arith, d)) (omega (arith, l)) (omega arith) ends)
      ∙ ap (braces_closed source (initialisers_declares source others ++ (initialiser_declares source first ++ names)) span.first (tree.more_initialisers first others) (initialisers_after (initialiser_span first).after others))
      (trailing-seen source (initialisers_declares source others ++ (initialiser_declares source first ++ names)) _ trailing ends)
      ∙ holds _ _ (it-is _ symbol.RightBrace h.5)
      ∙ ap (λ (after : ℕ). checked_initialiser (tree.braces (span_of span.first after) (tree.more_initialisers first others) trailing)) (sym h.6)
      ∙ fits _ _ l

-- what stands behind an initialiser stops an expression
initialiser-stops-at : (source : Source) (names : List Declared) (at : ℕ) → ends_initialiser (symbol_at source at) ≡ true → Stops 1 (suffix_kind (symbol_in source names at))
initialiser-stops-at source names at e = subst (λ (it : Symbol). Stops 1 (suffix_kind it)) (sym (ends-in source names at e)) (initialiser-stops (symbol_at source at) e)

pub initialiser-read : (source : Source) (depth : ℕ) (names : List Declared) (it : Initialiser) → IsInitialiser source names it → initialiser_height it ≤ depth → initialiser_height it ≤ greatest_height
    → ends_initialiser (symbol_at source (initialiser_span it).after) ≡ true → initialiser_of source depth names (initialiser_span it).first ≡ Some it
unfolding IsInitialiser initialiser_height initialiser_of lower
initialiser-read source zero names (tree.value span expr) h d l e =
    let nothing : Option Expr = None in
    let none : nothing ≡ Some expr = (complete source zero).expr 1 names expr h.1 h.2 d l (initialiser-stops-at source _ _ (ap (λ (at : ℕ). ends_initialiser (symbol_at source at)) (sym h.3) ∙ e)) in absurd (cc)
initialiser-read source zero names (tree.braces span items trailing) h d l e = absurd (omega (arith, d))
initialiser-read source (suc depth) names (tree.value span expr) h d l e =
    if-false _ _ _ (ap (λ (at : ℕ). is (symbol_in source names at) symbol.LeftBrace) (sym h.0) ∙ front-no-left-brace _ (fronts source names expr h.1))
    ∙ ap (option_map (valued span.first)) (ap ((lower source (suc depth)).expr 1 names) (sym h.0)
    ∙ (complete source (suc depth)).expr 1 names expr h.1 h.2 d l (initialiser-stops-at source _ _ (ap (λ (at : ℕ). ends_initialiser (symbol_at source at)) (sym h.3) ∙ e)))
    ∙ ap (λ (after : ℕ). Some (tree.value (span_of span.first after) expr)) (sym h.3)
initialiser-read source (suc depth) names (tree.braces span tree.no_initialisers trailing) h d l e = absurd h
initialiser-read source (suc depth) names (tree.braces span (tree.more_initialisers first others) trailing) h d l e =
    if-true _ _ _ (it-is _ symbol.LeftBrace h.0)
    ∙ braces-read source (initialiser_of source depth) depth (λ names it h d l e. initialiser-read source depth names it h d l e) names span first others trailing h (omega (arith, d)) l

-- what stands behind an item may stand behind a declarator
item-declares-at : (source : Source) (names : List Declared) (at : ℕ) → ends_item (symbol_at source at) ≡ true → follows_declarator (symbol_in source names at) ≡ true
item-declares-at source names at e = ap follows_declarator (ends-in source names at (item-initialiser (symbol_at source at) e)) ∙ item-declarator (symbol_at source at) e

-- an item begins with what may stand behind specifiers, and with no semicolon
item-begins : (source : Source) (P : Symbol → Type 0) (is_type : Bool) (names : List Declared) (it : Item) → IsItem source names is_type it
    → P symbol.Star → P symbol.LeftParen → ((this : Symbol) → is_identifier this ≡ true → P this) → P (symbol_in source names (item_span it).first)
unfolding IsItem
item-begins source P is_type names (tree.plain span declarator) h star paren identifier =
    subst (λ (at : ℕ). P (symbol_in source names at)) h.0 (named-begins source P names false declarator h.1 h.2 star paren identifier)
item-begins source P is_type names (tree.initialised span declarator initialiser) h star paren identifier =
    subst (λ (at : ℕ). P (symbol_in source names at)) h.0 (named-begins source P names false declarator h.1 h.2 star paren identifier)

module _ (source : Source) (inner : Within) (depth : ℕ) (reads : ReadsWithin source inner depth) where
  -- the declarator of an item
  abbrev pub item_declarator : Item → Declarator
  item_declarator (tree.plain span declarator) = declarator
  item_declarator (tree.initialised span declarator initialiser) = declarator

  -- its declarator is read
  pub item-declarator-read : (is_type : Bool) (names : List Declared) (it : Item) → IsItem source names is_type it → 1 ≤ depth → item_height it ≤ depth → item_height it ≤ greatest_height
      → ends_item (symbol_at source (item_span it).after) ≡ true → inner.parts.declarator named names (item_span it).first ≡ Some (item_declarator it)
  unfolding IsItem item_height
  item-declarator-read is_type names (tree.plain span declarator) h some d l e =
      ap (inner.parts.declarator named names) (sym h.0)
      ∙ reads.parts.declarator named names declarator h.1 h.2 some d l
      (item-declares-at source _ _ (ap (λ (at : ℕ). ends_item (symbol_at source at)) (sym h.3) ∙ e))
  item-declarator-read is_type names (tree.initialised span declarator initialiser) h some d l e =
      ap (inner.parts.declarator named names) (sym h.0)
      ∙ reads.parts.declarator named names declarator h.1 h.2 some (omega (arith, d)) (omega (arith, l))
      (ap follows_declarator (in-symbol source _ _ symbol.Equals (at-symbol source _ _ symbol.Equals h.3 refl) refl))

  -- and what stands behind it
  pub item-behind-read : (is_type : Bool) (names : List Declared) (it : Item) → IsItem source names is_type it → item_height it ≤ depth → item_height it ≤ greatest_height
      → ends_item (symbol_at source (item_span it).after) ≡ true → item_behind source inner is_type names (item_span it).first (item_declarator it) ≡ Some it
  unfolding IsItem item_height
  item-behind-read is_type names (tree.plain span declarator) h d l e =
      let ends : ends_item (symbol_at source (declarator_span declarator).after) ≡ true = ap (λ (at : ℕ). ends_item (symbol_at source at)) (sym h.3) ∙ e in
      if-false _ _ _ (ap (λ (it : Symbol). is it symbol.Equals) (ends-in source (named_declares source is_type declarator ++ names) _ (item-initialiser _ ends)) ∙ item-no-equals _ ends)
      ∙ ap (λ (after : ℕ). Some (tree.plain (span_of span.first after) declarator)) (sym h.3)
  item-behind-read is_type names (tree.initialised span declarator initialiser) h d l e =
      if-true _ _ _ (it-is _ symbol.Equals h.3)
      ∙ ap (option_map (initialised span.first declarator)) (ap (inner.initialiser (named_declares source is_type declarator ++ names)) (sym h.4)
      ∙ reads.initialiser (named_declares source is_type declarator ++ names) initialiser h.5 (omega (arith, d)) (omega (arith, l))
      (item-initialiser _ (ap (λ (at : ℕ). ends_item (symbol_at source at)) (sym h.6) ∙ e)))
      ∙ ap (λ (after : ℕ). Some (tree.initialised (span_of span.first after) declarator initialiser)) (sym h.6)

  pub item-no-body : (is_type : Bool) (names any : List Declared) (it : Item) → IsItem source names is_type it
      → ends_item (symbol_at source (item_span it).after) ≡ true → stands source any (declarator_span (item_declarator it)).after symbol.LeftBrace ≡ false
  unfolding IsItem
  item-no-body is_type names any (tree.plain span declarator) h e =
      let ends : ends_item (symbol_at source (declarator_span declarator).after) ≡ true = ap (λ (at : ℕ). ends_item (symbol_at source at)) (sym h.3) ∙ e in
      ap (λ (it : Symbol). is it symbol.LeftBrace) (ends-in source any _ (item-initialiser _ ends)) ∙ item-no-brace _ ends
  item-no-body is_type names any (tree.initialised span declarator initialiser) h e =
      stands-not source any _ symbol.Equals symbol.LeftBrace (at-symbol source _ _ symbol.Equals h.3 refl) refl refl

  item-read : (is_type : Bool) (names : List Declared) (it : Item) → IsItem source names is_type it → 1 ≤ depth → item_height it ≤ depth → item_height it ≤ greatest_height
      → ends_item (symbol_at source (item_span it).after) ≡ true → item_of source inner is_type names (item_span it).first ≡ Some it
  unfolding item_of
  item-read is_type names it h some d l e =
      ap (and_then (item_behind source inner is_type names (item_span it).first)) (item-declarator-read is_type names it h some d l e)
      ∙ item-behind-read is_type names it h d l e

  items-follow : (is_type : Bool) (names : List Declared) (at : ℕ) (others : List Item) → AreMoreItems source names is_type at others
      → symbol_at source (items_after at others) ≡ symbol.Semicolon → ends_item (symbol_at source at) ≡ true
  unfolding AreMoreItems
  items-follow is_type names at [] h e = ap ends_item e
  items-follow is_type names at (first ∷ others) h e = ap ends_item (at-symbol source names at symbol.Comma h.0 refl)

  more-items-read : (is_type : Bool) (it : List Item) (turns : ℕ) (names : List Declared) (at : ℕ) → AreMoreItems source names is_type at it → 1 ≤ depth
      → items_height it ≤ depth → items_height it ≤ greatest_height → length source.tokens < at + turns
      → symbol_at source (items_after at it) ≡ symbol.Semicolon → more_items source inner is_type turns names at ≡ Some it
  unfolding AreMoreItems items_height more_items
  more-items-read is_type [] zero names at h some d l t e = refl
  more-items-read is_type [] (suc turns) names at h some d l t e = if-false _ _ _ (stands-not source names at symbol.Semicolon symbol.Comma e refl refl)
  more-items-read is_type (first ∷ others) zero names at h some d l t e =
      absurd (omega (arith, t, present source names at symbol.Comma h.0 (λ (it : symbol.Comma ≡ symbol.End). cc)))
  more-items-read is_type (first ∷ others) (suc turns) names at h some d l t e =
      if-true _ _ _ (it-is _ symbol.Comma h.0)
      ∙ ap (and_then (λ one. option_map (λ rest. one ∷ rest) (more_items source inner is_type turns (item_declares source is_type one ++ names) (item_span one).after)))
      (ap (item_of source inner is_type names) (sym h.1) ∙ item-read is_type names first h.2 some (omega (arith, d)) (omega (arith, l)) (items-follow is_type _ _ others h.3 e))
      ∙ ap (option_map (λ rest. first ∷ rest))
      (more-items-read is_type others turns (item_declares source is_type first ++ names) (item_span first).after h.3 some (omega (arith, d)) (omega (arith, l))
      (omega (arith, t, h.1, item-on source names is_type first h.2)) e)

  -- what closes a declaration
  closed-read : (span : Span) (specifiers : Specifiers) (items : List Item) (any : List Declared) → symbol_at source (items_after (specifiers_span specifiers).after items) ≡ symbol.Semicolon
      → span.after ≡ items_after (specifiers_span specifiers).after items + 1 → declaration_height (tree.declaring span specifiers items) ≤ greatest_height
      → declaration_closed source any span.first specifiers items (items_after (specifiers_span specifiers).after items) ≡ Some (tree.declaring span specifiers items)
  closed-read span specifiers items any e p l =
      holds _ _ (stands-there source any _ symbol.Semicolon e refl)
      ∙ ap (λ (after : ℕ). checked_declaration (tree.declaring (span_of span.first after) specifiers items)) (sym p)
      ∙ fits _ _ l

  -- the specifiers of a declaration
  pub specifiers-read-first : (names : List Declared) (span : Span) (specifiers : Specifiers) (items : List Item) → IsDeclaration source names (tree.declaring span specifiers items)
      → specifiers_height specifiers ≤ depth → specifiers_height specifiers ≤ greatest_height → inner.parts.specifiers names span.first ≡ Some specifiers
  unfolding IsDeclaration AreItems items_declares
  specifiers-read-first names span specifiers [] h d l =
      ap (inner.parts.specifiers names) (sym h.0) ∙ reads.parts.specifiers names specifiers h.1 d l (ap follows_specifiers h.3)
  specifiers-read-first names span specifiers (first ∷ others) h d l =
      ap (inner.parts.specifiers names) (sym h.0)
      ∙ reads.parts.specifiers names specifiers h.1 d l
      (ap (λ (at : ℕ). follows_specifiers (symbol_in source (specifiers_declares source specifiers ++ names) at)) (sym h.2.0) ∙ item-begins source (λ (it : Symbol). follows_specifiers it ≡ true) (defines_types source specifiers) (specifiers_declares source specifiers ++ names) first h.2.1 refl refl identifier-follows)

  pub declared-high : (names : List Declared) (span : Span) (specifiers : Specifiers) (items : List Item) → IsDeclaration source names (tree.declaring span specifiers items) → 1 ≤ specifiers_height specifiers
  unfolding IsDeclaration
  declared-high names span specifiers items h = specifiers-high source names specifiers h.1

  -- Behind the specifiers of a declaration with items, these are read.
  pub with-read : (names : List Declared) (span : Span) (specifiers : Specifiers) (first : Item) (others : List Item) → IsDeclaration source names (tree.declaring span specifiers (first ∷ others)) → 1 ≤ depth
      → items_height (first ∷ others) ≤ depth → declaration_height (tree.declaring span specifiers (first ∷ others)) ≤ greatest_height
      → declaration_with source inner (specifiers_declares source specifiers ++ names) span.first specifiers first ≡ Some (tree.declaring span specifiers (first ∷ others))
  unfolding IsDeclaration AreItems items_height declaration_height
  with-read names span specifiers first others h some d l =
      let ends : symbol_at source (items_after (specifiers_span specifiers).after (first ∷ others)) ≡ symbol.Semicolon = at-symbol source _ _ symbol.Semicolon h.3 refl in
      ap (and_then (declaration_rest source (item_declares source (defines_types source specifiers) first ++ (specifiers_declares source specifiers ++ names)) span.first specifiers first))
      (more-items-read (defines_types source specifiers) others (all_turns source) (item_declares source (defines_types source specifiers) first ++ (specifiers_declares source specifiers ++ names)) (item_span first).after h.2.2 some
      (omega (arith, d)) (omega (arith, l)) (omega arith) ends)
      ∙ closed-read span specifiers (first ∷ others) _ ends h.4 l

  -- what stands behind its first item
  pub first-ends : (names : List Declared) (span : Span) (specifiers : Specifiers) (first : Item) (others : List Item) → IsDeclaration source names (tree.declaring span specifiers (first ∷ others))
      → ends_item (symbol_at source (item_span first).after) ≡ true
  unfolding IsDeclaration AreItems
  first-ends names span specifiers first others h =
      items-follow (defines_types source specifiers) _ (item_span first).after others h.2.2 (at-symbol source _ _ symbol.Semicolon h.3 refl)

  -- no semicolon stands behind its specifiers
  pub no-semicolon : (names : List Declared) (span : Span) (specifiers : Specifiers) (first : Item) (others : List Item) → IsDeclaration source names (tree.declaring span specifiers (first ∷ others))
      → stands source (specifiers_declares source specifiers ++ names) (specifiers_span specifiers).after symbol.Semicolon ≡ false
  unfolding IsDeclaration AreItems
  no-semicolon names span specifiers first others h =
      ap (λ (at : ℕ). is (symbol_in source (specifiers_declares source specifiers ++ names) at) symbol.Semicolon) (sym h.2.0)
      ∙ item-begins source (λ (it : Symbol). is it symbol.Semicolon ≡ false) (defines_types source specifiers) (specifiers_declares source specifiers ++ names) first h.2.1 refl refl identifier-no-semicolon

  -- and a declaration without items is read
  pub none-read : (names : List Declared) (span : Span) (specifiers : Specifiers) → IsDeclaration source names (tree.declaring span specifiers [])
      → declaration_height (tree.declaring span specifiers []) ≤ greatest_height
      → declaration_closed source (specifiers_declares source specifiers ++ names) span.first specifiers [] (specifiers_span specifiers).after ≡ Some (tree.declaring span specifiers [])
  unfolding IsDeclaration AreItems
  none-read names span specifiers h l = closed-read span specifiers [] _ (at-symbol source _ _ symbol.Semicolon h.3 refl) h.4 l

  behind-read : (names : List Declared) (span : Span) (specifiers : Specifiers) (items : List Item) → IsDeclaration source names (tree.declaring span specifiers items) → 1 ≤ depth
      → items_height items ≤ depth → declaration_height (tree.declaring span specifiers items) ≤ greatest_height
      → declaration_behind source inner (specifiers_declares source specifiers ++ names) span.first specifiers ≡ Some (tree.declaring span specifiers items)
  unfolding IsDeclaration AreItems items_height declaration_height items_declares
  behind-read names span specifiers [] h some d l = if-true _ _ _ (it-is _ symbol.Semicolon h.3) ∙ none-read names span specifiers h l
  behind-read names span specifiers (first ∷ others) h some d l =
      if-false _ _ _ (no-semicolon names span specifiers first others h)
      ∙ ap (and_then (declaration_with source inner (specifiers_declares source specifiers ++ names) span.first specifiers))
      (ap (item_of source inner (defines_types source specifiers) (specifiers_declares source specifiers ++ names)) (sym h.2.0)
      ∙ item-read (defines_types source specifiers) (specifiers_declares source specifiers ++ names) first h.2.1 some (omega (arith, d)) (omega (arith, l)) (first-ends names span specifiers first others h))
      ∙ with-read names span specifiers first others h some d l

  -- A well-formed declaration is the one that is read.
  pub declaration-read : (names : List Declared) (it : Declaration) → IsDeclaration source names it → declaration_height it ≤ depth + 1 → declaration_height it ≤ greatest_height
      → declaration_of source inner names (declaration_span it).first ≡ Some it
  unfolding declaration_height declaration_of
  declaration-read names (tree.declaring span specifiers items) h d l =
      let high : 1 ≤ specifiers_height specifiers = declared-high names span specifiers items h in
      ap (and_then (λ these. declaration_behind source inner (specifiers_declares source these ++ names) span.first these))
      (specifiers-read-first names span specifiers items h (omega (arith, d)) (omega (arith, l)))
      ∙ behind-read names span specifiers items h (omega (arith, d, high)) (omega (arith, d)) l
