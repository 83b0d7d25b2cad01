-- Initialisers and declarations that are read are well formed, where what reads their parts gives well-formed parts.
use Rattle.std.proofs.Common.{◌≡◌, ◌≤◌, ℕ, zero, suc, ◌+◌, Bool, true, false, not, ◌&&◌, ⊎_elim, List, [], ◌∷◌, ◌++◌, Some, IsSome, refl, subst, option_map}
use Rattle.dm_token.specs.Limits.{greatest_height}
use Rattle.dm_syn.specs.declared.declared.Declared.{Declared}
use Rattle.dm_syn.specs.declared.symbol.Symbol.TheVariants as symbol
use Rattle.dm_syn.specs.Symbols.{is}
use Rattle.dm_syn.specs.Sources.{Source, symbol_in}
use Rattle.dm_syn.specs.Trees.{Expr, Specifiers, Declarator, Initialiser, Initialisers, Item, Declaration, Stmt, SwitchItem}
use Rattle.dm_syn.specs.Trees as tree
use Rattle.dm_syn.specs.Spans.{specifiers_span, declarator_span, initialiser_span, initialisers_after, item_span, items_after, declaration_span, stmt_span, switch_item_span}
use Rattle.dm_syn.specs.Scopes.{declarator_name, specifiers_declares, named_declares, initialiser_declares, initialisers_declares, item_declares, defines_types}
use Rattle.dm_syn.specs.Heights.{declaration_height}
use Rattle.dm_syn.specs.Grammar.{IsSpecifiers, IsDeclarator, IsTrailing, trailing_after}
use Rattle.dm_syn.specs.Statements.{IsInitialiser, AreMoreInitialisers, IsItem, AreMoreItems, AreItems, IsDeclaration, IsStmt, IsSwitchItem}
use Rattle.dm_pexpr.specs.Parsing.{named, span_of, all_turns, lower}
use Rattle.dm_pexpr.proofs.SymbolTests.{is-it}
use Rattle.dm_pexpr.proofs.Soundness.{GivesFormed, inside, where-some, checked-some, branch, both-hold}
use Rattle.dm_pexpr.proofs.AllFormed.{all-formed}
use Rattle.dm_pexpr.proofs.SoundSpecifiers.{trailing-is}
use Rattle.dm_pstmt.specs.Parsing.{Reads, Within, stands, more_initialisers, braces_with, braces_from, valued, initialiser_of, initialised, item_behind, item_of, more_items, declaration_closed, declaration_rest, declaration_with, declaration_behind, declaration_of}
use Rattle.dm_pstmt.proofs.Results.{then-some, map-some, checked-low, alike}

-- an initialiser that begins at a place, and so on
abbrev pub InitialiserAt : Source → List Declared → ℕ → Initialiser → Type 0
InitialiserAt source names at it = IsInitialiser source names it × ((initialiser_span it).first ≡ at)

abbrev pub ItemAt : Source → List Declared → Bool → ℕ → Item → Type 0
ItemAt source names is_type at it = IsItem source names is_type it × ((item_span it).first ≡ at)

abbrev pub DeclarationAt : Source → List Declared → ℕ → Declaration → Type 0
DeclarationAt source names at it = IsDeclaration source names it × ((declaration_span it).first ≡ at) × (declaration_height it ≤ greatest_height)

abbrev pub StmtAt : Source → List Declared → ℕ → Stmt → Type 0
StmtAt source names at it = IsStmt source names it × ((stmt_span it).first ≡ at)

abbrev pub LabelledAt : Source → List Declared → ℕ → SwitchItem → Type 0
LabelledAt source names at it = IsSwitchItem source names it × ((switch_item_span it).first ≡ at)

-- what is given is well formed where it stands
pub record GivesWithin (source : Source) (inner : Within) : Type 0 where
  pub parts : GivesFormed source inner.parts
  pub initialiser : (names : List Declared) (at : ℕ) (it : Initialiser) → inner.initialiser names at ≡ Some it → InitialiserAt source names at it
  pub stmt : (names : List Declared) (at : ℕ) (it : Stmt) → inner.stmt names at ≡ Some it → StmtAt source names at it
  pub labelled : (names : List Declared) (at : ℕ) (it : SwitchItem) → inner.labelled names at ≡ Some it → LabelledAt source names at it

-- initialisers
module _ (source : Source) (read : Reads Initialiser) (formed : (names : List Declared) (at : ℕ) (it : Initialiser) → read names at ≡ Some it → InitialiserAt source names at it) where
  more-formed : (turns : ℕ) (names : List Declared) (at : ℕ) (it : Initialisers) → more_initialisers source read turns names at ≡ Some it → AreMoreInitialisers source names at it
  unfolding more_initialisers AreMoreInitialisers
  more-formed zero names at it h = subst (AreMoreInitialisers source names at) (inside _ _ h) tt
  more-formed (suc turns) names at it h =
      ⊎_elim
      (λ goes.
      let first = then-some (λ first. option_map (tree.more_initialisers first) (more_initialisers source read turns (initialiser_declares source first ++ names) (initialiser_span first).after)) (read names (at + 1)) it goes.1 in
      let others = map-some (tree.more_initialisers first.0) _ it first.2 in
      let one = formed names (at + 1) first.0 first.1 in
      subst (AreMoreInitialisers source names at) others.2
      (is-it _ symbol.Comma (both-hold _ _ goes.0).0, one.1, one.0, more-formed turns (initialiser_declares source first.0 ++ names) (initialiser_span first.0).after others.0 others.1))
      (λ ends. subst (AreMoreInitialisers source names at) (inside _ _ ends.1) tt)
      (branch (stands source names at symbol.Comma && not (stands source names (at + 1) symbol.RightBrace)) _ _ it h)

  braces-formed : (names : List Declared) (at : ℕ) (first : Initialiser) (it : Initialiser) → symbol_in source names at ≡ symbol.LeftBrace
      → InitialiserAt source names (at + 1) first → braces_from source read names at first ≡ Some it → InitialiserAt source names at it
  unfolding IsInitialiser
  braces-formed names at first it b f h =
      let others = then-some (braces_with source (initialiser_declares source first ++ names) at first) (more_initialisers source read (all_turns source) (initialiser_declares source first ++ names) (initialiser_span first).after) it h in
      let ends = where-some _ _ it others.2 in
      subst (InitialiserAt source names at) (checked-some _ (tree.braces (span_of at (trailing_after (initialisers_after (initialiser_span first).after others.0) (stands source (initialisers_declares source others.0 ++ (initialiser_declares source first ++ names)) (initialisers_after (initialiser_span first).after others.0) symbol.Comma) + 1)) (tree.more_initialisers first others.0) (stands source (initialisers_declares source others.0 ++ (initialiser_declares source first ++ names)) (initialisers_after (initialiser_span first).after others.0) symbol.Comma)) it ends.1)
      ((b, f.1, f.0, more-formed (all_turns source) (initialiser_declares source first ++ names) (initialiser_span first).after others.0 others.1, trailing-is source _ _ _ refl, is-it _ symbol.RightBrace ends.0, refl), refl)

pub initialiser-formed : (source : Source) (depth : ℕ) (names : List Declared) (at : ℕ) (it : Initialiser) → initialiser_of source depth names at ≡ Some it → InitialiserAt source names at it
unfolding initialiser_of IsInitialiser lower
initialiser-formed source zero names at it h = absurd (cc)
initialiser-formed source (suc depth) names at it h =
    ⊎_elim
    (λ braced.
    let first = then-some (braces_from source (initialiser_of source depth) names at) (initialiser_of source depth names (at + 1)) it braced.1 in
    braces-formed source (initialiser_of source depth) (λ names at it h. initialiser-formed source depth names at it h) names at first.0 it (is-it _ symbol.LeftBrace braced.0)
    (initialiser-formed source depth names (at + 1) first.0 first.1) first.2)
    (λ plain.
    let expr = map-some (valued at) ((lower source (suc depth)).expr 1 names at) it plain.1 in
    let one = (all-formed source (suc depth)).expr 1 names at expr.0 expr.1 in
    subst (InitialiserAt source names at) expr.2 ((one.1, one.0, one.2, refl), refl))
    (branch (stands source names at symbol.LeftBrace) _ _ it h)

module _ (source : Source) (inner : Within) (formed : GivesWithin source inner) where
  -- items
  pub item-behind-formed : (is_type : Bool) (names : List Declared) (at : ℕ) (declarator : Declarator) (it : Item) → IsDeclarator source names false declarator
      → (declarator_span declarator).first ≡ at → IsSome (declarator_name declarator)
      → item_behind source inner is_type names at declarator ≡ Some it → ItemAt source names is_type at it
  unfolding IsItem
  item-behind-formed is_type names at declarator it d p n h =
      ⊎_elim
      (λ set.
      let value = map-some (initialised at declarator) _ it set.1 in
      let one = formed.initialiser (named_declares source is_type declarator ++ names) ((declarator_span declarator).after + 1) value.0 value.1 in
      subst (ItemAt source names is_type at) value.2 ((p, d, n, is-it _ symbol.Equals set.0, one.1, one.0, refl), refl))
      (λ plain. subst (ItemAt source names is_type at) (inside _ _ plain.1) ((p, d, n, refl), refl))
      (branch (stands source (named_declares source is_type declarator ++ names) (declarator_span declarator).after symbol.Equals) _ _ it h)

  pub item-formed : (is_type : Bool) (names : List Declared) (at : ℕ) (it : Item) → item_of source inner is_type names at ≡ Some it → ItemAt source names is_type at it
  unfolding item_of
  item-formed is_type names at it h =
      let declarator = then-some (item_behind source inner is_type names at) (inner.parts.declarator named names at) it h in
      let one = formed.parts.declarator named names at declarator.0 declarator.1 in
      item-behind-formed is_type names at declarator.0 it one.0 one.1 one.2 declarator.2

  more-items-formed : (is_type : Bool) (turns : ℕ) (names : List Declared) (at : ℕ) (it : List Item) → more_items source inner is_type turns names at ≡ Some it → AreMoreItems source names is_type at it
  unfolding more_items AreMoreItems
  more-items-formed is_type zero names at it h = subst (AreMoreItems source names is_type at) (inside _ _ h) tt
  more-items-formed is_type (suc turns) names at it h =
      ⊎_elim
      (λ goes.
      let first = then-some (λ first. option_map (λ others. first ∷ others) (more_items source inner is_type turns (item_declares source is_type first ++ names) (item_span first).after)) (item_of source inner is_type names (at + 1)) it goes.1 in
      let others = map-some (λ (others : List Item). first.0 ∷ others) _ it first.2 in
      let one = item-formed is_type names (at + 1) first.0 first.1 in
      subst (AreMoreItems source names is_type at) others.2
      (is-it _ symbol.Comma goes.0, one.1, one.0, more-items-formed is_type turns (item_declares source is_type first.0 ++ names) (item_span first.0).after others.0 others.1))
      (λ ends. subst (AreMoreItems source names is_type at) (inside _ _ ends.1) tt)
      (branch (stands source names at symbol.Comma) _ _ it h)

  -- declarations
  pub closed-formed : (names any : List Declared) (at : ℕ) (specifiers : Specifiers) (items : List Item) (it : Declaration) → IsSpecifiers source names specifiers → (specifiers_span specifiers).first ≡ at
      → AreItems source (specifiers_declares source specifiers ++ names) (defines_types source specifiers) (specifiers_span specifiers).after items
      → declaration_closed source any at specifiers items (items_after (specifiers_span specifiers).after items) ≡ Some it → DeclarationAt source names at it
  unfolding IsDeclaration
  closed-formed names any at specifiers items it s p i h =
      let ends = where-some _ _ it h in
      let low = checked-low _ (tree.declaring (span_of at (items_after (specifiers_span specifiers).after items + 1)) specifiers items) it ends.1 in
      subst (DeclarationAt source names at) low.0
      ((p, s, i, alike source any _ _ symbol.Semicolon (is-it _ symbol.Semicolon ends.0) refl, refl), refl, low.1)

  pub none-formed : (names any : List Declared) (at : ℕ) (specifiers : Specifiers) (it : Declaration) → IsSpecifiers source names specifiers → (specifiers_span specifiers).first ≡ at
      → declaration_closed source any at specifiers [] (specifiers_span specifiers).after ≡ Some it → DeclarationAt source names at it
  unfolding AreItems
  none-formed names any at specifiers it s p h = closed-formed names any at specifiers [] it s p tt h

  pub with-formed : (names : List Declared) (at : ℕ) (specifiers : Specifiers) (first : Item) (it : Declaration) → IsSpecifiers source names specifiers → (specifiers_span specifiers).first ≡ at
      → ItemAt source (specifiers_declares source specifiers ++ names) (defines_types source specifiers) (specifiers_span specifiers).after first
      → declaration_with source inner (specifiers_declares source specifiers ++ names) at specifiers first ≡ Some it → DeclarationAt source names at it
  unfolding AreItems
  with-formed names at specifiers first it s p f h =
      let others = then-some (declaration_rest source (item_declares source (defines_types source specifiers) first ++ (specifiers_declares source specifiers ++ names)) at specifiers first)
      (more_items source inner (defines_types source specifiers) (all_turns source) (item_declares source (defines_types source specifiers) first ++ (specifiers_declares source specifiers ++ names)) (item_span first).after) it h in
      closed-formed names _ at specifiers (first ∷ others.0) it s p
      (f.1, f.0, more-items-formed (defines_types source specifiers) (all_turns source) (item_declares source (defines_types source specifiers) first ++ (specifiers_declares source specifiers ++ names)) (item_span first).after others.0 others.1) others.2

  pub behind-formed : (names : List Declared) (at : ℕ) (specifiers : Specifiers) (it : Declaration) → IsSpecifiers source names specifiers → (specifiers_span specifiers).first ≡ at
      → declaration_behind source inner (specifiers_declares source specifiers ++ names) at specifiers ≡ Some it → DeclarationAt source names at it
  behind-formed names at specifiers it s p h =
      ⊎_elim (λ none. none-formed names _ at specifiers it s p none.1)
      (λ some.
      let first = then-some (declaration_with source inner (specifiers_declares source specifiers ++ names) at specifiers) (item_of source inner (defines_types source specifiers) (specifiers_declares source specifiers ++ names) (specifiers_span specifiers).after) it some.1 in
      with-formed names at specifiers first.0 it s p (item-formed (defines_types source specifiers) (specifiers_declares source specifiers ++ names) (specifiers_span specifiers).after first.0 first.1) first.2)
      (branch (stands source (specifiers_declares source specifiers ++ names) (specifiers_span specifiers).after symbol.Semicolon) _ _ it h)

  pub declaration-formed : (names : List Declared) (at : ℕ) (it : Declaration) → declaration_of source inner names at ≡ Some it → DeclarationAt source names at it
  unfolding declaration_of
  declaration-formed names at it h =
      let specifiers = then-some (λ specifiers. declaration_behind source inner (specifiers_declares source specifiers ++ names) at specifiers) (inner.parts.specifiers names at) it h in
      let one = formed.parts.specifiers names at specifiers.0 specifiers.1 in
      behind-formed names at specifiers.0 it one.0 one.1 specifiers.2
