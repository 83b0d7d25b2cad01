-- External declarations that are read are well formed.
use Rattle.std.proofs.Common.{◌≡◌, ℕ, zero, suc, false, ⊎_elim, List, ◌++◌, Option, Some, None, IsSome, refl, ap, ◌∙◌, subst, option_map}
use Rattle.dm_token.specs.Limits.{greatest_height}
use Rattle.dm_syn.specs.declared.declared.Declared.{Declared}
use Rattle.dm_syn.specs.declared.symbol.Symbol.TheVariants as symbol
use Rattle.dm_syn.specs.Sources.{Source, symbol_in}
use Rattle.dm_syn.specs.Trees.{Specifiers, Declarator, Declaration, External}
use Rattle.dm_syn.specs.Spans.{specifiers_span, declarator_span}
use Rattle.dm_syn.specs.Scopes.{declarator_name, specifiers_declares, named_declares, defines_types}
use Rattle.dm_syn.specs.Heights.{height_of}
use Rattle.dm_syn.specs.Grammar.{IsSpecifiers, IsDeclarator}
use Rattle.dm_syn.specs.Statements.{IsExternal, own_parameters, body_declares}
use Rattle.dm_pexpr.specs.Parsing.{named}
use Rattle.dm_pexpr.proofs.SymbolTests.{is-it}
use Rattle.dm_pexpr.proofs.Soundness.{where-some, branch}
use Rattle.dm_pexpr.proofs.AllFormed.{all-formed}
use Rattle.dm_pstmt.specs.Parsing.{Within, stands, within, item_behind, declaration_with, external_declared, definition_with, definition_of, external_with, external_behind, external_of}
use Rattle.dm_pstmt.specs.Readings.{IsExternalAt, external_at}
use Rattle.dm_pstmt.proofs.Results.{then-some, map-some, checked-low}
use Rattle.dm_pstmt.proofs.Blocks.{is-block}
use Rattle.dm_pstmt.proofs.SoundDeclarations.{GivesWithin, DeclarationAt, initialiser-formed, none-formed, item-behind-formed, with-formed}
use Rattle.dm_pstmt.proofs.SoundStatements.{stmt-formed, labelled-formed}

-- whatever the depth
all-within : (source : Source) (depth : ℕ) → GivesWithin source (within source depth)
unfolding within
all-within source zero =
    record {
      parts = all-formed source zero;
      initialiser = λ names at it h. initialiser-formed source zero names at it h;
      stmt = λ names at it h. absurd (cc);
      labelled = λ names at it h. absurd (cc);
    }
all-within source (suc depth) =
    record {
      parts = all-formed source (suc depth);
      initialiser = λ names at it h. initialiser-formed source (suc depth) names at it h;
      stmt = λ names at it h. stmt-formed source (within source depth) (all-within source depth) names at it h;
      labelled = λ names at it h. labelled-formed source (within source depth) (all-within source depth) names at it h;
    }

module _ (source : Source) (inner : Within) (formed : GivesWithin source inner) where
  -- a declaration
  declared-formed : (names : List Declared) (at : ℕ) (found : Option Declaration) (it : External) → ((declaration : Declaration) → found ≡ Some declaration → DeclarationAt source names at declaration)
      → option_map (external_declared at) found ≡ Some it → IsExternalAt source names at it
  unfolding IsExternal height_of
  declared-formed names at found it d h =
      let declaration = map-some (external_declared at) found it h in
      let one = d declaration.0 declaration.1 in
      let made : IsExternalAt source names at (external_declared at declaration.0) = record { formed = ((one.1, one.0, refl), one.2); begins = refl } in
      subst (IsExternalAt source names at) declaration.2 made

  -- a function definition
  definition-formed : (names : List Declared) (at : ℕ) (specifiers : Specifiers) (declarator : Declarator) (it : External) → IsSpecifiers source names specifiers → (specifiers_span specifiers).first ≡ at
      → IsDeclarator source (specifiers_declares source specifiers ++ names) false declarator → (declarator_span declarator).first ≡ (specifiers_span specifiers).after → IsSome (declarator_name declarator)
      → symbol_in source (specifiers_declares source specifiers ++ names) (declarator_span declarator).after ≡ symbol.LeftBrace
      → definition_of source inner (specifiers_declares source specifiers ++ names) at specifiers declarator ≡ Some it → IsExternalAt source names at it
  unfolding IsExternal
  definition-formed names at specifiers declarator it s p d q n b h =
      let own = where-some _ _ it h in
      let body = then-some (definition_with at specifiers declarator)
      (inner.stmt (body_declares source (own_parameters None declarator) ++ (named_declares source (defines_types source specifiers) declarator ++ (specifiers_declares source specifiers ++ names))) (declarator_span declarator).after) it own.1 in
      let one = formed.stmt (body_declares source (own_parameters None declarator) ++ (named_declares source (defines_types source specifiers) declarator ++ (specifiers_declares source specifiers ++ names))) (declarator_span declarator).after body.0 body.1 in
      let low = checked-low _ _ it body.2 in
      let block = is-block source _ (specifiers_declares source specifiers ++ names) body.0 one.0 (ap (symbol_in source (specifiers_declares source specifiers ++ names)) one.1 ∙ b) in
      subst (IsExternalAt source names at) low.0 (record { formed = ((p, s, q, d, n, own.0, one.1, block, one.0, refl), low.1); begins = refl })

  external-formed : (names : List Declared) (at : ℕ) (it : External) → external_of source inner names at ≡ Some it → IsExternalAt source names at it
  unfolding external_of
  external-formed names at it h =
      let specifiers = then-some (λ specifiers. external_behind source inner (specifiers_declares source specifiers ++ names) at specifiers) (inner.parts.specifiers names at) it h in
      let one = formed.parts.specifiers names at specifiers.0 specifiers.1 in
      ⊎_elim
      (λ none. declared-formed names at _ it (λ declaration found. none-formed source inner formed names _ at specifiers.0 declaration one.0 one.1 found) none.1)
      (λ some.
      let declarator = then-some (external_with source inner (specifiers_declares source specifiers.0 ++ names) at specifiers.0) (inner.parts.declarator named (specifiers_declares source specifiers.0 ++ names) (specifiers_span specifiers.0).after) it some.1 in
      let two = formed.parts.declarator named (specifiers_declares source specifiers.0 ++ names) (specifiers_span specifiers.0).after declarator.0 declarator.1 in
      ⊎_elim
      (λ braced. definition-formed names at specifiers.0 declarator.0 it one.0 one.1 two.0 two.1 two.2 (is-it _ symbol.LeftBrace braced.0) braced.1)
      (λ plain. declared-formed names at _ it (λ declaration found.
      let first = then-some (declaration_with source inner (specifiers_declares source specifiers.0 ++ names) at specifiers.0)
      (item_behind source inner (defines_types source specifiers.0) (specifiers_declares source specifiers.0 ++ names) (specifiers_span specifiers.0).after declarator.0) declaration found in
      with-formed source inner formed names at specifiers.0 first.0 declaration one.0 one.1
      (item-behind-formed source inner formed (defines_types source specifiers.0) (specifiers_declares source specifiers.0 ++ names) (specifiers_span specifiers.0).after declarator.0 first.0 two.0 two.1 two.2 first.1) first.2) plain.1)
      (branch (stands source (specifiers_declares source specifiers.0 ++ names) (declarator_span declarator.0).after symbol.LeftBrace) _ _ it declarator.2))
      (branch (stands source (specifiers_declares source specifiers.0 ++ names) (specifiers_span specifiers.0).after symbol.Semicolon) _ _ it specifiers.2)

-- An external declaration that is read stands there.
pub external-found : (source : Source) (names : List Declared) (at : ℕ) (it : External) → external_at source names at ≡ Some it → IsExternalAt source names at it
external-found source names at it h = external-formed source (within source greatest_height) (all-within source greatest_height) names at it h
