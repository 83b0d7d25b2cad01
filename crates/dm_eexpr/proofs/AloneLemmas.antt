-- An expression that stands alone: no struct is being read, and there are no trees of type names, before it and behind it.
use Rattle.std.specs.Prelude.{◌≡◌, ℕ, ◌<◌, ◌≤◌, true, is_some, List, [], ◌∷◌, map, reverse, Result, Ok, Err, IfOk, IfErr}
use Rattle.std.specs.FinMap as finite
use Rattle.std.proofs.Common.{sym, ap, ◌∙◌, subst}
use Rattle.dm_token.specs.declared.stop.Stop.{Stop}
use Rattle.dm_token.specs.declared.stop.Stop.TheVariants as stop
use Rattle.dm_token.specs.declared.token.CToken.{CToken}
use Rattle.dm_type.specs.declared.shape.Shape.{Shape}
use Rattle.dm_type.specs.Tables.{Table}
use Rattle.dm_scope.specs.Scopes.{Scopes, number_of}
use Rattle.dm_syn.specs.declared.declared.Declared.{Declared as Name}
use Rattle.dm_syn.specs.Grammar.{IsExpr}
use Rattle.dm_syn.specs.Spans.{expr_span}
use Rattle.dm_syn.specs.Trees.{Expr}
use Rattle.dm_tree.specs.declared.tree.Core.{Core}
use Rattle.dm_tree.specs.declared.unit.Declared.{Declared}
use Rattle.dm_tree.specs.Trees.{Tree}
use Rattle.dm_tree.specs.Views.{entries_of}
use Rattle.dm_typing.specs.declared.known.Known.{Known as Held}
use Rattle.dm_typing.specs.Known.{Known, Setting, given}
use Rattle.dm_typing.specs.Sound.{AreSoundTokens, BreaksWithin, GivesMore, IsSound, IsSoundKnown}
use Rattle.dm_typing.specs.Typing.{typed}
use Rattle.dm_typing.specs.Views.{view_over, table_over, known_over, Gives}
use Rattle.dm_typing.proofs.PlaceLemmas.{Plain, within-places}
use Rattle.dm_typing.proofs.WholeLemmas.{expr-more}
use Rattle.dm_typing.proofs.WholePlaceLemmas.{expr-placed}
use Rattle.dm_eexpr.specs.Alone.{source_alone, setting_alone, known_alone, RefusesWithin}
use Rattle.dm_eexpr.proofs.KeepLemmas.{Keeps, KeepsIn, Leads, SameTrees, expr-keeps, expr-trees}

abbrev with_rest : List Shape → Table → Scopes → List Declared → List ℕ → List Tree → Known
with_rest later types scopes declared begun constants = record {
  types = table_over later types;
  scopes = scopes;
  declared = entries_of (table_over later types) declared;
  begun = begun;
  constants = constants;
}

-- what is known where an expression stands alone
abbrev pub known_first : List Shape → Table → Scopes → List Declared → List ℕ → List Core → Known
known_first later types scopes declared begun constants = with_rest later types scopes declared (reverse begun) (map (view_over later) constants)

pub known-first : (later : List Shape) (types old_types : Table) (scopes old_scopes : Scopes) (declared old_declared : List Declared) (begun : List ℕ) (constants : List Core)
    → types ≡ old_types → scopes ≡ old_scopes → declared ≡ old_declared → begun ≡ [] → constants ≡ [] → known_first later types scopes declared begun constants ≡ known_alone later old_types old_scopes old_declared
known-first later types old_types scopes old_scopes declared old_declared begun constants t s d b c =
    ap (λ x. known_first later x scopes declared begun constants) t
    ∙ ap (λ x. known_first later old_types x declared begun constants) s
    ∙ ap (λ x. known_first later old_types old_scopes x begun constants) d
    ∙ ap (λ x. known_first later old_types old_scopes old_declared x constants) b
    ∙ ap (λ x. known_first later old_types old_scopes old_declared [] x) c

-- no function is lacking
abbrev pub setting_lacking : List CToken → Scopes → Setting
setting_lacking tokens lacking = record { source = source_alone tokens; lacks = λ name. is_some (number_of lacking name) }

module _ (tokens : List CToken) (lacking : Scopes) (empty : lacking ≡ finite.empty ∷ []) (expr : Expr) (later : List Shape) (types : Table) (scopes : Scopes) (declared : List Declared)
    (before : Known) (is : before ≡ known_alone later types scopes declared) (new : Held) where
  typed-alone : typed (setting_lacking tokens lacking) true before expr ≡ typed (setting_alone tokens) true (known_alone later types scopes declared) expr
  typed-alone =
      ap (λ scopes. typed (setting_lacking tokens scopes) true before expr) empty ∙ ap (λ known. typed (setting_alone tokens) true known expr) is

  behind-alone : (known_over later new).begun ≡ [] → (known_over later new).constants ≡ [] → known_over later new ≡ known_alone later new.types new.scopes new.declared
  behind-alone none no_trees =
      ap (λ begun. with_rest later new.types new.scopes new.declared begun (known_over later new).constants) none ∙ ap (λ constants. with_rest later new.types new.scopes new.declared [] constants) no_trees

  pub gives-alone : (result : Result Core Stop) → Gives (view_over later) (source_alone tokens) (known_over later new) result (typed (setting_lacking tokens lacking) true before expr)
      → Gives (view_over later) (source_alone tokens) (known_alone later new.types new.scopes new.declared) result (typed (setting_alone tokens) true (known_alone later types scopes declared) expr)
  gives-alone (Ok core) g =
      let keeps : Keeps before (known_over later new) = (subst (KeepsIn before) g (expr-keeps (setting_lacking tokens lacking) true before (expr_span expr) expr)).leads in
      let same : SameTrees before (known_over later new) = (subst (Leads SameTrees before) g (expr-trees (setting_lacking tokens lacking) true before (expr_span expr) expr)).leads in
      sym typed-alone ∙ (g ∙ ap (λ known. given known (view_over later core)) (behind-alone (keeps.begun ∙ ap (λ (known : Known). known.begun) is) (same ∙ ap (λ (known : Known). known.constants) is)))
  gives-alone (Err stop.Memory) g = tt
  gives-alone (Err (stop.Refused refusal)) g = (g.0, g.1, sym typed-alone ∙ g.2, g.3)
  gives-alone (Err (stop.Limit limit)) g = absurd g
  gives-alone (Err (stop.ReadFault file)) g = absurd g

-- what is given for an expression of the grammar is well typed, and a refusal is inside it
module _ (tokens : List CToken) (names : List Name) (expr : Expr) (formed : IsExpr (source_alone tokens) names expr) (before behind : Known) (view : Core → Tree) where
  pub sound-alone : AreSoundTokens tokens → IsSoundKnown before → (result : Result Core Stop) → Gives view (source_alone tokens) behind result (typed (setting_alone tokens) true before expr)
      → IfOk result (λ core. GivesMore before IsSound (given behind (view core)))
  sound-alone sound known (Ok core) g = subst (GivesMore before IsSound) g (expr-more (setting_alone tokens) sound true before names (expr_span expr) expr formed known)
  sound-alone sound known (Err stop) g = tt

  inside-places : BreaksWithin (expr_span expr).first (expr_span expr).after (typed (setting_alone tokens) true before expr)
  inside-places =
      within-places (expr_span expr).first (expr_span expr).after Plain (typed (setting_alone tokens) true before expr)
      ((expr-placed (setting_alone tokens) names (expr_span expr) expr formed).1 true before)

  pub inside-alone : (result : Result Core Stop) → Gives view (source_alone tokens) behind result (typed (setting_alone tokens) true before expr)
      → IfErr result (RefusesWithin (source_alone tokens) (expr_span expr))
  inside-alone (Ok core) g = tt
  inside-alone (Err stop.Memory) g = tt
  inside-alone (Err (stop.Refused refusal)) g =
      let span = expr_span expr in
      let within : (span.first ≤ g.1) × (g.1 < span.after) = subst (BreaksWithin span.first span.after) g.2 inside-places in
      (g.0, g.1, g.3, within.0, within.1)
  inside-alone (Err (stop.Limit limit)) g = absurd g
  inside-alone (Err (stop.ReadFault file)) g = absurd g
