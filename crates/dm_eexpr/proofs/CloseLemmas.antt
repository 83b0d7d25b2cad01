-- What a type name, a struct and a parameter list give where they end.
use Rattle.std.specs.Prelude.{◌≡◌, ℕ, ◌<◌, Bool, List, [], ◌∷◌, length, map, drop, Option, Some, None, Ok, Err, refl}
use Rattle.std.specs.FinMap as finite
use Rattle.std.proofs.Common.{sym, ap, ap₂, ◌∙◌, subst}
use Rattle.dm_token.specs.declared.stop.Stop.{Stop}
use Rattle.dm_token.specs.declared.stop.Stop.TheVariants as stop
use Rattle.dm_type.specs.declared.shape.Shape.{Shape}
use Rattle.dm_type.specs.CTypes.{CType}
use Rattle.dm_type.specs.Tables.{Table, IsId}
use Rattle.dm_syn.specs.Sources.{Source}
use Rattle.dm_syn.specs.Trees.{Parameters}
use Rattle.dm_tree.specs.declared.tree.Core.{Core}
use Rattle.dm_tree.specs.Units.{Declaration}
use Rattle.dm_edeclarator.specs.declared.declarators.TypedParameter.{TypedParameter as ParameterHeld}
use Rattle.dm_typing.specs.declared.known.Known.{Known as Held}
use Rattle.dm_typing.specs.declared.typer.Typer.{Typer}
use Rattle.dm_typing.specs.Known.{Known, Setting, Outcome, given}
use Rattle.dm_typing.specs.Fitting.{AreNumbered}
use Rattle.dm_edeclarator.specs.Steps.{SameBesideScopes, SameBesideConstants, name_over, NameFits, ParametersFit, parameters_over, Follows}
use Rattle.dm_typing.specs.Typing.{TypedName, TypedParameter, name_ended, entered, left, with_new_struct, parameters_of}
use Rattle.dm_typing.specs.Views.{Begins, type_over, view_over, known_over, source_of, setting_of, Gives}
use Rattle.dm_eexpr.proofs.KeepLemmas.{KeepsIn, new-keeps, parameters-keep}
use Rattle.dm_typing.proofs.LaterLemmas.{begins-itself}
use Rattle.dm_edeclarator.proofs.OpenLemmas.{enters, scopes-over, outside-open, constants-over}

-- a type name is typed between two lists of trees
module _ (source : Source) (old begun behind ended : Held) (one : List Shape → Known → Outcome CType)
    (opens : SameBesideConstants old begun) (none : begun.constants ≡ []) where
  abbrev named-whole : List Shape → Outcome TypedName
  named-whole later = name_ended (known_over later old).constants (one later (record (known_over later old) { constants = [] }))

  bared-is : (later : List Shape) → record (known_over later old) { constants = [] } ≡ known_over later begun
  bared-is later = sym (constants-over later old begun opens ∙ ap (λ trees. record (known_over later old) { constants = map (view_over later) trees }) none)

  opened-shapes : Begins begun.types.shapes behind.types.shapes → Begins old.types.shapes behind.types.shapes
  opened-shapes more = subst (λ (types : Table). Begins types.shapes behind.types.shapes) opens.types more

  name-gives-fault : (fault : Stop) (view : List Shape → ℕ → CType) (later : List Shape) → (outcome : Outcome CType) → Gives (view later) source (known_over later behind) (Err fault) outcome
      → Gives (name_over later) source (known_over later behind) (Err fault) (name_ended (known_over later old).constants outcome)
  name-gives-fault stop.Memory view later outcome g = tt
  name-gives-fault (stop.Refused refusal) view later outcome g = (g.0, g.1, ap (name_ended (known_over later old).constants) g.2, g.3)
  name-gives-fault (stop.Limit limit) view later outcome g = absurd g
  name-gives-fault (stop.ReadFault file) view later outcome g = absurd g

  pub name-fails : (fault : Stop) → Follows IsId type_over source begun behind (Err fault) (λ later. one later (known_over later begun)) → Follows NameFits name_over source old behind (Err fault) named-whole
  name-fails fault f = record {
    shapes = opened-shapes f.shapes;
    numbered = tt;
    gives = λ later on. subst (λ known. Gives (name_over later) source (known_over later behind) (Err fault) (name_ended (known_over later old).constants (one later known))) (sym (bared-is later))
        (name-gives-fault fault type_over later (one later (known_over later begun)) (f.gives later on));
  }

  pub name-made : (kind : ℕ) (constants : List Core) → SameBesideConstants behind ended → ended.constants ≡ old.constants → constants ≡ behind.constants
      → Follows IsId type_over source begun behind (Ok kind) (λ later. one later (known_over later begun))
      → Follows NameFits name_over source old ended (Ok (record { kind = kind; constants = constants })) named-whole
  name-made kind constants closes back is f = record {
    shapes = subst (λ (types : Table). Begins old.types.shapes types.shapes) (sym closes.types) (opened-shapes f.shapes);
    numbered = subst (λ (types : Table). IsId types kind × AreNumbered types constants) (sym closes.types) (f.numbered, subst (AreNumbered behind.types) (sym is) behind.trees);
    gives = λ later on.
        let within = subst (λ (types : Table). Begins types.shapes later) closes.types on in
        ap (λ known. name_ended (known_over later old).constants (one later known)) (bared-is later)
        ∙ ap (name_ended (known_over later old).constants) (f.gives later within)
        ∙ ap₂ given
        (sym (constants-over later behind ended closes ∙ ap (λ trees. record (known_over later behind) { constants = map (view_over later) trees }) back))
        (ap (λ trees. record { kind = type_over later kind; constants = map (view_over later) trees }) (sym is));
  }

-- ---- structs

-- where a struct is new, the same structs are being read
pub new-begun : (setting : Setting) (known : Known) (tag : Option ℕ) (found : Option Declaration) → (with_new_struct setting known tag found).begun ≡ known.begun
new-begun setting known tag None = (new-keeps setting known tag).begun
new-begun setting known tag (Some entry) = refl

-- ---- parameters, in a scope of their own

module _ (typer : Typer) (used : Bool) (parameters : Parameters) (old inside behind : Held) (opens : SameBesideScopes old inside) (one : inside.scopes ≡ finite.empty ∷ old.scopes) where
  abbrev all-of : Known → Outcome (List TypedParameter)
  all-of known = parameters_of (setting_of typer) used known parameters

  abbrev left-whole : List Shape → Outcome (List TypedParameter)
  left-whole later = left (known_over later old).scopes (all-of (entered (known_over later old)))

  entered-shapes : Begins inside.types.shapes behind.types.shapes → Begins old.types.shapes behind.types.shapes
  entered-shapes more = subst (λ (types : Table). Begins types.shapes behind.types.shapes) opens.types more

  entered-is : (later : List Shape) → entered (known_over later old) ≡ known_over later inside
  entered-is later = sym (enters later old inside opens one)

  module _ (typed : List ParameterHeld) (f : Follows ParametersFit parameters_over (source_of typer) inside behind (Ok typed) (λ later. all-of (known_over later inside))) where
    pub outer-stays : drop 1 behind.scopes ≡ old.scopes
    outer-stays =
        let shapes = behind.types.shapes in
        let keeps = subst (KeepsIn (known_over shapes inside)) (f.gives shapes (begins-itself shapes)) (parameters-keep (setting_of typer) used (known_over shapes inside) parameters) in
        keeps.leads.adds.outer ∙ ap (drop 1) one

    pub left-open : 0 < length old.scopes → 1 < length behind.scopes
    left-open some = outside-open behind.scopes old.scopes outer-stays some

    pub left-made : (ended : Held) → SameBesideScopes behind ended → ended.scopes ≡ drop 1 behind.scopes → Follows ParametersFit parameters_over (source_of typer) old ended (Ok typed) left-whole
    left-made ended closes e = record {
      shapes = subst (λ (types : Table). Begins old.types.shapes types.shapes) (sym closes.types) (entered-shapes f.shapes);
      numbered = subst (λ types. ParametersFit types typed) (sym closes.types) f.numbered;
      gives = λ later on.
          let within = subst (λ (types : Table). Begins types.shapes later) closes.types on in
          ap (λ known. left (known_over later old).scopes (all-of known)) (entered-is later)
          ∙ ap (left (known_over later old).scopes) (f.gives later within)
          ∙ ap (λ known. given known (parameters_over later typed))
          (sym (scopes-over later behind ended closes ∙ ap (λ scopes. record (known_over later behind) { scopes = scopes }) (e ∙ outer-stays)));
    }
