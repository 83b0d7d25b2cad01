-- The first stop of a unit's layers.
use Rattle.std.specs.Prelude.{◌≡◌, ℕ, List, [], map, Option, None, Result, Ok, Err, IsErrAnd}
use Rattle.std.proofs.Common.{sym, ap, ◌∙◌, subst, inl, inr, ⊎_elim}
use Rattle.dm_token.specs.declared.stop.Stop.{Stop}
use Rattle.dm_token.specs.declared.stop.Stop.TheVariants as stop
use Rattle.dm_token.specs.declared.token.CToken.{CToken}
use Rattle.dm_token.specs.declared.token.Token.{Token}
use Rattle.dm_token.specs.declared.unit.Unit.{Unit as Source}
use Rattle.dm_token.specs.declared.unit.UnitTokens.{UnitTokens}
use Rattle.dm_syn.specs.declared.statement.External.{External}
use Rattle.dm_syn.specs.Views as view
use Rattle.dm_type.specs.Tables.{Table}
use Rattle.dm_tree.specs.declared.unit.CoreUnit.{CoreUnit}
use Rattle.dm_tree.specs.TypeNumbers.{IsTypedUnit}
use Rattle.dm_typing.specs.Sound.{AreSoundTokens}
use Rattle.dm_edecl.specs.Placing.{AreExternals}
use Rattle.dm_eexpr.specs.Alone.{source_alone}
use Rattle.dm_search.specs.Loaded.{Loaded}
use Rattle.dm_unit.specs.Loaders.{Grows, file_of, stopped_at}
use Rattle.dm_unit.specs.States.{Setting}
use Rattle.dm_unit.specs.Units.{IsReadAs}
use Rattle.dm_reading.specs.Elaborated.{Elaborates}
use Rattle.dm_reading.specs.declared.reading.Layers.{Layers}
use Rattle.dm_reading.specs.declared.reading.Reading.{Reading}
use Rattle.dm_reading.specs.Layered.{AreTokens, HasLayers, layers_of, IsLayered}
use Rattle.dm_readings.specs.Reading.{IsReading}
use Rattle.dm_reading.specs.Syntax.{IsSyntax, Refuses}
use Rattle.dm_formed.proofs.SourceLemmas.{syntax-externals}
use Rattle.dm_formed.proofs.TokenLemmas.{ctokens-sound}

-- ---- behind the preprocessor

module _ (tokens : List Token) where
  -- faults that are handed on
  pub layers-handed : (result : Result Layers Stop) (fault : Stop) → IsErrAnd result (λ e. e ≡ fault) → HasLayers tokens (Err fault) → HasLayers tokens result
  layers-handed (Ok layers) fault handed h = absurd handed
  layers-handed (Err e) fault handed h = subst (λ s. HasLayers tokens (Err s)) (sym handed) h

  pub no-tokens : (fault : Stop) → AreTokens tokens (Err fault) → HasLayers tokens (Err fault)
  no-tokens fault h = inl h

  module _ (made : List CToken) (are : AreTokens tokens (Ok made)) where
    pub no-syntax : (fault : Stop) (seen : List CToken) → seen ≡ made → Refuses seen fault → HasLayers tokens (Err fault)
    no-syntax fault seen same h = inr (made, are, inl (subst (λ these. Refuses these fault) same h))

    module _ (syntax : List External) (seen again : List CToken) (nodes : List External) (same : seen ≡ made) (once : again ≡ made) (alike : nodes ≡ syntax)
        (is : IsSyntax seen (map view.external syntax)) where
      is-syntax : IsSyntax made (map view.external syntax)
      is-syntax = subst (λ these. IsSyntax these (map view.external syntax)) same is

      pub no-types : (fault : Stop) → Elaborates again (map view.external nodes) (Err fault) → HasLayers tokens (Err fault)
      no-types fault h =
          inr (
            made,
            are,
            inr (
              syntax,
              is-syntax,
              subst (λ these. Elaborates made (map view.external these) (Err fault)) alike (subst (λ these. Elaborates these (map view.external nodes) (Err fault)) once h),
            ),
          )

      pub all-layers : (core : CoreUnit) (types : Table) → Elaborates again (map view.external nodes) (Ok (core, types))
          → HasLayers tokens (Ok (record { tokens = made; syntax = syntax; core = core; types = types }))
      all-layers core types h = (
        are,
        is-syntax,
        subst (λ these. Elaborates made (map view.external these) (Ok (core, types))) alike (subst (λ these. Elaborates these (map view.external nodes) (Ok (core, types))) once h),
      )

      -- tokens that others become are sound, and what is read of them stands in them
      pub well-typed : (core : CoreUnit) (types : Table)
          → (AreSoundTokens again → AreExternals (source_alone again) [] 0 (map view.external nodes) → IsTypedUnit types core) → IsTypedUnit types core
      well-typed core types h =
          h (subst AreSoundTokens (sym once) (ctokens-sound tokens made are))
          (subst (λ these. AreExternals (source_alone again) [] 0 (map view.external these)) (sym alike)
          (subst (λ these. AreExternals (source_alone these) [] 0 (map view.external syntax)) (sym once) (syntax-externals made (map view.external syntax) is-syntax)))

-- what is read has these layers
pub layered : (reading : Reading) (tokens : List Token) → tokens ≡ reading.pp.tokens → HasLayers tokens (Ok (layers_of reading)) → IsLayered reading
layered reading tokens same h = subst (λ these. HasLayers these (Ok (layers_of reading))) same h

-- ---- the whole

module _ (setting : Setting) (unit : Source) (old new : Loaded) where
  pub reading-handed : (result : Result Reading Stop) (fault : Stop) → IsErrAnd result (λ e. e ≡ fault) → IsReading setting unit old (Err fault) new → IsReading setting unit old result new
  reading-handed (Ok reading) fault handed h = absurd handed
  reading-handed (Err e) fault handed h = subst (λ s. IsReading setting unit old (Err s) new) (sym handed) h

  pub not-read : (fault : Stop) → IsReadAs setting unit old (Err fault) new → IsReading setting unit old (Err fault) new
  not-read fault h = inl h

  pub not-typed : (fault : Stop) (pp : UnitTokens) (tokens : List Token) → tokens ≡ pp.tokens → IsReadAs setting unit old (Ok pp) new → HasLayers tokens (Err fault)
      → IsReading setting unit old (Err fault) new
  not-typed fault pp tokens same is h = inr (pp, is, subst (λ these. HasLayers these (Err fault)) same h)

  pub all-read : (reading : Reading) (tokens : List Token) → reading.unit ≡ unit → tokens ≡ reading.pp.tokens → IsReadAs setting unit old (Ok reading.pp) new
      → HasLayers tokens (Ok (layers_of reading)) → IsReading setting unit old (Ok reading) new
  all-read reading tokens of same is h = (of, is, layered reading tokens same h)

-- ---- what a stop leaves

-- only the reading of files has faults
pub layers-never : (tokens : List Token) (file : ℕ) → HasLayers tokens (Err (stop.ReadFault file)) → ⊥
layers-never tokens file h = ⊎_elim (λ one. one) (λ more. ⊎_elim (λ one. one) (λ last. last.2) more.2) h

pub loosened : (apart : Option ℕ) (old new : Loaded) → Grows None old new → Grows apart old new
loosened apart old new g = record {
  begins = g.begins;
  held_too = g.held_too;
  absent_too = g.absent_too;
  new_held = λ file from inside. ⊎_elim (λ held. inl held) (λ none. absurd none) (g.new_held file from inside);
}

abbrev fault_in : {A : Type 0} → Result A Stop → Stop
fault_in (Ok it) = stop.Memory
fault_in (Err fault) = fault

pub loader-handed : (result : Result Reading Stop) (fault : Stop) (old new : Loaded) → IsErrAnd result (λ e. e ≡ fault)
    → ((◌≡◌ {A = Result UnitTokens Stop} (Err fault) (Err stop.Memory) → ⊥) → Grows (file_of fault) old new) → (result ≡ Err stop.Memory → ⊥) → Grows (stopped_at result) old new
loader-handed (Ok it) fault old new handed h not = absurd handed
loader-handed (Err e) fault old new handed h not =
    subst (λ s. Grows (file_of s) old new) (sym handed) (h (λ k. not (ap Err (handed ∙ ap (fault_in {A = UnitTokens}) k))))

pub fault-handed : {P : Type 0} (result : Result Reading Stop) (fault : Stop) (file : ℕ) → IsErrAnd result (λ e. e ≡ fault)
    → (◌≡◌ {A = Result UnitTokens Stop} (Err fault) (Err (stop.ReadFault file)) → P) → result ≡ Err (stop.ReadFault file) → P
fault-handed (Ok it) fault file handed h k = absurd handed
fault-handed (Err e) fault file handed h k = h (ap Err (sym handed ∙ ap (fault_in {A = Reading}) k))

pub fault-never : {P : Type 0} (tokens : List Token) (result : Result Reading Stop) (fault : Stop) (file : ℕ) → IsErrAnd result (λ e. e ≡ fault) → HasLayers tokens (Err fault)
    → result ≡ Err (stop.ReadFault file) → P
fault-never tokens (Ok it) fault file handed h k = absurd handed
fault-never tokens (Err e) fault file handed h k = absurd (layers-never tokens file (subst (λ s. HasLayers tokens (Err s)) (sym handed ∙ ap (fault_in {A = Reading}) k) h))
