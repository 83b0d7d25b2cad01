-- A unit comes to one reading over the same files.
use Rattle.std.specs.Prelude.{◌≡◌, ℕ, Bool, List, Result, Ok, Err, IfErr, IsPermutation}
use Rattle.std.proofs.Common.{sym, ap, ◌∙◌, subst, inl, inr}
use Rattle.dm_token.specs.declared.stop.Stop.{Stop}
use Rattle.dm_token.specs.declared.stop.Stop.TheVariants as stop
use Rattle.dm_token.specs.declared.token.Token.{Token}
use Rattle.dm_token.specs.declared.unit.Unit.{Unit as Source}
use Rattle.dm_token.specs.declared.unit.UnitTokens.{UnitTokens}
use Rattle.dm_io.specs.Files.{Files}
use Rattle.dm_search.specs.Loaded.{Loaded, name_of}
use Rattle.dm_unit.specs.Loaders.{is_known}
use Rattle.dm_unit.specs.Outcomes.{seeing, Agree, IsLike}
use Rattle.dm_unit.specs.Readings.{ReadsUnit}
use Rattle.dm_unit.specs.States.{Setting, State, Outcome}
use Rattle.dm_unit.specs.Units.{setting_of, first_files, state_with, finished, HasOutcome, IsReadAs}
use Rattle.dm_unit.specs.Views.{IsFaultless}
use Rattle.dm_reading.specs.declared.reading.Layers.{Layers}
use Rattle.dm_reading.specs.declared.reading.Reading.{Reading}
use Rattle.dm_reading.specs.Layered.{HasLayers, layers_of}
use Rattle.dm_outcome.specs.Outcomes.{AreOneLayers}
use Rattle.dm_readings.specs.Reading.{IsReading, AreSameTokens, AreOneReading}

-- a stop whose cause is in the files
abbrev IsCaused : Stop → Type 0
IsCaused stop.Memory = ⊥
IsCaused (stop.Refused refusal) = Unit {0}
IsCaused (stop.Limit limit) = Unit {0}
IsCaused (stop.ReadFault file) = ⊥

faultless : (why : Stop) → IsCaused why → IsFaultless why
faultless stop.Memory caused = absurd caused
faultless (stop.Refused refusal) caused = tt
faultless (stop.Limit limit) caused = tt
faultless (stop.ReadFault file) caused = absurd caused

-- what the layers say of such stops
layers-stop : (why other : Stop) → IsCaused why → IsCaused other → AreOneLayers (Err why) (Err other) → other ≡ why
layers-stop (stop.Refused one) (stop.Refused other) caused again same = same
layers-stop (stop.Refused one) (stop.Limit other) caused again same = same
layers-stop (stop.Limit one) (stop.Refused other) caused again same = same
layers-stop (stop.Limit one) (stop.Limit other) caused again same = same
layers-stop stop.Memory other caused again same = absurd caused
layers-stop (stop.ReadFault file) other caused again same = absurd caused
layers-stop (stop.Refused one) stop.Memory caused again same = absurd again
layers-stop (stop.Refused one) (stop.ReadFault file) caused again same = absurd again
layers-stop (stop.Limit one) stop.Memory caused again same = absurd again
layers-stop (stop.Limit one) (stop.ReadFault file) caused again same = absurd again

layers-never : (layers : Layers) (why : Stop) → IsCaused why → AreOneLayers (Ok layers) (Err why) → ⊥
layers-never layers stop.Memory caused same = caused
layers-never layers (stop.Refused refusal) caused same = same
layers-never layers (stop.Limit limit) caused same = same
layers-never layers (stop.ReadFault file) caused same = caused

module _ (one-outcome : (setting : Setting) (looked : List ℕ → Bool) (named : ℕ → List ℕ) (name : List ℕ) (defines : List (List ℕ)) (state : State) (one other : Outcome)
    → ReadsUnit setting name defines state one → ReadsUnit (seeing looked named setting) name defines state other → IfErr one IsFaultless → IfErr other IsFaultless → Agree IsLike one other)
    (one-layers : (tokens : List Token) (one other : Result Layers Stop) → HasLayers tokens one → HasLayers tokens other → AreOneLayers one other)
    (files : Files) (unit : Source) (old first second : Loaded) where
  abbrev Reads : Loaded → Result UnitTokens Stop → Type 0
  Reads new result = IsReadAs (setting_of old new files unit) unit old result new

  abbrev Comes : Loaded → Result Reading Stop → Type 0
  Comes new result = IsReading (setting_of old new files unit) unit old result new

  -- ---- up to phase 4

  outcome-of : (new : Loaded) (why : Stop) → IsCaused why → Reads new (Err why) → HasOutcome (setting_of old new files unit) old unit (Err why)
  outcome-of new stop.Memory caused reads = absurd caused
  outcome-of new (stop.Refused refusal) caused reads = reads
  outcome-of new (stop.Limit limit) caused reads = reads
  outcome-of new (stop.ReadFault file) caused reads = absurd caused

  agree : (one other : Outcome) → HasOutcome (setting_of old first files unit) old unit one → HasOutcome (setting_of old second files unit) old unit other → IfErr one IsFaultless → IfErr other IsFaultless
      → Agree IsLike one other
  agree one other here there = one-outcome (setting_of old first files unit) (is_known second) (name_of second) unit.file unit.define (state_with (first_files old unit)) one other here.1 there.1

  same-tokens : (one other : UnitTokens) → Reads first (Ok one) → Reads second (Ok other) → AreSameTokens one other
  same-tokens one other here there =
      let like = agree (Ok here.0) (Ok there.0) here.1 there.1 tt tt in (
        like.0,
        subst (λ these. IsPermutation these like.0) (sym (ap (λ (tokens : UnitTokens). tokens.directive_uses) here.2)) like.1,
        there.2 ∙ ap finished like.2 ∙ ap (λ (tokens : UnitTokens). record tokens { directive_uses = like.0 }) (sym here.2),
      )

  token-list : (one other : UnitTokens) → Reads first (Ok one) → Reads second (Ok other) → other.tokens ≡ one.tokens
  token-list one other here there = ap (λ (tokens : UnitTokens). tokens.tokens) (same-tokens one other here there).2

  -- ---- all layers

  pub same-reading : (one other : Reading) → Comes first (Ok one) → Comes second (Ok other) → AreOneReading (Ok one) (Ok other)
  same-reading one other here there =
      let tokens = token-list one.pp other.pp here.1 there.1 in (
        there.0 ∙ sym here.0,
        same-tokens one.pp other.pp here.1 there.1,
        one-layers one.pp.tokens (Ok (layers_of one)) (Ok (layers_of other)) here.2 (subst (λ these. HasLayers these (Ok (layers_of other))) tokens there.2),
      )

  -- what is read doesn't stop
  read-or-stopped : (one : Reading) (why : Stop) → IsCaused why → Comes first (Ok one) → Comes second (Err why) → ⊥
  read-or-stopped one why caused here (inl early) = agree (Ok here.1.0) (Err why) here.1.1 (outcome-of second why caused early) tt (faultless why caused)
  read-or-stopped one why caused here (inr (pp, reads, layers)) =
      layers-never (layers_of one) why caused
      (one-layers one.pp.tokens (Ok (layers_of one)) (Err why) here.2 (subst (λ these. HasLayers these (Err why)) (token-list one.pp pp here.1 reads) layers))

  -- what stops does so once
  stopped-once : (one other : Stop) → IsCaused one → IsCaused other → Comes first (Err one) → Comes second (Err other) → other ≡ one
  stopped-once one other caused again (inl early) (inl late) =
      sym (agree (Err one) (Err other) (outcome-of first one caused early) (outcome-of second other again late) (faultless one caused) (faultless other again))
  stopped-once one other caused again (inl early) (inr (pp, reads, layers)) = absurd (agree (Err one) (Ok reads.0) (outcome-of first one caused early) reads.1 (faultless one caused) tt)
  stopped-once one other caused again (inr (pp, reads, layers)) (inl late) = absurd (agree (Ok reads.0) (Err other) reads.1 (outcome-of second other again late) tt (faultless other again))
  stopped-once one other caused again (inr (pp, reads, layers)) (inr (more, anew, others)) =
      layers-stop one other caused again
      (one-layers pp.tokens (Err one) (Err other) layers (subst (λ these. HasLayers these (Err other)) (token-list pp more reads anew) others))

module _ (one-outcome : (setting : Setting) (looked : List ℕ → Bool) (named : ℕ → List ℕ) (name : List ℕ) (defines : List (List ℕ)) (state : State) (one other : Outcome)
    → ReadsUnit setting name defines state one → ReadsUnit (seeing looked named setting) name defines state other → IfErr one IsFaultless → IfErr other IsFaultless → Agree IsLike one other)
    (one-layers : (tokens : List Token) (one other : Result Layers Stop) → HasLayers tokens one → HasLayers tokens other → AreOneLayers one other)
    (files : Files) (unit : Source) (old first second : Loaded) where
  pub one-reading : (one other : Result Reading Stop) → IsReading (setting_of old first files unit) unit old one first → IsReading (setting_of old second files unit) unit old other second
      → IfErr one IsFaultless → IfErr other IsFaultless → AreOneReading one other
  one-reading (Ok one) (Ok other) here there f g = same-reading one-outcome one-layers files unit old first second one other here there
  one-reading (Ok one) (Err stop.Memory) here there f g = tt
  one-reading (Ok one) (Err (stop.Refused refusal)) here there f g = read-or-stopped one-outcome one-layers files unit old first second one (stop.Refused refusal) tt here there
  one-reading (Ok one) (Err (stop.Limit limit)) here there f g = read-or-stopped one-outcome one-layers files unit old first second one (stop.Limit limit) tt here there
  one-reading (Ok one) (Err (stop.ReadFault file)) here there f g = absurd g
  one-reading (Err stop.Memory) other here there f g = tt
  one-reading (Err (stop.Refused refusal)) (Ok other) here there f g = read-or-stopped one-outcome one-layers files unit old second first other (stop.Refused refusal) tt there here
  one-reading (Err (stop.Limit limit)) (Ok other) here there f g = read-or-stopped one-outcome one-layers files unit old second first other (stop.Limit limit) tt there here
  one-reading (Err (stop.Refused one)) (Err stop.Memory) here there f g = tt
  one-reading (Err (stop.Limit one)) (Err stop.Memory) here there f g = tt
  one-reading (Err (stop.Refused one)) (Err (stop.Refused other)) here there f g = stopped-once one-outcome one-layers files unit old first second (stop.Refused one) (stop.Refused other) tt tt here there
  one-reading (Err (stop.Refused one)) (Err (stop.Limit other)) here there f g = stopped-once one-outcome one-layers files unit old first second (stop.Refused one) (stop.Limit other) tt tt here there
  one-reading (Err (stop.Limit one)) (Err (stop.Refused other)) here there f g = stopped-once one-outcome one-layers files unit old first second (stop.Limit one) (stop.Refused other) tt tt here there
  one-reading (Err (stop.Limit one)) (Err (stop.Limit other)) here there f g = stopped-once one-outcome one-layers files unit old first second (stop.Limit one) (stop.Limit other) tt tt here there
  one-reading (Err (stop.Refused one)) (Err (stop.ReadFault file)) here there f g = absurd g
  one-reading (Err (stop.Limit one)) (Err (stop.ReadFault file)) here there f g = absurd g
  one-reading (Err (stop.ReadFault file)) other here there f g = absurd f
