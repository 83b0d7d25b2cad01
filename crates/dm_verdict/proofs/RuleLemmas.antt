-- The rules that a unit alone can break, one after another.
use Rattle.std.proofs.Common.{◌≡◌, ℕ, Bool, true, false, [], ◌∷◌, Option, Some, None, sym, ap, ◌∙◌}
use Rattle.std.specs.Prelude.{if◌then◌else◌}
use Rattle.dm_token.specs.declared.expansion.Definition.{Definition}
use Rattle.dm_token.specs.declared.place.Place.{Place}
use Rattle.dm_reading.specs.declared.reading.Reading.{Reading}
use Rattle.dm_rules.specs.Rules.{broken_directive}
use Rattle.dm_rules.specs.Uses.{reads}
use Rattle.dm_judge.specs.Rules.{broken_first, rules_from_5}
use Rattle.dm_refined.specs.Allowed.{rules_in, rules_on_use}

module _ (definition : Definition) (reading : Reading) where
  behind : (found : Option Place) → found ≡ broken_directive definition (reading ∷ []) → broken_first ((3, found) ∷ rules_on_use definition reading) ≡ broken_first (rules_in definition reading)
  behind found is = ap (λ (one : Option Place). broken_first ((3, one) ∷ rules_on_use definition reading)) is

  on-use : (used : Bool) → reads definition reading ≡ used
      → broken_first (if used then rules_from_5 definition (reading ∷ []) else []) ≡ broken_first (rules_on_use definition reading)
  on-use used is = ap (λ (one : Bool). broken_first (if one then rules_from_5 definition (reading ∷ []) else [])) (sym is)

  pub directive-broken : (place : Place) → Some place ≡ broken_directive definition (reading ∷ []) → Some (3, place) ≡ broken_first (rules_in definition reading)
  directive-broken place is = behind (Some place) is

  module _ (none : None ≡ broken_directive definition (reading ∷ [])) where
    pub nothing-broken : reads definition reading ≡ false → None ≡ broken_first (rules_in definition reading)
    nothing-broken unread = on-use false unread ∙ behind None none

    pub later-broken : reads definition reading ≡ true → (found : Option (ℕ × Place)) → found ≡ broken_first (rules_from_5 definition (reading ∷ [])) → found ≡ broken_first (rules_in definition reading)
    later-broken read found is = is ∙ on-use true read ∙ behind None none
