-- A new loader holds the built-in headers alone, and new bytes are held in place of others.
use Rattle.std.proofs.Common.{◌≡◌, ◌⊎◌, inl, inr, ℕ, true, length, refl, sym, ap, ◌∙◌, subst, arith, is_some}
use Rattle.std.proofs.lemmas.Bool.{cases_eq}
use Rattle.dm_search.specs.Fresh.{fresh}
use Rattle.dm_search.specs.Loaded.{is_held, with_bytes}
use Rattle.dm_unit.proofs.GrowLemmas.{held-other}
use Rattle.dm_readings.proofs.LeaveLemmas.{held-inside}
use Rattle.dm_readings.proofs.laws.held_files_stay_there.Goals as goal

pub returns-clause-fresh : goal.returns-clause-fresh
returns-clause-fresh c = λ told file least held.
    let six : length fresh.held ≡ 6 = refl in
    let inside = held-inside fresh.held file held in
    absurd (omega (arith, six, inside, least))

pub returns-clause-replaced : goal.returns-clause-replaced
returns-clause-replaced c = λ told loaded file bytes held there other least now.
    there other least (elim (cases_eq other file) [
      | inl same ↦ subst (λ n. is_held loaded n ≡ true) (sym same) held
      | inr apart ↦ sym (ap is_some (held-other loaded file other bytes apart)) ∙ now
    ])
