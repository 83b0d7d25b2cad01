use Rattle.std.proofs.Common.{ℕ, zero, suc, ◌≡◌, ◌<◌, true, inr, List, [], Option, None, Ok, refl, sym, subst, arith}
use Rattle.std.specs.Cmp.Lexicographic.{slice_cmp}
use Rattle.std.specs.Ordering.{nat_cmp}
use Rattle.std.specs.FinMap as finite
use Rattle.dm_search.specs.Fresh.{fresh}
use Rattle.dm_search.specs.Loaded.{is_held}
use Rattle.dm_unit.specs.Includes.{LooksAt, Searches, sought}
use Rattle.dm_unit.specs.Readings.{DoesManifests, ReadsUnit}
use Rattle.dm_unit.specs.Units.{first_files, state_with}
use Rattle.dm_places.specs.Examples as examples
use Rattle.dm_places.proofs.examples.refusal_of_absent_file.Goals as goal

held : (file : ℕ) → file < 6 → is_held fresh file ≡ true
held zero h = refl
held (suc zero) h = refl
held (suc (suc zero)) h = refl
held (suc (suc (suc zero))) h = refl
held (suc (suc (suc (suc zero)))) h = refl
held (suc (suc (suc (suc (suc zero))))) h = refl
held (suc (suc (suc (suc (suc (suc n)))))) h = absurd (omega (arith, h))

looks : LooksAt examples.setting (examples.setting.source examples.unit.file) examples.unit.file (first_files fresh examples.unit) (Searches examples.setting None [] (first_files fresh examples.unit)) (Ok (sought None (first_files fresh examples.unit)))
unfolding Searches
looks =
    subst (λ (o : Option (List ℕ)). LooksAt examples.setting o examples.unit.file (first_files fresh examples.unit) (Searches examples.setting None [] (first_files fresh examples.unit)) (Ok (sought None (first_files fresh examples.unit))))
    (sym (finite.get-empty (slice_cmp nat_cmp) examples.unit.file)) (refl, refl)

pub returns-clause-reading : goal.returns-clause-reading
unfolding ReadsUnit DoesManifests Searches
returns-clause-reading c =
    let files = first_files fresh examples.unit in
    ((λ number inside. refl), inr (state_with files, refl, inr (sought None files, inr looks, refl)))

pub returns-clause-headers : goal.returns-clause-headers
returns-clause-headers c = (([], refl), held)
