-- What the call for a plan gives, by what its readings gave.
use Rattle.std.proofs.Common.{◌≡◌, inl, inr, ℕ, ◌+◌, ◌-◌, ◌≤◌, false, List, length, Option, Some, Result, Ok, Err, sym, subst, arith, IsErrAnd}
use Rattle.std.proofs.lemmas.Bool.{false≢true}
use Rattle.dm_token.specs.declared.stop.Stop.{Stop}
use Rattle.dm_token.specs.declared.stop.Stop.TheVariants.{Memory, Refused, Limit, ReadFault}
use Rattle.dm_token.specs.declared.unit.Unit.{Unit as Source}
use Rattle.dm_io.specs.Files.{Files}
use Rattle.dm_search.specs.Loaded.{Loaded}
use Rattle.dm_reading.specs.declared.reading.Reading.{Reading}
use Rattle.dm_edit.specs.declared.plan.Plan.{Plan}
use Rattle.dm_readings.specs.Units.{ReadsProject, ending}
use Rattle.dm_planning.specs.Judging.{Project}
use Rattle.dm_planning.specs.Plans.{IsPlanned, ReadsFirst, StopsFirst}
use Rattle.dm_planning.specs.Steps.{is_of_source, project_of}

module _ (told : Option Files) (units : List Source) (old : Loaded) (count : ℕ) where
  -- what the first readings gave, by how many were begun
  abbrev pub Reads : Result (List Reading) Stop → Loaded → ℕ → Type 0
  Reads result new now =
      (files : Files) → told ≡ Some files → (begun : ℕ) × (now ≡ count + begun) × ReadsProject files units old (ending result begun new)

  stops-first : (stop : Stop) (new : Loaded) (now : ℕ) → Reads (Err stop) new now → count ≤ now → now ≤ count + length units → StopsFirst told units old count stop new now
  stops-first stop new now reads least most = (
    now - count,
    omega (arith, least, most),
    omega (arith, least),
    λ files is. let read = reads files is in
        let begun = read.1 in
        let same : read.0 ≡ now - count = omega (arith, begun) in
        subst (λ n. ReadsProject files units old (ending (Err stop) n new)) same read.2,
  )

  -- the first readings stop
  pub planned-stop : (stop : Stop) (new : Loaded) (now : ℕ) → Reads (Err stop) new now → count ≤ now → now ≤ count + length units → IsPlanned told units old count (Err stop) new now
  planned-stop Memory new now reads least most = tt
  planned-stop (Refused refusal) new now reads least most = stops-first (Refused refusal) new now reads least most
  planned-stop (Limit limit) new now reads least most = stops-first (Limit limit) new now reads least most
  planned-stop (ReadFault file) new now reads least most = inl (stops-first (ReadFault file) new now reads least most)

  -- all units are read
  pub reads-first : (given : List Reading) (new : Loaded) (now : ℕ) → Reads (Ok given) new now → now ≡ count + length units → ReadsFirst told units old count (project_of new given now)
  reads-first given new now reads all = (
    all,
    λ files is. let read = reads files is in
        let begun = read.1 in
        let same : read.0 ≡ length units = omega (arith, begun, all) in
        subst (λ n. ReadsProject files units old (ending (Ok given) n new)) same read.2,
  )

  -- a later reading ends the plan
  pub planned-later : (first : Project) (stop : Stop) (new : Loaded) (now : ℕ) → ReadsFirst told units old count first → is_of_source stop ≡ false → IsPlanned told units old count (Err stop) new now
  planned-later first Memory new now reads e = tt
  planned-later first (Refused refusal) new now reads e = absurd (false≢true (sym e))
  planned-later first (Limit limit) new now reads e = absurd (false≢true (sym e))
  planned-later first (ReadFault file) new now reads e = inr (first, reads)

-- a stop that is handed on
pub planned-handed : (told : Option Files) (units : List Source) (old : Loaded) (count : ℕ) (result : Result Plan Stop) (fault : Stop) (new : Loaded) (now : ℕ) → IsErrAnd result (λ e. e ≡ fault)
    → IsPlanned told units old count (Err fault) new now → IsPlanned told units old count result new now
planned-handed told units old count (Ok plan) fault new now handed is = absurd handed
planned-handed told units old count (Err e) fault new now handed is = subst (λ (stop : Stop). IsPlanned told units old count (Err stop) new now) (sym handed) is
