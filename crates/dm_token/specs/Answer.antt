-- What a call on a file answers: what is meant, up to want of memory, and places inside the file.
use Rattle.std.proofs.Common.{◌≡◌, ℕ, zero, suc, ◌≤◌, List, [], ◌∷◌, length, Result, Ok, Err, refl, ap, arith}
use Rattle.dm_token.specs.Places.{place_of}
use Rattle.dm_token.specs.declared.place.Place.{Place}
use Rattle.dm_token.specs.declared.stop.Refusal.{Refusal}
use Rattle.dm_token.specs.declared.stop.Stop.{Stop}
use Rattle.dm_token.specs.declared.stop.Stop.TheVariants.{Memory, Refused, Limit, ReadFault}

-- A stop is the refusal that is meant, or want of memory.
abbrev pub Stops : {Y : Type 0} → Stop → Result Y Refusal → Type 0
Stops Memory meant = Unit {0}
Stops (Refused refusal) meant = meant ≡ Err refusal
Stops (Limit limit) meant = ⊥
Stops (ReadFault file) meant = ⊥

-- What a function gives, seen by view, is what is meant, unless memory ran out.
abbrev pub Gives : {X Y : Type 0} → (X → Y) → Result X Stop → Result Y Refusal → Type 0
Gives view (Ok x) meant = meant ≡ Ok (view x)
Gives view (Err stop) meant = Stops stop meant

-- A place in the file of this number: its byte is at most the file's length, its line and column are those of the byte,
-- and in an empty file they are 1 and 1.
pub record IsInside (file : ℕ) (bytes : List ℕ) (place : Place) : Type 0 where
  pub is : place ≡ place_of file bytes place.byte
  pub inside : place.byte ≤ length bytes
  pub empty : bytes ≡ [] → (place.line ≡ 1) × (place.column ≡ 1)

-- The place of a refusal lies in the file.
abbrev pub StopsInside : ℕ → List ℕ → Stop → Type 0
StopsInside file bytes Memory = Unit {0}
StopsInside file bytes (Refused refusal) = IsInside file bytes refusal.place
StopsInside file bytes (Limit limit) = Unit {0}
StopsInside file bytes (ReadFault number) = Unit {0}

-- in an empty file each place is 1 and 1
place_of-empty : (file byte : ℕ) (bytes : List ℕ) → bytes ≡ [] → ((place_of file bytes byte).line ≡ 1) × ((place_of file bytes byte).column ≡ 1)
place_of-empty file zero [] empty = (refl, refl)
place_of-empty file (suc byte) [] empty = (refl, refl)
place_of-empty file byte (b ∷ bytes) empty = absurd (let e = ap length empty in omega arith)

-- The place of an offset in a file lies in the file.
pub place_of-inside : (file byte : ℕ) (bytes : List ℕ) → byte ≤ length bytes → IsInside file bytes (place_of file bytes byte)
place_of-inside file byte bytes inside = record { is = refl; inside = inside; empty = place_of-empty file byte bytes }
