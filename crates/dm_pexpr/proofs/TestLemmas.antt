-- Tests, and what stands where one fails.
use Rattle.std.proofs.Common.{◌≡◌, Bool, true, false, ◌&&◌, Option, None, refl, ap}
use Rattle.dm_pexpr.specs.Parsing.{where_true}

pub first-no : (one other : Bool) → one ≡ false → (one && other) ≡ false
first-no one other h = ap (λ (it : Bool). it && other) h

pub second-no : (one other : Bool) → other ≡ false → (one && other) ≡ false
second-no true other h = h
second-no false other h = refl

-- a test that can't hold fails
pub unless : (test : Bool) → (test ≡ true → ⊥) → test ≡ false
unless true h = absurd (h refl)
unless false h = refl

-- nothing stands where something doesn't hold
pub fails : {A : Type 0} (test : Bool) (found : Option A) → test ≡ false → where_true test found ≡ None
fails test found h = ap (λ (it : Bool). where_true it found) h
