-- How far `reduced` goes.
use Rattle.std.proofs.Common.{◌≡◌, ℕ, true, false, List, [], ◌∷◌, refl}
use Rattle.dm_cond.specs.declared.frame.Frame.{Frame}
use Rattle.dm_cond.specs.Values.{Valued}
use Rattle.dm_cond.specs.Machine.{ends_before, first_ends, completed, has, reduced}

-- over a frame that ends
pub reduced-ends : (level : ℕ) (frame : Frame) (frames : List Frame) (value : Valued) →
    ends_before level frame ≡ true → reduced level (frame ∷ frames) value ≡ reduced level frames (completed frame value)
unfolding reduced
reduced-ends level frame frames value e = rw e refl

-- up to one that doesn't
pub reduced-stays : (level : ℕ) (frames : List Frame) (value : Valued) → first_ends level frames ≡ false → reduced level frames value ≡ has frames value
unfolding reduced
reduced-stays level [] value e = refl
reduced-stays level (frame ∷ frames) value e = rw e refl
