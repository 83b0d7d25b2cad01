-- What isn't quiet round the places of a unit.
--     is_noisy unit tree      a tree isn't quiet
--     noisy_among unit trees      how many of some trees aren't
--     noisy_operands unit tree      how many operands aren't of an expression that leaves them unsequenced (6.5p3)
--     IsPureBelow noises parent tree      a tree is as pure as the expression of which it is a part is known to be
--     is_beside noises noisy parent      something isn't that is beside a part of an expression, of which it is known what isn't round it
use Rattle.std.specs.Prelude.{◌≡◌, ℕ, ◌+◌, Bool, true, false, ◌||◌, not, nat_lt, List, [], ◌∷◌, Option, Some, None, slice_get, if◌then◌else◌}
use Rattle.dm_tree.specs.Trees.{Tree, label_of, parts_of}
use Rattle.dm_tree.specs.Units.{TypedUnit}
use Rattle.dm_effect.specs.Quiet.{is_quiet}
use Rattle.dm_effect.specs.Sequencing.{is_unsequenced}
use Rattle.dm_effect.specs.Stable.{is_pure}
use Rattle.dm_around.specs.declared.noise.Noise.{Noise}

abbrev pub is_noisy : TypedUnit → Tree → Bool
is_noisy one tree = not (is_quiet one tree)

-- 1 for what is counted
abbrev pub counted : Bool → ℕ
counted true = 1
counted false = 0

abbrev pub noisy_among : TypedUnit → List Tree → ℕ
noisy_among one [] = 0
noisy_among one (tree ∷ trees) = counted (is_noisy one tree) + noisy_among one trees

abbrev pub noisy_operands : TypedUnit → Tree → ℕ
noisy_operands one tree = if is_unsequenced (label_of tree) then noisy_among one (parts_of tree) else 0

abbrev pub silence : Noise
silence = record { beside = false; operands = 0; pure = false }

abbrev pub noise_by : Option Noise → Noise
noise_by (Some noise) = noise
noise_by None = silence

abbrev pub noise_at : List Noise → ℕ → Noise
noise_at noises n = noise_by (slice_get noises n)

-- of so many operands that aren't quiet one is another than this one
abbrev pub outnumbers : Bool → ℕ → Bool
outnumbers noisy count = nat_lt (counted noisy) count

abbrev pub is_beside_operand : Noise → Bool → Bool
is_beside_operand above noisy = above.beside || outnumbers noisy above.operands

abbrev pub is_beside : List Noise → Bool → Option ℕ → Bool
is_beside noises noisy None = false
is_beside noises noisy (Some above) = is_beside_operand (noise_at noises above) noisy

-- where the expression above neither calls nor stores, this part of it doesn't
abbrev pub IsPureBelow : List Noise → Option ℕ → Tree → Type 0
IsPureBelow noises None tree = Unit {0}
IsPureBelow noises (Some above) tree = (noise_at noises above).pure ≡ true → is_pure tree ≡ true
