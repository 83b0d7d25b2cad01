-- The numbers of the declarations of a small unit in one with one more.
use Rattle.std.specs.Prelude.{◌≡◌, refl, ℕ, zero, suc}
use Rattle.std.proofs.Common.{ap, sym, ◌∙◌}
use Rattle.dm_meaning.specs.Examples.{beyond_six}

without_six : ℕ → ℕ
without_six zero = 0
without_six (suc zero) = 0
without_six (suc (suc d)) = suc d

without_beyond_six : (d : ℕ) → without_six (beyond_six d) ≡ d
unfolding without_six
without_beyond_six zero = refl
without_beyond_six (suc d) = refl

pub injective_six : (c d : ℕ) → beyond_six c ≡ beyond_six d → c ≡ d
injective_six c d e = sym (without_beyond_six c) ∙ ap without_six e ∙ without_beyond_six d
