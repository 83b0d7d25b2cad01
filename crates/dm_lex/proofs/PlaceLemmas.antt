-- Lines and columns are small.
use Rattle.std.proofs.Common.{ℕ, suc, ◌+◌, ◌≤◌, cond, eqb, List, [], ◌∷◌, length, take, fold, arith, length-take}
use Rattle.std.proofs.lemmas.Bool.{cond_both}
use Rattle.std.proofs.lemmas.List.Sums.{count_by-le-length}
use Rattle.dm_token.specs.Places.{newline, newlines, since_newline}

since_small : (bytes : List ℕ) (n : ℕ) → fold (λ count byte. cond (eqb byte newline) 0 (count + 1)) n bytes ≤ n + length bytes
since_small [] n = omega arith
since_small (byte ∷ bytes) n =
    cond_both (eqb byte newline) 0 (n + 1) (λ m. fold (λ count byte. cond (eqb byte newline) 0 (count + 1)) m bytes ≤ n + suc (length bytes))
    (λ _. omega (arith, since_small bytes 0)) (λ _. omega (arith, since_small bytes (n + 1)))

pub line_small : (bytes : List ℕ) (at : ℕ) → newlines (take at bytes) ≤ at
line_small bytes at = omega (arith, count_by-le-length (λ byte. eqb byte newline) (take at bytes), length-take at bytes)

pub column_small : (bytes : List ℕ) (at : ℕ) → since_newline (take at bytes) ≤ at
column_small bytes at = omega (arith, since_small (take at bytes) 0, length-take at bytes)
