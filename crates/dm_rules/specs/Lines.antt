-- Which definitions of a file have their `#` among some of its bytes.
--     is_between file from to definition      it stands in the file, with its `#` at the byte `from` or behind it, and before the byte `to`
--     first_position test n items      the first position, from n on, of an item that passes
--     least one other      the lesser of two numbers, if there are any
use Rattle.std.specs.Prelude.{ℕ, suc, Bool, ◌&&◌, ◌==◌, leb, ltb, min, List, [], ◌∷◌, Option, Some, None, if◌then◌else◌}
use Rattle.dm_token.specs.declared.expansion.Definition.{Definition}
use Rattle.dm_runs.specs.Runs.{is_file}

abbrev pub is_between : ℕ → ℕ → ℕ → Definition → Bool
is_between file from to one = is_file one.origin && ((file == one.place.file) && (leb from one.hash && ltb one.hash to))

abbrev pub first_position : {A : Type 0} → (A → Bool) → ℕ → List A → Option ℕ
first_position test n [] = None
first_position test n (x ∷ xs) = if test x then Some n else first_position test (suc n) xs

abbrev pub least : Option ℕ → Option ℕ → Option ℕ
least None other = other
least (Some one) None = Some one
least (Some one) (Some other) = Some (min one other)
