-- What is put into an expression.
use Rattle.std.specs.Prelude.{ℕ, ◌+◌, List, [], ◌∷◌, ◌++◌, take, drop, Option, Some, None}

-- a lock that a step has made, if it has
abbrev pub lock_list : {L : Type 0} → Option L → List L
lock_list None = []
lock_list (Some lock) = lock ∷ []

-- locks with one more at a place
abbrev pub with_lock : {L : Type 0} → ℕ → Option L → List L → List L
with_lock at lock locks = take at locks ++ (lock_list lock ++ drop at locks)

-- locks without some at a place
abbrev pub without : {L : Type 0} → ℕ → ℕ → List L → List L
without at count locks = take at locks ++ drop (at + count) locks
