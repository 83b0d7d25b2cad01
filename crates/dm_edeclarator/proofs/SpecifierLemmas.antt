-- Steps through lists of specifiers.
use Rattle.std.specs.Prelude.{◌≡◌, ℕ, zero, suc, ◌+◌, ◌<◌, ◌≤◌, Bool, true, false, if◌then◌else◌, List, [], ◌∷◌, length, map, drop, slice_get, Option, Some, None, option_map, refl}
use Rattle.std.proofs.Common.{ap, ◌∙◌, arith}
use Rattle.dm_type.specs.declared.shape.Shape.{Shape}
use Rattle.dm_type.specs.CTypes.{CType, function, with_const}
use Rattle.dm_tree.specs.Scenes.{is_function}
use Rattle.dm_typing.specs.Known.{Outcome, if_given}
use Rattle.dm_typing.specs.Specifiers.{Row, sets, are_words, type_among, one_type, with_said_const}
use Rattle.dm_typing.specs.Views.{type_over}

-- ---- const

pub const-unsaid : (said : Bool) (type : CType) → said ≡ false → with_said_const said type ≡ type
const-unsaid said type h = ap (λ b. with_said_const b type) h

pub const-of-function : (said : Bool) (type : CType) → is_function type ≡ true → with_said_const said type ≡ type
const-of-function false type h = refl
const-of-function true (function result parameters) h = refl
const-of-function true type h = absurd (cc)

pub const-of-other : (said : Bool) (type : CType) → said ≡ true → is_function type ≡ false → with_said_const said type ≡ with_const type
const-of-other false type h plain = absurd (cc)
const-of-other true (function result parameters) h plain = absurd (cc)
const-of-other true type h plain = refl

-- ---- words

-- the rows from a number on
among-at : (words : List ℕ) (rows : List Row) (n : ℕ) (row : Row) → slice_get rows n ≡ Some row
    → type_among words (drop n rows) ≡ (if are_words words row.words then Some row.type else type_among words (drop (suc n) rows))
among-at words [] zero row h = absurd (cc)
among-at words [] (suc n) row h = absurd (cc)
among-at words (first ∷ rows) zero row h = let e : first ≡ row = cc in ap (λ (r : Row). if are_words words r.words then Some r.type else type_among words rows) e
among-at words (first ∷ rows) (suc n) row h = among-at words rows n row h

-- the words are those of a row, or not
pub among-here : (words : List ℕ) (rows : List Row) (n : ℕ) (row : Row) → slice_get rows n ≡ Some row → are_words words row.words ≡ true → type_among words (drop n rows) ≡ Some row.type
among-here words rows n row h same = among-at words rows n row h ∙ ap (λ b. if b then Some row.type else type_among words (drop (suc n) rows)) same

pub among-on : (words : List ℕ) (rows : List Row) (n : ℕ) (row : Row) → slice_get rows n ≡ Some row → are_words words row.words ≡ false → type_among words (drop n rows) ≡ type_among words (drop (n + 1) rows)
among-on words rows n row h other =
    among-at words rows n row h ∙ ap (λ b. if b then Some row.type else type_among words (drop (suc n) rows)) other
    ∙ ap (λ k. type_among words (drop k rows)) (let e : suc n ≡ n + 1 = omega arith in e)

pub among-past : (words : List ℕ) (rows : List Row) (n : ℕ) → slice_get rows n ≡ None → type_among words (drop n rows) ≡ None
among-past words [] zero h = refl
among-past words [] (suc n) h = refl
among-past words (first ∷ rows) zero h = absurd (cc)
among-past words (first ∷ rows) (suc n) h = among-past words rows n h

pub rows-past : (rows : List Row) (n : ℕ) → length rows ≤ n → slice_get rows n ≡ None
rows-past [] zero h = refl
rows-past [] (suc n) h = refl
rows-past (first ∷ rows) zero h = absurd (omega (arith, h))
rows-past (first ∷ rows) (suc n) h = rows-past rows n (omega (arith, h))

-- ---- the type that is said

pub said-none : (later : List Shape) (words ids : List ℕ) → length ids < 1 → one_type words (map (type_over later) ids) ≡ type_among words sets
said-none later words [] few = refl
said-none later words (id ∷ ids) few = absurd (omega (arith, few))

pub said-many : (later : List Shape) (words ids : List ℕ) → 2 ≤ length ids → one_type words (map (type_over later) ids) ≡ None
said-many later words [] some = absurd (omega (arith, some))
said-many later words (id ∷ []) some = absurd (omega (arith, some))
said-many later [] (id ∷ other ∷ ids) some = refl
said-many later (word ∷ words) (id ∷ other ∷ ids) some = refl

-- ---- what is found by its type

pub if-mapped : {A B C : Type 0} (f : A → B) (found : Option A) (rule at : ℕ) (next : B → Outcome C) → if_given found rule at (λ it. next (f it)) ≡ if_given (option_map f found) rule at next
if-mapped f (Some it) rule at next = refl
if-mapped f None rule at next = refl
