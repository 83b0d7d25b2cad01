-- Results of operands, and what names stand for.
use Rattle.std.proofs.Common.{◌≡◌, ℕ, ◌==◌, Bool, true, false, List, [], ◌∷◌, ◌++◌, map, Option, Some, None, if◌then◌else◌, refl, sym, ap, ◌∙◌}
use Rattle.std.proofs.lemmas.Bool.{eqb-true}
use Rattle.std.proofs.lemmas.Option.{none-some, same_Some}
use Rattle.dm_type.specs.Tables.{Table}
use Rattle.dm_meaning.specs.Expressions.{value_of}
use Rattle.dm_meaning.specs.Operations.{Objects, object_named}
use Rattle.dm_meaning.specs.Programs.{Definition, definition_in}
use Rattle.dm_meaning.specs.Values as values
use Rattle.dm_operate.specs.declared.evaluation.Operand.{Operand}
use Rattle.dm_operate.specs.Evaluations.{view_of_evaluation, view_of_operand}

-- ---- names

chosen-there : (b : Bool) (first n : ℕ) (inner outer : Option ℕ) → (inner ≡ Some n → outer ≡ Some n) → (if b then Some first else inner) ≡ Some n → (if b then Some first else outer) ≡ Some n
chosen-there true first n inner outer later e = e
chosen-there false first n inner outer later e = later e

-- what the first objects name, all of them do
pub named-first : (xs ys : Objects) (d n : ℕ) → object_named xs d ≡ Some n → object_named (xs ++ ys) d ≡ Some n
named-first [] ys d n e = absurd (none-some n e)
named-first (entry ∷ xs) ys d n e = chosen-there (entry.0 == d) entry.1 n (object_named xs d) (object_named (xs ++ ys) d) (named-first xs ys d n) e

chosen-behind : (b : Bool) (first : ℕ) (inner outer last : Option ℕ) → (inner ≡ None → outer ≡ last) → (if b then Some first else inner) ≡ None → (if b then Some first else outer) ≡ last
chosen-behind true first inner outer last later e = absurd (none-some first (sym e))
chosen-behind false first inner outer last later e = later e

pub named-second : (xs ys : Objects) (d : ℕ) → object_named xs d ≡ None → object_named (xs ++ ys) d ≡ object_named ys d
named-second [] ys d e = refl
named-second (entry ∷ xs) ys d e = chosen-behind (entry.0 == d) entry.1 (object_named xs d) (object_named (xs ++ ys) d) (object_named ys d) (named-second xs ys d) e

-- ---- functions

-- a definition that is found has the number
pub defined-number : (definitions : List Definition) (d : ℕ) (one : Definition) → definition_in definitions d ≡ Some one → one.function ≡ d
defined-number [] d one e = absurd (none-some one e)
defined-number (first ∷ rest) d one e = by-test (first.function == d) refl (defined-number rest d one) e
  where
    by-test : (b : Bool) → (first.function == d) ≡ b → (definition_in rest d ≡ Some one → one.function ≡ d) → (if b then Some first else definition_in rest d) ≡ Some one → one.function ≡ d
    by-test true is later e = ap (λ (one : Definition). one.function) (sym (same_Some first one e)) ∙ eqb-true first.function d is
    by-test false is later e = later e

-- ---- values of arguments

-- unset for an lvalue
abbrev pub given : Operand → values.Value
given operand = value_of (view_of_evaluation operand.result)

pub given-all : (table : Table) (operands : List Operand) → map (λ a. value_of a.result) (map (view_of_operand table) operands) ≡ map given operands
given-all table [] = refl
given-all table (one ∷ rest) = ap (λ (xs : List values.Value). given one ∷ xs) (given-all table rest)
