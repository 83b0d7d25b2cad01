-- The levels of operators, and what they say of the frames that an operator completes.
use Rattle.std.proofs.Common.{◌≡◌, ℕ, ◌≤◌, ◌<◌, true, false, List, [], ◌∷◌, refl, arith, nat_le, ◌==◌}
use Rattle.dm_int.specs.declared.Op.{Op}
use Rattle.dm_int.specs.declared.Op.TheVariants.{Add, Sub, Mul, Div, Rem, Shl, Shr, Less, Greater, LessEq, GreaterEq, Equal, NotEqual, And, Xor, Or}
use Rattle.dm_cond.specs.declared.symbol.Operator.{Operator}
use Rattle.dm_cond.specs.declared.symbol.Operator.TheVariants.{Integer, Both, Either}
use Rattle.dm_cond.specs.declared.frame.Frame.{Frame}
use Rattle.dm_cond.specs.declared.frame.Frame.TheVariants.{Parenthesis, Unary, Binary, Second, Third, AfterComma}
use Rattle.dm_cond.specs.Trees.{level_of, level_of_op}
use Rattle.dm_cond.specs.Machine.{ends_before, first_ends}

-- operators on integers lie between the conditional and the unary ones
op_between : (op : Op) → (2 ≤ level_of_op op) × (level_of_op op ≤ 11)
op_between Add = (omega arith, omega arith)
op_between Sub = (omega arith, omega arith)
op_between Mul = (omega arith, omega arith)
op_between Div = (omega arith, omega arith)
op_between Rem = (omega arith, omega arith)
op_between Shl = (omega arith, omega arith)
op_between Shr = (omega arith, omega arith)
op_between Less = (omega arith, omega arith)
op_between Greater = (omega arith, omega arith)
op_between LessEq = (omega arith, omega arith)
op_between GreaterEq = (omega arith, omega arith)
op_between Equal = (omega arith, omega arith)
op_between NotEqual = (omega arith, omega arith)
op_between And = (omega arith, omega arith)
op_between Xor = (omega arith, omega arith)
op_between Or = (omega arith, omega arith)

-- so do all binary ones
pub level_between : (operator : Operator) → (2 ≤ level_of operator) × (level_of operator ≤ 11)
level_between (Integer op) = op_between op
level_between Both = (omega arith, omega arith)
level_between Either = (omega arith, omega arith)

-- tests on numbers
pub le-true : (m n : ℕ) → m ≤ n → nat_le m n ≡ true
le-true m n h = grind arith

pub le-false : (m n : ℕ) → n < m → nat_le m n ≡ false
le-false m n h = grind arith

pub lt-from : (m n : ℕ) → nat_le m n ≡ false → n < m
lt-from m n e = grind arith

pub le-from : (m n : ℕ) → nat_le m n ≡ true → m ≤ n
le-from m n e = grind arith

pub zero-from : (n : ℕ) → (n == 0) ≡ true → n ≤ 0
zero-from n e = grind arith

pub positive-from : (n : ℕ) → (n == 0) ≡ false → 1 ≤ n
positive-from n e = grind arith

pub not-zero : (n : ℕ) → 1 ≤ n → (n == 0) ≡ false
not-zero n h = grind arith

pub is-zero : (n : ℕ) → n ≤ 0 → (n == 0) ≡ true
is-zero n h = grind arith

-- what doesn't end before an operator doesn't end before one that binds closer
pub ends_before-closer : (frame : Frame) (m n : ℕ) → m ≤ n → ends_before m frame ≡ false → ends_before n frame ≡ false
ends_before-closer Parenthesis m n h e = refl
ends_before-closer (Unary sign) m n h e = e
ends_before-closer (Binary operator left) m n h e = let l : level_of operator < m = lt-from m (level_of operator) e in le-false n (level_of operator) (omega arith)
ends_before-closer (Second first) m n h e = refl
ends_before-closer (Third first second) m n h e = let l : 1 < m = lt-from m 1 e in le-false n 1 (omega arith)
ends_before-closer (AfterComma left) m n h e = let l : 1 ≤ m = positive-from m e in not-zero n (omega arith)

pub first_ends-closer : (frames : List Frame) (m n : ℕ) → m ≤ n → first_ends m frames ≡ false → first_ends n frames ≡ false
first_ends-closer [] m n h e = refl
first_ends-closer (frame ∷ frames) m n h e = ends_before-closer frame m n h e
