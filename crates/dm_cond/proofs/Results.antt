-- What an operator gives is of the kind of its result.
use Rattle.std.specs.Prelude.{Result, Ok, Err, ℤ, IfOk, IfSome}
use Rattle.dm_int.specs.declared.Kind.{Kind}
use Rattle.dm_int.specs.declared.Kind.TheVariants.{Long}
use Rattle.dm_int.specs.declared.Op.{Op}
use Rattle.dm_int.specs.declared.Op.TheVariants.{Add, Sub, Mul, Div, Rem, Shl, Shr, Less, Greater, LessEq, GreaterEq, Equal, NotEqual, And, Xor, Or}
use Rattle.dm_int.specs.declared.Fault.{Fault}
use Rattle.dm_int.specs.Kinds.{InRange}
use Rattle.dm_int.specs.Operators.{binary}
use Rattle.dm_int.specs.Results.{in_range-binary, in_range-truth, right-in_range}
use Rattle.dm_cond.specs.Values.{without_fault, result_kind}

-- a number that is an answer is one of the answer's
some-in_range : (k : Kind) (answer : Result ℤ Fault) → IfOk answer (InRange k) → IfSome (without_fault answer) (InRange k)
some-in_range k (Ok number) h = h
some-in_range k (Err fault) h = tt

-- by operator
pub in_range-answer : (op : Op) (k : Kind) (a b : ℤ) → InRange k a → IfSome (without_fault (binary op k a b)) (InRange (result_kind op k))
in_range-answer Add k a b h = some-in_range k (binary Add k a b) (in_range-binary Add k a b h)
in_range-answer Sub k a b h = some-in_range k (binary Sub k a b) (in_range-binary Sub k a b h)
in_range-answer Mul k a b h = some-in_range k (binary Mul k a b) (in_range-binary Mul k a b h)
in_range-answer Div k a b h = some-in_range k (binary Div k a b) (in_range-binary Div k a b h)
in_range-answer Rem k a b h = some-in_range k (binary Rem k a b) (in_range-binary Rem k a b h)
in_range-answer Shl k a b h = some-in_range k (binary Shl k a b) (in_range-binary Shl k a b h)
in_range-answer Shr k a b h = some-in_range k (binary Shr k a b) (in_range-binary Shr k a b h)
in_range-answer Less k a b h = in_range-truth Long _
in_range-answer Greater k a b h = in_range-truth Long _
in_range-answer LessEq k a b h = in_range-truth Long _
in_range-answer GreaterEq k a b h = in_range-truth Long _
in_range-answer Equal k a b h = in_range-truth Long _
in_range-answer NotEqual k a b h = in_range-truth Long _
in_range-answer And k a b h = some-in_range k (binary And k a b) (in_range-binary And k a b h)
in_range-answer Xor k a b h = some-in_range k (binary Xor k a b) (in_range-binary Xor k a b h)
in_range-answer Or k a b h = some-in_range k (binary Or k a b) (in_range-binary Or k a b h)

pub ruleset results = (in_range-answer, right-in_range)
