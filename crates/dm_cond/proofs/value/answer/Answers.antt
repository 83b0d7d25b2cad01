-- The answer is of the kind of the operator's result.
use Rattle.std.proofs.Common.{rules, sym, ◌∙◌, ap, subst, Option, IfSome, ℤ, to_z, of_z}
use mir.Syntax.{w128}
use Rattle.dm_int.specs.Kinds.{InRange}
use Rattle.dm_cond.specs.Values.{without_fault, result_kind}
use Rattle.dm_cond.proofs.Results.{in_range-answer}
use Rattle.dm_cond.proofs.value.answer.Goals as goal

pub returns-clause-in_range : goal.returns-clause-in_range
returns-clause-in_range c =
    let InKind : Option ℤ → Type 0 = λ number. IfSome number (InRange (result_kind c.args.op c.args.common)) in
    subst InKind (sym (c.without_fault.ensures ∙ ap without_fault c.binary.ensures.answer))
    (in_range-answer c.args.op c.args.common (to_z w128 (of_z w128 c.args.left)) (to_z w128 (of_z w128 c.args.right)) (search rules))
