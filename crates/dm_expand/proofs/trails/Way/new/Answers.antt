use Rattle.std.proofs.Common.{◌++◌, List, length, ap, ◌∙◌, sym, arith}
use Rattle.std.proofs.lemmas.List.{append-nil}
use Rattle.dm_token.specs.declared.expansion.Mark.{Mark}
use Rattle.dm_expand.specs.Trails.{past}
use Rattle.dm_expand.proofs.TrailLemmas.{past-nothing}
use Rattle.dm_expand.proofs.trails.Way.new.Goals as goal

pub invariant_of-result : goal.invariant_of-result
invariant_of-result c =
    let base : List Mark = c.args.base in
    let name : List Mark = c.in_ok-name.name in (
      c.requires,
      c.in_ok-first.ensures ∙ ap (λ (marks : List Mark). base ++ marks) c.none-nothing.ensures ∙ append-nil base,
      c.empty-2.ensures ∙ sym (ap (past name) c.empty.ensures ∙ past-nothing name),
      λ some. absurd (omega (arith, some, ap length c.none.ensures)),
    )
