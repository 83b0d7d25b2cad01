-- Of the other trail's beginnings one is as long as this trail.
use Rattle.std.proofs.Common.{List, sym, ◌∙◌, subst, arith}
use Rattle.dm_token.specs.declared.expansion.Mark.{Mark}
use Rattle.dm_token.specs.Prefixes.{IsPrefix}
use Rattle.dm_token.proofs.MarkLemmas.{equal-same, same-equal}
use Rattle.dm_token.proofs.PrefixLemmas.{IsPrefix-same}
use Rattle.dm_token.proofs.trail.Trail.begins.Goals as goal

pub returns-then-length : goal.returns-then-length
returns-then-length c =
    let mine = c.args.self.now in
    let theirs = c.first.result.now in (
      λ h. subst (λ (marks : List Mark). IsPrefix marks c.args.other.now) (sym (equal-same mine theirs (sym c.eq.ensures ∙ h))) c.first.ensures.begins,
      λ p. c.eq.ensures ∙ same-equal mine theirs (IsPrefix-same mine theirs c.args.other.now p c.first.ensures.begins (omega arith)),
    )
