use Rattle.std.proofs.Common.{◌≡◌, List, [], ◌∷◌, ◌++◌, None, ◌∙◌, ap, sym, rules}
use Rattle.dm_token.specs.declared.token.CToken.{CToken}
use Rattle.dm_token.specs.declared.token.PpKind.TheVariants.{Literal}
use Rattle.dm_ctok.specs.Pending.{as_list, resumed}
use Rattle.dm_ctok.proofs.JoinLemmas.{resumed-other}
use Rattle.dm_ctok.proofs.TokenLemmas.{token-other}
use Rattle.dm_ctok.proofs.joining.Joiner.take.Goals as goal

pub returns-clause-ok : goal.returns-clause-ok
returns-clause-ok c =
    let before = c.args.self.now in
    let made = c.in_ok-made.made in
    let kind : c.args.token.now.pp.kind ≡ Literal → ⊥ = search rules in
    let other = token-other c.args.token.now made kind c.in_ok-made.ensures in
    let closed = c.in_ok-close.ensures in
    let pushed = c.in_ok-push.ensures.ok in (
      made,
      c.in_ok-made.ensures,
      λ (more : List CToken).
          resumed-other before.done more before.pending made other
          ∙ (ap (λ done. resumed done (as_list None) more) (sym (pushed ∙ ap (λ done. done ++ made ∷ []) closed.done))
          ∙ ap (λ pending. resumed c.push.new.self (as_list pending) more) (sym closed.pending)),
    )
