use Rattle.std.proofs.Common.{◌≡◌, List, [], ◌∷◌, None, Some, ◌∙◌, ap, sym, refl}
use Rattle.dm_token.specs.declared.token.CToken.{CToken}
use Rattle.dm_ctok.specs.Pending.{as_token, as_list, resumed}
use Rattle.dm_ctok.proofs.JoinLemmas.{resumed-first, resumed-joined}
use Rattle.dm_ctok.proofs.TokenLemmas.{token-literal}
use Rattle.dm_ctok.proofs.joining.Joiner.take_literal.Goals as goal
use Rattle.dm_ctok.proofs.joining.Joiner.take_literal.Goals.{in-None+in_ok-pending-in-None, in-Some+in_ok-pending-in-Some}

pub returns-clause-ok : goal.returns-clause-ok
returns-clause-ok c =
    let token = c.args.token.now in
    let before = c.args.self.now in
    let after = c.match-take.pending in
    elim c.match-take.branch [
      | in-None+in_ok-pending-in-None w ↦
          let was : before.pending ≡ None = sym c.take.ensures.value ∙ w.in-None.is in
          let made = as_token w.in_ok-pending-in-None.pending in (
            made,
            w.in_ok-pending-in-None.ensures.ok,
            λ (more : List CToken).
                ap (λ pending. resumed before.done (as_list pending) (made ∷ more)) was
                ∙ (resumed-first before.done more made
                ∙ ap (λ pending. resumed before.done (as_token pending ∷ []) more) (sym w.pending-is)),
          )
      | in-Some+in_ok-pending-in-Some w ↦
          let was : before.pending ≡ Some w.in-Some.pending = sym c.take.ensures.value ∙ w.in-Some.is in
          let joined = w.in_ok-pending-in-Some.ensures.ok in (
            joined.0,
            joined.1,
            λ (more : List CToken).
                ap (λ pending. resumed before.done (as_list pending) (joined.0 ∷ more)) was
                ∙ (resumed-joined before.done more (as_token w.in-Some.pending) joined.0 refl (token-literal token joined.0 c.requires joined.1)
                ∙ (ap (λ token. resumed before.done (token ∷ []) more) (sym joined.2)
                ∙ ap (λ pending. resumed before.done (as_token pending ∷ []) more) (sym w.pending-is))),
          )
    ]
