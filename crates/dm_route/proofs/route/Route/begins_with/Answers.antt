-- The outermost trail decides, where it has marks enough.
use Rattle.std.proofs.Common.{◌≡◌, List, ◌++◌, ap, ◌∙◌, sym, arith, append_assoc}
use Rattle.dm_token.specs.declared.expansion.Mark.{Mark}
use Rattle.dm_token.specs.Prefixes.{IsPrefix}
use Rattle.dm_route.proofs.WalkLemmas.{begins-shorter}
use Rattle.dm_route.proofs.route.Route.begins_with.Goals as goal

pub returns-then-length : goal.returns-then-length
returns-then-length c =
    let trail : List Mark = c.args.trail.now in
    let front : List Mark = c.front-front.result.now in
    let rest : List Mark = c.front-front.ensures.begins.0 in
    let is : c.args.self.now ≡ front ++ rest = c.front-front.ensures.begins.1 in (
      λ holds.
          let inner : IsPrefix trail front = c.begins.ensures.0 holds in
          (inner.0 ++ rest, is ∙ ap (λ (marks : List Mark). marks ++ rest) inner.1 ∙ append_assoc trail inner.0 rest),
      λ begins. c.begins.ensures.1 (begins-shorter trail front begins.0 rest (sym begins.1 ∙ is) (omega (arith, c.length.ensures, c.length-2.ensures, c.if-length.true))),
    )
