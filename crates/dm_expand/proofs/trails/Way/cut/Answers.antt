use Rattle.std.proofs.Common.{◌≡◌, ◌++◌, List, drop, ap, ◌∙◌, sym}
use Rattle.dm_token.specs.declared.expansion.Mark.{Mark}
use Rattle.dm_expand.specs.Trails.{past}
use Rattle.dm_expand.specs.Ways.{Way}
use Rattle.dm_expand.proofs.TrailLemmas.{past-common}
use Rattle.dm_expand.proofs.trails.Way.cut.Goals as goal

pub returns-then-shared-eq0-clause-left : goal.returns-then-shared-eq0-clause-left
returns-then-shared-eq0-clause-left c =
    let trail : List Mark = c.args.trail.now in
    let all : past c.self.inside.name trail ≡ trail =
    past-common c.self.inside.name trail c.shared_count-shared.ensures.0 c.shared_count-shared.ensures.1
    ∙ ap (λ n. drop n trail) (sym c.shared_count-shared.ensures.2 ∙ c.if-shared-eq0.true) in
    c.in_ok-same.ensures ∙ sym all ∙ ap (λ (way : Way). past way.name trail) c.self.view_is

pub returns-clause-left : goal.returns-clause-left
returns-clause-left c =
    let trail : List Mark = c.args.trail.now in
    c.in_ok-left.ensures
    ∙ ap (λ (marks : List Mark). marks ++ drop c.shared_count-shared.result trail) c.empty.ensures
    ∙ ap (λ n. drop n trail) c.shared_count-shared.ensures.2
    ∙ sym (past-common c.self.inside.name trail c.shared_count-shared.ensures.0 c.shared_count-shared.ensures.1)
    ∙ ap (λ (way : Way). past way.name trail) c.self.view_is
