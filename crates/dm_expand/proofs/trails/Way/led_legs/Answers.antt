use Rattle.std.proofs.Common.{◌≡◌, ◌≤◌, ◌++◌, List, length, drop, ap, ◌∙◌, sym, subst, refl, arith}
use Rattle.dm_token.specs.declared.expansion.Mark.{Mark}
use Rattle.dm_expand.specs.Ways.{Way, LeadsTo}
use Rattle.dm_expand.proofs.TrailLemmas.{leads}
use Rattle.dm_expand.proofs.trails.Way.led_legs.Goals as goal

pub behind-requires : goal.behind-requires
behind-requires c = c.self.invariant.0

pub behind-requires-2 : goal.behind-requires-2
behind-requires-2 c = c.self.invariant.0

pub returns-then-shared-eq0-clause-led : goal.returns-then-shared-eq0-clause-led
returns-then-shared-eq0-clause-led c =
    let base : List Mark = c.self.inside.base in
    let outer : List Mark = c.in-Some.outer.now in
    let behind : List Mark = c.in-Some.behind.now in
    let common : List Mark = c.shared_count-shared.ensures.0 in
    let enough : length common ≡ length outer → length c.self.inside.name ≤ length common = λ all.
    let fewer = c.if-depends.ensures refl (omega (arith, all, c.shared_count-shared.ensures.2, c.length.ensures)) in
    omega (arith, fewer, c.shared_count-shared.ensures.2, c.length-2.ensures)
    in
    subst (λ (way : Way). LeadsTo way c.args.legs.now c.in_ok-whole.whole) c.self.view_is
    (leads c.self.inside.name base outer behind c.args.legs.now common outer c.in_ok-whole.whole c.shared_count-shared.ensures.1 enough
    c.in-Some.ensures.0
    (sym (ap (λ n. drop n outer) (sym c.shared_count-shared.ensures.2 ∙ c.if-shared-eq0.true)))
    (c.in_ok-whole.ensures ∙ ap (λ (marks : List Mark). base ++ marks) c.in-Some.ensures.0))

pub returns-clause-led : goal.returns-clause-led
returns-clause-led c =
    let name : List Mark = c.self.inside.name in
    let outer : List Mark = c.in-Some.outer.now in
    let behind : List Mark = c.in-Some.behind.now in
    let rest : List Mark = c.in_ok-rest.rest in
    let common : List Mark = c.shared_count-shared.ensures.0 in
    let enough : length common ≡ length outer → length name ≤ length common = λ all.
    let fewer = c.if-depends.ensures refl (omega (arith, all, c.shared_count-shared.ensures.2, c.length.ensures)) in
    omega (arith, fewer, c.shared_count-shared.ensures.2, c.length-2.ensures)
    in
    subst (λ (way : Way). LeadsTo way c.args.legs.now c.in_ok-became.became) c.self.view_is
    (leads name c.self.inside.base outer behind c.args.legs.now common rest c.in_ok-became.became c.shared_count-shared.ensures.1 enough
    c.in-Some.ensures.0
    (c.in_ok-rest.ensures ∙ ap (λ (marks : List Mark). marks ++ drop c.shared_count-shared.result outer) c.empty.ensures ∙ ap (λ n. drop n outer) c.shared_count-shared.ensures.2)
    (c.in_ok-became.ensures ∙ ap (λ (marks : List Mark). c.self.inside.base ++ marks) c.in_ok-inner.ensures))
