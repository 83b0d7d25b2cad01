-- One brace more.
use Rattle.std.specs.Prelude.{◌≡◌}
use Rattle.std.proofs.Common.{ap, sym, ◌∙◌, add-one, arith}
use Rattle.dm_typing.specs.Views.{view_over}
use Rattle.dm_edecl.specs.Initialising.{single, braced}
use Rattle.dm_einitial.specs.Steps.{alone_in_braces}
use Rattle.dm_einitial.proofs.scalars.braced.Goals as goal

pub loop-braces-preserved : goal.loop-braces-preserved
loop-braces-preserved c = (
  λ later. c.in_ok-made.ensures.view later ∙ ap alone_in_braces (c.loop-braces.invariant.0 later) ∙ ap (λ n. braced n (single (view_over later c.args.tree))) (sym (add-one c.loop-braces.braces)),
  λ n. c.in_ok-made.ensures.known n ∙ c.loop-braces.invariant.1 n,
  let below = c.loop-braces-test.true in omega (arith, below),
)

pub returns-clause-view : goal.returns-clause-view
returns-clause-view c = λ later.
    let most = c.loop-braces.invariant.2 in
    let least = c.loop-braces-test.false in
    let all : c.loop-braces.braces ≡ c.args.depth = omega (arith, most, least) in
    c.loop-braces.invariant.0 later ∙ ap (λ n. braced n (single (view_over later c.args.tree))) all
