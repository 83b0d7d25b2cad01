-- The names are declared in a scope that has opened.
use Rattle.std.specs.Prelude.{◌∷◌, drop}
use Rattle.std.specs.FinMap as finite
use Rattle.std.proofs.Common.{sym, ap, ◌∙◌}
use Rattle.dm_typing.specs.Known.{Known}
use Rattle.dm_eunit.specs.Naming.{with_names}
use Rattle.dm_eunit.proofs.ReopeningLemmas.{stands-again}
use Rattle.dm_eunit.proofs.reopening.reopened.Goals as goal

pub returns-clause-opened : goal.returns-clause-opened
returns-clause-opened c = λ later before stands.
    let scope = with_names finite.empty c.args.names.now in
    let scopes = c.in_ok-declare_again.ensures.scopes finite.empty c.args.standing.now.known.scopes c.in_ok-mark.ensures.scopes in
    stands-again later c.open.new.self.links c.open.new.self.known c.declare_again.new.known before scope c.declare_again.ensures.rest
    (scopes ∙ ap (λ outer. scope ∷ outer) (sym (ap (λ (known : Known). known.scopes) stands.known))) (c.in_ok-mark.ensures.opened later before stands)

pub returns-clause-opens : goal.returns-clause-opens
returns-clause-opens c =
    let scopes = c.in_ok-declare_again.ensures.scopes finite.empty c.args.standing.now.known.scopes c.in_ok-mark.ensures.scopes in
    record {
      types = c.declare_again.ensures.rest.types ∙ c.in_ok-mark.ensures.opens.types;
      declared = c.declare_again.ensures.rest.declared ∙ c.in_ok-mark.ensures.opens.declared;
      retyped = c.in_ok-mark.ensures.opens.retyped;
      scopes = sym (ap (drop 1) scopes);
    }
