use Rattle.std.proofs.Common.{ℕ, List, ◌∷◌, [], map, refl, sym, ◌∙◌, ap, subst, arith}
use Rattle.std.proofs.lemmas.List.{map-append}
use Rattle.std.proofs.lemmas.Result.{err_from_is_err_and}
use Rattle.std.specs.FinMap as finite
use Rattle.dm_syn.specs.declared.statement.External.{External}
use Rattle.dm_syn.specs.Views as view
use Rattle.dm_reading.specs.Syntax.{Stand}
use Rattle.dm_read.proofs.SyntaxLemmas.{span-of-form, stood, refused-there}
use Rattle.dm_read.proofs.syntax.unit_syntax.Goals as goal

pub loop-at-init : goal.loop-at-init
unfolding Stand
loop-at-init c = (
  omega (arith),
  subst (λ (xs : List External). Stand c.args.tokens.now finite.empty 0 (map view.external xs) 0 c.new-names.result) (sym c.new-externals.ensures) (refl, sym c.new-names.ensures),
)

pub returns-in_err-external-clause-stop : goal.returns-in_err-external-clause-stop
returns-in_err-external-clause-stop c =
    let p = err_from_is_err_and c.from_residual.result c.from_residual.ensures.1 in
    rw (p.1, p.2) (refused-there c.args.tokens.now (map view.external c.loop-at.externals) c.loop-at.names c.loop-at.at _ c.loop-at.invariant.1 c.loop-at-test.true c.in_err-external.ensures.stop)

pub loop-at-preserved : goal.loop-at-preserved
loop-at-preserved c =
    let e = c.in_ok-external.external in
    let found = c.in_ok-external.ensures.found in (
      found.within,
      stood c.args.tokens.now c.loop-at.names c.next_external.new.typedefs c.loop-at.at c.in_ok-external.after (map view.external c.loop-at.externals) (map view.external c.push.new.self) (view.external e)
          c.loop-at.invariant.1 found.formed (ap (λ span. span.after) (span-of-form e.span e.form ∙ found.spans))
          (ap (map view.external) c.in_ok-push.ensures.ok ∙ map-append view.external c.loop-at.externals (e ∷ [])) c.in_ok-external.ensures.names,
    )

pub returns-clause-syntax : goal.returns-clause-syntax
returns-clause-syntax c =
    let i = c.loop-at.invariant.0 in
    let t = c.loop-at-test.false in
    (c.loop-at.names, subst (λ (n : ℕ). Stand c.args.tokens.now finite.empty 0 (map view.external c.loop-at.externals) n c.loop-at.names) (omega (arith, i, t)) c.loop-at.invariant.1)
