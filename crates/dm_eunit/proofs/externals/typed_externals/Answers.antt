-- One external declaration after another, up to the last.
use Rattle.std.specs.Prelude.{◌+◌, drop}
use Rattle.std.proofs.Common.{sym, subst}
use Rattle.dm_typing.specs.Views.{source_of, setting_of}
use Rattle.dm_eexpr.proofs.LoopLemmas.{cut, past}
use Rattle.dm_estanding.proofs.ProceedingLemmas.{Arrives, relays}
use Rattle.dm_eunit.specs.Functions.{externals_over, ExternalsFit}
use Rattle.dm_eunit.proofs.ExternalLemmas.{externals-whole, externals-left, externals-fail, externals-on, externals-done, externals-later}
use Rattle.dm_eunit.proofs.externals.typed_externals.Goals as goal

pub returns-in_err-made : goal.returns-in_err-made
returns-in_err-made c =
    let setting = setting_of c.args.typer.now in
    let externals = c.args.externals.now in
    let i = c.loop-external.external-index in
    let start = c.args.standing.now in
    relays ExternalsFit externals_over (source_of c.args.typer.now) start c.typed_external.new.standing (externals-whole setting externals start)
    c.from_residual.result c.in_err-made.field-0.0 c.from_residual.ensures.1
    (externals-fail setting externals start c.loop-external.standing c.loop-external.all c.external-item.result (drop i externals) (drop (i + 1) externals)
    (cut externals i c.external-item.result c.loop-external-test.true c.external-item.is) c.loop-external.invariant.0 c.typed_external.new.standing c.in_err-made.field-0.0 c.in_err-made.ensures)

pub loop-external-preserved : goal.loop-external-preserved
loop-external-preserved c =
    let setting = setting_of c.args.typer.now in
    let externals = c.args.externals.now in
    let i = c.loop-external.external-index in
    let start = c.args.standing.now in
    let old = c.loop-external.standing in
    let new = c.typed_external.new.standing in
    let all = c.loop-external.all in
    let made = c.in_ok-made.made in
    let is = sym c.in_ok-push.ensures.ok in (
      subst (λ these. Arrives start new (externals-whole setting externals start) (externals-left setting externals start these (drop (i + 1) externals))) is
          (externals-on setting externals start old all c.external-item.result (drop i externals) (drop (i + 1) externals)
          (cut externals i c.external-item.result c.loop-external-test.true c.external-item.is) c.loop-external.invariant.0 new made c.in_ok-made.ensures),
      subst (ExternalsFit new.known.types) is
          (externals-later old.known.types new.known.types c.in_ok-made.ensures.shapes all made c.loop-external.invariant.1 c.in_ok-made.ensures.numbered),
    )

pub returns : goal.returns
returns c =
    let externals = c.args.externals.now in
    let i = c.loop-external.external-index in
    externals-done (setting_of c.args.typer.now) externals c.args.standing.now c.loop-external.standing c.loop-external.all (drop i externals)
    (past externals i c.loop-external-test.false) c.loop-external.invariant.0 c.loop-external.invariant.1
