-- The first external declaration that is left defines `main`, or not.
use Rattle.std.proofs.Common.{◌≡◌, length, rules, sym}
use Rattle.dm_program.specs.Sources.{Source}
use Rattle.dm_program.proofs.DefinitionLemmas.{before-none, before-other, main-found, main-lacking, sound-before}
use Rattle.dm_program.proofs.definitions.main_of.Goals as goal

pub returns-then-is_main : goal.returns-then-is_main
returns-then-is_main c = λ table typed.
    let source : Source = record { table = table; unit = c.args.unit.now } in
    let before = c.loop-external.invariant table in (
      main-found source c.in-Some.rest.now c.in-Some.external.now c.loop-external.left.now c.in-Some-function_of.function c.in-Some.ensures.cases.0 (c.in-Some-function_of.ensures.view table)
          (sym (c.if-is_main.ensures table)) before,
      c.in-Some-function_of.ensures.fits source (sound-before source c.in-Some.rest.now c.in-Some.external.now c.loop-external.left.now c.in-Some.ensures.cases.0 typed before),
    )

pub loop-external-preserved-else-is_main : goal.loop-external-preserved-else-is_main
loop-external-preserved-else-is_main c = λ table.
    before-other (record { table = table; unit = c.args.unit.now }) c.in-Some.rest.now c.in-Some.external.now c.loop-external.left.now c.in-Some-function_of.function c.in-Some.ensures.cases.0
    (c.in-Some-function_of.ensures.view table) (sym (c.if-is_main.ensures table)) (c.loop-external.invariant table)

pub loop-external-preserved : goal.loop-external-preserved
loop-external-preserved c = λ table.
    before-none (record { table = table; unit = c.args.unit.now }) c.in-Some.rest.now c.in-Some.external.now c.loop-external.left.now c.in-Some.ensures.cases.0 (c.in_default-function_of.ensures.view table)
    (c.loop-external.invariant table)

pub returns : goal.returns
returns c = λ table typed.
    let none : length c.loop-external.left.now ≡ 0 = search rules in
    main-lacking (record { table = table; unit = c.args.unit.now }) c.loop-external.left.now none (c.loop-external.invariant table)
