-- The external declarations come to the unit.
use Rattle.std.specs.Prelude.{map}
use Rattle.dm_syn.specs.Views as syntax
use Rattle.dm_typing.specs.Views.{source_of, setting_of}
use Rattle.dm_eunit.proofs.UnitLemmas.{unit-typed, unit-made, unit-fails, fails-on, unit-numbered, has-later, stands-grown}
use Rattle.dm_eunit.proofs.unit.unit_of.Goals as goal

pub returns-clause-unit : goal.returns-clause-unit
returns-clause-unit c =
    let is = c.in_ok-unit.ensures in
    let start = c.argv_of.new.standing in
    let begins = stands-grown c.in_ok-standing.standing start c.in_ok-argv.ensures.grows c.in_ok-argv.ensures.links c.in_ok-standing.ensures in
    unit-made (setting_of c.args.typer.now) (map syntax.external c.args.externals.now) start c.typed_externals.new.standing begins
    c.in_ok-made.made c.in_ok-made.ensures c.in_ok-unit.unit is.whole is.externals is.types

pub returns-in_err-made-clause-unit : goal.returns-in_err-made-clause-unit
returns-in_err-made-clause-unit c =
    let setting = setting_of c.args.typer.now in
    let externals = map syntax.external c.args.externals.now in
    let start = c.argv_of.new.standing in
    let new = c.typed_externals.new.standing in
    let begins = stands-grown c.in_ok-standing.standing start c.in_ok-argv.ensures.grows c.in_ok-argv.ensures.links c.in_ok-standing.ensures in
    fails-on (source_of c.args.typer.now) (unit-typed setting externals start new begins) c.from_residual-in_err-made.result c.in_err-made.field-0.0 c.from_residual-in_err-made.ensures.1
    (unit-fails setting externals start new begins c.in_err-made.field-0.0 c.in_err-made.ensures)

pub returns-clause-numbered : goal.returns-clause-numbered
returns-clause-numbered c =
    let is = c.in_ok-unit.ensures in
    let start = c.argv_of.new.standing.known.types in
    let new = c.typed_externals.new.standing.known.types in
    let made = c.in_ok-made.ensures in
    unit-numbered new c.in_ok-argv.argv c.in_ok-made.made c.in_ok-unit.unit is.argv is.externals is.types (has-later start new c.in_ok-argv.argv _ made.shapes c.in_ok-argv.ensures.typed) made.numbered is.numbered
