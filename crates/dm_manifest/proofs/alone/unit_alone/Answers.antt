-- A unit without settings is lawful.
use Rattle.std.proofs.Common.{rules, ◌≡◌}
use Rattle.dm_token.specs.declared.unit.Unit.{Unit as Source}
use Rattle.dm_manifest.specs.Units.{alone}
use Rattle.dm_manifest.proofs.Short.{alone-lawful}
use Rattle.dm_manifest.proofs.alone.unit_alone.Goals as goal

pub returns-clause-lawful : goal.returns-clause-lawful
returns-clause-lawful c =
    let unit : Source = record { file = c.in_ok-copy.field-0; include = c.new.result; define = c.new-2.result } in
    let is : unit ≡ alone c.args.file.now = search rules in
    alone-lawful c.args.file.now unit is
