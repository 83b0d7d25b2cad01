-- The one unit is lawful.
use Rattle.std.proofs.Common.{rules, ◌≡◌, ◌∷◌, [], All, sym, subst}
use Rattle.dm_manifest.specs.Units.{IsLawful}
use Rattle.dm_manifest.specs.Units.{alone}
use Rattle.dm_sources.proofs.SourceSteps.{alone-lawful-all}
use Rattle.dm_sources.proofs.project.file_alone.Goals as goal

pub returns-clause-lawful : goal.returns-clause-lawful
returns-clause-lawful c =
    let one : c.push.new.self ≡ alone c.args.project.now ∷ [] = search rules in
    subst (All IsLawful) (sym one) (alone-lawful-all c.args.project.now c.requires)
