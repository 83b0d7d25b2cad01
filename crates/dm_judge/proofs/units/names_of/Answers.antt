-- Those of one reading more.
use Rattle.std.proofs.Common.{List, [], ◌∷◌, ◌++◌, get_or, take, sym, subst}
use Rattle.std.proofs.lemmas.List.{take_all, take_more}
use Rattle.dm_meaning.specs.Replaced.{Zipped}
use Rattle.dm_names.specs.declared.names.Names.{Names}
use Rattle.dm_reading.specs.declared.reading.Reading.{Reading}
use Rattle.dm_meanings.specs.Named.{AreNamesOf}
use Rattle.dm_judge.proofs.SlotLemmas.{zipped-push}
use Rattle.dm_judge.proofs.units.names_of.Goals as goal

pub loop-reading-preserved : goal.loop-reading-preserved
loop-reading-preserved c =
    let readings : List Reading = c.args.readings.now in
    let i = c.loop-reading.reading-index in
    let reading : Reading = get_or readings i c.reading-item.result in
    let made : List Names = c.loop-reading.made.items in
    let names = c.in_ok-names.names in
    subst (λ (all : List Reading). Zipped AreNamesOf all c.push.new.self.items) (sym (take_more readings i c.reading-item.result c.loop-reading-test.true))
    (subst (λ (all : List Names). Zipped AreNamesOf (take i readings ++ reading ∷ []) all) (sym c.in_ok-push.ensures.items)
    (zipped-push AreNamesOf (take i readings) made reading names c.loop-reading.invariant
    (subst (λ (one : Reading). AreNamesOf one names) c.reading-item.is c.in_ok-names.ensures)))

pub returns : goal.returns
returns c =
    subst (λ (all : List Reading). Zipped AreNamesOf all c.loop-reading.made.items) (take_all c.loop-reading.reading-index c.args.readings.now c.loop-reading-test.false)
    c.loop-reading.invariant
