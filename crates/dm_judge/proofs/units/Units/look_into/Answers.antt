-- A unit is gone through once.
use Rattle.std.proofs.Common.{◌<◌, length, get_or, is_some, sym, ap, ◌∙◌, subst, arith}
use Rattle.dm_tree.specs.TypeNumbers.{IsTypedUnit}
use Rattle.dm_names.specs.declared.names.Names.{Names}
use Rattle.dm_reading.specs.declared.reading.Reading.{Reading}
use Rattle.dm_rules.specs.declared.index.Index.{Index}
use Rattle.dm_meanings.specs.Named.{AreNamesOf}
use Rattle.dm_judge.specs.Units.{IsMeant, IsNoted, readings_of}
use Rattle.dm_judge.proofs.SlotLemmas.{meant-now, named-at, noted-now, ready-before, ready-now, zipped-count}
use Rattle.dm_judge.proofs.UnitLemmas.{got-mapped, mapped-at, mapped-count}
use Rattle.dm_judge.proofs.units.Units.look_into.Goals as goal

abbrev reading_of : Index → Reading
reading_of one = one.reading.now

pub index-requires : goal.index-requires
index-requires c =
    let self = c.args.self.now in
    omega (arith, zipped-count IsMeant (readings_of self) self.meanings.items c.requires.whole.meant, mapped-count reading_of self.indexes.now, c.requires.inside, self.meanings.ok.0)

pub returns-then-is_some-clause-ready : goal.returns-then-is_some-clause-ready
returns-then-is_some-clause-ready c = λ definition ready.
    let self = c.args.self.now in
    let count = mapped-count reading_of self.indexes.now in
    let inside = c.requires.inside in
    ready-before definition c.args.number (readings_of self) self.meanings.items c.index.result.now ready (omega (arith, count, inside))
    (sym (ap is_some c.index.ensures) ∙ sym c.is_some.ensures ∙ c.if-is_some.true)

pub bounds-names-number : goal.bounds-names-number
bounds-names-number c =
    let self = c.args.self.now in
    omega (arith, zipped-count AreNamesOf (readings_of self) self.names.now c.requires.whole.named, mapped-count reading_of self.indexes.now, c.requires.inside)

pub of-requires-clause-typed : goal.of-requires-clause-typed
of-requires-clause-typed c =
    let self = c.args.self.now in
    subst (λ (one : Index). IsTypedUnit one.reading.now.types one.reading.now.core) (sym c.index-indexes-number.is)
    (mapped-at (λ (each : Reading). IsTypedUnit each.types each.core) reading_of self.indexes.now c.args.number c.index-indexes-number.result c.requires.inside c.requires.whole.typed)

pub of-requires-clause-names : goal.of-requires-clause-names
of-requires-clause-names c =
    let self = c.args.self.now in
    let number = c.args.number in
    let index = c.index-indexes-number.result in
    let names = c.index-names-number.result in
    subst (λ (one : Index). AreNamesOf one.reading.now names) (sym c.index-indexes-number.is)
    (subst (λ (one : Names). AreNamesOf (reading_of (get_or self.indexes.now number index)) one) (sym c.index-names-number.is)
    (named-at reading_of number self.indexes.now self.names.now index names c.requires.whole.named c.requires.inside))

pub index_mut-requires : goal.index_mut-requires
index_mut-requires c =
    let self = c.args.self.now in
    omega (arith, zipped-count IsMeant (readings_of self) self.meanings.items c.requires.whole.meant, mapped-count reading_of self.indexes.now, c.requires.inside, self.meanings.ok.0)

pub index_mut-requires-2 : goal.index_mut-requires-2
index_mut-requires-2 c =
    let self = c.args.self.now in
    omega (
      arith,
      zipped-count IsMeant (readings_of self) self.meanings.items c.requires.whole.meant,
      zipped-count IsNoted self.meanings.items self.notes.items c.requires.whole.noted,
      mapped-count reading_of self.indexes.now,
      c.requires.inside,
      self.notes.ok.0,
    )

pub returns-clause-whole : goal.returns-clause-whole
returns-clause-whole c =
    let self = c.args.self.now in
    let number = c.args.number in
    let index = c.index-indexes-number.result in
    let meanings = c.in_ok-meanings.meanings in
    let notes = c.in_ok-notes.notes in
    let readings = readings_of self in
    let count = mapped-count reading_of self.indexes.now in
    let within = c.requires.inside in
    let inside : number < length readings = omega (arith, count, within) in
    let is = c.in_ok-meanings.ensures ∙ ap reading_of c.index-indexes-number.is ∙ got-mapped reading_of self.indexes.now number index (reading_of index) c.requires.inside in
    record {
      typed = c.requires.whole.typed;
      named = c.requires.whole.named;
      meant = meant-now number readings self.meanings.items (reading_of index) meanings c.requires.whole.meant inside is;
      noted = noted-now number self.meanings.items self.notes.items meanings notes c.requires.whole.noted (c.in_ok-notes.ensures ∙ meanings.has_sites);
      defined = c.requires.whole.defined;
    }

pub returns-clause-ready : goal.returns-clause-ready
returns-clause-ready c = λ definition ready.
    let self = c.args.self.now in
    let number = c.args.number in
    let index = c.index-indexes-number.result in
    let count = mapped-count reading_of self.indexes.now in
    let within = c.requires.inside in
    let inside : number < length (readings_of self) = omega (arith, count, within) in
    let is = c.in_ok-meanings.ensures ∙ ap reading_of c.index-indexes-number.is ∙ got-mapped reading_of self.indexes.now number index (reading_of index) c.requires.inside in
    ready-now definition number (readings_of self) self.meanings.items (reading_of index) c.in_ok-meanings.meanings ready inside is
