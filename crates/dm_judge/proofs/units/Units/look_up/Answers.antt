-- One unit after another.
use Rattle.std.proofs.Common.{◌≡◌, ℕ, suc, ◌+◌, ◌<◌, List, length, get_or, refl, sym, ap, ◌∙◌, subst, arith}
use Rattle.dm_reading.specs.declared.reading.Reading.{Reading}
use Rattle.dm_rules.specs.declared.index.Index.{Index}
use Rattle.dm_rules.specs.Indexes as indexes
use Rattle.dm_rules.specs.Rules.{is_used}
use Rattle.dm_judge.specs.declared.units.Units.{Units}
use Rattle.dm_judge.specs.Units.{AreReadyTo, AreWhole, readings_of}
use Rattle.dm_judge.proofs.SlotLemmas.{all-ready, none-ready, ready-unused}
use Rattle.dm_judge.proofs.UnitLemmas.{got-mapped, mapped-count}
use Rattle.dm_judge.proofs.units.Units.look_up.Goals as goal
use Rattle.dm_judge.proofs.units.Units.look_up.Goals.{then-is_used+in_ok-look_into, else-is_used}

abbrev reading_of : Index → Reading
reading_of one = one.reading.now

pub loop-number-init : goal.loop-number-init
loop-number-init c = record {
  whole = c.requires;
  indexes = refl;
  ready = none-ready c.args.definition.now (readings_of c.args.self.now) c.args.self.now.meanings.items c.requires.meant;
}

pub loop-number-preserved : goal.loop-number-preserved
loop-number-preserved c =
    let definition = c.args.definition.now in
    let all : List Index = c.args.self.now.indexes.now in
    let before : Units = c.loop-number.self in
    let number : ℕ = c.loop-number.number in
    let index : Index = c.index-indexes-number.result in
    let reading : Reading = reading_of index in
    let same = c.loop-number.invariant.indexes in
    let count = mapped-count reading_of before.indexes.now in
    let long = ap length same in
    let within = c.loop-number-test.true in
    let inside : number < length (readings_of before) = omega (arith, count, long, within) in
    let is : get_or (readings_of before) number reading ≡ reading =
    ap (λ (some : List Index). get_or (indexes.readings_of some) number reading) same ∙ sym (got-mapped reading_of all number index reading within)
    ∙ ap reading_of (sym c.index-indexes-number.is) in
    let kept : AreWhole c.if-is_used.self × (c.if-is_used.self.indexes.now ≡ all) × AreReadyTo definition (suc number) (readings_of c.if-is_used.self) c.if-is_used.self.meanings.items =
    elim c.if-is_used.branch [
      | then-is_used+in_ok-look_into w ↦
          subst (λ (units : Units). AreWhole units × (units.indexes.now ≡ all) × AreReadyTo definition (suc number) (readings_of units) units.meanings.items) (sym w.self-is)
          (w.in_ok-look_into.ensures.whole, w.in_ok-look_into.ensures.indexes ∙ same, w.in_ok-look_into.ensures.ready definition c.loop-number.invariant.ready)
      | else-is_used w ↦
          subst (λ (units : Units). AreWhole units × (units.indexes.now ≡ all) × AreReadyTo definition (suc number) (readings_of units) units.meanings.items) (sym w.self-is) (
            c.loop-number.invariant.whole,
            same,
            ready-unused definition number (readings_of before) before.meanings.items reading c.loop-number.invariant.ready inside
                (ap (is_used definition) is ∙ sym c.is_used.ensures ∙ w.if-is_used.false),
          )
    ] in
    let next : suc number ≡ number + 1 = omega arith in
    record {
      whole = kept.0;
      indexes = kept.1;
      ready = subst (λ n. AreReadyTo definition n (readings_of c.if-is_used.self) c.if-is_used.self.meanings.items) next kept.2;
    }

pub returns-clause-ready : goal.returns-clause-ready
returns-clause-ready c =
    let now : Units = c.loop-number.self in
    let count = mapped-count reading_of now.indexes.now in
    let long = ap length c.loop-number.invariant.indexes in
    let end = c.loop-number-test.false in
    all-ready c.args.definition.now c.loop-number.number (readings_of now) now.meanings.items (omega (arith, count, long, end)) c.loop-number.invariant.ready
