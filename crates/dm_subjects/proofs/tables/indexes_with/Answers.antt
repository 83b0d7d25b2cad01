-- From the last reading on.
use Rattle.std.proofs.Common.{◌≡◌, ◌≤◌, ◌+◌, List, [], ◌∷◌, ◌++◌, length, reverse, take, drop, get_or, sym, ap, ◌∙◌, subst, arith, length-append}
use Rattle.std.proofs.lemmas.List.{drop_all}
use Rattle.dm_meaning.specs.Replaced.{Zipped}
use Rattle.dm_align.proofs.StepLemmas.{zipped-length}
use Rattle.dm_reading.specs.declared.reading.Reading.{Reading}
use Rattle.dm_rules.specs.declared.index.Index.{Index}
use Rattle.dm_rules.specs.declared.tables.Tables.{Tables}
use Rattle.dm_rules.specs.Indexes.{readings_of}
use Rattle.dm_rules.specs.Tables.{AreTables}
use Rattle.dm_rules.proofs.ListLemmas.{item-left}
use Rattle.dm_subjects.proofs.TableLemmas.{back-more, known-less, mapped-back, take-whole, vec-count}
use Rattle.dm_subjects.proofs.tables.indexes_with.Goals as goal

abbrev reading_of : Index → Reading
reading_of one = one.reading.now

pub loop-one-init : goal.loop-one-init
loop-one-init c =
    let tables : List Tables = c.args.tables.items in
    let readings : List Reading = c.args.readings.now in
    let count = zipped-length AreTables readings tables c.requires in
    record {
      within = omega (arith, count);
      known = subst (λ (front : List Reading). Zipped AreTables front tables) (sym (take-whole readings (length tables) count)) c.requires;
      made = ap (λ (made : List Index). reverse (readings_of made)) c.new-made.ensures.items ∙ sym (drop_all (length tables) readings (omega (arith, count)));
    }

pub with_tables-requires : goal.with_tables-requires
with_tables-requires c =
    let readings : List Reading = c.args.readings.now in
    let front : List Tables = c.pop.new.self.items in
    let one = c.in-Some.one in
    let reading = c.index-readings-len.result in
    let all : c.loop-one.left.items ≡ front ++ one ∷ [] = c.in-Some.ensures.items in
    let both =
    known-less AreTables readings front one reading (subst (λ (xs : List Tables). length xs ≤ length readings) all c.loop-one.invariant.within)
    (subst (λ (xs : List Tables). Zipped AreTables (take (length xs) readings) xs) all c.loop-one.invariant.known) in
    subst (λ (r : Reading). AreTables r one)
    (sym (c.index-readings-len.is ∙ ap (λ n. get_or readings n reading) (c.len.ensures ∙ vec-count c.pop.new.self))) both.1

pub loop-one-preserved : goal.loop-one-preserved
loop-one-preserved c =
    let readings : List Reading = c.args.readings.now in
    let front : List Tables = c.pop.new.self.items in
    let one = c.in-Some.one in
    let reading = c.index-readings-len.result in
    let made : List Index = c.loop-one.made.items in
    let all : c.loop-one.left.items ≡ front ++ one ∷ [] = c.in-Some.ensures.items in
    let count = ap length all ∙ length-append front (one ∷ []) in
    let within = c.loop-one.invariant.within in
    let both =
    known-less AreTables readings front one reading (subst (λ (xs : List Tables). length xs ≤ length readings) all within)
    (subst (λ (xs : List Tables). Zipped AreTables (take (length xs) readings) xs) all c.loop-one.invariant.known) in
    record {
      within = omega (arith, count, within);
      known = both.0;
      made =
          ap (λ (xs : List Index). reverse (readings_of xs)) c.in_ok-push.ensures.items ∙ back-more reading_of made c.with_tables.result
          ∙ ap (λ (r : Reading). r ∷ reverse (readings_of made)) c.with_tables.ensures
          ∙ ap (λ (rest : List Reading). reading ∷ rest) c.loop-one.invariant.made
          ∙ ap (λ n. reading ∷ drop n readings) count
          ∙ ap (λ (r : Reading). r ∷ drop (length front + 1) readings)
          (c.index-readings-len.is ∙ ap (λ n. get_or readings n reading) (c.len.ensures ∙ vec-count c.pop.new.self))
          ∙ sym (item-left readings (length front) reading (omega (arith, count, within)));
    }

pub returns : goal.returns
returns c =
    let made : List Index = c.loop-one.made.items in
    ap readings_of c.reverse.ensures.items ∙ mapped-back reading_of made ∙ c.loop-one.invariant.made
    ∙ ap (λ n. drop n c.args.readings.now) (sym (vec-count c.loop-one.left) ∙ c.in_default.ensures.cases.0)
