-- From the last index on.
use Rattle.std.proofs.Common.{◌≡◌, ◌≤◌, ◌+◌, List, [], ◌∷◌, ◌++◌, length, reverse, take, drop, get_or, sym, ap, ◌∙◌, subst, arith, length-append}
use Rattle.std.proofs.lemmas.List.{take_more}
use Rattle.dm_meaning.specs.Replaced.{Zipped}
use Rattle.dm_rules.specs.declared.index.Index.{Index}
use Rattle.dm_rules.specs.declared.tables.Tables.{Tables}
use Rattle.dm_rules.specs.Indexes.{readings_of}
use Rattle.dm_rules.specs.Tables.{AreTables}
use Rattle.dm_rules.proofs.ListLemmas.{item-left}
use Rattle.dm_subjects.proofs.TableLemmas.{back-one, last-same, taken-length, zipped-cons}
use Rattle.dm_subjects.proofs.tables.tables_of.Goals as goal

pub loop-one-preserved : goal.loop-one-preserved
loop-one-preserved c =
    let indexes : List Index = c.args.indexes.items in
    let front : List Index = c.pop.new.self.items in
    let one = c.in-Some.one in
    let made : List Tables = c.loop-one.made.items in
    let tables = c.into_tables.result in
    let all : c.loop-one.left.items ≡ front ++ one ∷ [] = c.in-Some.ensures.items in
    let count = ap length all ∙ length-append front (one ∷ []) in
    let within = c.loop-one.invariant.within in
    let less : length front + 1 ≤ length indexes = omega (arith, count, within) in
    let same =
    last-same front (take (length front) indexes) one (get_or indexes (length front) one)
    (sym all ∙ c.loop-one.invariant.left ∙ ap (λ n. take n indexes) count ∙ take_more indexes (length front) one (omega (arith, less)))
    (sym (taken-length indexes (length front) (omega (arith, less)))) in
    let left : drop (length front) indexes ≡ one ∷ drop (length front + 1) indexes =
    item-left indexes (length front) one (omega (arith, less)) ∙ ap (λ (first : Index). first ∷ drop (length front + 1) indexes) (sym same.1) in
    record {
      left = same.0;
      within = omega (arith, less);
      known =
          subst (λ (rest : List Index). Zipped AreTables (readings_of rest) (reverse c.push.new.self.items)) (sym left)
          (subst (λ (back : List Tables). Zipped AreTables (readings_of (one ∷ drop (length front + 1) indexes)) back)
          (sym (ap reverse c.in_ok-push.ensures.items ∙ back-one made tables))
          (zipped-cons AreTables (readings_of (drop (length front + 1) indexes)) (reverse made) one.reading.now tables c.into_tables.ensures
          (subst (λ n. Zipped AreTables (readings_of (drop n indexes)) (reverse made)) count c.loop-one.invariant.known)));
    }
