use Rattle.std.proofs.Common.{◌∙◌, ap, sym, [], arith, Some, refl}
use Rattle.std.proofs.lemmas.Option.{slice_get-get_or}
use Rattle.std.proofs.lemmas.Bool.{eqb-true, both_ways}
use Rattle.std.proofs.lemmas.List.{get_or_default}
use Rattle.std.proofs.lemmas.Slice.Eq.{bytes_eq-Decides}
use Rattle.dm_spell.proofs.RowLemmas.{differs_first, differs_before, none_empty}
use Rattle.dm_spell.proofs.spellings.Spellings.find.Goals as goal

pub returns-then-is_empty-clause-none : goal.returns-then-is_empty-clause-none
returns-then-is_empty-clause-none g c = λ found.
    none_empty _ _ (c.count-rows.ensures.filled found.0 found.1) (eqb-true _ _ (sym c.is_empty.ensures ∙ c.if-is_empty.true))
    (get_or_default c.args.self.now found.0 [] c.args.word.now found.1 ∙ found.2)

pub loop-number-init : goal.loop-number-init
loop-number-init g c =
    differs_first c.args.self.now c.args.word.now c.first-number.result _ c.first-number.ensures refl

pub returns-then-eq-clause-found : goal.returns-then-eq-clause-found
returns-then-eq-clause-found g c =
    let rows = c.args.self.now in
    let same = (bytes_eq-Decides c.row.result.now c.args.word.now).0 (sym c.eq.ensures ∙ c.if-eq.true) in
    slice_get-get_or rows c.loop-number.number [] (omega arith) ∙ ap Some (sym c.row.ensures.row ∙ same)

pub loop-number-preserved : goal.loop-number-preserved
loop-number-preserved g c =
    differs_before c.args.self.now c.args.word.now c.loop-number.number c.next-number.result _ c.loop-number.invariant
    (λ same. both_ways _ c.if-eq.false (c.eq.ensures ∙ (bytes_eq-Decides c.row.result.now c.args.word.now).1 (c.row.ensures.row ∙ same)))
    c.next-number.ensures.none refl

pub returns-clause-none : goal.returns-clause-none
returns-clause-none g c = λ found.
    c.loop-number.invariant found.0 (omega arith) found.1 (get_or_default c.args.self.now found.0 [] c.args.word.now found.1 ∙ found.2)
