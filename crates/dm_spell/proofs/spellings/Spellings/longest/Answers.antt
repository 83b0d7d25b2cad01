use Rattle.std.proofs.Common.{◌≡◌, ◌∙◌, ap, sym, arith, get_or, get_or-drop, length, add-zero, subst, List, ℕ}
use Rattle.std.proofs.lemmas.Bool.{both_ways}
use Rattle.dm_spell.specs.Rows.{row_at, StandsAt}
use Rattle.dm_spell.proofs.RowLemmas.{longest_before, none_at_end}
use Rattle.dm_spell.proofs.spellings.Spellings.longest.Goals as goal
use Rattle.dm_spell.proofs.spellings.Spellings.longest.Goals.{then-row-most+then-stands, else-row-most, else-row-most-via-then-row-most+else-stands, else-row-most-via-else-row-most}

pub returns-then-at-bytes-clause-none : goal.returns-then-at-bytes-clause-none
returns-then-at-bytes-clause-none g c = λ number below stands.
    none_at_end _ c.args.bytes.now c.args.at c.if-at-bytes.true (c.count-count.ensures.filled number below) stands

-- the byte at the place is the first of the rest
pub loop-number-preserved : goal.loop-number-preserved
loop-number-preserved g c =
    let rows = c.args.self.now in
    let rest = c.split_at.result.1.now in
    let row = row_at rows c.loop-number.number in
    let first : get_or rest 0 0 ≡ get_or c.args.bytes.now c.args.at 0 =
    ap (λ r. get_or r 0 0) c.split_at.ensures.back ∙ (get_or-drop c.args.at c.args.bytes.now 0 0 ∙ ap (λ n. get_or c.args.bytes.now n 0) (add-zero c.args.at)) in
    elim c.if-row-most.branch [
      | then-row-most+then-stands w ↦ record {
        best = rw w.found-is (
          omega (arith, c.loop-number-test.true, c.count-count.ensures.count),
          w.most-is ∙ ap length c.row-row.ensures.row,
          subst (λ (r : List ℕ). StandsAt r rest 0) c.row-row.ensures.row (w.stands.ensures.0 w.if-stands.true),
        );
        longest = longest_before rows rest c.loop-number.number c.next-number.result _ _ first
            (λ k below inside stands. let h = c.loop-number.invariant.longest k below inside stands in omega (arith, h, w.if-row-most.true, w.most-is))
            (λ stands. omega (arith, w.most-is, ap length c.row-row.ensures.row)) c.next-number.ensures.none;
      }
      | else-row-most w ↦ record {
        best = rw (w.found-is, w.most-is) c.loop-number.invariant.best;
        longest = longest_before rows rest c.loop-number.number c.next-number.result _ _ first
            (λ k below inside stands. let h = c.loop-number.invariant.longest k below inside stands in omega (arith, h, w.most-is))
            (λ stands. elim w.else-row-most.branch [
              | else-row-most-via-then-row-most+else-stands w' ↦ absurd (both_ways _ w'.if-stands.false (w'.stands.ensures.1 (subst (λ (r : List ℕ). StandsAt r rest 0) (sym c.row-row.ensures.row) stands)))
              | else-row-most-via-else-row-most w' ↦ omega (arith, w.most-is, w'.if-row-most.false, ap length c.row-row.ensures.row)
            ]) c.next-number.ensures.none;
      }
    ]
