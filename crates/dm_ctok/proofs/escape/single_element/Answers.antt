use Rattle.std.proofs.Common.{◌≡◌, [], ◌∙◌, sym, arith}
use Rattle.std.proofs.lemmas.List.{nil_from_length}
use Rattle.std.proofs.lemmas.Bool.Decides.{nat_tests}
use Rattle.dm_ctok.proofs.ElementLemmas.{single-none, single-one, single-more}
use Rattle.dm_ctok.proofs.escape.single_element.Goals as goal

pub returns-in_err-value : goal.returns-in_err-value
returns-in_err-value c = c.from_residual.ensures ∙ sym (single-none _ c.in_err-value.ensures)

pub returns-then-is_empty : goal.returns-then-is_empty
returns-then-is_empty c =
    let nothing : c.in_ok-value.behind.now ≡ [] = nil_from_length _ (grind (arith, nat_tests)) in
    sym (single-one _ c.in_ok-value.behind.now c.in_ok-value.value c.in_ok-value.ensures nothing)

pub returns-else-is_empty : goal.returns-else-is_empty
returns-else-is_empty c =
    sym (single-more _ c.in_ok-value.behind.now c.in_ok-value.value c.in_ok-value.ensures (grind (arith, nat_tests)))
