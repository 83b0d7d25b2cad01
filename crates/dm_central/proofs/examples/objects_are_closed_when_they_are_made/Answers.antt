-- In `int h(int a) { return a + a; } int main(void) { return h(h(3)); }` a is only read.
use Rattle.std.specs.Prelude.{◌≡◌, refl, ◌==◌, ℕ, true}
use Rattle.std.proofs.Common.{sym, subst, inl, inr}
use Rattle.dm_tree.specs.Trees.{parts_of}
use Rattle.dm_meaning.specs.Examples.{nested_call, reading}
use Rattle.dm_meaning.specs.Programs.{Definition}
use Rattle.dm_meaning.proofs.GrowLemmas.{equal_of}
use Rattle.dm_rewrite.specs.ClosedStates.{NamesOnly, ListNamesOnly, ProgramNamesOnly}
use Rattle.dm_central.proofs.ClosedBeginLemmas.{begins_all_closed}
use Rattle.dm_central.proofs.ClosedFrameLemmas.{all_closed_later}
use Rattle.dm_central.proofs.examples.objects_are_closed_when_they_are_made.Goals as goal

a_read : NamesOnly 2 (reading 2)
a_read = (tt, (inr (_, _, refl), tt))

named_so : ProgramNamesOnly 2 nested_call
named_so definition (inl e) = subst (λ (d : Definition). ListNamesOnly 2 (parts_of d.body)) (sym e) ((tt, ((tt, (a_read, (a_read, tt))), tt)), tt)
named_so definition (inr (inl e)) =
    subst (λ (d : Definition). ListNamesOnly 2 (parts_of d.body)) (sym e)
    ((tt, ((tt, ((tt, tt), ((tt, ((tt, tt), ((tt, tt), tt))), tt))), tt)), tt)
named_so definition (inr (inr k)) = absurd k

picked_so : (d : ℕ) → (d == 2) ≡ true → ProgramNamesOnly d nested_call
picked_so d e = subst (λ n. ProgramNamesOnly n nested_call) (sym (equal_of d 2 e)) named_so

pub returns-clause-names : goal.returns-clause-names
returns-clause-names c = picked_so

pub returns-clause-begins : goal.returns-clause-begins
returns-clause-begins c = begins_all_closed nested_call (λ d. d == 2) picked_so

pub returns-clause-steps : goal.returns-clause-steps
returns-clause-steps c = all_closed_later nested_call (λ d. d == 2) picked_so
