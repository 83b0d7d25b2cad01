-- By computing, and by comparing numbers of tokens.
use Rattle.std.specs.Prelude.{refl}
use Rattle.std.proofs.Common.{arith, inl, inr}
use Rattle.dm_scoped.specs.Spans.{IsLaidOut}
use Rattle.dm_align.specs.Examples.{value, max_tree}
use Rattle.dm_steady.proofs.examples.a_maximum_comes_early.Goals as goal

-- what is read has the same tokens
x_laid : IsLaidOut (value 0 13 1)
x_laid = (
  omega arith,
  omega arith,
  refl,
  (inl (refl, omega arith, (refl, refl), tt, omega arith), tt),
  ((omega arith, omega arith, refl, (omega arith, tt), tt, tt), tt),
  tt,
)

y_laid : IsLaidOut (value 1 17 1)
y_laid = (
  omega arith,
  omega arith,
  refl,
  (inl (refl, omega arith, (refl, refl), tt, omega arith), tt),
  ((omega arith, omega arith, refl, (omega arith, tt), tt, tt), tt),
  tt,
)

x_again : IsLaidOut (value 0 21 1)
x_again = (
  omega arith,
  omega arith,
  refl,
  (inl (refl, omega arith, (refl, refl), tt, omega arith), tt),
  ((omega arith, omega arith, refl, (omega arith, tt), tt, tt), tt),
  tt,
)

y_again : IsLaidOut (value 1 25 1)
y_again = (
  omega arith,
  omega arith,
  refl,
  (inl (refl, omega arith, (refl, refl), tt, omega arith), tt),
  ((omega arith, omega arith, refl, (omega arith, tt), tt, tt), tt),
  tt,
)

tree_laid : IsLaidOut max_tree
tree_laid = (
  omega arith,
  omega arith,
  refl,
  (inr (omega arith, omega arith, inr (omega arith, omega arith, inr (omega arith, omega arith, omega arith))), tt),
  (
    (omega arith, omega arith, refl, (inr (omega arith, omega arith, inr (omega arith, omega arith, omega arith)), tt), (x_laid, (y_laid, tt)), tt),
    (x_again, (y_again, tt)),
  ),
  tt,
)

pub returns-clause-layout : goal.returns-clause-layout
returns-clause-layout c = (
  refl,
  (
    omega arith,
    (
      omega arith,
      (
        omega arith,
        omega arith,
        refl,
        (inr (omega arith, omega arith, omega arith), tt),
        ((omega arith, omega arith, refl, (inr (omega arith, omega arith, omega arith), tt), (tree_laid, tt), tt), tt),
        tt,
      ),
      omega arith,
    ),
    tt,
  ),
  tt,
)

pub returns-clause-parts : goal.returns-clause-parts
returns-clause-parts c = (
  (
    (omega arith, omega arith, omega arith),
    ((omega arith, omega arith, omega arith), ((omega arith, omega arith, omega arith), ((omega arith, omega arith, omega arith), tt))),
  ),
  (
    (inl (omega arith), (inl (omega arith), (inl (omega arith), tt))),
    ((inl (omega arith), (inl (omega arith), tt)), ((inl (omega arith), tt), (tt, tt))),
  ),
)

pub returns-clause-may_call : goal.returns-clause-may_call
returns-clause-may_call c = refl

pub returns-clause-early : goal.returns-clause-early
returns-clause-early c = refl
