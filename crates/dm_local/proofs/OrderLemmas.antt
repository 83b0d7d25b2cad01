-- The expansions of a unit ascend, and those that its tokens came through are among them.
use Rattle.std.proofs.Common.{◌≡◌, ℕ, suc, ◌+◌, ◌≤◌, List, [], ◌∷◌, ◌++◌, length, map, Result, Ok, Err, refl, ap, ◌∙◌, subst, arith}
use Rattle.dm_token.specs.Limits.{most_work}
use Rattle.dm_token.specs.declared.stop.Stop.{Stop}
use Rattle.dm_token.specs.declared.token.PpToken.{PpToken}
use Rattle.dm_token.specs.declared.expansion.Expansion.{Expansion}
use Rattle.dm_expand.specs.Items.{of_source}
use Rattle.dm_expand.specs.Steps.{Output, ◌>>=◌, greatest_work, at_start}
use Rattle.dm_expand.specs.Expansion.{Macros, Answer, answer_of, expanded, expansion_of}
use Rattle.dm_expand.specs.Laws.{AreNumbered, Follows, Each}
use Rattle.dm_expand.specs.AnswerViews.{looked_up}
use Rattle.dm_expand.proofs.AnswerLemmas.{answer-numbered, answer-within}
use Rattle.dm_expand.proofs.ProgressLemmas.{expanded-follows}
use Rattle.dm_unit.specs.States.{State, for_unit, expansion_in}
use Rattle.dm_local.specs.Marks.{AreListed}
use Rattle.dm_local.specs.Order.{AreAscending}
use Rattle.dm_local.proofs.MarkLemmas.{Holds, expansion-listed}

-- all have numbers below this one, and ascend from that one on
abbrev pub AreBetween : ℕ → List Expansion → ℕ → Type 0
AreBetween from [] next = from ≤ next
AreBetween from (first ∷ others) next = (from ≤ first.instance) × AreBetween (suc first.instance) others next

pub between-ascend : (from : ℕ) (expansions : List Expansion) (next : ℕ) → AreBetween from expansions next → AreAscending from expansions
between-ascend from [] next between = tt
between-ascend from (first ∷ others) next between = (between.0, between-ascend (suc first.instance) others next between.1)

pub between-later : (from : ℕ) (expansions : List Expansion) (next later : ℕ) → next ≤ later → AreBetween from expansions next → AreBetween from expansions later
between-later from [] next later above between = omega (arith, above, between)
between-later from (first ∷ others) next later above between = (between.0, between-later (suc first.instance) others next later above between.1)

pub between-append : (from : ℕ) (expansions more : List Expansion) (next : ℕ) → AreBetween from expansions next → AreNumbered next more (next + length more) → AreBetween from (expansions ++ more) (next + length more)
between-append from [] [] next between numbered = omega (arith, between, numbered)
between-append from [] (first ∷ others) next between numbered =
    (omega (arith, between, numbered.0), rest (suc first.instance) others (suc next) (omega (arith, numbered.0)) (next + length (first ∷ others)) numbered.1)
  where
    rest : (from : ℕ) (more : List Expansion) (next : ℕ) → from ≤ next → (end : ℕ) → AreNumbered next more end → AreBetween from more end
    rest from [] next above end numbered = omega (arith, above, numbered)
    rest from (one ∷ more) next above end numbered = (omega (arith, above, numbered.0), rest (suc one.instance) more (suc next) (omega (arith, numbered.0)) end numbered.1)
between-append from (first ∷ others) more next between numbered = (between.0, between-append (suc first.instance) others more next between.1 numbered)

-- an answer's expansions are numbered from the next number on, those that its tokens came through are listed, and its work keeps the limit
pub record Ordered (instance : ℕ) (answer : Answer) : Type 0 where
  pub numbered : AreNumbered instance answer.expansions (instance + length answer.expansions)
  pub listed : AreListed answer.expansions answer.tokens
  pub spent : answer.spent ≤ most_work

expansion-ordered : (macros : Macros) (group : List PpToken) (instance spent : ℕ) (answer : Answer) → spent ≤ most_work → expansion_of macros group instance spent ≡ Ok answer → Ordered instance answer
unfolding expansion_of at_start greatest_work answer_of
expansion-ordered macros group instance spent answer few is =
    by (expanded macros (map of_source group) (at_start instance spent)) (expanded-follows macros (map of_source group) (at_start instance spent) few) (expansion-listed macros group instance spent) is
  where
    by : (r : Result Output Stop) → Each (λ output. Follows (at_start instance spent) output.progress) r → Holds (λ (answer : Answer). AreListed answer.expansions answer.tokens) (r >>= (λ output. Ok (answer_of output)))
        → (r >>= (λ output. Ok (answer_of output))) ≡ Ok answer → Ordered instance answer
    by (Err stop) follows listed e = absurd (cc)
    by (Ok output) follows listed e =
        let same : answer_of output ≡ answer = cc in
        subst (Ordered instance) same (record { numbered = answer-numbered instance spent output.progress follows; listed = listed; spent = answer-within instance spent output.progress follows })

pub in_unit-ordered : (main : ℕ) (s : State) (group : List PpToken) (answer : Answer) → s.spent ≤ most_work → expansion_in main s group ≡ Ok answer → Ordered s.instance answer
in_unit-ordered main s group answer few is = by (expansion_of (looked_up s.table s.files.names) group s.instance s.spent) refl is
  where
    by : (r : Result Answer Stop) → expansion_of (looked_up s.table s.files.names) group s.instance s.spent ≡ r → for_unit main r ≡ Ok answer → Ordered s.instance answer
    by (Ok made) e is = let same : made ≡ answer = cc in expansion-ordered (looked_up s.table s.files.names) group s.instance s.spent answer few (e ∙ ap (λ (a : Answer). Ok a) same)
    by (Err stop) e is = absurd (cc)
