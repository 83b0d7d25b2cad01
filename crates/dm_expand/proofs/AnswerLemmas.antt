-- What the whole expansion of a group of tokens gives, of the expansion of their list.
use Rattle.std.proofs.Common.{◌≡◌, ℕ, suc, ◌+◌, ◌≤◌, List, [], ◌∷◌, map, length, Result, Ok, Err, refl, sym, ap, ◌∙◌, arith}
use Rattle.dm_token.specs.Limits.{most_work}
use Rattle.dm_token.specs.declared.token.PpToken.{PpToken}
use Rattle.dm_token.specs.declared.token.Token.{Token}
use Rattle.dm_token.specs.declared.stop.Stop.{Stop}
use Rattle.dm_token.specs.declared.expansion.Expansion.{Expansion}
use Rattle.dm_expand.specs.Items.{Item, of_source}
use Rattle.dm_expand.specs.Steps.{Progress, Output, ◌>>=◌, greatest_work, at_start}
use Rattle.dm_expand.specs.Expansion.{Macros, Answer, token_of, answer_of, expanded, expansion_of}
use Rattle.dm_expand.specs.Laws.{AreNumbered, Follows}
use Rattle.dm_expand.specs.Views.{IsWithin}
use Rattle.dm_expand.specs.ListViews.{gives}
use Rattle.dm_expand.specs.AnswerViews.{answer, AreNumberedFrom}

answer-is : (out : List Item) (p : Progress) (tokens : List Token) → tokens ≡ map token_of out → answer_of (gives out p) ≡ answer tokens p.expansions p.spent
unfolding answer_of
answer-is out p tokens is = ap (λ (xs : List Token). answer xs p.expansions p.spent) (sym is)

-- the answer of a list that was expanded
pub expansion_of-is : (macros : Macros) (group : List PpToken) (instance spent : ℕ) (items out : List Item) (p : Progress) (tokens : List Token) →
    items ≡ map of_source group → expanded macros items (at_start instance spent) ≡ Ok (gives out p) → tokens ≡ map token_of out →
    expansion_of macros group instance spent ≡ Ok (answer tokens p.expansions p.spent)
unfolding expansion_of
expansion_of-is macros group instance spent items out p tokens source is made =
    ap (λ (r : Result Output Stop). r >>= (λ output. Ok (answer_of output))) (ap (λ (xs : List Item). expanded macros xs (at_start instance spent)) (sym source) ∙ is)
    ∙ ap (λ (a : Answer). Ok a) (answer-is out p tokens made)

-- its stop
pub expansion_of-stops : (macros : Macros) (group : List PpToken) (instance spent : ℕ) (items : List Item) (stop : Stop) →
    items ≡ map of_source group → expanded macros items (at_start instance spent) ≡ Err stop → expansion_of macros group instance spent ≡ Err stop
unfolding expansion_of
expansion_of-stops macros group instance spent items stop source is =
    ap (λ (r : Result Output Stop). r >>= (λ output. Ok (answer_of output))) (ap (λ (xs : List Item). expanded macros xs (at_start instance spent)) (sym source) ∙ is)

-- so many numbers
numbered-length : (first : ℕ) (made : List Expansion) (next : ℕ) → AreNumbered first made next → next ≡ first + length made
numbered-length first [] next are = sym are ∙ omega arith
numbered-length first (one ∷ made) next are = numbered-length (suc first) made next are.1 ∙ omega arith

numbered-from : (first : ℕ) (made : List Expansion) (next : ℕ) → AreNumbered first made next → next ≡ first + length made → AreNumberedFrom first made
numbered-from first made next are is = rw (sym is) are

starts-numbered : (instance spent : ℕ) (p : Progress) → Follows (at_start instance spent) p → AreNumbered instance p.expansions p.instance
unfolding at_start
starts-numbered instance spent p follows = follows.numbered instance refl

-- the expansions of a whole one are numbered from its first number on
pub answer-numbered : (instance spent : ℕ) (p : Progress) → Follows (at_start instance spent) p → AreNumberedFrom instance p.expansions
answer-numbered instance spent p follows =
    let are = starts-numbered instance spent p follows in
    numbered-from instance p.expansions p.instance are (numbered-length instance p.expansions p.instance are)

-- each of them counts as work
pub answer-counted : (instance spent : ℕ) (p : Progress) → Follows (at_start instance spent) p → length p.expansions + spent ≤ p.spent
unfolding at_start
answer-counted instance spent p follows =
    let is = numbered-length instance p.expansions p.instance (follows.numbered instance refl) in
    omega (arith, follows.counted, is)

pub answer-within : (instance spent : ℕ) (p : Progress) → Follows (at_start instance spent) p → p.spent ≤ most_work
unfolding greatest_work
answer-within instance spent p follows = follows.within

pub start-within : (instance spent : ℕ) → instance ≤ spent → spent ≤ most_work → IsWithin (at_start instance spent)
unfolding at_start greatest_work
start-within instance spent numbered counted = record { spent = counted; instance = numbered }
