-- Reading tokens one after another.
use Rattle.std.proofs.Common.{◌≡◌, ℕ, ◌+◌, ◌<◌, ◌≤◌, suc, List, [], ◌∷◌, Option, Some, None, map, drop, length, get_or, refl, sym, ◌∙◌, ap, subst, arith, add-one, drop-cons}
use Rattle.std.proofs.lemmas.Grind.{common_steps}
use Rattle.dm_token.specs.Refusals as refusals
use Rattle.dm_token.specs.declared.place.Place.{Place}
use Rattle.dm_token.specs.declared.stop.Stop.{Stop}
use Rattle.dm_token.specs.declared.stop.Stop.TheVariants.{Refused}
use Rattle.dm_token.specs.declared.token.Token.{Token}
use Rattle.dm_cond.specs.declared.symbol.Symbol.{Symbol}
use Rattle.dm_cond.specs.Machine.{Point, awaits, fails, step, run, outcome, number_of}
use Rattle.dm_cond.specs.Readings.{symbol_of}
use Rattle.dm_cond.specs.Answers.{Refuses}
use Rattle.dm_cond.proofs.Truths.{outcome_of, no-truth}

-- what the tokens from a place on do
abbrev from_place : List Token → ℕ → Point → Point
from_place tokens i point = run (map symbol_of (drop i tokens)) point

-- the token at a place, and those behind it
split : (tokens : List Token) (i : ℕ) (token : Token) → i < length tokens → token ≡ get_or tokens i token → drop i tokens ≡ token ∷ drop (i + 1) tokens
split tokens i token h e = rw (add-one, drop-cons tokens i token) (ap (λ t. t ∷ drop (suc i) tokens) (sym e))

-- what fails goes on failing
outcome-fails : (tokens : List (Option Symbol)) → outcome (run tokens fails) ≡ None
unfolding run
outcome-fails [] = refl
outcome-fails (Some symbol ∷ tokens) = outcome-fails tokens
outcome-fails (None ∷ tokens) = refl

-- a token by what it stands for
run-token : (o : Option Symbol) (symbol : Symbol) (others : List (Option Symbol)) (point : Point) → o ≡ Some symbol → run (o ∷ others) point ≡ run others (step point symbol)
unfolding run
run-token o symbol others point e = rw e refl

run-nothing : (o : Option Symbol) (others : List (Option Symbol)) (point : Point) → o ≡ None → run (o ∷ others) point ≡ fails
unfolding run
run-nothing o others point e = rw e refl

-- a token that stands for nothing
pub stops-none : (tokens : List Token) (i : ℕ) (token : Token) (point : Point) → i < length tokens → token ≡ get_or tokens i token → symbol_of token ≡ None →
    from_place tokens i point ≡ run (map symbol_of tokens) (awaits []) → number_of (outcome_of tokens) ≡ None
stops-none tokens i token point h e none same =
    let failed : run (map symbol_of tokens) (awaits []) ≡ fails =
    sym same ∙ ap (λ all. run (map symbol_of all) point) (split tokens i token h e) ∙ run-nothing (symbol_of token) (map symbol_of (drop (i + 1) tokens)) point none in
    ap (λ p. number_of (outcome p)) failed

-- one that can't stand where it stands
pub stops-failed : (tokens : List Token) (i : ℕ) (token : Token) (point : Point) (symbol : Symbol) → i < length tokens → token ≡ get_or tokens i token → symbol_of token ≡ Some symbol → step point symbol ≡ fails →
    from_place tokens i point ≡ run (map symbol_of tokens) (awaits []) → number_of (outcome_of tokens) ≡ None
stops-failed tokens i token point symbol h e some failed same =
    let all : run (map symbol_of tokens) (awaits []) ≡ run (map symbol_of (drop (i + 1) tokens)) fails =
    sym same ∙ ap (λ all. run (map symbol_of all) point) (split tokens i token h e) ∙ run-token (symbol_of token) symbol (map symbol_of (drop (i + 1) tokens)) point some
    ∙ ap (run (map symbol_of (drop (i + 1) tokens))) failed in
    ap (λ p. number_of (outcome p)) all ∙ ap number_of (outcome-fails (map symbol_of (drop (i + 1) tokens)))

-- one that is taken
pub goes-on : (tokens : List Token) (i : ℕ) (token : Token) (point next : Point) (symbol : Symbol) → i < length tokens → token ≡ get_or tokens i token → symbol_of token ≡ Some symbol → next ≡ step point symbol →
    from_place tokens i point ≡ run (map symbol_of tokens) (awaits []) → from_place tokens (i + 1) next ≡ run (map symbol_of tokens) (awaits [])
goes-on tokens i token point next symbol h e some n same =
    ap (run (map symbol_of (drop (i + 1) tokens))) n
    ∙ sym (run-token (symbol_of token) symbol (map symbol_of (drop (i + 1) tokens)) point some)
    ∙ ap (λ all. run (map symbol_of all) point) (sym (split tokens i token h e))
    ∙ same

-- nothing is left
none-left : (tokens : List Token) (i : ℕ) → length tokens ≤ i → drop i tokens ≡ []
none-left tokens i h = grind (arith, common_steps)

-- the end
pub at-end : (tokens : List Token) (i : ℕ) (point : Point) → length tokens ≤ i → from_place tokens i point ≡ run (map symbol_of tokens) (awaits []) → outcome_of tokens ≡ outcome point
unfolding run
at-end tokens i point h same = ap outcome (sym same ∙ ap (λ all. run (map symbol_of all) point) (none-left tokens i h))

-- a refusal with its cause
pub refused : (tokens : List Token) (at : Place) (stop : Stop) → number_of (outcome_of tokens) ≡ None → stop ≡ Refused (record { number = refusals.condition; detail = 0; place = at }) → Refuses tokens at stop
refused tokens at stop none e =
    let Is : Stop → Type 0 = λ s. Refuses tokens at s in
    subst Is (sym e) (no-truth tokens none, refl)
