-- Tokens have a truth exactly where reading them has an outcome with a number.
use Rattle.std.proofs.Common.{◌≡◌, ℤ, Bool, List, [], Option, Some, None, map, refl, sym, ◌∙◌, ap}
use Rattle.dm_token.specs.declared.token.Token.{Token}
use Rattle.dm_cond.specs.Trees.{Tree}
use Rattle.dm_cond.specs.Values.{Valued, value_of, is_true}
use Rattle.dm_cond.specs.Machine.{awaits, run, outcome, number_of}
use Rattle.dm_cond.specs.Readings.{symbol_of, Reads, HasTruth}
use Rattle.dm_cond.proofs.Completeness.{outcome-symbols}
use Rattle.dm_cond.proofs.Soundness.{AreExpression, outcome-is}

-- the outcome of tokens
abbrev pub outcome_of : List Token → Option Valued
outcome_of tokens = outcome (run (map symbol_of tokens) (awaits []))

-- a number is the value of a conditional expression
pub truth-from : (tokens : List Token) (value : Valued) (number : ℤ) → outcome_of tokens ≡ Some value → value.number ≡ Some number → HasTruth tokens (is_true number)
truth-from tokens value number o n =
    let a : AreExpression (map symbol_of tokens) value = outcome-is (map symbol_of tokens) value o in
    (a.tree, (a.formed, a.high, a.tokens_are), number, ap (λ v. v.number) (sym a.value_is) ∙ n, refl)

-- and there is no other one
pub outcome-from : (tokens : List Token) (tree : Tree) → Reads tokens tree → outcome_of tokens ≡ Some (value_of tree)
outcome-from tokens tree r = ap (λ all. outcome (run all (awaits []))) r.2 ∙ outcome-symbols tree r.0 r.1

-- without an outcome with a number there is no truth
pub no-truth : (tokens : List Token) → number_of (outcome_of tokens) ≡ None → (truth : Bool) → HasTruth tokens truth → ⊥
no-truth tokens none truth (tree, r, number, n, t) =
    let some : number_of (outcome_of tokens) ≡ Some number = ap number_of (outcome-from tokens tree r) ∙ n in
    absurd (cc)

-- a conditional expression has one truth
pub truth-unique : (tokens : List Token) (a b : Bool) → HasTruth tokens a → HasTruth tokens b → a ≡ b
truth-unique tokens a b (tree, r, m, n, t) (other, s, k, l, u) =
    let one : number_of (outcome_of tokens) ≡ Some m = ap number_of (outcome-from tokens tree r) ∙ n in
    let two : number_of (outcome_of tokens) ≡ Some k = ap number_of (outcome-from tokens other s) ∙ l in
    let same : m ≡ k = cc in
    t ∙ ap is_true same ∙ sym u

-- the truth of a number that is the outcome's
pub truth-of-number : (tokens : List Token) (o : Option Valued) (number : ℤ) → outcome_of tokens ≡ o → number_of o ≡ Some number → HasTruth tokens (is_true number)
truth-of-number tokens None number e n = absurd (cc)
truth-of-number tokens (Some value) number e n = truth-from tokens value number e n
