-- The tokens of a replacement list that name parameters, one after another.
use Rattle.std.proofs.Common.{◌≡◌, ℕ, suc, ◌+◌, Bool, true, false, cond, List, [], ◌∷◌, ◌++◌, length, Option, Some, None, refl, sym, ap, ◌∙◌, arith, append_assoc, add-zero}
use Rattle.std.specs.Prelude.{count_by, ◌==◌}
use Rattle.std.proofs.lemmas.List.{append-nil}
use Rattle.std.proofs.lemmas.List.Sums.{fold_push}
use Rattle.dm_token.specs.declared.token.PpToken.{PpToken}
use Rattle.dm_macro.specs.Bodies.{parameter_of, places_of, is_at}
use Rattle.dm_runs.specs.declared.named.Named.{Named}
use Rattle.dm_runs.specs.Names.{named_at, named_behind}

pub named-push : (names : List (List ℕ)) (before tokens : List PpToken) (token : PpToken)
    → named_behind names before (tokens ++ token ∷ []) ≡ named_behind names before tokens ++ named_at names (before ++ tokens) (parameter_of names token)
named-push names before [] token =
    append-nil (named_at names before (parameter_of names token)) ∙ ap (λ (ts : List PpToken). named_at names ts (parameter_of names token)) (sym (append-nil before))
named-push names before (first ∷ tokens) token =
    let here = named_at names before (parameter_of names first) in
    let rest = named_behind names (before ++ first ∷ []) tokens in
    ap (λ ns. here ++ ns) (named-push names (before ++ first ∷ []) tokens token)
    ∙ sym (append_assoc here rest (named_at names ((before ++ first ∷ []) ++ tokens) (parameter_of names token)))
    ∙ ap (λ (ts : List PpToken). (here ++ rest) ++ named_at names ts (parameter_of names token)) (append_assoc before (first ∷ []) tokens)

count_by-push : {A : Type 0} (test : A → Bool) (xs : List A) (x : A) → count_by test (xs ++ x ∷ []) ≡ count_by test xs + cond (test x) 1 0
count_by-push test xs x = fold_push (λ count y. count + cond (test y) 1 0) 0 xs x

places-push : (names : List (List ℕ)) (parameter : ℕ) (before : List PpToken) (token : PpToken)
    → places_of names parameter (before ++ token ∷ []) ≡ places_of names parameter before + cond (is_at parameter (parameter_of names token)) 1 0
unfolding places_of
places-push names parameter before token = count_by-push (λ (one : PpToken). is_at parameter (parameter_of names one)) before token

pub places-nothing : (names : List (List ℕ)) (parameter : ℕ) → places_of names parameter [] ≡ 0
unfolding places_of
places-nothing names parameter = refl

named-of : ℕ → ℕ → ℕ → Named
named-of at parameter occurrence = record { at = at; parameter = parameter; occurrence = occurrence }

-- a token that names a parameter
pub named-next : (names : List (List ℕ)) (tokens : List PpToken) (token : PpToken) (named : List Named) (at p o q : ℕ) → at ≡ length tokens → p ≡ q → o ≡ places_of names q tokens
    → Some q ≡ parameter_of names token → named ≡ named_behind names [] tokens → named ++ record { at = at; parameter = p; occurrence = o } ∷ [] ≡ named_behind names [] (tokens ++ token ∷ [])
unfolding named-of
named-next names tokens token named at p o q place same often is before =
    ap (λ (ns : List Named). ns ++ named-of at p o ∷ []) before
    ∙ ap (λ k. named_behind names [] tokens ++ named-of k p o ∷ []) place
    ∙ ap (λ k. named_behind names [] tokens ++ named-of (length tokens) k o ∷ []) same
    ∙ ap (λ k. named_behind names [] tokens ++ named-of (length tokens) q k ∷ []) often
    ∙ ap (λ found. named_behind names [] tokens ++ named_at names tokens found) is
    ∙ sym (named-push names [] tokens token)

-- how often a parameter is named with one token more, which names one or none
pub counted-next : (names : List (List ℕ)) (tokens : List PpToken) (token : PpToken) (parameter q old new : ℕ) → Some q ≡ parameter_of names token → old ≡ places_of names parameter tokens
    → new ≡ old + cond (q == parameter) 1 0 → new ≡ places_of names parameter (tokens ++ token ∷ [])
unfolding is_at
counted-next names tokens token parameter q old new is before more =
    more ∙ ap (λ n. n + cond (q == parameter) 1 0) before ∙ ap (λ found. places_of names parameter tokens + cond (is_at parameter found) 1 0) is ∙ sym (places-push names parameter tokens token)

pub counted-skip : (names : List (List ℕ)) (tokens : List PpToken) (token : PpToken) (parameter : ℕ) → None ≡ parameter_of names token
    → places_of names parameter tokens ≡ places_of names parameter (tokens ++ token ∷ [])
unfolding is_at
counted-skip names tokens token parameter is =
    sym (add-zero (places_of names parameter tokens)) ∙ ap (λ found. places_of names parameter tokens + cond (is_at parameter found) 1 0) is ∙ sym (places-push names parameter tokens token)

-- another one
pub named-skip : (names : List (List ℕ)) (tokens : List PpToken) (token : PpToken) (named : List Named) → None ≡ parameter_of names token → named ≡ named_behind names [] tokens
    → named ≡ named_behind names [] (tokens ++ token ∷ [])
named-skip names tokens token named is before =
    before ∙ sym (append-nil (named_behind names [] tokens)) ∙ ap (λ found. named_behind names [] tokens ++ named_at names tokens found) is ∙ sym (named-push names [] tokens token)
