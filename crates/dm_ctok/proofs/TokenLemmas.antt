-- What one preprocessing token becomes, and lists of them.
use Rattle.std.proofs.Common.{◌≡◌, ℕ, Bool, true, false, List, [], ◌∷◌, ◌++◌, Option, Some, None, Result, Ok, Err, refl, ap, sym, subst, ◌∙◌, ℤ}
use Rattle.std.specs.Prelude.{IfOk, option_map, nat_lt}
use Rattle.std.proofs.lemmas.Bool.{cond_both, cond-false}
use Rattle.dm_int.specs.declared.Kind.{Kind}
use Rattle.dm_int.specs.declared.Kind.TheVariants.{Int}
use Rattle.dm_token.specs.Refusals as refusals
use Rattle.dm_token.specs.declared.token.Class.TheVariants.{Keyword}
use Rattle.dm_token.specs.declared.stop.Refusal.{Refusal}
use Rattle.dm_token.specs.declared.stop.Stop.{Stop}
use Rattle.dm_token.specs.declared.stop.Stop.TheVariants.{Memory, Refused, Limit, ReadFault}
use Rattle.dm_token.specs.declared.token.PpKind.{PpKind}
use Rattle.dm_token.specs.declared.token.PpKind.TheVariants.{Identifier, Number, Character, Literal, Punctuator, Header, Stray}
use Rattle.dm_token.specs.declared.token.Token.{Token}
use Rattle.dm_token.specs.declared.token.CToken.{CToken}
use Rattle.dm_token.specs.Answer.{Stops}
use Rattle.dm_ctok.specs.Escapes.{elements, between_quotes, character_of, put_behind}
use Rattle.dm_ctok.specs.Joins.{is_literal_class}
use Rattle.dm_ctok.specs.Pending.{as_list, resumed, resumed_unless_refused}
use Rattle.dm_ctok.specs.Tokens.{word, valued, number, character, is_prefixed, literal_of, of_values, literal, of_kind, token_of, plain, refused, first_left_out, before, behind_first, each, joined_unless_refused}
use Rattle.dm_ctok.specs.declared.joining.Pending.{Pending}
use Rattle.dm_ctok.proofs.JoinLemmas.{resumed-end}

-- ---- literals and others

-- what is made is a literal, or isn't
abbrev Made : Bool → Result CToken Refusal → Type 0
Made q result = IfOk result (λ (made : CToken). is_literal_class made.class ≡ q)

word-other : (token : Token) (row : Option ℕ) → Made false (word token row)
unfolding word
word-other token None = refl
word-other token (Some row) =
    cond_both (nat_lt row first_left_out) (Ok (plain token (Keyword row))) (Err (refused token refusals.out_of_subset)) (Made false) (λ _. refl) (λ _. tt)

valued-other : (token : Token) (constant : Option (ℤ × Kind)) → Made false (valued token constant)
unfolding valued
valued-other token None = tt
valued-other token (Some constant) = refl

values-literal : (token : Token) (values : Option (List ℕ)) → Made true (of_values token values)
unfolding of_values
values-literal token None = tt
values-literal token (Some values) = refl

literal-literal : (token : Token) → Made true (literal token)
unfolding literal
literal-literal token =
    let values : Option (List ℕ) = elements (between_quotes token.pp.spelling) in
    cond_both (is_prefixed token.pp.spelling) (Err (refused token refusals.out_of_subset)) (of_values token values) (Made true) (λ _. tt) (λ _. values-literal token values)

kind-other : (token : Token) (kind : PpKind) → (kind ≡ Literal → ⊥) → Made false (of_kind token kind)
unfolding of_kind number character
kind-other token Identifier other = word-other token _
kind-other token Number other = valued-other token _
kind-other token Character other =
    let constant : Option (ℤ × Kind) = option_map (λ value. (value, Int)) (character_of token.pp.spelling) in
    cond_both (is_prefixed token.pp.spelling) (Err (refused token refusals.out_of_subset)) (valued token constant) (Made false) (λ _. tt) (λ _. valued-other token constant)
kind-other token Literal other = absurd (other refl)
kind-other token (Punctuator row) other = refl
kind-other token Header other = tt
kind-other token Stray other = tt

-- of a token that is no literal none is made
pub token-other : (token : Token) (made : CToken) → (token.pp.kind ≡ Literal → ⊥) → token_of token ≡ Ok made → is_literal_class made.class ≡ false
unfolding token_of
token-other token made other is = let P : Result CToken Refusal → Type 0 = Made false in subst P is (kind-other token token.pp.kind other)

-- of a literal one is made
pub token-literal : (token : Token) (made : CToken) → token.pp.kind ≡ Literal → token_of token ≡ Ok made → is_literal_class made.class ≡ true
unfolding token_of of_kind
token-literal token made kind is =
    let P : Result CToken Refusal → Type 0 = Made true in
    subst P (ap (of_kind token) (sym kind) ∙ is) (literal-literal token)

-- the literal of a token's values, or its refusal
literal-values : (token : Token) (values : Option (List ℕ)) → token.pp.kind ≡ Literal → is_prefixed token.pp.spelling ≡ false → elements (between_quotes token.pp.spelling) ≡ values →
    token_of token ≡ of_values token values
unfolding token_of of_kind literal
literal-values token values kind plain are =
    ap (of_kind token) kind ∙ (cond-false _ _ _ plain ∙ ap (of_values token) are)

pub literal-bad : (token : Token) → token.pp.kind ≡ Literal → is_prefixed token.pp.spelling ≡ false → elements (between_quotes token.pp.spelling) ≡ None → token_of token ≡ Err (refused token refusals.constant)
unfolding of_values
literal-bad token kind plain none = literal-values token None kind plain none

-- values that were put behind others
put : (old new : List ℕ) (values : Option (List ℕ)) → Some new ≡ put_behind old values → (more : List ℕ) × (values ≡ Some more) × (new ≡ old ++ more)
put old new None is = cc
put old new (Some more) is = (more, refl, cc)

pub literal-good : (token : Token) (old new : List ℕ) → token.pp.kind ≡ Literal → is_prefixed token.pp.spelling ≡ false →
    Some new ≡ put_behind old (elements (between_quotes token.pp.spelling)) → (values : List ℕ) × (token_of token ≡ Ok (literal_of token values)) × (new ≡ old ++ values)
unfolding of_values
literal-good token old new kind plain is =
    let more : (more : List ℕ) × (elements (between_quotes token.pp.spelling) ≡ Some more) × (new ≡ old ++ more) = put old new _ is in
    (more.0, literal-values token (Some more.0) kind plain more.1, more.2)

-- ---- lists

-- before the first
pub resumed-all : (tokens : Result (List CToken) Refusal) → joined_unless_refused tokens ≡ resumed_unless_refused [] [] tokens
unfolding resumed
resumed-all (Ok tokens) = refl
resumed-all (Err refusal) = refl

-- one more
resumed-before : (old new pending after : List CToken) (made : CToken) (more : Result (List CToken) Refusal) →
    ((more : List CToken) → resumed old pending (made ∷ more) ≡ resumed new after more) → resumed_unless_refused old pending (before made more) ≡ resumed_unless_refused new after more
resumed-before old new pending after made (Ok more) takes = ap Ok (takes more)
resumed-before old new pending after made (Err refusal) takes = refl

pub resumed-more : (old new pending after : List CToken) (token : Token) (tokens : List Token) (made : CToken) → token_of token ≡ Ok made →
    ((more : List CToken) → resumed old pending (made ∷ more) ≡ resumed new after more) →
    resumed_unless_refused old pending (each (token ∷ tokens)) ≡ resumed_unless_refused new after (each tokens)
unfolding each
resumed-more old new pending after token tokens made is takes =
    ap (λ first. resumed_unless_refused old pending (behind_first first (each tokens))) is ∙ resumed-before old new pending after made (each tokens) takes

-- the first that is refused
pub resumed-refused : (done pending : List CToken) (token : Token) (tokens : List Token) (whole : Result (List CToken) Refusal) (stop : Stop) → Stops stop (token_of token) →
    whole ≡ resumed_unless_refused done pending (each (token ∷ tokens)) → Stops stop whole
unfolding each
resumed-refused done pending token tokens whole Memory is same = tt
resumed-refused done pending token tokens whole (Refused refusal) is same =
    same ∙ ap (λ first. resumed_unless_refused done pending (behind_first first (each tokens))) is
resumed-refused done pending token tokens whole (Limit limit) is same = is
resumed-refused done pending token tokens whole (ReadFault file) is same = is

-- at the end
pub resumed-last : (done : List CToken) (pending : Option Pending) → resumed_unless_refused done (as_list pending) (each []) ≡ Ok (done ++ as_list pending)
unfolding each
resumed-last done pending = ap Ok (resumed-end done pending)
