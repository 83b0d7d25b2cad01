-- Tokens of phase 4, and those of phase 7 that they become.
use Rattle.std.proofs.Common.{◌≡◌, ℕ, zero, suc, ◌+◌, ◌≤◌, Bool, true, false, cond, ◌&&◌, List, [], ◌∷◌, length, take, Option, None, Some, IsSomeAnd, Result, Ok, Err, slice_get, refl, sym, ap, ◌∙◌, subst, arith}
use Rattle.std.specs.Prelude.{position, bytes_eq, option_map, nat_lt, ℤ, pos, if◌then◌else◌}
use Rattle.std.proofs.lemmas.List.{take_all}
use Rattle.dm_token.specs.declared.stop.Refusal.{Refusal}
use Rattle.dm_token.specs.declared.token.Class.TheVariants.{Keyword}
use Rattle.dm_token.specs.declared.token.PpKind.{PpKind}
use Rattle.dm_token.specs.declared.token.PpKind.TheVariants.{Identifier, Number, Character, Literal, Punctuator, Header, Stray}
use Rattle.dm_token.specs.declared.token.Token.{Token}
use Rattle.dm_token.specs.declared.token.CToken.{CToken}
use Rattle.dm_token.specs.Refusals as refusals
use Rattle.dm_spell.specs.Tables.{keyword_rows}
use Rattle.dm_int.specs.declared.Kind.{Kind}
use Rattle.dm_int.specs.declared.Kind.TheVariants.{Int}
use Rattle.dm_ctok.specs.Escapes.{elements, between_quotes, character_of}
use Rattle.dm_ctok.specs.Integers.{integer_of}
use Rattle.dm_ctok.specs.Joins.{is_literal_class, joined, onto, joins}
use Rattle.dm_ctok.specs.Tokens.{plain, refused, word, valued, number, is_prefixed, character, of_values, literal, of_kind, token_of, first_left_out, behind_first, each, joined_unless_refused, ctokens_of}
use Rattle.dm_runs.specs.Spans.{is_literal, begun_among, begun_before}

-- ---- one token

-- what a token becomes has its place, and is a literal if it is one
abbrev Becomes : Token → Bool → Result CToken Refusal → Type 0
Becomes token test (Ok made) = (made.place ≡ token.pp.place) × (is_literal_class made.class ≡ test)
Becomes token test (Err refusal) = Unit {0}

word-becomes : (token : Token) (row : Option ℕ) → Becomes token false (word token row)
unfolding word
word-becomes token None = (refl, refl)
word-becomes token (Some row) = by (nat_lt row first_left_out)
  where
    by : (b : Bool) → Becomes token false (cond b (Ok (plain token (Keyword row))) (Err (refused token refusals.out_of_subset)))
    by true = (refl, refl)
    by false = tt

valued-becomes : (token : Token) (constant : Option (ℤ × Kind)) → Becomes token false (valued token constant)
unfolding valued
valued-becomes token None = tt
valued-becomes token (Some constant) = (refl, refl)

number-becomes : (token : Token) → Becomes token false (number token)
unfolding number
number-becomes token = valued-becomes token (option_map (λ integer. (pos integer.0, integer.1)) (integer_of token.pp.spelling))

values-become : (token : Token) (bytes : Option (List ℕ)) → Becomes token true (of_values token bytes)
unfolding of_values
values-become token None = tt
values-become token (Some bytes) = (refl, refl)

character-becomes : (token : Token) → Becomes token false (character token)
unfolding character
character-becomes token = by (is_prefixed token.pp.spelling)
  where
    by : (b : Bool) → Becomes token false (cond b (Err (refused token refusals.out_of_subset)) (valued token (option_map (λ value. (value, Int)) (character_of token.pp.spelling))))
    by true = tt
    by false = valued-becomes token (option_map (λ value. (value, Int)) (character_of token.pp.spelling))

literal-becomes : (token : Token) → Becomes token true (literal token)
unfolding literal
literal-becomes token = by (is_prefixed token.pp.spelling)
  where
    by : (b : Bool) → Becomes token true (cond b (Err (refused token refusals.out_of_subset)) (of_values token (elements (between_quotes token.pp.spelling))))
    by true = tt
    by false = values-become token (elements (between_quotes token.pp.spelling))

kind-becomes : (token : Token) (kind : PpKind) → Becomes token (is_literal kind) (of_kind token kind)
unfolding of_kind
kind-becomes token Identifier = word-becomes token (position (bytes_eq token.pp.spelling) keyword_rows)
kind-becomes token Number = number-becomes token
kind-becomes token Character = character-becomes token
kind-becomes token Literal = literal-becomes token
kind-becomes token (Punctuator row) = (refl, refl)
kind-becomes token Header = tt
kind-becomes token Stray = tt

token-becomes : (token : Token) → Becomes token (is_literal token.pp.kind) (token_of token)
unfolding token_of
token-becomes token = kind-becomes token token.pp.kind

-- ---- all of them

abbrev Become : List Token → List CToken → Type 0
Become [] [] = Unit {0}
Become [] (one ∷ made) = ⊥
Become (token ∷ tokens) [] = ⊥
Become (token ∷ tokens) (one ∷ made) = ((one.place ≡ token.pp.place) × (is_literal_class one.class ≡ is_literal token.pp.kind)) × Become tokens made

abbrev AllBecome : List Token → Result (List CToken) Refusal → Type 0
AllBecome tokens (Ok made) = Become tokens made
AllBecome tokens (Err refusal) = Unit {0}

behind-become : (token : Token) (tokens : List Token) (first : Result CToken Refusal) (others : Result (List CToken) Refusal) → Becomes token (is_literal token.pp.kind) first → AllBecome tokens others
    → AllBecome (token ∷ tokens) (behind_first first others)
behind-become token tokens (Ok one) (Ok made) first others = (first, others)
behind-become token tokens (Ok one) (Err refusal) first others = tt
behind-become token tokens (Err refusal) others first all = tt

each-become : (tokens : List Token) → AllBecome tokens (each tokens)
unfolding each
each-become [] = tt
each-become (token ∷ tokens) = behind-become token tokens (token_of token) (each tokens) (token-becomes token) (each-become tokens)

-- ---- joined

-- what begins behind a literal or none
abbrev one_if : Bool → ℕ
one_if joins_on = if joins_on then 0 else 1

-- what stands first among tokens that are joined
abbrev Begins : List Token → List CToken → Type 0
Begins [] made = made ≡ []
Begins (token ∷ tokens) [] = ⊥
Begins (token ∷ tokens) (one ∷ made) = (one.place ≡ token.pp.place) × (is_literal_class one.class ≡ is_literal token.pp.kind)

-- how many stand, and where
record Stand (tokens : List Token) (made : List CToken) : Type 0 where
  begins : Begins tokens made
  count : length made ≡ begun_among false tokens
  places : (n : ℕ) (token : Token) → slice_get tokens n ≡ Some token → begun_before tokens (suc n) ≡ begun_before tokens n + 1
      → IsSomeAnd (slice_get made (begun_before tokens n)) (λ (one : CToken). one.place ≡ token.pp.place)

none-some : (token : Token) → ◌≡◌ {A = Option Token} None (Some token) → ⊥
none-some token e = cc

some-is : (one other : Token) → ◌≡◌ {A = Option Token} (Some one) (Some other) → one ≡ other
some-is one other e = cc

none-stand : Stand [] []
none-stand = record { begins = refl; count = refl; places = λ n token e. absurd (none-some token e) }

one-stands : (token : Token) (one : CToken) → one.place ≡ token.pp.place → is_literal_class one.class ≡ is_literal token.pp.kind → Stand (token ∷ []) (one ∷ [])
one-stands token one place test = record { begins = (place, test); count = refl; places = at }
  where
    at : (n : ℕ) (it : Token) → slice_get (token ∷ []) n ≡ Some it → begun_before (token ∷ []) (suc n) ≡ begun_before (token ∷ []) n + 1 → IsSomeAnd (slice_get (one ∷ []) (begun_before (token ∷ []) n)) (λ (one : CToken). one.place ≡ it.pp.place)
    at zero it e begins = place ∙ ap (λ (t : Token). t.pp.place) (some-is token it e)
    at (suc n) it e begins = absurd (none-some it e)

get-later : (one other : CToken) (rest : List CToken) (k : ℕ) → 1 ≤ k → slice_get (one ∷ rest) k ≡ slice_get (other ∷ rest) k
get-later one other rest zero h = absurd (omega (arith, h))
get-later one other rest (suc k) h = refl

-- behind a token that isn't joined with the next as many begin as without it
apart-begun : (lit : Bool) (u : Token) (us : List Token) (m : ℕ) → (lit && is_literal u.pp.kind) ≡ false → begun_among lit (take m (u ∷ us)) ≡ begun_before (u ∷ us) m
apart-begun lit u us zero e = refl
apart-begun lit u us (suc m) e = ap (λ b. one_if b + begun_among (is_literal u.pp.kind) (take m us)) e

-- and behind one that is, one less
joined-begun : (lit : Bool) (u : Token) (us : List Token) (m : ℕ) → (lit && is_literal u.pp.kind) ≡ true → begun_among lit (take (suc m) (u ∷ us)) + 1 ≡ begun_before (u ∷ us) (suc m)
joined-begun lit u us m e =
    let here : begun_among lit (take (suc m) (u ∷ us)) ≡ 0 + begun_among (is_literal u.pp.kind) (take m us) = ap (λ b. one_if b + begun_among (is_literal u.pp.kind) (take m us)) e in
    let there : begun_before (u ∷ us) (suc m) ≡ 1 + begun_among (is_literal u.pp.kind) (take m us) = refl in
    omega (arith, here, there)

begun-next : (t : Token) (ts : List Token) (m : ℕ) → begun_before (t ∷ ts) (suc m) ≡ 1 + begun_among (is_literal t.pp.kind) (take m ts)
begun-next t ts m = refl

begun-whole : (t : Token) (ts : List Token) → begun_among false (t ∷ ts) ≡ 1 + begun_among (is_literal t.pp.kind) ts
begun-whole t ts = refl

module _ (t u : Token) (us : List Token) (one b : CToken) (rest : List CToken) (place : one.place ≡ t.pp.place) (test : is_literal_class one.class ≡ is_literal t.pp.kind) (stands : Stand (u ∷ us) (b ∷ rest)) where
  abbrev both : Bool
  both = is_literal t.pp.kind && is_literal u.pp.kind

  all-behind : begun_among (is_literal t.pp.kind) (take (length (u ∷ us)) (u ∷ us)) ≡ begun_among (is_literal t.pp.kind) (u ∷ us)
  all-behind = ap (begun_among (is_literal t.pp.kind)) (take_all (length (u ∷ us)) (u ∷ us) (omega arith))

  all-here : begun_before (u ∷ us) (length (u ∷ us)) ≡ begun_among false (u ∷ us)
  all-here = ap (begun_among false) (take_all (length (u ∷ us)) (u ∷ us) (omega arith))

  apart-stands : both ≡ false → Stand (t ∷ u ∷ us) (one ∷ b ∷ rest)
  apart-stands e = record {
    begins = (place, test);
    count = let more = apart-begun (is_literal t.pp.kind) u us (length (u ∷ us)) e in let rest_count = stands.count in
        omega (arith, more, rest_count, all-behind, all-here, begun-whole t (u ∷ us));
    places = at;
  }
    where
      at : (n : ℕ) (it : Token) → slice_get (t ∷ u ∷ us) n ≡ Some it → begun_before (t ∷ u ∷ us) (suc n) ≡ begun_before (t ∷ u ∷ us) n + 1
          → IsSomeAnd (slice_get (one ∷ b ∷ rest) (begun_before (t ∷ u ∷ us) n)) (λ (one : CToken). one.place ≡ it.pp.place)
      at zero it is begins = place ∙ ap (λ (t : Token). t.pp.place) (some-is t it is)
      at (suc m) it is begins =
          let now = apart-begun (is_literal t.pp.kind) u us m e in
          let next = apart-begun (is_literal t.pp.kind) u us (suc m) e in
          let here = begun-next t (u ∷ us) m in
          let further = begun-next t (u ∷ us) (suc m) in
          let index : suc (begun_before (u ∷ us) m) ≡ begun_before (t ∷ u ∷ us) (suc m) = omega (arith, now, here) in
          subst (λ k. IsSomeAnd (slice_get (one ∷ b ∷ rest) k) (λ (one : CToken). one.place ≡ it.pp.place)) index (stands.places m it is (omega (arith, now, next, here, further, begins)))

  joined-stands : both ≡ true → Stand (t ∷ u ∷ us) (joined one b ∷ rest)
  unfolding joined
  joined-stands e = record {
    begins = (place, test);
    count = let more = joined-begun (is_literal t.pp.kind) u us (length us) e in let rest_count = stands.count in
        omega (arith, more, rest_count, all-behind, all-here, begun-whole t (u ∷ us));
    places = at;
  }
    where
      at : (n : ℕ) (it : Token) → slice_get (t ∷ u ∷ us) n ≡ Some it → begun_before (t ∷ u ∷ us) (suc n) ≡ begun_before (t ∷ u ∷ us) n + 1
          → IsSomeAnd (slice_get (joined one b ∷ rest) (begun_before (t ∷ u ∷ us) n)) (λ (one : CToken). one.place ≡ it.pp.place)
      at zero it is begins = place ∙ ap (λ (t : Token). t.pp.place) (some-is t it is)
      at (suc zero) it is begins =
          let next = joined-begun (is_literal t.pp.kind) u us 0 e in
          let here = begun-next t (u ∷ us) 0 in
          let further = begun-next t (u ∷ us) 1 in
          let last : begun_before (u ∷ us) 1 ≡ 1 = refl in
          let none : begun_among (is_literal t.pp.kind) (take 0 (u ∷ us)) ≡ 0 = refl in
          absurd (omega (arith, next, here, further, begins, last, none))
      at (suc (suc m)) it is begins =
          let now = joined-begun (is_literal t.pp.kind) u us m e in
          let next = joined-begun (is_literal t.pp.kind) u us (suc m) e in
          let here = begun-next t (u ∷ us) (suc m) in
          let further = begun-next t (u ∷ us) (suc (suc m)) in
          let first = begun-next u us m in
          let index : begun_before (u ∷ us) (suc m) ≡ begun_before (t ∷ u ∷ us) (suc (suc m)) = omega (arith, now, here) in
          subst (λ k. IsSomeAnd (slice_get (joined one b ∷ rest) k) (λ (one : CToken). one.place ≡ it.pp.place)) index
          (subst (λ o. IsSomeAnd o (λ (one : CToken). one.place ≡ it.pp.place)) (get-later b (joined one b) rest (begun_before (u ∷ us) (suc m)) (omega (arith, first)))
          (stands.places (suc m) it is (omega (arith, now, next, here, further, begins))))

onto-stands : (t : Token) (ts : List Token) (one : CToken) (made : List CToken) → one.place ≡ t.pp.place → is_literal_class one.class ≡ is_literal t.pp.kind → Stand ts made → Stand (t ∷ ts) (onto one made)
unfolding onto
onto-stands t [] one [] place test stands = one-stands t one place test
onto-stands t [] one (b ∷ rest) place test stands = absurd (none-made b rest stands.begins)
  where
    none-made : (b : CToken) (rest : List CToken) → b ∷ rest ≡ [] → ⊥
    none-made b rest e = cc
onto-stands t (u ∷ us) one [] place test stands = absurd stands.begins
onto-stands t (u ∷ us) one (b ∷ rest) place test stands = by (is_literal_class one.class && is_literal_class b.class) same
  where
    same : is_literal_class one.class && is_literal_class b.class ≡ is_literal t.pp.kind && is_literal u.pp.kind
    same = ap (λ x. x && is_literal_class b.class) test ∙ ap (λ x. is_literal t.pp.kind && x) stands.begins.1

    by : (x : Bool) → x ≡ (is_literal t.pp.kind && is_literal u.pp.kind) → Stand (t ∷ u ∷ us) (cond x (joined one b ∷ rest) (one ∷ b ∷ rest))
    by true e = joined-stands t u us one b rest place test stands (sym e)
    by false e = apart-stands t u us one b rest place test stands (sym e)

all-stand : (tokens : List Token) (made : List CToken) → Become tokens made → Stand tokens (joins made)
unfolding joins
all-stand [] [] become = none-stand
all-stand [] (one ∷ made) become = absurd become
all-stand (token ∷ tokens) [] become = absurd become
all-stand (token ∷ tokens) (one ∷ made) become = onto-stands token tokens one (joins made) become.0.0 become.0.1 (all-stand tokens made become.1)

-- ---- the tokens of phase 7

ok-is : (one other : List CToken) → ◌≡◌ {A = Result (List CToken) Refusal} (Ok one) (Ok other) → one ≡ other
ok-is one other e = cc

tokens-stand : (tokens : List Token) (made : List CToken) → ctokens_of tokens ≡ Ok made → Stand tokens made
unfolding ctokens_of
tokens-stand tokens made is = by (each tokens) (each-become tokens) is
  where
    by : (r : Result (List CToken) Refusal) → AllBecome tokens r → joined_unless_refused r ≡ Ok made → Stand tokens made
    by (Ok all) become e = subst (Stand tokens) (ok-is (joins all) made e) (all-stand tokens all become)
    by (Err refusal) become e = absurd (not-ok refusal e)
      where
        not-ok : (refusal : Refusal) → ◌≡◌ {A = Result (List CToken) Refusal} (Err refusal) (Ok made) → ⊥
        not-ok refusal e = cc

pub made-count : (tokens : List Token) (made : List CToken) → ctokens_of tokens ≡ Ok made → length made ≡ begun_before tokens (length tokens)
made-count tokens made is = (tokens-stand tokens made is).count ∙ sym (ap (begun_among false) (take_all (length tokens) tokens (omega arith)))

pub made-places : (tokens : List Token) (made : List CToken) (n : ℕ) (token : Token) → ctokens_of tokens ≡ Ok made → slice_get tokens n ≡ Some token → begun_before tokens (suc n) ≡ begun_before tokens n + 1
    → IsSomeAnd (slice_get made (begun_before tokens n)) (λ (one : CToken). one.place ≡ token.pp.place)
made-places tokens made n token is at begins = (tokens-stand tokens made is).places n token at begins
