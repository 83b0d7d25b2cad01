-- The tokens of phase 7 that came a way, and the span of consecutive tokens.
--     tokens_under prefix tokens      the positions of the tokens whose trails begin so
--     span_of where_else positions      their span, or an empty one
--     begun_before tokens n      how many tokens of phase 7 begin among the first n of phase 4
--     part_among tokens n      the token of phase 7 that the n-th token of phase 4 is part of
use Rattle.std.specs.Prelude.{ℕ, suc, ◌+◌, ◌-◌, Bool, true, false, ◌&&◌, ◌==◌, List, [], ◌∷◌, length, take, if◌then◌else◌}
use Rattle.dm_token.specs.declared.place.Span.{Span}
use Rattle.dm_token.specs.declared.expansion.Mark.{Mark}
use Rattle.dm_token.specs.declared.token.PpKind.{PpKind}
use Rattle.dm_token.specs.declared.token.PpKind.TheVariants.{Identifier, Number, Character, Literal, Punctuator, Header, Stray}
use Rattle.dm_token.specs.declared.token.Token.{Token}
use Rattle.dm_token.specs.declared.token.CToken.{CToken}
use Rattle.dm_runs.specs.Beginnings.{begins}

-- the positions, from n on, of the items that pass
abbrev pub positions : {A : Type 0} → (A → Bool) → ℕ → List A → List ℕ
positions test n [] = []
positions test n (x ∷ xs) = if test x then n ∷ positions test (suc n) xs else positions test (suc n) xs

abbrev pub tokens_under : List Mark → List CToken → List ℕ
tokens_under prefix tokens = positions (λ (token : CToken). begins prefix token.trail) 0 tokens

-- numbers that follow one another behind n
abbrev pub follow_on : ℕ → List ℕ → Bool
follow_on n [] = true
follow_on n (m ∷ ms) = (m == suc n) && follow_on m ms

abbrev pub empty_at : ℕ → Span
empty_at n = record { first = n; after = n }

-- Tokens that aren't consecutive count as empty, at the first of them.
abbrev pub span_of : ℕ → List ℕ → Span
span_of where_else [] = empty_at where_else
span_of where_else (n ∷ ns) = if follow_on n ns then record { first = n; after = suc n + length ns } else empty_at n

abbrev pub is_literal : PpKind → Bool
is_literal Identifier = false
is_literal Number = false
is_literal Character = false
is_literal Literal = true
is_literal (Punctuator row) = false
is_literal Header = false
is_literal Stray = false

-- Adjacent string literals become one token (5.1.1.2p1, phase 6): so many begin among some tokens, behind a literal or not.
abbrev pub begun_among : Bool → List Token → ℕ
begun_among behind [] = 0
begun_among behind (token ∷ tokens) =
    (if behind && is_literal token.pp.kind then 0 else 1) + begun_among (is_literal token.pp.kind) tokens

abbrev pub begun_before : List Token → ℕ → ℕ
begun_before tokens n = begun_among false (take n tokens)

-- the last that begins up to it
abbrev pub part_among : List Token → ℕ → ℕ
part_among tokens n = begun_before tokens (suc n) - 1
