-- Parentheses and commas in a list of tokens (6.10.3p10, p11).
use Rattle.std.specs.Prelude.{ℕ, suc, Bool, true, false, ◌+◌, ◌-◌, ◌==◌, ◌&&◌, List, [], ◌∷◌, Option, None, Some, option_map, if◌then◌else◌}
use Rattle.dm_parentheses.specs.declared.sign.Sign.{Sign}
use Rattle.dm_parentheses.specs.declared.sign.Sign.TheVariants.{Opening, Closing, Comma, Other}

-- whether a token closes what a `(` opened
unfoldable pub closes : Sign → Bool
closes Opening = false
closes Closing = true
closes Comma = false
closes Other = false

-- whether a token ends an argument, where no parentheses enclose it
unfoldable pub ends : Sign → Bool
ends Opening = false
ends Closing = true
ends Comma = true
ends Other = false

-- the depth behind a token, among parentheses
unfoldable pub depth_behind : ℕ → Sign → ℕ
depth_behind depth Opening = suc depth
depth_behind depth Closing = depth - 1
depth_behind depth Comma = depth
depth_behind depth Other = depth

-- how many tokens stand before the `)` that closes a `(`, behind that `(` and so many more that are still open
unfoldable pub before_closing : ℕ → List Sign → Option ℕ
before_closing depth [] = None
before_closing depth (sign ∷ others) =
    if closes sign && (depth == 0) then Some 0 else option_map (λ count. suc count) (before_closing (depth_behind depth sign) others)

-- how many stand before the first comma or `)` that none of these enclose
unfoldable pub before_end : ℕ → List Sign → Option ℕ
before_end depth [] = None
before_end depth (sign ∷ others) =
    if ends sign && (depth == 0) then Some 0 else option_map (λ count. suc count) (before_end (depth_behind depth sign) others)

-- the same as an index of a list, counted from another index on
abbrev pub index_from : ℕ → Option ℕ → Option ℕ
index_from from found = option_map (λ count. from + count) found
