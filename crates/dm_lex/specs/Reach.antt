-- How far a class reaches into a text: the length of the longest front of the text that passes a test.
use Rattle.std.specs.Prelude.{◌≡◌, ℕ, zero, suc, Bool, true, false, ◌+◌, ◌<◌, ◌≤◌, ◌&&◌, ◌||◌, not, ◌==◌, List, [], ◌∷◌, length, take, drop, Option, Some, is_some, slice_index, if◌then◌else◌}
use Rattle.dm_token.specs.declared.token.PpKind.{PpKind}
use Rattle.dm_token.specs.Places.{newline}
use Rattle.dm_lex.specs.declared.scan.Found.{Found}
use Rattle.dm_lex.specs.Classes.{is_word, is_exponent, is_sign, full_stop, backslash, asterisk, slash}
use Rattle.dm_lex.specs.Cuts.{opens_block, opens_line, is_comment}
use Rattle.dm_spell.specs.Rows.{row_at, StandsAt}
use Rattle.dm_spell.specs.Tables.{punctuator_rows}

-- the longest front of the text that passes is this long; where none passes it is 0
pub record IsReach (test : List ℕ → Bool) (text : List ℕ) (reach : ℕ) : Type 0 where
  pub inside : reach ≤ length text
  pub passed : 0 < reach → test (take reach text) ≡ true
  pub longest : (n : ℕ) → n ≤ length text → test (take n text) ≡ true → n ≤ reach

-- the same where some front passes, be it the empty one
pub record IsLongest (test : List ℕ → Bool) (text : List ℕ) (reach : ℕ) : Type 0 where
  pub inside : reach ≤ length text
  pub passed : test (take reach text) ≡ true
  pub longest : (n : ℕ) → n ≤ length text → test (take n text) ≡ true → n ≤ reach

-- one front at most passes, of this length above 0; where none passes it is 0
pub record IsExact (test : List ℕ → Bool) (text : List ℕ) (reach : ℕ) : Type 0 where
  pub inside : reach ≤ length text
  pub passed : 0 < reach → test (take reach text) ≡ true
  pub only : (n : ℕ) → n ≤ length text → test (take n text) ≡ true → (n ≡ reach) × (0 < n)

-- so many more, unless there is none
unfoldable pub beyond : ℕ → ℕ → ℕ
beyond more zero = 0
beyond more (suc reach) = more + suc reach

-- how far bytes reach that end at a byte: not at all if they stop, by it if they are done, else further
unfoldable pub reached : Bool → Bool → ℕ → ℕ
reached stops done further = if stops then 0 else if done then 1 else beyond 1 further

-- how far a literal reaches behind its opening quote
unfoldable pub closing : ℕ → Bool → List ℕ → ℕ
closing quote behind_backslash [] = 0
closing quote behind_backslash (byte ∷ others) =
    reached (byte == newline) (not behind_backslash && (byte == quote)) (closing quote (not behind_backslash && (byte == backslash)) others)

-- how far a header name reaches behind its opening byte
unfoldable pub closing_name : ℕ → List ℕ → ℕ
closing_name close [] = 0
closing_name close (byte ∷ others) = reached (byte == newline) (byte == close) (closing_name close others)

-- how far a comment reaches behind `/*`
unfoldable pub closing_comment : Bool → List ℕ → ℕ
closing_comment behind_asterisk [] = 0
closing_comment behind_asterisk (byte ∷ others) =
    reached false (behind_asterisk && (byte == slash)) (closing_comment (byte == asterisk) others)

-- how many bytes at the front pass a test
unfoldable pub run : (ℕ → Bool) → List ℕ → ℕ
run test [] = 0
run test (byte ∷ others) = if test byte then suc (run test others) else 0

-- how many bytes at the front continue a number
unfoldable pub number_run : Bool → List ℕ → ℕ
number_run behind_exponent [] = 0
number_run behind_exponent (byte ∷ others) =
    if is_word byte || (byte == full_stop) || (behind_exponent && is_sign byte) then suc (number_run (is_exponent byte) others) else 0

-- Each of these quotes from one place up to another opens a literal that doesn't close.
abbrev pub StaysOpen : ℕ → List ℕ → ℕ → ℕ → Type 0
StaysOpen quote text from until = (k : ℕ) → from ≤ k → k < until → slice_index text k ≡ quote → closing quote false (drop (k + 1) text) ≡ 0

-- the longest front of the text that has a kind, with its kind
pub record IsBest (kinds : List ℕ → Option PpKind) (text : List ℕ) (found : Found) : Type 0 where
  pub inside : found.length ≤ length text
  pub above : 0 < found.length
  pub is : kinds (take found.length text) ≡ Some found.kind
  pub longest : (n : ℕ) → n ≤ length text → is_some (kinds (take n text)) ≡ true → n ≤ found.length

-- The punctuator of this row is the longest that stands at the front of the text, and is so long.
pub record IsLongestRow (text : List ℕ) (row far : ℕ) : Type 0 where
  pub numbered : row < length punctuator_rows
  pub inside : far ≤ length text
  pub above : 0 < far
  pub is : row_at punctuator_rows row ≡ take far text
  pub longest : (k : ℕ) → k < length punctuator_rows → StandsAt (row_at punctuator_rows k) text 0 → length (row_at punctuator_rows k) ≤ far

-- No punctuator stands at the front of the text.
abbrev pub HasNoRow : List ℕ → Type 0
HasNoRow text = (k : ℕ) → k < length punctuator_rows → StandsAt (row_at punctuator_rows k) text 0 → ⊥

-- The comment at the front of a text is so long; at 0 none begins there.
pub record IsCommentLength (text : List ℕ) (far : ℕ) : Type 0 where
  pub inside : far ≤ length text
  pub no_block : far ≡ 0 → opens_block text ≡ false
  pub no_line : far ≡ 0 → opens_line text ≡ false
  pub is : 0 < far → is_comment (take far text) (drop far text) ≡ true
