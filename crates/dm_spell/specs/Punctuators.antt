-- The rows of the punctuators by name (6.4.6).
use Rattle.std.specs.Prelude.{◌≡◌, ℕ, Some, codes, slice_get}
use Rattle.dm_spell.specs.Tables.{punctuator_rows}

-- `[`
abbrev pub left_bracket : ℕ
left_bracket = 0

-- `]`
abbrev pub right_bracket : ℕ
right_bracket = 1

-- `(`
abbrev pub left_parenthesis : ℕ
left_parenthesis = 2

-- `)`
abbrev pub right_parenthesis : ℕ
right_parenthesis = 3

-- `{`
abbrev pub left_brace : ℕ
left_brace = 4

-- `}`
abbrev pub right_brace : ℕ
right_brace = 5

-- `.`
abbrev pub dot : ℕ
dot = 6

-- `->`
abbrev pub arrow : ℕ
arrow = 7

-- `++`
abbrev pub increment : ℕ
increment = 8

-- `--`
abbrev pub decrement : ℕ
decrement = 9

-- `&`
abbrev pub ampersand : ℕ
ampersand = 10

-- `*`
abbrev pub star : ℕ
star = 11

-- `+`
abbrev pub plus : ℕ
plus = 12

-- `-`
abbrev pub minus : ℕ
minus = 13

-- `~`
abbrev pub tilde : ℕ
tilde = 14

-- `!`
abbrev pub exclamation : ℕ
exclamation = 15

-- `/`
abbrev pub slash : ℕ
slash = 16

-- `%`
abbrev pub percent : ℕ
percent = 17

-- `<<`
abbrev pub left_shift : ℕ
left_shift = 18

-- `>>`
abbrev pub right_shift : ℕ
right_shift = 19

-- `<`
abbrev pub less : ℕ
less = 20

-- `>`
abbrev pub greater : ℕ
greater = 21

-- `<=`
abbrev pub less_equal : ℕ
less_equal = 22

-- `>=`
abbrev pub greater_equal : ℕ
greater_equal = 23

-- `==`
abbrev pub equal_equal : ℕ
equal_equal = 24

-- `!=`
abbrev pub not_equal : ℕ
not_equal = 25

-- `^`
abbrev pub caret : ℕ
caret = 26

-- `|`
abbrev pub bar : ℕ
bar = 27

-- `&&`
abbrev pub and_and : ℕ
and_and = 28

-- `||`
abbrev pub or_or : ℕ
or_or = 29

-- `?`
abbrev pub question : ℕ
question = 30

-- `:`
abbrev pub colon : ℕ
colon = 31

-- `;`
abbrev pub semicolon : ℕ
semicolon = 32

-- `...`
abbrev pub ellipsis : ℕ
ellipsis = 33

-- `=`
abbrev pub equals : ℕ
equals = 34

-- `*=`
abbrev pub star_equals : ℕ
star_equals = 35

-- `/=`
abbrev pub slash_equals : ℕ
slash_equals = 36

-- `%=`
abbrev pub percent_equals : ℕ
percent_equals = 37

-- `+=`
abbrev pub plus_equals : ℕ
plus_equals = 38

-- `-=`
abbrev pub minus_equals : ℕ
minus_equals = 39

-- `<<=`
abbrev pub left_shift_equals : ℕ
left_shift_equals = 40

-- `>>=`
abbrev pub right_shift_equals : ℕ
right_shift_equals = 41

-- `&=`
abbrev pub ampersand_equals : ℕ
ampersand_equals = 42

-- `^=`
abbrev pub caret_equals : ℕ
caret_equals = 43

-- `|=`
abbrev pub bar_equals : ℕ
bar_equals = 44

-- `,`
abbrev pub comma : ℕ
comma = 45

-- `#`
abbrev pub hash : ℕ
hash = 46

-- `##`
abbrev pub hash_hash : ℕ
hash_hash = 47

-- `<:`
abbrev pub left_bracket_digraph : ℕ
left_bracket_digraph = 48

-- `:>`
abbrev pub right_bracket_digraph : ℕ
right_bracket_digraph = 49

-- `<%`
abbrev pub left_brace_digraph : ℕ
left_brace_digraph = 50

-- `%>`
abbrev pub right_brace_digraph : ℕ
right_brace_digraph = 51

-- `%:`
abbrev pub hash_digraph : ℕ
hash_digraph = 52

-- `%:%:`
abbrev pub hash_hash_digraph : ℕ
hash_hash_digraph = 53

-- the numbers are those of the rows so spelled
abbrev pub PunctuatorsAreSpelled : Type 0
PunctuatorsAreSpelled =
    (slice_get punctuator_rows left_bracket ≡ Some (codes "["))
    × (slice_get punctuator_rows right_bracket ≡ Some (codes "]"))
    × (slice_get punctuator_rows left_parenthesis ≡ Some (codes "("))
    × (slice_get punctuator_rows right_parenthesis ≡ Some (codes ")"))
    × (slice_get punctuator_rows left_brace ≡ Some (codes "{"))
    × (slice_get punctuator_rows right_brace ≡ Some (codes "}"))
    × (slice_get punctuator_rows dot ≡ Some (codes "."))
    × (slice_get punctuator_rows arrow ≡ Some (codes "->"))
    × (slice_get punctuator_rows increment ≡ Some (codes "++"))
    × (slice_get punctuator_rows decrement ≡ Some (codes "--"))
    × (slice_get punctuator_rows ampersand ≡ Some (codes "&"))
    × (slice_get punctuator_rows star ≡ Some (codes "*"))
    × (slice_get punctuator_rows plus ≡ Some (codes "+"))
    × (slice_get punctuator_rows minus ≡ Some (codes "-"))
    × (slice_get punctuator_rows tilde ≡ Some (codes "~"))
    × (slice_get punctuator_rows exclamation ≡ Some (codes "!"))
    × (slice_get punctuator_rows slash ≡ Some (codes "/"))
    × (slice_get punctuator_rows percent ≡ Some (codes "%"))
    × (slice_get punctuator_rows left_shift ≡ Some (codes "<<"))
    × (slice_get punctuator_rows right_shift ≡ Some (codes ">>"))
    × (slice_get punctuator_rows less ≡ Some (codes "<"))
    × (slice_get punctuator_rows greater ≡ Some (codes ">"))
    × (slice_get punctuator_rows less_equal ≡ Some (codes "<="))
    × (slice_get punctuator_rows greater_equal ≡ Some (codes ">="))
    × (slice_get punctuator_rows equal_equal ≡ Some (codes "=="))
    × (slice_get punctuator_rows not_equal ≡ Some (codes "!="))
    × (slice_get punctuator_rows caret ≡ Some (codes "^"))
    × (slice_get punctuator_rows bar ≡ Some (codes "|"))
    × (slice_get punctuator_rows and_and ≡ Some (codes "&&"))
    × (slice_get punctuator_rows or_or ≡ Some (codes "||"))
    × (slice_get punctuator_rows question ≡ Some (codes "?"))
    × (slice_get punctuator_rows colon ≡ Some (codes ":"))
    × (slice_get punctuator_rows semicolon ≡ Some (codes ";"))
    × (slice_get punctuator_rows ellipsis ≡ Some (codes "..."))
    × (slice_get punctuator_rows equals ≡ Some (codes "="))
    × (slice_get punctuator_rows star_equals ≡ Some (codes "*="))
    × (slice_get punctuator_rows slash_equals ≡ Some (codes "/="))
    × (slice_get punctuator_rows percent_equals ≡ Some (codes "%="))
    × (slice_get punctuator_rows plus_equals ≡ Some (codes "+="))
    × (slice_get punctuator_rows minus_equals ≡ Some (codes "-="))
    × (slice_get punctuator_rows left_shift_equals ≡ Some (codes "<<="))
    × (slice_get punctuator_rows right_shift_equals ≡ Some (codes ">>="))
    × (slice_get punctuator_rows ampersand_equals ≡ Some (codes "&="))
    × (slice_get punctuator_rows caret_equals ≡ Some (codes "^="))
    × (slice_get punctuator_rows bar_equals ≡ Some (codes "|="))
    × (slice_get punctuator_rows comma ≡ Some (codes ","))
    × (slice_get punctuator_rows hash ≡ Some (codes "#"))
    × (slice_get punctuator_rows hash_hash ≡ Some (codes "##"))
    × (slice_get punctuator_rows left_bracket_digraph ≡ Some (codes "<:"))
    × (slice_get punctuator_rows right_bracket_digraph ≡ Some (codes ":>"))
    × (slice_get punctuator_rows left_brace_digraph ≡ Some (codes "<%"))
    × (slice_get punctuator_rows right_brace_digraph ≡ Some (codes "%>"))
    × (slice_get punctuator_rows hash_digraph ≡ Some (codes "%:"))
    × (slice_get punctuator_rows hash_hash_digraph ≡ Some (codes "%:%:"))
