-- The numbers of refusals, as they are printed.
use Rattle.std.specs.Prelude.{ℕ}

-- a character, or a quote, that is no token of C
abbrev pub byte : ℕ
byte = 1

-- an unclosed comment
abbrev pub comment : ℕ
comment = 2

-- a lone quote
abbrev pub literal : ℕ
literal = 3

-- an unknown directive, or one that lacks a token that it needs
abbrev pub directive : ℕ
directive = 4

-- a definition that 6.10.3 doesn't allow, or of a name that can't be defined
abbrev pub form : ℕ
form = 5

-- `else`, `elif` or `endif` out of place, or a file that ends inside a group
abbrev pub conditionals : ℕ
conditionals = 6

-- a header or a main file that isn't found
abbrev pub not_found : ℕ
not_found = 7

-- a file whose last newline is deleted by a backslash
abbrev pub splice : ℕ
splice = 8

-- a wrong number of arguments, or no closing `)`
abbrev pub arguments : ℕ
arguments = 9

-- a `##` that doesn't make one token
abbrev pub paste : ℕ
paste = 10

-- a `#` that isn't before a parameter
abbrev pub hash_operand : ℕ
hash_operand = 11

-- a definition that differs from the first
abbrev pub redefinition : ℕ
redefinition = 12

-- no conditional expression with a value
abbrev pub condition : ℕ
condition = 13

-- `#error`
abbrev pub error_directive : ℕ
error_directive = 14

-- a constant that has no value or no type
abbrev pub constant : ℕ
constant = 15

-- where no external declaration of the subset begins
abbrev pub syntax : ℕ
syntax = 16

-- a broken typing rule
abbrev pub typing : ℕ
typing = 17

-- what is left out of the subset of C that is read
abbrev pub out_of_subset : ℕ
out_of_subset = 18

-- a unit without `main`, where one is to run
abbrev pub no_main : ℕ
no_main = 19
