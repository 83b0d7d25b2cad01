-- Identifiers that are words: a nondigit, and then nondigits and digits (6.4.2.1).
--     FitsKind kind spelling      what is an identifier among preprocessing tokens is a word
--     FitsClass class spelling      and so among tokens of phase 7
--     ArePpWords tokens, AreWords tokens      each of these tokens is so
use Rattle.std.specs.Prelude.{◌≡◌, ℕ, true, List}
use Rattle.std.specs.List.{AllByRecursion}
use Rattle.dm_token.specs.declared.token.PpKind.{PpKind}
use Rattle.dm_token.specs.declared.token.PpKind.TheVariants as kind
use Rattle.dm_token.specs.declared.token.Token.{Token}
use Rattle.dm_token.specs.declared.token.Class.{Class}
use Rattle.dm_token.specs.declared.token.Class.TheVariants as class
use Rattle.dm_token.specs.declared.token.CToken.{CToken}
use Rattle.dm_lex.specs.Classes.{is_identifier}

abbrev pub FitsKind : PpKind → List ℕ → Type 0
FitsKind kind.Identifier spelling = is_identifier spelling ≡ true
FitsKind other spelling = Unit {0}

abbrev pub FitsClass : Class → List ℕ → Type 0
FitsClass class.Identifier spelling = is_identifier spelling ≡ true
FitsClass other spelling = Unit {0}

abbrev pub ArePpWords : List Token → Type 0
ArePpWords tokens = AllByRecursion (λ (one : Token). FitsKind one.pp.kind one.pp.spelling) tokens

abbrev pub AreWords : List CToken → Type 0
AreWords tokens = AllByRecursion (λ (one : CToken). FitsClass one.class one.spelling) tokens
