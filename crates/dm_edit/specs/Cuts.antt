-- How the bytes of a file are cut round a definition.
use Rattle.std.specs.Prelude.{◌≡◌, ℕ, ◌-◌, Bool, ◌||◌, ◌==◌, IsTrue, IsFalse, List, [], ◌∷◌, ◌++◌, length, Option, Some, option_map, slice_get}
use Rattle.std.specs.List.{list_all}
use Rattle.dm_token.specs.declared.token.PpToken.{PpToken}
use Rattle.dm_token.specs.declared.expansion.Definition.{Definition}

abbrev pub space : ℕ
space = 32

abbrev pub tab : ℕ
tab = 9

-- a space or a tab
abbrev pub is_blank : ℕ → Bool
is_blank byte = byte == space || byte == tab

-- there is a first byte, and it is neither
abbrev pub BeginsVisibly : List ℕ → Type 0
BeginsVisibly [] = ⊥
BeginsVisibly (byte ∷ bytes) = IsFalse (is_blank byte)

-- the last of some tokens, if there is one
abbrev pub last_token : List PpToken → Option PpToken
last_token tokens = slice_get tokens (length tokens - 1)

-- the offset behind a definition's last token, if its body isn't empty
abbrev pub body_end : Definition → Option ℕ
body_end definition = option_map (λ (token : PpToken). token.end) (last_token definition.body)

-- bytes in five parts
pub record Cut : Type 0 where
  pub front : List ℕ
  pub directive : List ℕ
  pub blanks : List ℕ
  pub body : List ℕ
  pub rest : List ℕ

-- the parts before the body, those through it, and all
abbrev pub before_body : Cut → List ℕ
before_body cut = cut.front ++ (cut.directive ++ cut.blanks)

abbrev pub through_body : Cut → List ℕ
through_body cut = cut.front ++ (cut.directive ++ (cut.blanks ++ cut.body))

abbrev pub joined : Cut → List ℕ
joined cut = cut.front ++ (cut.directive ++ (cut.blanks ++ (cut.body ++ cut.rest)))

-- Bytes are cut round a definition: its directive begins with the `#` and ends with the name, or with the `)` of the
-- parameters; then come all spaces and tabs that stand there, and the body, which ends with the last token.
pub record IsCut (bytes : List ℕ) (definition : Definition) (cut : Cut) : Type 0 where
  pub whole : bytes ≡ joined cut
  pub hash : length cut.front ≡ definition.hash
  pub head_end : length (cut.front ++ cut.directive) ≡ definition.head_end
  pub all_blank : IsTrue (list_all is_blank cut.blanks)
  pub begins : BeginsVisibly cut.body
  pub ends : body_end definition ≡ Some (length (through_body cut))

-- the definition lies in these bytes, and has a body
abbrev pub LiesIn : List ℕ → Definition → Type 0
LiesIn bytes definition = (cut : Cut) × IsCut bytes definition cut
