-- What an edit makes of the bytes of a file.
use Rattle.std.specs.Prelude.{◌≡◌, List, ℕ, ◌++◌, slice_range}
use Rattle.dm_token.specs.Places.{newlines}
use Rattle.dm_edit.specs.declared.change.Change.{Change}
use Rattle.dm_edit.specs.Cuts.{Cut, IsCut}

-- the head stands in place of the directive and the blanks, and the tail directly behind the body
abbrev pub with_change : Cut → Change → List ℕ
with_change cut change = cut.front ++ (change.head ++ (cut.body ++ (change.tail ++ cut.rest)))

-- what stands before the body then
abbrev pub before_changed_body : Cut → Change → List ℕ
before_changed_body cut change = cut.front ++ change.head

-- bytes with the change of a definition
abbrev pub IsEdited : List ℕ → Change → List ℕ → Type 0
IsEdited bytes change edited = (cut : Cut) × IsCut bytes change.definition cut × (edited ≡ with_change cut change)

-- no newline comes or goes: there is none in the head, in the tail, and from the `#` to the end of the head
pub record KeepsLines (bytes : List ℕ) (change : Change) : Type 0 where
  pub head : newlines change.head ≡ 0
  pub tail : newlines change.tail ≡ 0
  pub directive : newlines (slice_range bytes change.definition.hash change.definition.head_end) ≡ 0
