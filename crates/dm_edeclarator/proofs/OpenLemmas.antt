-- What is known where a scope or a list of trees is opened and closed.
use Rattle.std.specs.Prelude.{◌≡◌, ℕ, ◌<◌, List, [], ◌∷◌, ◌++◌, length, map, reverse, drop}
use Rattle.std.specs.FinMap as finite
use Rattle.std.proofs.Common.{ap, ◌∙◌, arith}
use Rattle.std.proofs.lemmas.List.{map-append}
use Rattle.dm_type.specs.declared.shape.Shape.{Shape}
use Rattle.dm_type.specs.declared.shape.Struct.{Struct as StructEntry}
use Rattle.dm_scope.specs.Scopes.{Scopes}
use Rattle.dm_tree.specs.declared.tree.Core.{Core}
use Rattle.dm_tree.specs.declared.unit.Declared.{Declared}
use Rattle.dm_tree.specs.Views.{entries_of}
use Rattle.dm_typing.specs.declared.known.Known.{Known as Held}
use Rattle.dm_typing.specs.Known.{Known}
use Rattle.dm_edeclarator.specs.Steps.{SameBesideScopes, SameBesideConstants}
use Rattle.dm_typing.specs.Typing.{entered, with_constant}
use Rattle.dm_typing.specs.Views.{view_over, known_over}

abbrev known_from : List Shape → List StructEntry → Scopes → List Declared → List ℕ → List Core → Known
known_from later structs scopes declared begun constants = record {
  types = record { shapes = later; structs = structs };
  scopes = scopes;
  declared = entries_of (record { shapes = later; structs = structs }) declared;
  begun = reverse begun;
  constants = map (view_over later) constants;
}

-- ---- scopes

module _ (later : List Shape) (old new : Held) (same : SameBesideScopes old new) where
  pub scopes-over : known_over later new ≡ record (known_over later old) { scopes = new.scopes }
  scopes-over =
      ap (λ types. known_from later types.structs new.scopes new.declared new.begun.items new.constants) same.types
      ∙ ap (λ x. known_from later old.types.structs new.scopes x new.begun.items new.constants) same.declared
      ∙ ap (λ x. known_from later old.types.structs new.scopes old.declared x new.constants) same.begun
      ∙ ap (λ x. known_from later old.types.structs new.scopes old.declared old.begun.items x) same.constants

  pub enters : new.scopes ≡ finite.empty ∷ old.scopes → known_over later new ≡ entered (known_over later old)
  enters e = scopes-over ∙ ap (λ x. record (known_over later old) { scopes = x }) e

-- a scope is left where another is open
pub outside-open : (scopes others : Scopes) → drop 1 scopes ≡ others → 0 < length others → 1 < length scopes
outside-open [] others e some = let none : [] ≡ others = e in absurd (omega (arith, some, ap length none))
outside-open (scope ∷ scopes) others e some = let same : length scopes ≡ length others = ap length e in omega (arith, some, same)

-- ---- trees

module _ (later : List Shape) (old new : Held) (same : SameBesideConstants old new) where
  pub constants-over : known_over later new ≡ record (known_over later old) { constants = map (view_over later) new.constants }
  constants-over =
      ap (λ types. known_from later types.structs new.scopes new.declared new.begun.items new.constants) same.types
      ∙ ap (λ x. known_from later old.types.structs x new.declared new.begun.items new.constants) same.scopes
      ∙ ap (λ x. known_from later old.types.structs old.scopes x new.begun.items new.constants) same.declared
      ∙ ap (λ x. known_from later old.types.structs old.scopes old.declared x new.constants) same.begun

-- one tree more
pub adds-tree : (later : List Shape) (old new : Held) (tree : Core) → SameBesideConstants old new → new.constants ≡ old.constants ++ tree ∷ [] → known_over later new ≡ with_constant (known_over later old) (view_over later tree)
adds-tree later old new tree same e =
    constants-over later old new same
    ∙ ap (λ trees. record (known_over later old) { constants = trees }) (ap (map (view_over later)) e ∙ map-append (view_over later) old.constants (tree ∷ []))
