-- An entry that has another type.
use Rattle.std.specs.Prelude.{◌≡◌, ℕ, zero, suc, List, [], ◌∷◌, ◌++◌, length, map, take, drop, reverse, Option, Some, None, option_map, slice_get, refl}
use Rattle.std.proofs.Common.{sym, ap, ◌∙◌, subst, arith}
use Rattle.dm_type.specs.declared.shape.Shape.{Shape}
use Rattle.dm_type.specs.declared.shape.Struct.{Struct as StructEntry}
use Rattle.dm_type.specs.TableLaws.{injected}
use Rattle.dm_type.specs.Tables.{Table}
use Rattle.dm_scope.specs.Scopes.{Scopes}
use Rattle.dm_tree.specs.declared.tree.Core.{Core}
use Rattle.dm_tree.specs.declared.unit.Declared.{Declared}
use Rattle.dm_tree.specs.Units.{Declaration}
use Rattle.dm_typing.specs.declared.known.Known.{Known as Held}
use Rattle.dm_typing.specs.Known.{Known}
use Rattle.dm_typing.specs.Views.{Begins, type_over, view_over, known_over}
use Rattle.dm_typing.proofs.LaterLemmas.{begins-itself}
use Rattle.dm_edecl.specs.Linkages.{with_kind, known_kind}
use Rattle.dm_estanding.specs.declared.standing.Standing.{Standing as HeldStanding}
use Rattle.dm_estanding.specs.Summaries.{entry_over}
use Rattle.dm_estanding.specs.Undoing.{KeepsTypes, set_kind, IsWithin}
use Rattle.dm_estanding.proofs.UndoLemmas.{take-all}

pub kinds-put : (later : List Shape) (number kind : ℕ) (entries : List Declared)
    → map (entry_over later) (set_kind number kind entries) ≡ with_kind number (type_over later kind) (map (entry_over later) entries)
kinds-put later number kind [] = refl
kinds-put later zero kind (first ∷ entries) = refl
kinds-put later (suc number) kind (first ∷ entries) = ap (λ es. entry_over later first ∷ es) (kinds-put later number kind entries)

set-none : (number kind : ℕ) (entries : List Declared) → slice_get entries number ≡ None → set_kind number kind entries ≡ entries
set-none number kind [] h = refl
set-none zero kind (first ∷ entries) h = absurd (cc)
set-none (suc number) kind (first ∷ entries) h = ap (λ es. first ∷ es) (set-none number kind entries h)

set-back : (number before kind : ℕ) (entries : List Declared) → option_map (λ (entry : Declared). entry.kind) (slice_get entries number) ≡ Some before
    → set_kind number before (set_kind number kind entries) ≡ entries
set-back number before kind [] h = refl
set-back zero before kind (first ∷ entries) h = ap (λ k. record first { kind = k } ∷ entries) (sym (injected first.kind before h))
set-back (suc number) before kind (first ∷ entries) h = ap (λ es. first ∷ es) (set-back number before kind entries h)

pub none-of : {A B : Type 0} (f : A → B) (found : Option A) → None ≡ option_map f found → found ≡ None
none-of f None h = refl
none-of f (Some it) h = absurd (cc)

-- ---- what is known

abbrev put : List Shape → List StructEntry → Scopes → List Declaration → List ℕ → List Core → Known
put later structs scopes declared begun constants = record {
  types = record { shapes = later; structs = structs };
  scopes = scopes;
  declared = declared;
  begun = reverse begun;
  constants = map (view_over later) constants;
}

pub known-retyped : (later : List Shape) (old new : Held) (number kind : ℕ) → new.declared ≡ set_kind number kind old.declared → new.scopes ≡ old.scopes → KeepsTypes old new
    → known_over later new ≡ known_kind number (type_over later kind) (known_over later old)
known-retyped later old new number kind d s same =
    ap (λ (x : Table). put later x.structs new.scopes (map (entry_over later) new.declared) new.begun.items new.constants) same.types
    ∙ ap (λ x. put later old.types.structs x (map (entry_over later) new.declared) new.begun.items new.constants) s
    ∙ ap (λ x. put later old.types.structs old.scopes (map (entry_over later) x) new.begun.items new.constants) d
    ∙ ap (λ x. put later old.types.structs old.scopes x new.begun.items new.constants) (kinds-put later number kind old.declared)
    ∙ ap (λ x. put later old.types.structs old.scopes (with_kind number (type_over later kind) (map (entry_over later) old.declared)) x new.constants) same.begun
    ∙ ap (λ x. put later old.types.structs old.scopes (with_kind number (type_over later kind) (map (entry_over later) old.declared)) old.begun.items x) same.constants

pub known-beyond : (later : List Shape) (old : Held) (number kind : ℕ) → slice_get old.declared number ≡ None → known_over later old ≡ known_kind number (type_over later kind) (known_over later old)
known-beyond later old number kind none =
    known-retyped later old old number kind (sym (set-none number kind old.declared none)) refl (record { types = refl; begun = refl; constants = refl })

-- ---- what can be undone

pub same-begins : (old new : Held) → KeepsTypes old new → Begins old.types.shapes new.types.shapes
same-begins old new same = subst (λ (it : Table). Begins old.types.shapes it.shapes) (sym same.types) (begins-itself old.types.shapes)

pub within-retyped : (old new : HeldStanding) (number before kind : ℕ) → option_map (λ (entry : Declared). entry.kind) (slice_get old.known.declared number) ≡ Some before
    → new.retyped.items ≡ old.retyped.items ++ record { number = number; kind = before } ∷ [] → new.known.declared ≡ set_kind number kind old.known.declared → new.known.scopes ≡ old.known.scopes
    → KeepsTypes old.known new.known → IsWithin old new
within-retyped old new number before kind was r d s same = record {
  shapes = same-begins old.known new.known same;
  changes = record { number = number; kind = before } ∷ [];
  retyped = r;
  entries = λ later on. ap (map (entry_over later))
      (ap (λ entries. take (length old.known.declared) (set_kind number before entries)) d
      ∙ ap (take (length old.known.declared)) (set-back number before kind old.known.declared was)
      ∙ take-all (length old.known.declared) old.known.declared (omega arith));
  scopes = ap (drop 1) s;
  depth = ap length s;
}
